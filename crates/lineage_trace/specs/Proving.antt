-- What the bytes of a proof of all ancestors show.
use Rattle.std.specs.Prelude.{◌≡◌, ℕ, List, Option, Ok}
use Rattle.std.specs.Option.{is_some}
use Rattle.lc_base.specs.History.{up_to}
use Rattle.prov_query.specs.merkle_dag.Ledger.{Ledger}
use Rattle.root_laws.specs.Root.{root_of}
use Rattle.prov_entry.specs.declared.entry.Body.{Body}
use Rattle.root_laws.specs.Ancestors.{trace_at}
use Rattle.proof_checks.specs.declared.trace_proof.TraceItem.{TraceItem}
use Rattle.proof_checks.specs.declared.trace_proof.TraceProof.{TraceProof}
use Rattle.proof_checks.specs.TraceChecks.{trace_verdict}
use Rattle.proof_checks.specs.TraceSpelling.{SpellsTrace}

-- The bytes spell a proof of all ancestors that is accepted by one who has the root at the block,
-- with the ancestors in the rows up to it.
abbrev pub ShowsTrace : Ledger → List ℕ → ℕ → ℕ → List ℕ → Type 0
ShowsTrace ledger key at root_at bytes =
    (trace : TraceProof) × SpellsTrace bytes trace
    × (trace_verdict (root_of ledger.rows ledger.digests root_at) key at trace
    ≡ Ok (trace_at (up_to ledger.rows root_at) key at))

-- The bytes spell this proof of all ancestors, but for the body of its start and for its items:
-- there may be others in their place, and there is a body exactly if the proof has one.
abbrev pub IsButForBodies : TraceProof → List ℕ → Type 0
IsButForBodies trace bytes =
    (body : Option Body) × (items : List TraceItem) × (is_some body ≡ is_some trace.start.body)
    × SpellsTrace bytes (record { start = record trace.start { body = body }; items = items })
