-- What the bytes of a range proof show, and which range has one.
use Rattle.std.specs.Prelude.{◌≡◌, ◌++◌, ℕ, List, Result, Ok}
use Rattle.lc_base.specs.declared.answer.Kind.TheVariants.{Hist}
use Rattle.lc_base.specs.declared.answer.Query.{Query}
use Rattle.lc_base.specs.History.{up_to}
use Rattle.prov_query.specs.merkle_dag.Ledger.{Ledger}
use Rattle.root_laws.specs.Root.{root_of}
use Rattle.prov_query.specs.merkle_dag.declared.query_error.QueryError.{QueryError}
use Rattle.prov_entry.specs.declared.entry.Body.{Body}
use Rattle.proof_codec.specs.Spelling.{leaf_proof_fields}
use Rattle.answer_proof.specs.Proving.{IsRefusedBeyond}
use Rattle.root_laws.specs.Ranges.{between}
use Rattle.proof_checks.specs.declared.range_proof.RangeProof.{RangeProof}
use Rattle.proof_checks.specs.RangeChecks.{range_verdict}
use Rattle.proof_checks.specs.RangeSpelling.{front_fields, headers_fields, SpellsRange}

-- The lookup of the last version up to the last block. A range goes beyond where this lookup does.
abbrev pub end_query : List ℕ → ℕ → Query
end_query key to = record { kind = Hist; key = key; at = to }

-- A range is refused, with the number of the last block, exactly if the root's block is after that
-- one, or the last block of the range after the root's.
abbrev pub IsRangeRefused : Ledger → List ℕ → ℕ → ℕ → Result (List ℕ) QueryError → Type 0
IsRangeRefused ledger key to root_at result =
    IsRefusedBeyond ledger (end_query key to) root_at result

-- The bytes spell a range proof that is accepted by one who has the root at the block, with all
-- versions of the key between the blocks in the rows up to it.
abbrev pub ShowsRange : Ledger → List ℕ → ℕ → ℕ → ℕ → List ℕ → Type 0
ShowsRange ledger key from to root_at bytes =
    (range : RangeProof) × SpellsRange bytes range
    × (range_verdict (root_of ledger.rows ledger.digests root_at) key from to range
    ≡ Ok (between (up_to ledger.rows root_at) key from to))

-- The bytes spell this range proof, but for its bodies: there may be others in their place, as many
-- as it has.
abbrev pub IsButForBodies : RangeProof → List ℕ → Type 0
IsButForBodies range bytes =
    (bodies : List Body) × SpellsRange bytes (record range { bodies = bodies })

-- All fields of a range proof before its bodies.
abbrev pub fields_before_bodies : RangeProof → List (List ℕ)
fields_before_bodies range =
    front_fields range.key range.from range.to ++ leaf_proof_fields range.leaf_proof
    ++ headers_fields range.headers
