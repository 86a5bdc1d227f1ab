-- An accepted proof of ancestors can be wrong about a history only if two different texts have one
-- digest.
use Rattle.std.specs.Prelude.{◌≡◌, ◌⊎◌, ◌^◌, ◌<◌, ℕ, List, Ok, Option}
use Rattle.lc_base.specs.declared.digest.Digest.{Digest}
use Rattle.lc_base.specs.declared.row.Row.{Row}
use Rattle.lc_base.specs.History.{up_to}
use Rattle.proof_codec.specs.merkle_tree.Clash.{Clash}
use Rattle.root_laws.specs.Root.{root_of}
use Rattle.root_laws.specs.TypedLedger.{IsTypedHistory}
use Rattle.proof_checks.specs.LedgerTexts.{ledger_texts}
use Rattle.root_laws.specs.declared.trace.Trace.{Trace}
use Rattle.root_laws.specs.Ancestors.{trace_at}
use Rattle.proof_checks.specs.declared.trace_proof.TraceProof.{TraceProof}
use Rattle.proof_checks.specs.TraceChecks.{trace_verdict}
use Rattle.proof_checks.specs.TraceTexts.{IsTraceProof, trace_texts}

-- The version and its ancestors are those in the rows up to the block; or one of `texts` and one of
-- the ledger's texts differ and have one digest.
abbrev pub TracesOrClashes : List Row → List Digest → ℕ → List ℕ → ℕ → List (List ℕ)
    → Option Trace → Type 0
TracesOrClashes rows digests block key at texts trace =
    (trace ≡ trace_at (up_to rows block) key at) ⊎ Clash texts (ledger_texts rows digests block)

-- What an accepted proof shows is right for every typed history that has the root at some block,
-- whatever digests its blocks have.
abbrev pub AcceptedTracesAreSound : Type 0
AcceptedTracesAreSound =
    (root key : List ℕ) (at : ℕ) (proof : TraceProof) (trace : Option Trace)
    → IsTraceProof proof → trace_verdict root key at proof ≡ Ok trace
    → (rows : List Row) (digests : List Digest) (block : ℕ) → IsTypedHistory rows
    → block < 2 ^ 32 → root_of rows digests block ≡ root
    → TracesOrClashes rows digests block key at (trace_texts proof) trace
