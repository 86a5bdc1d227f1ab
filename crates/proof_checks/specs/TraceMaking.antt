-- The proof of ancestors that is made of a ledger.
use Rattle.std.specs.Prelude.{◌≡◌, ◌<◌, ◌≤◌, ℕ, List, [], length, reverse, Option, Some, None, Ok}
use Rattle.std.specs.List.{filter_map}
use Rattle.std.specs.Option.{option_map}
use Rattle.lc_base.specs.KeyBytes.{IsKey}
use Rattle.lc_base.specs.declared.digest.Digest.{Digest}
use Rattle.lc_base.specs.declared.row.Row.{Row}
use Rattle.lc_base.specs.declared.row.Dep.{Dep}
use Rattle.lc_base.specs.History.{up_to, latest}
use Rattle.root_laws.specs.Naming.{header_of, body_of}
use Rattle.root_laws.specs.Root.{root_of}
use Rattle.root_laws.specs.TypedLedger.{IsTypedLedger}
use Rattle.proof_checks.specs.Making.{made_proof}
use Rattle.root_laws.specs.Ancestors.{row_in, ancestors, trace_at}
use Rattle.proof_checks.specs.declared.trace_proof.TraceItem.{TraceItem}
use Rattle.proof_checks.specs.declared.trace_proof.TraceProof.{TraceProof}
use Rattle.proof_checks.specs.TraceChecks.{start_query, trace_verdict}
use Rattle.proof_checks.specs.TraceTexts.{IsTraceProof}

-- The header and the body of a row.
abbrev pub item_of : List Row → Row → TraceItem
item_of rows row = record { header = header_of rows row; body = body_of rows row }

-- The header and the body of a version; `None` if the history has none.
abbrev pub item_in : List Row → Dep → Option TraceItem
item_in rows version = option_map (item_of rows) (row_in rows version)

-- The items of the ancestors of a row, the last one first; none if there is no row.
abbrev pub items_of : List Row → Option Row → List TraceItem
items_of rows None = []
items_of rows (Some row) = filter_map (item_in rows) (reverse (ancestors rows row))

-- The proof of all ancestors of the last version of a key up to `at`, made of a ledger at a block:
-- of the rows up to that block.
unfoldable pub made_trace : List Row → List Digest → ℕ → List ℕ → ℕ → TraceProof
made_trace rows digests block key at = record {
  start = made_proof rows digests block (start_query key at);
  items = items_of (up_to rows block) (latest (up_to rows block) key at);
}

-- Whoever has the root at a block accepts the proof that is made of the ledger there, with the
-- ancestors in the rows up to that block, if `at` isn't after the block.
abbrev pub MadeTracesAreAccepted : Type 0
MadeTracesAreAccepted =
    (rows : List Row) (digests : List Digest) (block : ℕ) (key : List ℕ) (at : ℕ)
    → IsTypedLedger rows digests → block < length digests → IsKey key → at ≤ block
    → trace_verdict (root_of rows digests block) key at (made_trace rows digests block key at)
    ≡ Ok (trace_at (up_to rows block) key at)

-- That proof can be spelled.
abbrev pub MadeTracesAreProofs : Type 0
MadeTracesAreProofs =
    (rows : List Row) (digests : List Digest) (block : ℕ) (key : List ℕ) (at : ℕ)
    → IsTypedLedger rows digests → block < length digests → IsKey key → at ≤ block
    → IsTraceProof (made_trace rows digests block key at)
