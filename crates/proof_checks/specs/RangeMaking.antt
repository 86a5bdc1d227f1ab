-- The range proof that is made of a ledger.
use Rattle.std.specs.Prelude.{◌≡◌, ◌<◌, ◌≤◌, ℕ, List, ◌++◌, length, map, reverse, drop, Ok}
use Rattle.lc_base.specs.KeyBytes.{IsKey}
use Rattle.lc_base.specs.declared.digest.Digest.{Digest}
use Rattle.lc_base.specs.declared.row.Row.{Row}
use Rattle.lc_base.specs.History.{up_to}
use Rattle.root_laws.specs.prov_entry.declared.entry.Header.{Header}
use Rattle.root_laws.specs.Naming.{header_of, body_of}
use Rattle.root_laws.specs.Root.{digest_at, root_of}
use Rattle.root_laws.specs.TypedLedger.{IsTypedLedger}
use Rattle.proof_checks.specs.Making.{path_headers, made_leaf}
use Rattle.root_laws.specs.Ranges.{rows_between, between}
use Rattle.proof_checks.specs.declared.range_proof.RangeProof.{RangeProof}
use Rattle.proof_checks.specs.RangeChecks.{range_verdict}
use Rattle.proof_checks.specs.RangeTexts.{IsRangeProof}

-- The rows between the blocks, the last one first.
abbrev pub rows_back : List Row → List ℕ → ℕ → ℕ → List Row
rows_back rows key from to = reverse (rows_between rows key from to)

-- The headers on the path of the lookup of the last version up to `to`, which is the last one
-- between the blocks if there are any; and then those of the others between the blocks.
abbrev pub range_headers : List Row → List ℕ → ℕ → ℕ → List Header
range_headers rows key from to =
    path_headers rows key to ++ map (header_of rows) (drop 1 (rows_back rows key from to))

-- The range proof that is made of the rows up to a block with this digest.
abbrev pub range_of : List Row → ℕ → List ℕ → List ℕ → ℕ → ℕ → RangeProof
range_of rows block digest key from to = record {
  key = key;
  from = from;
  to = to;
  leaf_proof = made_leaf rows block digest key;
  headers = range_headers rows key from to;
  bodies = map (body_of rows) (rows_back rows key from to);
}

-- The range proof that is made of a ledger at a block: of the rows up to it.
unfoldable pub made_range : List Row → List Digest → ℕ → List ℕ → ℕ → ℕ → RangeProof
made_range rows digests block key from to =
    range_of (up_to rows block) block (digest_at digests block) key from to

-- Whoever has the root at a block accepts the range proof that is made of the ledger there, with
-- all versions of the key between the blocks in the rows up to that block.
abbrev pub MadeRangesAreAccepted : Type 0
MadeRangesAreAccepted =
    (rows : List Row) (digests : List Digest) (block : ℕ) (key : List ℕ) (from to : ℕ)
    → IsTypedLedger rows digests → block < length digests → IsKey key → from ≤ to → to ≤ block
    → range_verdict (root_of rows digests block) key from to
    (made_range rows digests block key from to)
    ≡ Ok (between (up_to rows block) key from to)

-- That range proof can be spelled.
abbrev pub MadeRangesAreProofs : Type 0
MadeRangesAreProofs =
    (rows : List Row) (digests : List Digest) (block : ℕ) (key : List ℕ) (from to : ℕ)
    → IsTypedLedger rows digests → block < length digests → IsKey key → from ≤ to → to ≤ block
    → IsRangeProof (made_range rows digests block key from to)
