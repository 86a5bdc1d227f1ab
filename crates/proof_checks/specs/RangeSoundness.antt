-- An accepted range proof can be wrong about a history only if two different texts have one digest.
use Rattle.std.specs.Prelude.{◌≡◌, ◌⊎◌, ◌^◌, ◌<◌, ℕ, List, Ok}
use Rattle.lc_base.specs.declared.digest.Digest.{Digest}
use Rattle.lc_base.specs.declared.row.Row.{Row}
use Rattle.lc_base.specs.declared.row.Version.{Version}
use Rattle.lc_base.specs.History.{up_to}
use Rattle.proof_codec.specs.merkle_tree.Clash.{Clash}
use Rattle.root_laws.specs.Root.{root_of}
use Rattle.root_laws.specs.TypedLedger.{IsTypedHistory}
use Rattle.proof_checks.specs.LedgerTexts.{ledger_texts}
use Rattle.root_laws.specs.Ranges.{between}
use Rattle.proof_checks.specs.declared.range_proof.RangeProof.{RangeProof}
use Rattle.proof_checks.specs.RangeChecks.{range_verdict}
use Rattle.proof_checks.specs.RangeTexts.{IsRangeProof, range_texts}

-- The versions are all of the key between the blocks in the rows up to the block; or one of `texts`
-- and one of the ledger's texts differ and have one digest.
abbrev pub RangesOrClashes : List Row → List Digest → ℕ → List ℕ → ℕ → ℕ → List (List ℕ)
    → List Version → Type 0
RangesOrClashes rows digests block key from to texts versions =
    (versions ≡ between (up_to rows block) key from to)
    ⊎ Clash texts (ledger_texts rows digests block)

-- What an accepted range proof shows is right for every typed history that has the root at some
-- block, whatever digests its blocks have.
abbrev pub AcceptedRangesAreSound : Type 0
AcceptedRangesAreSound =
    (root key : List ℕ) (from to : ℕ) (range : RangeProof) (versions : List Version)
    → IsRangeProof range → range_verdict root key from to range ≡ Ok versions
    → (rows : List Row) (digests : List Digest) (block : ℕ) → IsTypedHistory rows
    → block < 2 ^ 32 → root_of rows digests block ≡ root
    → RangesOrClashes rows digests block key from to (range_texts range) versions
