-- A ledger: the rows of a history, and the digests of its blocks.
use Rattle.std.specs.Prelude.{◌≡◌, ℕ, ◌<◌, ◌≤◌, ◌+◌, ◌-◌, ◌*◌, List, length, slice_get, Option, Some}
use Rattle.std.specs.Prelude.{IfSome, MatchOption}
use Rattle.std.specs.List.{All}
use Rattle.lc_base.specs.declared.digest.Digest.{Digest}
use Rattle.lc_base.specs.declared.row.Row.{Row}
use Rattle.lc_base.specs.History.{IsLawful}
use Rattle.skip_links.specs.Paths.{binary_digits}
use Rattle.lineage_rewind.specs.root_laws.Root.{root_of}
use Rattle.merkle_dag.specs.declared.limits.TheConstants.{MAX_LINEAGE_BLOCKS}

-- Rows, and the digests of their blocks.
pub record Ledger : Type 0 where
  pub rows : List Row
  pub digests : List Digest

-- The rows are a lawful history of blocks that have a digest; there are at most
-- `MAX_LINEAGE_BLOCKS` of these.
pub record IsLedger (rows : List Row) (digests : List Digest) : Type 0 where
  pub lawful : IsLawful rows
  pub within : All (λ (row : Row). row.block < length digests) rows
  pub few : length digests ≤ MAX_LINEAGE_BLOCKS

-- An item for each block: the root at it, if it was made.
pub record AreRootsMade (rows : List Row) (digests : List Digest) (roots : List (Option Digest)) :
    Type 0 where
  pub many : length roots ≡ length digests
  pub each : (at : ℕ) (made : Option Digest) → slice_get roots at ≡ Some made
      → IfSome made (λ root. root.0 ≡ root_of rows digests at)

-- The number of the last block; `None` if there is no block.
abbrev pub IsHead : List Digest → Option ℕ → Type 0
IsHead digests head = MatchOption head (length digests ≡ 0) (λ last. last + 1 ≡ length digests)

-- The most versions that a look-up looks at, whatever its key and its block: twice the binary
-- digits of the number of the last block, and two.
abbrev pub most_looked_at : List Digest → ℕ
most_looked_at digests = 2 * binary_digits (length digests - 1) + 2
