-- The light file of a ledger, and the pieces in which it is made.
use Rattle.std.specs.Prelude.{ℕ, List, length, map, take, drop}
use Rattle.std.specs.List.{flat_map, range_with_len}
use Rattle.lc_base.specs.declared.digest.Digest.{Digest}
use Rattle.lc_base.specs.declared.row.Row.{Row}
use Rattle.root_laws.specs.Root.{digest_at, root_of}
use Rattle.light_client.specs.declared.block_root.BlockRoot.{BlockRoot}
use Rattle.light_client.specs.Format.{block_root_bytes}
use Rattle.light_client.specs.declared.piece_limits.TheConstants.{BLOCKS_PER_PIECE}

-- The digest of a block of a ledger, and the root at it.
abbrev pub block_root_of : List Row → List Digest → ℕ → BlockRoot
block_root_of rows digests at = record {
  digest = record { 0 = digest_at digests at };
  root = record { 0 = root_of rows digests at };
}

-- Those of all blocks, in order: the light file of the ledger.
abbrev pub block_roots_of : List Row → List Digest → List BlockRoot
block_roots_of rows digests = map (block_root_of rows digests) (range_with_len 0 (length digests))

-- The bytes of up to `BLOCKS_PER_PIECE` blocks, from a block on.
abbrev pub piece_bytes : List Row → List Digest → ℕ → List ℕ
piece_bytes rows digests from =
    flat_map block_root_bytes (take BLOCKS_PER_PIECE (drop from (block_roots_of rows digests)))
