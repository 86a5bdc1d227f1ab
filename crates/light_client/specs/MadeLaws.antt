-- Laws of light files that are made.
use Rattle.std.specs.Prelude.{◌≡◌, ◌≤◌, ◌*◌, ◌++◌, ℕ, List, length, slice_get, Some, MatchOption}
use Rattle.std.specs.List.{flat_map, range_with_len}
use Rattle.lc_base.specs.declared.digest.Digest.{Digest}
use Rattle.lc_base.specs.declared.row.Row.{Row}
use Rattle.root_laws.specs.Root.{root_of}
use Rattle.light_client.specs.declared.block_root.BlockRoot.{BlockRoot}
use Rattle.light_client.specs.Format.{head_bytes, light_bytes}
use Rattle.light_client.specs.declared.piece_limits.TheConstants.{BLOCKS_PER_PIECE}
use Rattle.light_client.specs.Making.{block_roots_of, piece_bytes}

-- The light file of a ledger has of each block its digest and the root at it, and of no other
-- block.
abbrev pub BlockRootsAreOfTheirBlocks : Type 0
BlockRootsAreOfTheirBlocks =
    (rows : List Row) (digests : List Digest) (at : ℕ)
    → MatchOption (slice_get (block_roots_of rows digests) at) (length digests ≤ at)
    (λ (block_root : BlockRoot). (slice_get digests at ≡ Some block_root.digest)
    × (block_root.root.0 ≡ root_of rows digests at))

-- The bytes of the first pieces, from the block 0 on.
abbrev pub first_pieces : List Row → List Digest → ℕ → List ℕ
first_pieces rows digests count =
    flat_map (λ index. piece_bytes rows digests (BLOCKS_PER_PIECE * index)) (range_with_len 0 count)

-- The head and so many pieces as the blocks need, one after another, are the bytes of the light
-- file; further pieces would be empty.
abbrev pub PiecesMakeTheFile : Type 0
PiecesMakeTheFile =
    (rows : List Row) (digests : List Digest) (count : ℕ)
    → length digests ≤ BLOCKS_PER_PIECE * count
    → head_bytes (length digests) ++ first_pieces rows digests count
    ≡ light_bytes (block_roots_of rows digests)
