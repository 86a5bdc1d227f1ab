-- The bytes of a light file.
use Rattle.std.specs.Prelude.{
  ◌==◌,
  ◌*◌,
  ◌++◌,
  ℕ,
  zero,
  suc,
  Bool,
  nat_lt,
  if◌then◌else◌,
  List,
  [],
  ◌∷◌,
  length,
  take,
  drop,
  Option,
  Some,
  None,
  codes,
}
use Rattle.std.specs.List.{flat_map}
use Rattle.std.specs.Int.{w32, from_be_bytes, to_be_bytes}
use Rattle.std.specs.Cmp.Lexicographic.{pointwise}
use Rattle.light_client.specs.declared.block_root.BlockRoot.{BlockRoot}

-- ---- as it is written

-- The head: LCH1, and the number of blocks in four bytes, the most significant first.
abbrev pub head_bytes : ℕ → List ℕ
head_bytes count = codes "LCH1" ++ to_be_bytes w32 count

-- Of a block: its digest, and the root at it.
abbrev pub block_root_bytes : BlockRoot → List ℕ
block_root_bytes block_root = block_root.digest.0 ++ block_root.root.0

-- The head, and of each block from the first on its digest and the root at it.
abbrev pub light_bytes : List BlockRoot → List ℕ
light_bytes file = head_bytes (length file) ++ flat_map block_root_bytes file

-- ---- as it is read

-- What the first 64 bytes say of a block: its digest, and the root at it, 32 bytes each.
abbrev pub block_root_in : List ℕ → BlockRoot
block_root_in bytes = record {
  digest = record { 0 = take 32 bytes };
  root = record { 0 = take 32 (drop 32 bytes) };
}

-- What the first bytes say of so many blocks, 64 bytes each.
abbrev pub block_roots_in : ℕ → List ℕ → List BlockRoot
block_roots_in zero bytes = []
block_roots_in (suc count) bytes = block_root_in bytes ∷ block_roots_in count (drop 64 bytes)

-- Whether an input begins with LCH1.
abbrev pub has_magic : List ℕ → Bool
has_magic input = pointwise ◌==◌ (take 4 input) (codes "LCH1")

-- The number of blocks that the head of an input has.
abbrev pub count_in : List ℕ → ℕ
count_in input = from_be_bytes w32 (take 4 (drop 4 input))

-- So many blocks at the start of what follows the head, and what follows them; `None` if there are
-- fewer than 64 bytes for each.
abbrev pub blocks_in : ℕ → List ℕ → Option (List BlockRoot × List ℕ)
blocks_in count bytes =
    if nat_lt (length bytes) (64 * count) then None
    else Some (block_roots_in count bytes, drop (64 * count) bytes)

-- The light file at the start of an input, and what follows it; `None` if there is none.
unfoldable pub light_in : List ℕ → Option (List BlockRoot × List ℕ)
light_in input =
    if nat_lt (length input) 8 then None
    else (if has_magic input then blocks_in (count_in input) (drop 8 input) else None)
