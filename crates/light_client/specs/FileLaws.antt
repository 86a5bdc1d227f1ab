-- Laws of the format: what is written is read, what is read was so written, and what else an input
-- may be.
use Rattle.std.specs.Prelude.{
  ◌≡◌,
  ◌^◌,
  ◌<◌,
  ◌*◌,
  ◌++◌,
  ℕ,
  List,
  length,
  take,
  drop,
  Some,
  None,
  codes,
  ◌⊎◌,
}
use Rattle.std.specs.List.{All}
use Rattle.byte_fields.specs.Spelling.{IsBytes}
use Rattle.light_client.specs.declared.block_root.BlockRoot.{BlockRoot}
use Rattle.light_client.specs.Format.{light_bytes, light_in, count_in}

-- The digest of a block and the root at it have 32 bytes each.
pub record IsBlockRoot (block_root : BlockRoot) : Type 0 where
  pub digest_length : length block_root.digest.0 ≡ 32
  pub root_length : length block_root.root.0 ≡ 32

-- A file of fewer than 2^32 blocks is read from its bytes, and what follows them is left.
abbrev pub WrittenFilesAreRead : Type 0
WrittenFilesAreRead =
    (file : List BlockRoot) (more : List ℕ) → All IsBlockRoot file → length file < 2 ^ 32
    → light_in (light_bytes file ++ more) ≡ Some (file, more)

-- The bytes of a file that is read are just those that were taken, and it can be written: there are
-- fewer than 2^32 blocks, each with 32 bytes and 32.
abbrev pub ReadFilesAreWritten : Type 0
ReadFilesAreWritten =
    (input : List ℕ) (file : List BlockRoot) (rest : List ℕ) → IsBytes input
    → light_in input ≡ Some (file, rest)
    → (input ≡ light_bytes file ++ rest) × All IsBlockRoot file × (length file < 2 ^ 32)

-- No light file is at the start of an input.
abbrev pub HasNoFile : List ℕ → Type 0
HasNoFile input = (length input < 8) ⊎ (take 4 input ≡ codes "LCH1" → ⊥)
    ⊎ (length (drop 8 input) < 64 * count_in input)

-- No file is read exactly from an input that has fewer than 8 bytes, doesn't begin with LCH1, or
-- has fewer than 64 bytes after its head for each block that the head counts.
abbrev pub UnreadInputsAreShortOrDiffer : Type 0
UnreadInputsAreShortOrDiffer =
    (input : List ℕ) → (light_in input ≡ None → HasNoFile input)
    × (HasNoFile input → light_in input ≡ None)
