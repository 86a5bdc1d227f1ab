-- Of which ledgers a light file tells.
use Rattle.std.specs.Prelude.{◌≡◌, ◌≤◌, ℕ, List, length, slice_get, Some}
use Rattle.lc_base.specs.declared.digest.Digest.{Digest}
use Rattle.lc_base.specs.declared.row.Row.{Row}
use Rattle.root_laws.specs.Root.{root_of}
use Rattle.light_client.specs.declared.block_root.BlockRoot.{BlockRoot}

-- The light file is of the first blocks of a ledger: the ledger has at least as many blocks, and
-- those of the file have the digests and the roots of the file.
pub record IsFileOf (rows : List Row) (digests : List Digest) (file : List BlockRoot) : Type 0 where
  pub few : length file ≤ length digests
  pub digests_are : (at : ℕ) (block_root : BlockRoot) → slice_get file at ≡ Some block_root
      → slice_get digests at ≡ Some block_root.digest
  pub roots_are : (at : ℕ) (block_root : BlockRoot) → slice_get file at ≡ Some block_root
      → root_of rows digests at ≡ block_root.root.0
