-- Laws of the digests by which the texts of a history name its headers.
use Rattle.std.specs.Prelude.{◌≡◌, ◌<◌, ℕ, List, Some}
use Rattle.std.specs.List.{All, Contains}
use Rattle.lc_base.specs.declared.digest.Digest.{Digest}
use Rattle.lc_base.specs.declared.row.Row.{Row}
use Rattle.lc_base.specs.History.{IsLawful, newest}
use Rattle.prov_entry.specs.declared.entry.Link.{Link}
use Rattle.prov_entry.specs.declared.entry.BodyDep.{BodyDep}
use Rattle.prov_entry.specs.Spelling.{header_text}
use Rattle.prov_entry.specs.merkle_tree.Levels.{digest_of}
use Rattle.root_laws.specs.Naming.{digest_among, named_before, header_of, body_of}
use Rattle.root_laws.specs.Root.{leaf_of}

-- The digest of the header of a row of a history.
abbrev pub digest_of_row : List Row → Row → Digest
digest_of_row rows row = digest_of (header_text (header_of rows row))

-- A row of the history is the version of the key in this block, and this is the digest of its header.
pub record NamesHeader (rows : List Row) (key : List ℕ) (block : ℕ) (digest : Digest) : Type 0 where
  pub row : Row
  pub there : Contains rows row
  pub key_is : row.key ≡ key
  pub block_is : row.block ≡ block
  pub digest_is : digest ≡ digest_of_row rows row

-- In a lawful history later blocks name a row by the digest of its header.
abbrev pub RowsAreNamed : Type 0
RowsAreNamed =
    (rows : List Row) (row : Row) (block : ℕ) → IsLawful rows → Contains rows row → row.block < block
    → digest_among (named_before rows block) row.key row.block ≡ digest_of_row rows row

-- A link is to an older version of the key, by the digest of its header.
abbrev pub IsToOlder : List Row → Row → Link → Type 0
IsToOlder rows row link = (link.block < row.block) × NamesHeader rows row.key link.block link.digest

-- Each link of a header of a lawful history is to an older version of the key, by the digest of its
-- header.
abbrev pub LinksNameHeaders : Type 0
LinksNameHeaders =
    (rows : List Row) (row : Row) → IsLawful rows → All (IsToOlder rows row) (header_of rows row).links

-- A dependency is on an older version, by the digest of its header.
abbrev pub IsOnOlder : List Row → Row → BodyDep → Type 0
IsOnOlder rows row dep = (dep.block < row.block) × NamesHeader rows dep.key dep.block dep.digest

-- Each dependency of a body of a lawful history is on an older version, by the digest of its header.
abbrev pub DependenciesNameHeaders : Type 0
DependenciesNameHeaders =
    (rows : List Row) (row : Row) → IsLawful rows → Contains rows row → All (IsOnOlder rows row) (body_of rows row).deps

-- The leaf of a key of a lawful history names the key's newest version by the digest of its header.
abbrev pub LeavesNameHeaders : Type 0
LeavesNameHeaders =
    (rows : List Row) (key : List ℕ) (row : Row) → IsLawful rows → newest rows key ≡ Some row
    → ((leaf_of rows key).newest_block ≡ row.block) × ((leaf_of rows key).newest ≡ digest_of_row rows row)
