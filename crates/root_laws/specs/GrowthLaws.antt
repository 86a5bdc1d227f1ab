-- Laws of histories that grow: when rows and digests of later blocks are appended, what is named
-- and the roots stay.
use Rattle.std.specs.Prelude.{◌≡◌, ◌≤◌, ◌<◌, ℕ, suc, List, ◌++◌, length, map}
use Rattle.std.specs.List.{All, Contains, fold}
use Rattle.lc_base.specs.declared.digest.Digest.{Digest}
use Rattle.lc_base.specs.declared.row.Row.{Row}
use Rattle.lc_base.specs.History.{IsLawful, up_to}
use Rattle.skip_links.specs.Links.{links}
use Rattle.root_laws.specs.Naming.{closed_uses, named_by, named_before, header_of, body_of}
use Rattle.root_laws.specs.Root.{with_key, keys_of, root_of}

-- All rows are of this block or of later ones.
abbrev pub AreFrom : ℕ → List Row → Type 0
AreFrom block rows = All (λ (row : Row). block ≤ row.block) rows

-- What is named of the blocks before one stays when rows of this block or of later ones are
-- appended.
abbrev pub EarlierVersionsStayNamed : Type 0
EarlierVersionsStayNamed =
    (rows more : List Row) (block : ℕ) → AreFrom block more → named_before (rows ++ more) block ≡ named_before rows block

-- The header and the body of a row stay when rows of later blocks are appended.
abbrev pub EarlierHeadersStay : Type 0
EarlierHeadersStay =
    (rows more : List Row) (row : Row) → AreFrom (suc row.block) more
    → (header_of (rows ++ more) row ≡ header_of rows row) × (body_of (rows ++ more) row ≡ body_of rows row)

-- When rows of one block are appended to rows of earlier ones, they are named behind the versions
-- before, over the history with them.
abbrev pub VersionsOfABlockAreNamed : Type 0
VersionsOfABlockAreNamed =
    (rows new : List Row) (block : ℕ) → All (λ (row : Row). row.block < block) rows → All (λ (row : Row). row.block ≡ block) new
    → named_before (rows ++ new) (suc block) ≡ named_before rows block ++ map (named_by (rows ++ new) (named_before rows block)) new

-- Keys stay in their places when rows are appended; new keys are put after them.
abbrev pub EarlierKeysStandFirst : Type 0
EarlierKeysStandFirst = (rows more : List Row) → keys_of (rows ++ more) ≡ fold with_key (keys_of rows) more

-- A root stays when rows and digests of later blocks are appended.
abbrev pub EarlierRootsStay : Type 0
EarlierRootsStay =
    (rows more : List Row) (digests others : List Digest) (block : ℕ) → AreFrom (suc block) more → block < length digests
    → root_of (rows ++ more) (digests ++ others) block ≡ root_of rows digests block

-- ---- the rows up to a block, and the whole history

-- The links of a version are the same over the whole history as over the rows up to its block.
abbrev pub LinksAreOfTheHistory : Type 0
LinksAreOfTheHistory = (rows : List Row) (key : List ℕ) (block : ℕ) → links (up_to rows block) key block ≡ links rows key block

-- The list that a version of a lawful history closes is the same over both: no row of a later block
-- is derived from the version before it.
abbrev pub ClosedListsAreOfTheHistory : Type 0
ClosedListsAreOfTheHistory =
    (rows : List Row) (row : Row) → IsLawful rows → Contains rows row
    → closed_uses (up_to rows row.block) row.key row.block ≡ closed_uses rows row.key row.block
