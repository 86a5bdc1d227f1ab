-- Laws of the versions between two blocks: their order, and where they end.
use Rattle.std.specs.Prelude.{◌≡◌, ℕ, ◌<◌, ◌≤◌, List, [], Some, reverse, slice_get}
use Rattle.std.specs.List.{AllPairs}
use Rattle.lc_base.specs.declared.row.Row.{Row}
use Rattle.lc_base.specs.declared.row.Version.{Version}
use Rattle.lc_base.specs.History.{IsLawful, latest}
use Rattle.root_laws.specs.Ranges.{rows_between, between}

-- In a lawful history each version is of a later block than all before it.
abbrev pub VersionsRise : Type 0
VersionsRise =
    (rows : List Row) (key : List ℕ) (from to : ℕ) → IsLawful rows
    → AllPairs (λ (version next : Version). version.block < next.block) (between rows key from to)

-- If the last version up to `to` isn't before `from`, it is the last one between them.
abbrev pub RangesEndAtTheLatest : Type 0
RangesEndAtTheLatest =
    (rows : List Row) (key : List ℕ) (from to : ℕ) (version : Row) → IsLawful rows
    → latest rows key to ≡ Some version → from ≤ version.block
    → slice_get (reverse (rows_between rows key from to)) 0 ≡ Some version

-- If it is before `from`, or there is none, there is none between them.
abbrev pub RangesMayBeEmpty : Type 0
RangesMayBeEmpty =
    (rows : List Row) (key : List ℕ) (from to : ℕ) → IsLawful rows
    → ((version : Row) → latest rows key to ≡ Some version → version.block < from)
    → rows_between rows key from to ≡ []
