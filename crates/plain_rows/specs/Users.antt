-- For each row the rows that were derived from it, and how they are kept.
use Rattle.std.specs.Prelude.{◌≡◌, ◌==◌, ◌&&◌, ◌++◌, ◌<◌, ◌≢◌, ℕ, Bool, false, if◌then◌else◌, List}
use Rattle.std.specs.Prelude.{[], ◌∷◌, length, map, slice_get, slice_index_or, Option, Some}
use Rattle.std.specs.List.{list_any, AllPairs}
use Rattle.std.specs.Option.{option_map}
use Rattle.std.specs.BTreeMap.{BTreeMap}
use Rattle.std.specs.Cmp.Lexicographic.{pointwise}
use Rattle.lc_base.specs.declared.row.Row.{Row}
use Rattle.lc_base.specs.declared.row.Dep.{Dep}
use Rattle.lc_base.specs.History.{StandsBefore, depends_on, version_of}
use Rattle.plain_rows.specs.declared.places.Place.{Place}
use Rattle.plain_rows.specs.Places.{marks_of, ArePlaces, StandsAt}

-- The index of a row, whatever the row is.
abbrev pub number_of : ℕ → Row → ℕ
number_of n row = n

-- The indexes of the rows that were derived from a row, in order.
abbrev pub users : List Row → Row → List ℕ
users rows row = marks_of number_of (depends_on row.key row.block) 0 rows

-- Whether a row is one of these versions.
abbrev pub is_among : List Dep → Row → Bool
is_among deps row = list_any (λ dep. pointwise ◌==◌ dep.key row.key && dep.block == row.block) deps

-- For each row the rows that were derived from it are kept, and after them row n if the row is one
-- of these versions.
pub record AreUsersWith (rows : List Row) (deps : List Dep) (n : ℕ) (lists : List (List ℕ)) : Type 0
  where
    pub long : length lists ≡ length rows
    pub each : (index : ℕ) (row : Row) → slice_get rows index ≡ Some row →
        slice_get lists index ≡ Some
        (if is_among deps row then users rows row ++ n ∷ [] else users rows row)

-- For each row the rows that were derived from it are kept.
abbrev pub AreUsers : List Row → List (List ℕ) → Type 0
AreUsers rows lists = AreUsersWith rows [] 0 lists

-- The version at an index.
abbrev pub version_at : List Row → ℕ → Option Dep
version_at rows index = option_map version_of (slice_get rows index)

-- A version, as one that is there.
abbrev pub there : Dep → Option Dep
there dep = Some dep

-- These are the versions at these indexes, in order.
abbrev pub AreVersionsAt : List Row → List ℕ → List Dep → Type 0
AreVersionsAt rows indexes deps = map (version_at rows) indexes ≡ map there deps

-- What it takes to add a row that depends on these versions: they are among the rows, none twice.
pub record CanUse (rows : List Row) (deps : List Dep) (places : BTreeMap (List ℕ) (List Place))
    (lists : List (List ℕ)) : Type 0 where
  pub ordered : AllPairs StandsBefore rows
  pub kept : ArePlaces rows places
  pub once : AllPairs ◌≢◌ deps
  pub stand : (i : ℕ) (d : Dep) → i < length deps → (index : ℕ)
      × StandsAt rows (slice_index_or deps i d) index
  pub users : AreUsers rows lists

-- No row was derived from this one.
abbrev pub IsUnused : List Row → Row → Type 0
IsUnused rows row = (index : ℕ) (other : Row) → slice_get rows index ≡ Some other
    → depends_on row.key row.block other ≡ false
