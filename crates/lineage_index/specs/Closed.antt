-- The lists that were closed, each at the row whose uses it has; a row that is the newest of its
-- key has its list still open.
use Rattle.std.specs.Prelude.{◌≡◌, ◌==◌, ◌<◌, ◌++◌, ◌∷◌, [], ℕ, if◌then◌else◌, List, length}
use Rattle.std.specs.Prelude.{Some, true, slice_get, slice_set}
use Rattle.lc_base.specs.declared.row.Row.{Row}
use Rattle.lc_base.specs.History.{newest}
use Rattle.forward_links.specs.Lists.{rows_of}
use Rattle.plain_rows.specs.Users.{users}
use Rattle.plain_rows.specs.root_laws.Root.{is_among}
use Rattle.lineage_index.specs.Heads.{KeyStates, newest_at}

-- What the closed list of a row has, where `index` is that of the row among the rows `first`: the
-- indexes of the rows, among all, that were derived from it; nothing while it is the newest row of
-- its key.
abbrev pub closed_users : List Row → List Row → ℕ → Row → List ℕ
closed_users all first index row = if newest_at first row.key == index then [] else users all row

-- These are the closed lists of the first rows of a history, with the users among all its rows.
pub record AreClosed (all first : List Row) (closed : List (List ℕ)) : Type 0 where
  pub long : length closed ≡ length first
  pub each : (index : ℕ) (row : Row) → slice_get first index ≡ Some row
      → slice_get closed index ≡ Some (closed_users all first index row)

-- This is the open list of a key: the indexes of the rows that were derived from its newest
-- version.
abbrev pub IsOpenListOf : List Row → List ℕ → List ℕ → Type 0
IsOpenListOf rows key list = (row : Row) × (newest rows key ≡ Some row) × (list ≡ users rows row)

-- The newest row of a key that is among these has a closed list, which may be filled.
abbrev pub CanClose : KeyStates → List ℕ → List (List ℕ) → Type 0
CanClose states key closed = is_among states.keys key ≡ true → states.index key < length closed

-- The closed lists after a new version of a key: the key's open list is now that of the version
-- before, and the new one has none yet.
abbrev pub closed_with : KeyStates → List ℕ → List (List ℕ) → List (List ℕ)
closed_with states key closed = if is_among states.keys key
    then slice_set (closed ++ [] ∷ []) (states.index key) (rows_of (states.list key))
    else closed ++ [] ∷ []
