-- Laws of the keys of a history, and of the key that comes next.
use Rattle.std.specs.Prelude.{◌≡◌, ◌≢◌, true, false, ℕ, List, [], ◌∷◌, ◌++◌, if◌then◌else◌, Option, Some, None}
use Rattle.std.specs.List.{All, AllPairs, Contains}
use Rattle.std.specs.Option.{is_some}
use Rattle.lc_base.specs.declared.row.Row.{Row}
use Rattle.lc_base.specs.History.{newest}
use Rattle.root_laws.specs.Root.{is_among, keys_of, is_below, lesser, next_key}

-- A key is among those of the rows exactly if it has a version.
abbrev pub KeysAreThoseOfTheRows : Type 0
KeysAreThoseOfTheRows = (rows : List Row) (key : List ℕ) → is_among (keys_of rows) key ≡ is_some (newest rows key)

-- No key is twice among the keys of the rows.
abbrev pub KeysAreDistinct : Type 0
KeysAreDistinct = (rows : List Row) → AllPairs ◌≢◌ (keys_of rows)

-- The next key is one of the keys, greater than this one, and no greater key is less than it;
-- `None` if no key is greater.
abbrev pub IsNext : List (List ℕ) → List ℕ → Option (List ℕ) → Type 0
IsNext keys key None = All (λ (other : List ℕ). is_below key other ≡ false) keys
IsNext keys key (Some next) =
    Contains keys next × (is_below key next ≡ true)
    × All (λ (other : List ℕ). is_below key other ≡ true → is_below other next ≡ false) keys

-- The next key is the least one that is greater.
abbrev pub NextKeyIsTheLeastGreater : Type 0
NextKeyIsTheLeastGreater = (keys : List (List ℕ)) (key : List ℕ) → IsNext keys key (next_key keys key)

-- Only one key is the least that is greater.
abbrev pub NextKeyIsUnique : Type 0
NextKeyIsUnique = (keys : List (List ℕ)) (key : List ℕ) (next : Option (List ℕ)) → IsNext keys key next → next ≡ next_key keys key

-- One key more comes next after a key if it is greater, and less than the one that came next; else
-- the next key stays.
abbrev pub NewKeyIsThreaded : Type 0
NewKeyIsThreaded =
    (keys : List (List ℕ)) (new key : List ℕ)
    → next_key (keys ++ new ∷ []) key ≡ (if is_below key new then lesser new (next_key keys key) else next_key keys key)
