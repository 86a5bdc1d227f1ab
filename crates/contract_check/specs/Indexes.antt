-- The indexes of names among entries, and the tree that records them.
use Rattle.std.specs.Prelude.{◌≡◌, ℕ, ◌==◌, Bool, false, ◌&&◌, if◌then◌else◌, List, Option, Some, None, position}
use Rattle.std.specs.Option.{option_or}
use Rattle.std.specs.Ordering.{nat_cmp}
use Rattle.std.specs.Cmp.Lexicographic.{pointwise}
use Rattle.std.specs.Map.{keys_of}
use Rattle.std.specs.BTreeMap.{BTreeMap, get}
use Rattle.lc_base.specs.NameBytes.{IsName}
use Rattle.contract_check.specs.Codes.{code}

-- The index of the first entry of a name.
abbrev pub index_in : {T : Type 0} → List (List ℕ × T) → List ℕ → Option ℕ
index_in entries name = position (pointwise ◌==◌ name) (keys_of entries)

-- The index that is recorded for a name.
abbrev pub noted_index : BTreeMap ℕ ℕ → List ℕ → Option ℕ
noted_index indexes name = get nat_cmp indexes (code name)

-- For each name, the tree records its index.
abbrev pub AreNoted : {T : Type 0} → List (List ℕ × T) → BTreeMap ℕ ℕ → Type 0
AreNoted entries indexes = (name : List ℕ) → IsName name → noted_index indexes name ≡ index_in entries name

-- What is recorded for `other` after the index of `name` is recorded, unless one was.
abbrev pub noted_with : List ℕ → ℕ → List ℕ → Option ℕ → Option ℕ
noted_with name index other old = option_or old (if pointwise ◌==◌ other name then Some index else None)

-- Whether an index is the recorded one.
abbrev pub is_noted : ℕ → Option ℕ → Bool
is_noted index None = false
is_noted index (Some other) = other == index

-- What is recorded for `other` after this index of `name` is removed.
abbrev pub noted_without : List ℕ → ℕ → List ℕ → Option ℕ → Option ℕ
noted_without name index other old =
    if (pointwise ◌==◌ other name) && is_noted index old then None else old
