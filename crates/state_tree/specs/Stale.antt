-- The indexes of the leaves whose hashes are stale, and how they are kept: a mark for each leaf, and
-- the indexes that are marked.
use Rattle.std.specs.Prelude.{◌≡◌, ◌==◌, ◌≤◌, ℕ, Bool, true, false, if◌then◌else◌, List, [], ◌∷◌}
use Rattle.std.specs.Prelude.{◌++◌, length, count_by, slice_index_or, vec_capacity}
use Rattle.std.specs.Global.{Vec}
use Rattle.std.specs.List.{All, Contains, list_any}

-- The indexes of some leaves, each of which is below `count`.
pub record Indexes : Type 0 where
  pub count : ℕ
  pub list : List ℕ

-- Indexes with one more, unless it is there.
abbrev pub with_index : List ℕ → ℕ → List ℕ
with_index list index = if list_any (λ (other : ℕ). other == index) list then list else list ++ index ∷ []

-- Whether an index is marked.
abbrev pub is_marked : List Bool → ℕ → Bool
is_marked marks index = slice_index_or marks index false

-- The list has the indexes that are marked, each once.
pub record AreMarked (marks : List Bool) (list : List ℕ) : Type 0 where
  pub listed : (index : ℕ) → is_marked marks index ≡ true → Contains list index
  pub marked : All (λ (index : ℕ). is_marked marks index ≡ true) list
  pub once : length list ≡ count_by (λ (mark : Bool). mark) marks

-- The list has the indexes that are marked, and room for all that can be.
pub record AreKeptStale (marks : List Bool) (list : Vec ℕ) : Type 0 where
  pub are_marked : AreMarked marks list.items
  pub room : length marks ≤ vec_capacity list
