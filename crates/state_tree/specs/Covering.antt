-- The leaf that covers a key: its own, or else the leaf after which it would be threaded.
use Rattle.std.specs.Prelude.{◌≡◌, true, false, ℕ, List, Contains, Some, slice_get}
use Rattle.root_laws.specs.prov_entry.declared.entry.Leaf.{Leaf}
use Rattle.root_laws.specs.Root.{is_below}
use Rattle.state_tree.specs.Leaves.{leaf_key}

-- The leaf at this index has the greatest key that is not above this one. It is the sentinel if the
-- key of every other leaf is above.
pub record Covers (leaves : List Leaf) (key : List ℕ) (index : ℕ) : Type 0 where
  pub leaf : Leaf
  pub held : slice_get leaves index ≡ Some leaf
  pub not_above : is_below key (leaf_key leaf) ≡ false
  pub greatest : (other : Leaf) → Contains leaves other
      → is_below (leaf_key leaf) (leaf_key other) ≡ true → is_below key (leaf_key other) ≡ true
