-- A law of leaves that cover a key.
use Rattle.std.specs.Prelude.{◌≡◌, ℕ, List}
use Rattle.root_laws.specs.prov_entry.declared.entry.Leaf.{Leaf}
use Rattle.state_tree.specs.Leaves.{leaf_keys, AreApart}
use Rattle.state_tree.specs.Covering.{Covers}

-- Of leaves of which no two have one key, at most one covers a key.
abbrev pub CoveringsAreUnique : Type 0
CoveringsAreUnique = (leaves : List Leaf) (key : List ℕ) (i j : ℕ) → AreApart (leaf_keys leaves) → Covers leaves key i → Covers leaves key j → i ≡ j
