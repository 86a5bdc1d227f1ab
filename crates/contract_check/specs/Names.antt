-- The names that are visible, with the kinds of their values, oldest first.
use Rattle.std.specs.Prelude.{ℕ, ◌==◌, List, Option}
use Rattle.std.specs.Cmp.Lexicographic.{pointwise}
use Rattle.std.specs.Map.{lookup}
use Rattle.contract_tree.specs.declared.tree.ValueKind.{ValueKind}

-- Names with the kinds of their values.
abbrev pub Names : Type 0
Names = List (List ℕ × ValueKind)

-- The kind of a name, if it is visible.
abbrev pub kind_in : Names → List ℕ → Option ValueKind
kind_in names name = lookup (pointwise ◌==◌ name) names
