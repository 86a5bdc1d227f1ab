-- Functions by their names.
use Rattle.std.specs.Prelude.{ℕ, Bool, ◌==◌, List}
use Rattle.std.specs.Cmp.Lexicographic.{pointwise}
use Rattle.contract_tree.specs.declared.tree.Function.{Function}

-- Whether a function has this name.
abbrev pub is_called : List ℕ → Function → Bool
is_called name function = pointwise ◌==◌ function.name name
