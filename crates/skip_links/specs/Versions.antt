-- The place of a key's newest row in a history.
use Rattle.std.specs.Prelude.{◌==◌, ℕ, if◌then◌else◌, List, [], ◌∷◌, length, reverse, Option, Some, None}
use Rattle.std.specs.Cmp.Lexicographic.{pointwise}
use Rattle.lc_base.specs.declared.row.Row.{Row}

-- The index of the last row of a key, in rows that are given in reverse order.
abbrev pub index_in_reverse : List Row → List ℕ → Option ℕ
index_in_reverse [] key = None
index_in_reverse (row ∷ before) key = if pointwise ◌==◌ row.key key then Some (length before) else index_in_reverse before key

-- The index, from 0, of the last row of a key; `None` if it has no row.
unfoldable pub newest_index : List Row → List ℕ → Option ℕ
newest_index rows key = index_in_reverse (reverse rows) key
