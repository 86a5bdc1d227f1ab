-- All versions of a key between two blocks, those in the two blocks included.
use Rattle.std.specs.Prelude.{ℕ, ◌==◌, ◌&&◌, nat_le, Bool, List, map, filter}
use Rattle.std.specs.Cmp.Lexicographic.{pointwise}
use Rattle.lc_base.specs.declared.row.Row.{Row}
use Rattle.lc_base.specs.declared.row.Version.{Version}

-- Whether a row is a version of the key in a block from `from` to `to`.
abbrev pub is_between : List ℕ → ℕ → ℕ → Row → Bool
is_between key from to row =
    pointwise ◌==◌ row.key key && (nat_le from row.block && nat_le row.block to)

-- The rows of the key in blocks from `from` to `to`, in the order of the history.
abbrev pub rows_between : List Row → List ℕ → ℕ → ℕ → List Row
rows_between rows key from to = filter (is_between key from to) rows

-- A row without its key and its dependencies.
abbrev pub as_version : Row → Version
as_version row = record { block = row.block; tx = row.tx; value = row.value }

-- The versions of the key in blocks from `from` to `to`, in the order of the history.
abbrev pub between : List Row → List ℕ → ℕ → ℕ → List Version
between rows key from to = map as_version (rows_between rows key from to)
