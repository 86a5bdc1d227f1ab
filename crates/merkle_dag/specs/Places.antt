-- The row of a key in a block.
use Rattle.std.specs.Prelude.{ℕ, ◌==◌, if◌then◌else◌, List, Option, None, Some}
use Rattle.lc_base.specs.declared.row.Row.{Row}
use Rattle.lc_base.specs.History.{latest}

-- The row, if it is of this block.
abbrev pub if_of_block : ℕ → Option Row → Option Row
if_of_block block None = None
if_of_block block (Some row) = if row.block == block then Some row else None

-- The row of the key in this block, if there is one: the last one up to the block, if it is of it.
abbrev pub row_in_block : List Row → List ℕ → ℕ → Option Row
row_in_block rows key block = if_of_block block (latest rows key block)
