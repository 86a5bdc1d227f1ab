-- An index is that over the rows of the first blocks if its parts are what is kept of them.
use Rattle.std.specs.Prelude.{ℕ, List}
use Rattle.lc_base.specs.declared.row.Row.{Row}
use Rattle.lineage_index.specs.declared.index.LineageIndex.{LineageIndex}
use Rattle.lineage_index.specs.Blocks.{IsKeptIndex}

-- This is the index over these rows, which are of the first `blocks` blocks.
abbrev pub IsIndexOf : List Row → ℕ → LineageIndex → Type 0
IsIndexOf rows blocks index = IsKeptIndex rows blocks index.tree index.lists index.newest.items
    index.store index.closed.items
