-- A history whose ranges can be worked out by hand.
use Rattle.std.specs.Prelude.{ℕ, List, [], ◌∷◌}
use Rattle.lc_base.specs.declared.row.Row.{Row}
use Rattle.lc_base.specs.declared.row.Version.{Version}
use Rattle.lc_base.specs.declared.value.Value.TheVariants.{Gone}

-- The row of a version of a key of one byte, without dependencies.
abbrev pub row_of : ℕ → ℕ → Row
row_of byte block = record { key = byte ∷ []; block = block; tx = 0; value = Gone; deps = [] }

-- The version of that row.
abbrev pub version_at : ℕ → Version
version_at block = record { block = block; tx = 0; value = Gone }

-- The key `a` in blocks 2, 5 and 9, and `b` in block 5.
unfoldable pub four_rows : List Row
four_rows = row_of 97 2 ∷ row_of 97 5 ∷ row_of 98 5 ∷ row_of 97 9 ∷ []
