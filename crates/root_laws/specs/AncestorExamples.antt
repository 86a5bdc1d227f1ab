-- A history whose ancestors can be worked out by hand.
use Rattle.std.specs.Prelude.{ℕ, List, [], ◌∷◌}
use Rattle.lc_base.specs.declared.row.Dep.{Dep}
use Rattle.lc_base.specs.declared.row.Row.{Row}
use Rattle.lc_base.specs.declared.value.Value.TheVariants.{Gone}

-- A version of a key of one byte.
abbrev pub version : ℕ → ℕ → Dep
version byte block = record { key = byte ∷ []; block = block }

-- The row of a version that was derived from these.
abbrev pub row_from : Dep → List Dep → Row
row_from version deps =
    record { key = version.key; block = version.block; tx = 0; value = Gone; deps = deps }

-- The key `a` in block 0; in block 1 `c` and `b`, both derived from it; and in block 2 `d`, derived
-- from `b` and `c`.
unfoldable pub four_rows : List Row
four_rows =
    row_from (version 97 0) [] ∷ row_from (version 99 1) (version 97 0 ∷ [])
    ∷ row_from (version 98 1) (version 97 0 ∷ [])
    ∷ row_from (version 100 2) (version 98 1 ∷ version 99 1 ∷ []) ∷ []
