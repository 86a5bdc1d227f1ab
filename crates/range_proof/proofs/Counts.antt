-- The count of the versions that are looked at.
use Rattle.std.proofs.Common.{◌≡◌, ℕ, suc, ◌+◌, ◌-◌, ◌≤◌, List, [], ◌∷◌, length}
use Rattle.std.proofs.Common.{Option, Some, None, refl, arith}
use Rattle.lc_base.specs.declared.row.Row.{Row}
use Rattle.entry_store.specs.Steps.{raised_count}
use Rattle.root_laws.specs.RangeSteps.{all_but_one}

but_one : (rows : List Row) → all_but_one rows ≡ length rows - 1
but_one [] = refl
but_one (row ∷ rows) = omega arith

-- The turns that may be left: the next index is less than the one before.
abbrev pub turns_left : Option ℕ → ℕ
turns_left None = 0
turns_left (Some index) = suc index

-- So many were found, after so many on the path.
abbrev pub so_many : ℕ → ℕ → ℕ
so_many path found = path + (found - 1)

pub one_counted : (start path found longer count next : ℕ) → 1 ≤ found → longer ≡ found + 1
    → count ≡ raised_count start (so_many path found) → next ≡ raised_count count 1
    → next ≡ raised_count start (so_many path longer)
one_counted start path found longer count next some long before more =
    omega (arith, some, long, before, more)

pub part_counted : (rows : List Row) (start path found count : ℕ) → found ≤ length rows
    → count ≡ raised_count start (so_many path found)
    → count ≤ raised_count start (path + all_but_one rows)
part_counted rows start path found count part is =
    let one = but_one rows in omega (arith, part, is, one)

pub none_counted : (rows : List Row) (start path count : ℕ) → 0 ≡ length rows
    → count ≡ raised_count start path → count ≡ raised_count start (path + all_but_one rows)
none_counted rows start path count none is =
    let one = but_one rows in omega (arith, none, is, one)
