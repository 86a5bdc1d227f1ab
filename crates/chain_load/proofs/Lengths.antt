-- A look-up looks at no more versions than there are rows, so its count fits.
use Rattle.std.proofs.Common.{◌≡◌, ℕ, zero, suc, ◌^◌, ◌<◌, ◌≤◌, List, length, Option, Some, None}
use Rattle.std.proofs.Common.{arith}
use Rattle.lc_base.specs.declared.row.Row.{Row}
use Rattle.skip_links.specs.Paths.{path, path_from, next_block}
use Rattle.entry_store.specs.Steps.{raised_count}

path_from_within : (n : ℕ) (links_of : ℕ → List ℕ) (at : ℕ) (block : Option ℕ)
    → length (path_from n links_of at block) ≤ n
unfolding path_from
path_from_within zero links_of at block = omega arith
path_from_within (suc n) links_of at None = omega arith
path_from_within (suc n) links_of at (Some block) = let rest = path_from_within n links_of at
    (next_block links_of at block) in omega (arith, rest)

-- at most as many as there are rows
path_within : (rows : List Row) (key : List ℕ) (at : ℕ) → length (path rows key at) ≤ length rows
unfolding path
path_within rows key at = path_from_within (length rows) _ at _

pub path_few : (rows : List Row) (key : List ℕ) (at : ℕ) → length rows < 2 ^ 32
    → length (path rows key at) < 2 ^ 32
path_few rows key at few = let within = path_within rows key at in omega (arith, within, few)

pub all_counted : (rows : List Row) (key : List ℕ) (at before count : ℕ) → length rows < 2 ^ 32
    → before ≡ 0 → count ≡ raised_count before (length (path rows key at))
    → count ≡ length (path rows key at)
all_counted rows key at before count few none is = let short = path_few rows key at few in omega
    (arith, short, none, is)
