-- The path of a lookup: the versions of a key that are looked at on the way to the last one up to a
-- block.
use Rattle.std.specs.Prelude.{ℕ, zero, suc, ◌^◌, ◌==◌, nat_lt, nat_le, if◌then◌else◌, List, [], ◌∷◌, length, map, filter, reverse, Option, Some, None, slice_get}
use Rattle.std.specs.List.{find}
use Rattle.std.specs.Option.{option_map, option_or}
use Rattle.std.specs.Cmp.Lexicographic.{pointwise}
use Rattle.lc_base.specs.declared.row.Row.{Row}
use Rattle.lc_base.specs.History.{newest}
use Rattle.skip_links.specs.Links.{links}
use Rattle.skip_links.specs.declared.limits.TheConstants.{MAX_LEVEL}
use Rattle.skip_links.specs.Towers.{tower}

-- ---- one turn

-- Of the links of a version, one for each level from 0, that of the highest level that leads above
-- a block, else the lowest one; `None` if the version has no links.
abbrev pub onward : {A : Type 0} → (A → ℕ) → ℕ → List A → Option A
onward block_of at links = option_or (find (λ version. nat_lt at (block_of version)) (reverse links)) (slice_get links 0)

-- The block that a lookup goes on to from the version in a block; `None` if that version is the
-- answer, or has no links.
abbrev pub next_block : (ℕ → List ℕ) → ℕ → ℕ → Option ℕ
next_block links_of at block = if nat_le block at then None else onward (λ (link : ℕ). link) at (links_of block)

-- ---- paths

-- The blocks that a lookup up to a block looks at, from a version on, and at most n of them. The
-- versions have these links, by their blocks.
unfoldable pub path_from : ℕ → (ℕ → List ℕ) → ℕ → Option ℕ → List ℕ
path_from zero links_of at block = []
path_from (suc n) links_of at None = []
path_from (suc n) links_of at (Some block) = block ∷ path_from n links_of at (next_block links_of at block)

-- The path of a lookup of the last version of a key up to a block, over the rows of a history. It
-- begins at the newest version; that of a key without versions is empty.
unfoldable pub path : List Row → List ℕ → ℕ → List ℕ
path rows key at = path_from (length rows) (links rows key) at (option_map (λ (row : Row). row.block) (newest rows key))

-- ---- over the blocks of one key, the newest first

-- The blocks of a key's versions.
abbrev pub blocks_of_key : List Row → List ℕ → List ℕ
blocks_of_key rows key = map (λ (row : Row). row.block) (filter (λ (row : Row). pointwise ◌==◌ row.key key) (reverse rows))

-- The links of the version in a block.
abbrev pub links_among : List ℕ → ℕ → List ℕ
links_among blocks block = tower (λ (older : ℕ). older) block (filter (λ older. nat_lt older block) blocks)

-- The path over these blocks.
unfoldable pub path_over : List ℕ → ℕ → List ℕ
path_over blocks at = path_from (length blocks) (links_among blocks) at (slice_get blocks 0)

-- ---- how long a path may be

-- The number of binary digits of a number that has at most `digits` + 1 of them; 0 has one.
unfoldable pub digits_up_to : ℕ → ℕ → ℕ
digits_up_to zero n = 1
digits_up_to (suc digits) n = if nat_lt n (2 ^ suc digits) then digits_up_to digits n else suc (suc digits)

-- The number of binary digits of a block; 0 has one.
abbrev pub binary_digits : ℕ → ℕ
binary_digits block = digits_up_to MAX_LEVEL block
