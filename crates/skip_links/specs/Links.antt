-- The levels at which a key's versions are, and their links: one for each level, to the last
-- version before that is at this level.
use Rattle.std.specs.Prelude.{ℕ, zero, suc, ◌/◌, ◌^◌, ◌+◌, ◌==◌, ◌&&◌, nat_lt, not, Bool, if◌then◌else◌, List, Option, reverse}
use Rattle.std.specs.List.{find, list_any, filter_map, range_with_len}
use Rattle.std.specs.Option.{option_map}
use Rattle.std.specs.Cmp.Lexicographic.{pointwise}
use Rattle.lc_base.specs.declared.row.Row.{Row}
use Rattle.skip_links.specs.declared.limits.TheConstants.{MAX_LEVEL}

-- Whether a row is a version of the key in an earlier block.
abbrev pub is_older : List ℕ → ℕ → Row → Bool
is_older key block row = pointwise ◌==◌ row.key key && nat_lt row.block block

-- Whether two blocks are in one interval of 2 ^ level blocks; the intervals begin at the multiples
-- of 2 ^ level.
abbrev pub are_close : ℕ → ℕ → ℕ → Bool
are_close level a b = a / 2 ^ level == b / 2 ^ level

-- Whether a version of the key in this block is at a level: no version of the key is in an earlier
-- block of the block's interval of 2 ^ level blocks.
abbrev pub is_at_level : List Row → List ℕ → ℕ → ℕ → Bool
is_at_level rows key block level = not (list_any (λ row. is_older key block row && are_close level row.block block) rows)

-- The greatest level up to this one at which a version of the key in this block is. Every version is
-- at level 0.
unfoldable pub height_to : ℕ → List Row → List ℕ → ℕ → ℕ
height_to zero rows key block = 0
height_to (suc level) rows key block = if is_at_level rows key block (suc level) then suc level else height_to level rows key block

-- The height of a version of the key in this block that is not the key's first.
abbrev pub height : List Row → List ℕ → ℕ → ℕ
height rows key block = height_to MAX_LEVEL rows key block

-- Whether a row is a version of the key in an earlier block, and at this level.
abbrev pub is_linked : List Row → List ℕ → ℕ → ℕ → Row → Bool
is_linked rows key block level row = is_older key block row && is_at_level rows key row.block level

-- The block of the last version of the key before this block that is at this level.
unfoldable pub link : List Row → List ℕ → ℕ → ℕ → Option ℕ
link rows key block level = option_map (λ row. row.block) (find (is_linked rows key block level) (reverse rows))

-- The blocks that a version of the key in this block links to, one for each level from 0 to its
-- height. A first version links to none.
unfoldable pub links : List Row → List ℕ → ℕ → List ℕ
links rows key block = filter_map (link rows key block) (range_with_len 0 (height rows key block + 1))
