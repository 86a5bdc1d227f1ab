-- The versions of one key by their blocks, the newest first.
use Rattle.std.specs.Prelude.{ℕ, ◌<◌, ◌/◌, ◌^◌, nat_lt, Bool, true, if◌then◌else◌, List, [], ◌∷◌, map, filter, reverse, Option, Some, None}
use Rattle.lc_base.specs.declared.row.Row.{Row}
use Rattle.skip_links.specs.Links.{is_older}

-- The blocks of the key's versions before this block, the newest first.
abbrev pub older_blocks : List Row → List ℕ → ℕ → List ℕ
older_blocks rows key block = map (λ row. row.block) (filter (is_older key block) (reverse rows))

-- Each block is greater than the next one of the list.
abbrev pub IsFalling : List ℕ → Type 0
IsFalling [] = Unit {0}
IsFalling (block ∷ []) = Unit {0}
IsFalling (block ∷ previous ∷ older) = (previous < block) × IsFalling (previous ∷ older)

-- Whether the version in this block is at a level, by the blocks of the versions before it: there
-- is none, or the last of them is in an earlier interval.
abbrev pub is_first : ℕ → ℕ → List ℕ → Bool
is_first level block [] = true
is_first level block (previous ∷ older) = nat_lt (previous / 2 ^ level) (block / 2 ^ level)

-- The last version that is at a level, and the versions before it.
unfoldable pub from_level : ℕ → List ℕ → List ℕ
from_level level [] = []
from_level level (block ∷ older) = if is_first level block older then block ∷ older else from_level level older

-- The first of some blocks.
abbrev pub first_block : List ℕ → Option ℕ
first_block [] = None
first_block (block ∷ older) = Some block

-- The block of the last version at a level.
abbrev pub last_at_level : List ℕ → ℕ → Option ℕ
last_at_level blocks level = first_block (from_level level blocks)
