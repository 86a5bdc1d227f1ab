-- The links of one version over the versions of its key before it, the newest first. Any value that
-- has a block may be taken for a version.
use Rattle.std.specs.Prelude.{ℕ, zero, suc, ◌+◌, if◌then◌else◌, List, [], ◌∷◌, map, Option, slice_get}
use Rattle.std.specs.List.{filter_map, range_with_len}
use Rattle.skip_links.specs.Falling.{is_first}
use Rattle.skip_links.specs.declared.limits.TheConstants.{MAX_LEVEL}

-- The greatest level up to this one at which a version in this block is, by the blocks of the
-- versions before it. Every version is at level 0.
unfoldable pub height_up_to : ℕ → ℕ → List ℕ → ℕ
height_up_to zero block older = 0
height_up_to (suc level) block older = if is_first (suc level) block older then suc level else height_up_to level block older

-- The height of a version that is not the key's first.
abbrev pub height_over : ℕ → List ℕ → ℕ
height_over block older = height_up_to MAX_LEVEL block older

-- The last version that is at a level, and the versions before it.
unfoldable pub from_last : {A : Type 0} → (A → ℕ) → ℕ → List A → List A
from_last block_of level [] = []
from_last block_of level (version ∷ older) =
    if is_first level (block_of version) (map block_of older) then version ∷ older else from_last block_of level older

-- The last version at a level.
abbrev pub last_at : {A : Type 0} → (A → ℕ) → List A → ℕ → Option A
last_at block_of older level = slice_get (from_last block_of level older) 0

-- The versions that a version in this block links to, one for each level from 0 to its height: each
-- the last of the older ones at that level. A first version links to none.
unfoldable pub tower : {A : Type 0} → (A → ℕ) → ℕ → List A → List A
tower block_of block older = filter_map (last_at block_of older) (range_with_len 0 (height_over block (map block_of older) + 1))
