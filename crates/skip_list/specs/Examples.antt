-- Heights of versions that can be worked out by hand.
use Rattle.std.specs.Prelude.{ℕ, zero, suc, List, [], ◌∷◌}
use Rattle.skip_links.specs.Towers.{height_over}
use Rattle.skip_links.specs.Examples.{down_from}

-- The heights of the versions in the blocks from this one down to 1, with a version in each block
-- from 0 on.
unfoldable pub heights_down_from : ℕ → List ℕ
heights_down_from zero = []
heights_down_from (suc block) = height_over (suc block) (down_from block) ∷ heights_down_from block
