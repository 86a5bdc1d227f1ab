use Rattle.std.proofs.Common.{◌≡◌, ◌-◌, ◌++◌, length}
use Rattle.skip_links.specs.Links.{links}
use Rattle.skip_links.specs.Paths.{path_from, path}
use Rattle.skip_links.proofs.walking.path.Given as goal

abbrev pub invariant-loop-turn : goal.invariant-loop-turn
invariant-loop-turn l = l.blocks ++ path_from (length l.rows - l._turn) (links l.rows l.key) l.at l.next ≡ path l.rows l.key l.at
