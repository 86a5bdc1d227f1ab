use Rattle.std.proofs.Common.{◌≡◌, ◌≤◌, length}
use Rattle.std.specs.List.{filter_map, range_with_len}
use Rattle.skip_links.specs.Links.{link}
use Rattle.skip_links.proofs.scanning.links.Given as goal

abbrev pub invariant-loop-level : goal.invariant-loop-level
invariant-loop-level l = record { is : l.blocks ≡ filter_map (link l.rows l.key l.block) (range_with_len 0 l.level); few : length l.blocks ≤ l.level }
