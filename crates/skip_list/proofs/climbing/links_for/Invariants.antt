use Rattle.std.proofs.Common.{◌≡◌, ◌+◌, ◌-◌, ◌≤◌, List, length}
use Rattle.std.specs.List.{filter_map, range_with_len}
use Rattle.skip_links.specs.Towers.{last_at}
use Rattle.entry_store.specs.declared.entry.Hop.{Hop}
use Rattle.skip_list.specs.Towered.{block_of, AreVersions}
use Rattle.skip_list.specs.Climbing.{IsAllBelow}
use Rattle.skip_list.proofs.Counting.{HasClimbed}
use Rattle.skip_list.proofs.climbing.links_for.Given as goal

abbrev pub invariant-loop-level : goal.invariant-loop-level
invariant-loop-level g l = record {
  below : (versions : List Hop) → AreVersions l.store l.fn.newest versions → IsAllBelow l.store versions l.level l.rung;
  links : (versions : List Hop) → AreVersions l.store l.fn.newest versions → l.hops ≡ filter_map (last_at block_of versions) (range_with_len 0 l.level);
  long : length l.hops ≡ l.level;
  never_less : l.fn.steps ≤ l.steps;
  climbed : (versions : List Hop) → AreVersions l.store l.fn.newest versions → HasClimbed l.fn.steps versions l.hops l.rung.version.block l.steps;
  count : l.steps ≤ l.fn.steps + 1 + (l.level - 1);
}
