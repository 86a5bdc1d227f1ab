use Rattle.std.proofs.Common.{◌≡◌, List, length}
use Rattle.entry_store.specs.declared.entry.Hop.{Hop}
use Rattle.entry_store.specs.Steps.{raised_count}
use Rattle.skip_list.specs.Towered.{IsTowered}
use Rattle.skip_list.specs.LookedAt.{entries_left}
use Rattle.skip_list.proofs.PathTurns.{HasLooked}
use Rattle.skip_list.proofs.path.path_entries.Given as goal

abbrev pub invariant-loop-next : goal.invariant-loop-next
invariant-loop-next g l = record {
  looked : (versions : List Hop) → IsTowered l.store l.fn.newest versions → HasLooked l.store versions l.at l.ids l.next;
  count : l.steps ≡ raised_count l.fn.steps (length l.ids);
}

abbrev pub decreases-loop-next : goal.decreases-loop-next
decreases-loop-next g l = entries_left l.next
