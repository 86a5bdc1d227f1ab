use Rattle.std.proofs.Common.{◌≡◌, take, map}
use Rattle.world_state.specs.Rows.{entry_of}
use Rattle.world_state.proofs.held.entries_of.Given as goal

abbrev pub invariant-loop-row : goal.invariant-loop-row
invariant-loop-row l = l.entries.items ≡ map entry_of (take l.row-index l.rows)
