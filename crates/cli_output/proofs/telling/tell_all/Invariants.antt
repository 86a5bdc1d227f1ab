use Rattle.std.proofs.Common.{◌≡◌, map, take, true}
use Rattle.lc_io.specs.Disk.{Stays}
use Rattle.block_log.specs.Standing.{NextBlock}
use Rattle.cli_promises.specs.Promises.{plain, Telling}
use Rattle.cli_output.proofs.telling.tell_all.Given as goal

abbrev pub invariant-loop-piece : goal.invariant-loop-piece
invariant-loop-piece g l = record {
  lines : (next : NextBlock) → Telling next g.M.Clock.now g.M.Clock.disk g.M.Clock.told l.initial.machine l.machine (map plain (take l.piece-index l.pieces)) true;
  disk : Stays g.M.Clock.now g.M.Clock.disk l.initial.machine l.machine;
  disk_faults : g.M.Clock.disk_faults l.machine ≡ g.M.Clock.disk_faults l.initial.machine;
  wire_faults : g.M.Clock.wire_faults l.machine ≡ g.M.Clock.wire_faults l.initial.machine;
}
