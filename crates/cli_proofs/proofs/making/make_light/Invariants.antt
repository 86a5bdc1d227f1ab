use Rattle.std.proofs.Common.{◌≡◌, map, true}
use Rattle.disk_model.specs.Leaving.{LeavesDisk}
use Rattle.block_log.specs.Standing.{NextBlock}
use Rattle.cli_output.specs.cli_promises.Promises.{plain, Telling}
use Rattle.cli_proofs.proofs.Made.{first_pieces}
use Rattle.cli_proofs.proofs.making.make_light.Given as goal

abbrev pub invariant-loop-index : goal.invariant-loop-index
invariant-loop-index g l = record {
  lines : (next : NextBlock) → Telling next g.M.Clock.now g.M.Clock.disk g.M.Clock.told
      l.fn.machine l.machine (map plain (first_pieces l.lineage.rows l.lineage.digests l.index))
      true;
  disk : LeavesDisk g.M.Clock.now g.M.Clock.disk g.M.Clock.disk_faults l.fn.machine l.machine;
  wire_faults : g.M.Clock.wire_faults l.machine ≡ g.M.Clock.wire_faults l.fn.machine;
}
