use Rattle.std.proofs.Common.{◌≡◌, ◌+◌, ◌-◌, false, List}
use Rattle.lc_io.specs.Disk.{Stays}
use Rattle.lc_io.specs.Scratch.{Retains}
use Rattle.disk_model.specs.Disk.{content_of}
use Rattle.block_log.specs.Log.{marks}
use Rattle.block_log.specs.Reader.{AreRead}
use Rattle.block_codec.specs.declared.limits.TheConstants.{MAX_MARKED_BLOCKS}
use Rattle.block_log.specs.declared.layout.Stored.{Stored}
use Rattle.rooted_chain.specs.chain_replay.Chain.{IsKnownFor}
use Rattle.recovery.specs.Restoring.{digests_of}
use Rattle.recovery.proofs.Replaying.{AreRun}
use Rattle.recovery.proofs.restoring.restore.Given as goal

abbrev pub invariant-loop-log : goal.invariant-loop-log
invariant-loop-log g l = record {
  stored : List Stored;
  read : AreRead l.reader (content_of (g.M.Clock.disk l.machine (g.M.Clock.now l.machine))) stored;
  run : IsKnownFor g.C.Replay.calls_scratch (g.S.Scratch.state l.fn.scratch)
      → AreRun stored (g.C.Replay.kept l.chain);
  digests : (g.C.Replay.kept l.chain).digests ≡ digests_of stored;
  agrees : g.C.Replay.agrees l.chain (g.S.Scratch.state l.scratch);
  disk : Stays g.M.Clock.now g.M.Clock.disk l.fn.machine l.machine;
  told : g.M.Clock.told l.machine ≡ g.M.Clock.told l.fn.machine;
  wire_faults : g.M.Clock.wire_faults l.machine ≡ g.M.Clock.wire_faults l.fn.machine;
  no_fault : g.M.Clock.disk_faults l.machine ≡ g.M.Clock.disk_faults l.fn.machine;
  retains : Retains (g.S.Scratch.state l.fn.scratch) (g.S.Scratch.state l.scratch);
  no_scratch_fault : g.S.Scratch.scratch_faults l.scratch ≡ g.S.Scratch.scratch_faults l.fn.scratch;
  unused : g.C.Replay.calls_scratch ≡ false → l.scratch ≡ l.fn.scratch;
}

abbrev pub decreases-loop-log : goal.decreases-loop-log
decreases-loop-log g l = (MAX_MARKED_BLOCKS - l.reader.count) + (1 - marks l.reader.is_marked)
