use Rattle.std.proofs.Common.{◌≡◌, ◌++◌, drop, reverse}
use Rattle.disk_model.specs.Crash.{fill_pending}
use Rattle.disk_model.proofs.crash.fill_pending.Given as goal

abbrev pub invariant-loop-offset : goal.invariant-loop-offset
invariant-loop-offset l = l.bytes.items ++ fill_pending (reverse l.pending) l.fill l.left l.offset (drop l.offset l.content) ≡ fill_pending (reverse l.pending) l.fill l.keep 0 l.content
