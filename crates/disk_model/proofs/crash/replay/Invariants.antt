use Rattle.disk_model.proofs.Crashes.{IsPart}
use Rattle.disk_model.proofs.crash.replay.Given as goal

abbrev pub invariant-loop-number : goal.invariant-loop-number
invariant-loop-number l = IsPart l.first l.marks l.bytes l.number l.rest l.disk
