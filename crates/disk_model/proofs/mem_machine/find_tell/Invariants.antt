use Rattle.disk_model.proofs.Telling.{IsRest}
use Rattle.disk_model.proofs.mem_machine.find_tell.Given as goal

abbrev pub invariant-loop-number : goal.invariant-loop-number
invariant-loop-number l = IsRest l.marks l.bytes l.index l.number l.rest l.left
