use Rattle.std.proofs.Common.{◌≤◌, ◌-◌, length}
use Rattle.file_machine.proofs.log_file.write_whole_at.Given as goal

abbrev pub invariant-loop-taken : goal.invariant-loop-taken
invariant-loop-taken g l = l.taken ≤ length l.bytes

abbrev pub decreases-loop-taken : goal.decreases-loop-taken
decreases-loop-taken g l = length l.bytes - l.taken
