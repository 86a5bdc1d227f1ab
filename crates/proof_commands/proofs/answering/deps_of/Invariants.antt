use Rattle.std.proofs.Common.{◌≡◌, map, take}
use Rattle.proof_checks.specs.Checks.{dep_of}
use Rattle.proof_commands.proofs.answering.deps_of.Given as goal

abbrev pub invariant-loop-i : goal.invariant-loop-i
invariant-loop-i l = l.list ≡ map dep_of (take l.i l.deps)
