use Rattle.std.proofs.Common.{length}
use Rattle.cli_append.proofs.Makings.{Progress}
use Rattle.cli_append.proofs.turning.further_turns.Given as goal

abbrev pub invariant-turns : goal.invariant-turns
invariant-turns g l = Progress g.M.Clock.now g.M.Clock.disk g.M.Clock.told g.M.Clock.disk_faults
    g.M.Clock.wire_faults g.S.Scratch.state g.S.Scratch.scratch_faults
    (l.fn.machine, l.fn.scratch) (l.machine, l.scratch) l.fn.follower l.follower

abbrev pub decreases-turns : goal.decreases-turns
decreases-turns g l = length l.follower.waiting
