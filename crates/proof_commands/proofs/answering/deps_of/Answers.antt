use Rattle.std.proofs.Common.{◌∙◌, arith}
use Rattle.proof_commands.proofs.Copying.{one_dep}
use Rattle.proof_commands.proofs.answering.deps_of.Goals as goal

pub loop-i-preserved : goal.loop-i-preserved
loop-i-preserved c =
    c.in_ok-put_dep.ensures ∙ one_dep c.args.deps.now c.loop-i.list c.loop-i.i c.get.result (omega (arith, c.loop-i-test.true, c.len-i-end.ensures)) c.get.ensures c.loop-i.invariant
