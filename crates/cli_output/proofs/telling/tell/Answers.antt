use Rattle.cli_promises.specs.recovery.Node.{next_in_chain}
use Rattle.cli_output.proofs.Ends.{found_ends}
use Rattle.cli_output.proofs.telling.tell.Goals as goal

pub returns-in-Ok-clause-ends : goal.returns-in-Ok-clause-ends
returns-in-Ok-clause-ends g c command ends = found_ends c.args.found c.in-Ok.outcome
    c.tell_outcome.result command c.in-Ok.is (c.tell_outcome.ensures.says next_in_chain).ending
    c.tell_outcome.ensures.stop ends
