use Rattle.chain_cli.proofs.Asked.{asked_told}
use Rattle.chain_cli.proofs.asking.asked_outcome.Goals as goal

pub returns-clause-outcome : goal.returns-clause-outcome
returns-clause-outcome c =
    asked_told c.ask_outcome.result c.args.chain.now c.args.asked.now c.question_in-question.result
    c.question_in-question.ensures c.ask_outcome.ensures.outcome
