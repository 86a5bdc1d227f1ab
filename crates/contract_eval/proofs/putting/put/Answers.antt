use Rattle.eval_expressions.specs.contract_semantics.Answers.{place_in}
use Rattle.contract_eval.proofs.putting.put.Goals as goal

pub returns-clause-faithful : goal.returns-clause-faithful
returns-clause-faithful g c =
    c.record_put.ensures.faithful (place_in c.args.world.now) c.in_ok-key_to_put.ensures.unwritten
