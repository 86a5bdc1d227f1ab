use Rattle.std.proofs.Common.{rules}
use Rattle.eval_expressions.proofs.Items.{no_item_told}
use Rattle.eval_expressions.proofs.asking.item_asked.Goals as goal

pub returns-in-Err : goal.returns-in-Err
returns-in-Err g c = record {
  same = search rules;
  answer = no_item_told _ _ _ c.args.index _ c.in_ok-count.ensures.asked.answer (search rules);
  cause = search rules;
}
