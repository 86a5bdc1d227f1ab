use Rattle.contract_print.proofs.Lists.{args_written}
use Rattle.contract_print.proofs.expression.+put.Goals as goal

pub put_args-returns-after-loop-x : goal.put_args-returns-after-loop-x
put_args-returns-after-loop-x t c = args_written c.args.args.now c.first-item.result c.args.out.now.items c.put_expression.new.out.items c.loop-x.out.items c.loop-x.x-index c.in-len1-up.len_at_least c.first-item.is c.in_ok-put_expression-in-len1-up.ensures c.loop-x.invariant c.loop-x-test.false
