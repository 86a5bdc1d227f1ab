use Rattle.contract_print.proofs.Lists.{body_written}
use Rattle.contract_print.proofs.statement.+put_statement.Goals as goal

pub put_body-returns : goal.put_body-returns
put_body-returns t c = body_written c.args.margin.now c.in_ok-inner.inner.items c.put.new.out.items c.args.body.now c.args.out.now.items c.loop-x.out.items c.loop-x.x-index c.in_ok-inner.ensures.items c.in_ok-put.ensures c.loop-x.invariant c.loop-x-test.false
