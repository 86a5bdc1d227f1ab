use Rattle.std.proofs.Common.{sym, arith}
use Rattle.entry_views.proofs.Indexed.{drop_one, none_there, next_is}
use Rattle.entry_views.proofs.list_view.ListView.item.Goals as goal

pub returns-in-None : goal.returns-in-None
returns-in-None g c = sym (none_there c.loop.counter c.args.i c.args.self.now c.loop.rest c.loop.invariant c.in-None.ensures (omega (arith, c.loop-test.true)))

pub loop-preserved : goal.loop-preserved
loop-preserved g c = drop_one c.loop.counter c.args.self.now c.loop.rest c.next.new.self _ c.loop.invariant c.in-Some.ensures

pub returns : goal.returns
returns g c = next_is c.next-2.result c.loop.counter c.args.i c.args.self.now c.loop.rest c.next-2.new.self (omega (arith, c.loop-test.false)) (omega (arith, c.loop.auto.counter-end)) c.loop.invariant c.next-2.ensures
