use Rattle.std.proofs.lemmas.Result.{err_from_is_err_and}
use Rattle.byte_fields.specs.Reading.{items_at, key_at}
use Rattle.byte_fields.proofs.Loops.{goes_on, ends, is_done}
use Rattle.byte_fields.proofs.reader.Reader.keys.Goals as goal

pub returns-in_err-key : goal.returns-in_err-key
returns-in_err-key c =
    let p = err_from_is_err_and c.from_residual.result c.from_residual.ensures.1 in
    let t = ends key_at c.loop.keys c.args.count c.loop.counter c.loop.self c.in_err-key.field-0.0.left (items_at key_at c.args.count c.args.self.now) c.loop-test.true c.in_err-key.ensures c.loop.invariant in
    rw (p.1, p.2) t

pub loop-preserved : goal.loop-preserved
loop-preserved c = rw c.in_ok-push.ensures.ok (goes_on key_at c.loop.keys c.args.count c.loop.counter c.loop.self c.in_ok-key.key c.key.new.self (items_at key_at c.args.count c.args.self.now) c.loop-test.true c.in_ok-key.ensures c.loop.invariant)

pub returns : goal.returns
returns c = is_done key_at c.loop.keys c.args.count c.loop.counter c.loop.self (items_at key_at c.args.count c.args.self.now) c.loop-test.false c.loop.invariant
