use Rattle.std.proofs.lemmas.Result.{err_from_is_err_and}
use Rattle.byte_fields.specs.Reading.{items_at, value_at}
use Rattle.byte_fields.proofs.Loops.{goes_on, is_done}
use Rattle.byte_fields.proofs.Loops.{ends_kept}
use Rattle.byte_fields.proofs.reader.Reader.values.Goals as goal

pub returns-in_err-value : goal.returns-in_err-value
returns-in_err-value c =
    let read = value_at c.args.most in
    let p = err_from_is_err_and c.from_residual.result c.from_residual.ensures.1 in
    rw (p.1, p.2) (ends_kept read c.loop.values c.args.count c.loop.counter c.loop.self
    c.in_err-value.field-0.0 c.value.new.self (items_at read c.args.count c.args.self.now)
    c.loop-test.true c.in_err-value.ensures c.loop.invariant)

pub loop-preserved : goal.loop-preserved
loop-preserved c =
    let read = value_at c.args.most in
    rw c.in_ok-push.ensures.ok (goes_on read c.loop.values c.args.count c.loop.counter c.loop.self
    c.in_ok-value.value c.value.new.self (items_at read c.args.count c.args.self.now)
    c.loop-test.true c.in_ok-value.ensures c.loop.invariant)

pub returns : goal.returns
returns c =
    let read = value_at c.args.most in
    is_done read c.loop.values c.args.count c.loop.counter c.loop.self
    (items_at read c.args.count c.args.self.now) c.loop-test.false c.loop.invariant
