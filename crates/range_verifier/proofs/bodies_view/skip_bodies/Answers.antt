use Rattle.std.proofs.Common.{[], ◌∷◌, ◌++◌}
use Rattle.std.proofs.lemmas.Result.{err_from_is_err_and}
use Rattle.byte_fields.specs.Reading.{items_at}
use Rattle.byte_fields.proofs.Loops.{goes_on, ends, is_done}
use Rattle.entry_views.specs.Reading.{body_at}
use Rattle.entry_views.proofs.Items.{all_skipped}
use Rattle.range_verifier.proofs.bodies_view.skip_bodies.Goals as goal

pub returns-in_err-read : goal.returns-in_err-read
returns-in_err-read c =
    let p = err_from_is_err_and c.from_residual.result c.from_residual.ensures.1 in
    let all = items_at body_at c.args.count c.args.reader.now in
    let t = ends body_at c.loop.invariant.0 c.args.count c.loop.counter c.loop.reader
    c.in_err-read.field-0.0.left all c.loop-test.true c.in_err-read.ensures c.loop.invariant.1 in
    rw (p.1, p.2) t

pub loop-preserved : goal.loop-preserved
loop-preserved c =
    let body = c.in_ok-read.field-0.value in
    let all = items_at body_at c.args.count c.args.reader.now in (
      c.loop.invariant.0 ++ body ∷ [],
      goes_on body_at c.loop.invariant.0 c.args.count c.loop.counter c.loop.reader body
          c.read.new.reader all c.loop-test.true c.in_ok-read.ensures c.loop.invariant.1,
    )

pub returns : goal.returns
returns c =
    let all = items_at body_at c.args.count c.args.reader.now in
    let done = is_done body_at c.loop.invariant.0 c.args.count c.loop.counter c.loop.reader all
    c.loop-test.false c.loop.invariant.1 in
    all_skipped body_at all c.loop.invariant.0 c.loop.reader done
