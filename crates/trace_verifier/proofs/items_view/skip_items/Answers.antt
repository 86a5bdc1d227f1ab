use Rattle.std.proofs.Common.{[], ◌∷◌, ◌++◌}
use Rattle.std.proofs.lemmas.Result.{err_from_is_err_and}
use Rattle.byte_fields.specs.Reading.{items_at}
use Rattle.byte_fields.proofs.Loops.{goes_on, ends, is_done}
use Rattle.trace_verifier.specs.Reading.{item_at}
use Rattle.entry_views.proofs.Items.{all_skipped}
use Rattle.trace_verifier.proofs.items_view.skip_items.Goals as goal

pub returns-in_err-read_item : goal.returns-in_err-read_item
returns-in_err-read_item c =
    let p = err_from_is_err_and c.from_residual.result c.from_residual.ensures.1 in
    let all = items_at item_at c.args.count c.args.reader.now in
    let t = ends item_at c.loop.invariant.0 c.args.count c.loop.counter c.loop.reader
    c.in_err-read_item.field-0.0.left all c.loop-test.true c.in_err-read_item.ensures
    c.loop.invariant.1 in
    rw (p.1, p.2) t

pub loop-preserved : goal.loop-preserved
loop-preserved c =
    let item = c.in_ok-read_item.field-0 in
    let all = items_at item_at c.args.count c.args.reader.now in (
      c.loop.invariant.0 ++ item ∷ [],
      goes_on item_at c.loop.invariant.0 c.args.count c.loop.counter c.loop.reader item
          c.read_item.new.reader all c.loop-test.true c.in_ok-read_item.ensures c.loop.invariant.1,
    )

pub returns : goal.returns
returns c =
    let all = items_at item_at c.args.count c.args.reader.now in
    let done = is_done item_at c.loop.invariant.0 c.args.count c.loop.counter c.loop.reader all
    c.loop-test.false c.loop.invariant.1 in
    all_skipped item_at all c.loop.invariant.0 c.loop.reader done
