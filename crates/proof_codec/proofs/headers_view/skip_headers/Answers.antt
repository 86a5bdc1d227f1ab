use Rattle.std.proofs.Common.{◌≡◌, Some, [], ◌∷◌, ◌++◌, ap, sym, ◌∙◌}
use Rattle.std.proofs.lemmas.Result.{err_from_is_err_and}
use Rattle.entry_views.specs.byte_fields.Reading.{items_at}
use Rattle.entry_views.proofs.byte_fields.Loops.{goes_on, ends, is_done}
use Rattle.entry_views.specs.Items.{items_read}
use Rattle.entry_views.specs.Reading.{header_at}
use Rattle.entry_views.specs.prov_entry.declared.entry.Header.{Header}
use Rattle.entry_views.proofs.Items.{all_skipped}
use Rattle.proof_codec.specs.Last.{last_block}
use Rattle.proof_codec.proofs.Last.{last_added}
use Rattle.proof_codec.proofs.headers_view.skip_headers.Goals as goal

pub returns-in_err-header-clause-skips : goal.returns-in_err-header-clause-skips
returns-in_err-header-clause-skips c =
    let p = err_from_is_err_and c.from_residual.result c.from_residual.ensures.1 in
    let t = ends header_at c.loop.invariant.0 c.args.count c.loop.counter c.loop.reader c.in_err-header.field-0.0.left (items_at header_at c.args.count c.args.reader.now) c.loop-test.true c.in_err-header.ensures c.loop.invariant.1 in
    rw (p.1, p.2) t

pub loop-preserved : goal.loop-preserved
loop-preserved c =
    let read = c.loop.invariant.0 in
    let header = c.in_ok-header.header.value in
    let block : Some c.behind-header.inside.block ≡ Some header.block = ap (λ (fields : Header). Some fields.block) (c.behind-header.view_is ∙ c.fields.ensures) in
    (read ++ header ∷ [], goes_on header_at read c.args.count c.loop.counter c.loop.reader header c.read.new.reader (items_at header_at c.args.count c.args.reader.now) c.loop-test.true c.in_ok-header.ensures c.loop.invariant.1, block ∙ sym (last_added read header))

pub returns-clause-skips : goal.returns-clause-skips
returns-clause-skips c =
    let all = items_at header_at c.args.count c.args.reader.now in
    all_skipped header_at all c.loop.invariant.0 c.loop.reader (is_done header_at c.loop.invariant.0 c.args.count c.loop.counter c.loop.reader all c.loop-test.false c.loop.invariant.1)

pub returns-clause-last : goal.returns-clause-last
returns-clause-last c =
    let all = items_at header_at c.args.count c.args.reader.now in
    let done = is_done header_at c.loop.invariant.0 c.args.count c.loop.counter c.loop.reader all c.loop-test.false c.loop.invariant.1 in
    c.loop.invariant.2 ∙ ap last_block (sym (ap items_read done))
