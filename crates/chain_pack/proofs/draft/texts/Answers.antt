use Rattle.std.proofs.lemmas.Result.{err_from_is_err_and}
use Rattle.serde_json.specs.View.{view}
use Rattle.chain_pack.proofs.Folding.{packed_more, packed_all, failed_at}
use Rattle.chain_pack.proofs.draft.texts.Goals as goal

pub returns-in_err-text-clause-texts : goal.returns-in_err-text-clause-texts
returns-in_err-text-clause-texts c =
    let p = err_from_is_err_and c.from_residual.result c.from_residual.ensures.1 in
    rw (p.1, p.2) (failed_at c.args.version view c.args.blocks.now c.loop-block.block-index c.loop-block.parent c.loop-block.texts c.block-item.result c.len.result c.in_err-text.field-0.0 c.loop-block-test.true c.block-item.is c.len.ensures c.in_err-text.ensures.text c.loop-block.invariant)

pub loop-block-preserved : goal.loop-block-preserved
loop-block-preserved c =
    rw (c.in_ok-push.ensures.ok, c.block_digest-parent.ensures, c.as_bytes.ensures) (packed_more c.args.version view c.args.blocks.now c.loop-block.block-index c.loop-block.parent c.loop-block.texts c.block-item.result c.len.result c.in_ok-text.text c.loop-block-test.true c.block-item.is c.len.ensures c.in_ok-text.ensures.text c.in_ok-text.ensures.spelled c.loop-block.invariant)

pub returns-clause-texts : goal.returns-clause-texts
returns-clause-texts c = packed_all c.args.version view c.args.blocks.now c.loop-block.block-index c.loop-block.parent c.loop-block.texts c.loop-block-test.false c.loop-block.invariant
