use Rattle.std.proofs.Common.{◌∙◌, length, arith}
use Rattle.merkle_dag.specs.Kept.{rows_kept}
use Rattle.merkle_dag.proofs.LedgerSteps.{root_by_hash, root_of_all}
use Rattle.merkle_dag.proofs.root.made_root.Goals as goal

pub returns-then-at-len : goal.returns-then-at-len
returns-then-at-len c =
    let kept = c.args.kept.now in
    let rows = rows_kept kept.index in
    let digests = kept.digests.items in
    c.root_of_tree.ensures
    ∙ root_of_all rows digests c.args.at c.index.result.now c.tree.result.now
    (omega (arith, c.if-at-len.true, c.len.ensures)) c.requires.whole.ledger.within c.index.ensures
    (c.tree.ensures rows (length digests) c.requires.whole.index_is)

pub returns-else-at-len : goal.returns-else-at-len
returns-else-at-len c =
    let kept = c.args.kept.now in
    let rows = rows_kept kept.index in
    let digests = kept.digests.items in
    let is = c.requires.whole.index_is in
    c.root_digest.ensures
    ∙ root_by_hash rows digests c.args.at c.index.result.now _ _ c.requires.within c.index.ensures
    (c.tree_hash_at-count.ensures.count rows (length digests) is)
    (c.tree_hash_at-count.ensures.hash rows (length digests) is)
