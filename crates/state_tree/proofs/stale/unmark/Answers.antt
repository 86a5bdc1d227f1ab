use Rattle.std.proofs.Common.{◌∙◌, get_or, drop}
use Rattle.std.proofs.lemmas.List.{length-set, drop_all}
use Rattle.state_tree.proofs.Marks.{unmark_more, unmarked}
use Rattle.state_tree.proofs.stale.unmark.Goals as goal

pub loop-index-preserved : goal.loop-index-preserved
loop-index-preserved c =
    let k = c.loop-index.index-index in
    record {
      long = length-set c.loop-index.marks (get_or c.args.list.now k 0) _ ∙ c.loop-index.invariant.long;
      left = unmark_more c.loop-index.marks c.args.list.now k 0 c.loop-index-test.true c.loop-index.invariant.left;
    }

pub returns-clause-none : goal.returns-clause-none
returns-clause-none c =
    let k = c.loop-index.index-index in
    unmarked c.loop-index.marks (drop k c.args.list.now)
    (drop_all k c.args.list.now c.loop-index-test.false) c.loop-index.invariant.left
