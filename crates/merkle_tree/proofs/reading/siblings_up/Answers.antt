use Rattle.std.proofs.Common.{◌∙◌, ◌++◌, sym, ap, arith, List, Vec, Global}
use Rattle.lc_base.specs.declared.digest.Digest.{Digest}
use Rattle.merkle_tree.specs.Levels.{sibling}
use Rattle.merkle_tree.proofs.Beside.{one_beside, all_beside}
use Rattle.merkle_tree.proofs.reading.siblings_up.Goals as goal

pub loop-level-preserved : goal.loop-level-preserved
loop-level-preserved c =
    let path = c.loop-level.path.items in
    let pushed = c.in_ok-push_sibling.ensures ∙ ap (λ (level : List Digest). path ++ sibling level c.loop-level.place) (c.as_slice.ensures.value ∙ ap (λ (level : Vec Digest Global). level.items) c.level-item.is) in
    one_beside c.args.levels.now c.loop-level.level-index c.loop-level.place path _ c.level-item.result (omega arith) pushed ∙ c.loop-level.invariant

pub returns : goal.returns
returns c = sym (all_beside c.args.levels.now c.loop-level.level-index c.loop-level.place c.loop-level.path.items (omega arith)) ∙ c.loop-level.invariant
