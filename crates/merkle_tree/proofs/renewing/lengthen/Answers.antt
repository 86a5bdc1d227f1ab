use Rattle.std.proofs.Common.{◌∙◌, List, ap, arith}
use Rattle.lc_base.specs.declared.digest.Digest.{Digest}
use Rattle.merkle_tree.specs.Levels.{level_of_length}
use Rattle.merkle_tree.proofs.Renewed.{one_longer}
use Rattle.merkle_tree.proofs.renewing.lengthen.Goals as goal

pub loop-level-preserved : goal.loop-level-preserved
loop-level-preserved c = record {
  longer = ap (λ (items : List Digest). level_of_length items c.args.count) c.in-Ok.ensures.items
      ∙ one_longer c.loop-level.level.items c.args.count (omega (arith, c.loop-level-test.true, c.len.ensures, c.loop-level.level.ok)) ∙ c.loop-level.invariant.longer;
  room = omega (arith, c.in-Ok.ensures.capacity, c.loop-level.invariant.room);
}
