use Rattle.std.proofs.Common.{◌∙◌, sym, ap, arith}
use Rattle.merkle_tree.specs.Tree.{Climb, one_higher, text_on_right}
use Rattle.merkle_tree.specs.Climbing.{start_at}
use Rattle.merkle_tree.proofs.Steps.{climb_to_right}
use Rattle.merkle_tree.proofs.climbing.+climb_to.Goals as goal

pub returns-else-index-half-clause-climbed : goal.returns-else-index-half-clause-climbed
returns-else-index-half-clause-climbed t c =
    climb_to_right c.args.height c.half_of-half.result c.args.index c.args.count (start_at c.args.leaf c.args.path.now) (omega arith) c.half_of-half.ensures c.if-half-count.true c.if-index-half.false
    ∙ ap (λ (climb : Climb). one_higher climb (text_on_right climb)) c.climb_to-else-index-half.ensures.climbed ∙ sym c.climb_on_right.ensures.climbed
