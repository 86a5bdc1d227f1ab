use Rattle.std.proofs.Common.{◌∙◌, ap, sym, arith}
use Rattle.lc_base.specs.declared.digest.Digest.{Digest}
use Rattle.state_tree.proofs.Parts.{none_hashed, one_hashed}
use Rattle.state_tree.proofs.whole.lowest_hash.Goals as goal

pub returns-then-count-eq0 : goal.returns-then-count-eq0
returns-then-count-eq0 g c list are within = c.empty_hash.ensures
    ∙ sym (none_hashed list c.args.start c.args.count c.if-count-eq0.true)

pub returns-else-count-eq0 : goal.returns-else-count-eq0
returns-else-count-eq0 g c list are within =
    ap (λ (digest : Digest). digest.0) c.hash_of.ensures.hash
    ∙ sym (one_hashed list c.args.start c.args.count c.leaf.result
    (omega (arith, c.if-count-eq0.false)) within (c.leaf.ensures list are))
