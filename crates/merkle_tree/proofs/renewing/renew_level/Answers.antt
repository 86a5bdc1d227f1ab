use Rattle.std.proofs.Common.{◌∙◌, List, ap, arith}
use Rattle.std.proofs.lemmas.List.{with_items_is}
use Rattle.lc_base.specs.declared.digest.Digest.{Digest}
use Rattle.merkle_tree.specs.Levels.{set_each}
use Rattle.merkle_tree.proofs.renewing.renew_level.Goals as goal

pub returns : goal.returns
returns c =
    with_items_is c.lengthen.new.level c.set_each.new.level (omega arith) ∙ c.set_each.ensures
    ∙ ap (λ (items : List Digest). set_each items c.args.hashes.now) (c.as_mut_slice.ensures.value ∙ c.lengthen.ensures)
