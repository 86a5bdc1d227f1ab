use Rattle.std.proofs.Common.{◌∙◌, ◌+◌, ◌*◌, ◌/◌, sym, arith, refl}
use Rattle.std.proofs.lemmas.List.{get_or_default}
use Rattle.merkle_tree.proofs.Raising.{above_pair, above_last, same_digest}
use Rattle.merkle_tree.proofs.pairing.hash_over.Goals as goal

pub returns-then-left-level : goal.returns-then-left-level
returns-then-left-level c =
    let left = c.args.place / 2 * 2 in
    let level = c.args.level.now in
    same_digest _ _ (c.node_hash.ensures) ∙ sym (above_pair level c.args.place left c.args.none _ _ refl (omega arith) (get_or_default level left _ c.args.none (omega arith)) (get_or_default level (left + 1) _ c.args.none (omega arith)))

pub returns-then-left-level-2 : goal.returns-then-left-level-2
returns-then-left-level-2 c =
    let left = c.args.place / 2 * 2 in
    get_or_default c.args.level.now left _ c.args.none (omega arith) ∙ sym (above_last c.args.level.now c.args.place left c.args.none refl (omega arith))
