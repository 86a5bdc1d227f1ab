use Rattle.std.proofs.Common.{◌∙◌, ◌++◌, ◌/◌, ◌*◌, sym, ap, refl, arith, append-nil}
use Rattle.merkle_tree.proofs.Beside.{no_sibling}
use Rattle.merkle_tree.proofs.reading.push_sibling.Goals as goal

pub returns-then-left-level : goal.returns-then-left-level
returns-then-left-level c =
    let path = c.args.path.now.items in
    sym (append-nil path) ∙ ap (λ beside. path ++ beside) (sym (no_sibling c.args.level.now c.args.place (c.args.place / 2 * 2) refl (omega arith)))
