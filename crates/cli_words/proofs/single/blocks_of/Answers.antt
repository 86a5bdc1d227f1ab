use Rattle.std.proofs.Common.{◌≡◌, ◌∙◌, ◌<◌, ◌^◌, sym, arith}
use Rattle.cli_words.proofs.OneCommand.{one_number}
use Rattle.cli_words.proofs.single.blocks_of.Goals as goal

pub returns-then-to-from : goal.returns-then-to-from
returns-then-to-from c = λ from to are first last.
    let low : from < 2 ^ 32 = omega (arith, are.in_order, are.last_fits) in
    let one : c.in_ok-from.from ≡ from =
    one_number c.in_ok-from.from from c.in_ok-from.ensures.0 low
    (sym c.in_ok-from.ensures.1 ∙ first) in
    let other : c.in_ok-to.to ≡ to =
    one_number c.in_ok-to.to to c.in_ok-to.ensures.0 are.last_fits
    (sym c.in_ok-to.ensures.1 ∙ last) in
    omega (arith, c.if-to-from.true, one, other, are.in_order)
