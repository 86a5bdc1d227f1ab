use Rattle.std.proofs.Common.{◌∙◌, sym, ap, subst, Option, ℕ, ◌+◌}
use Rattle.std.specs.Option.{option_or}
use Rattle.contract_check.specs.Faults.{wrong_argument}
use Rattle.contract_check.proofs.Arguments.{IsSeen, turn}
use Rattle.contract_check.proofs.expression.+expression.Goals as goal

pub call-loop-i-preserved : goal.call-loop-i-preserved
call-loop-i-preserved t c =
    let next = turn c.args.scope.now c.args.args.now c.parameter_kinds-params.result.now c.loop-i.i c.loop-i.wrong c.index-args-i.result c.in_ok-arg.arg c.loop-i.invariant c.loop-i-test.true c.index-args-i.is (sym c.in_ok-arg.ensures) in
    let same = c.or-wrong.ensures ∙ ap (option_or c.loop-i.wrong) (c.wrong_argument.ensures ∙ ap (λ param. wrong_argument param c.in_ok-arg.arg) c.nth_kind.ensures) in
    let P : Option ℕ → Type 0 = λ wrong. IsSeen c.args.scope.now c.args.args.now c.parameter_kinds-params.result.now (c.loop-i.i + 1) wrong in
    subst P (sym same) next
