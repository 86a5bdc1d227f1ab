use Rattle.std.proofs.Common.{rules, ◌≡◌, Err, sym, ◌∙◌, subst}
use Rattle.std.specs.Global.{Vec}
use Rattle.contract_tree.specs.declared.tree.Param.{Param}
use Rattle.contract_tokens.specs.declared.token.Mark.TheVariants as m
use Rattle.contract_grammar.specs.Marks.{is}
use Rattle.contract_grammar.specs.Rules.{put, each}
use Rattle.contract_grammar.specs.Reads.{Gives}
use Rattle.contract_grammar.specs.Reading.{after_mark, param}
use Rattle.contract_grammar.proofs.Loops.{loop_over, loop_on, loop_err}
use Rattle.contract_grammar.proofs.Shorter.{params_strict}
use Rattle.contract_parse.proofs.function.more_params.Goals as goal

pub returns-in_err-all : goal.returns-in_err-all
returns-in_err-all c =
    let same : c.from_residual.result ≡ Err c.in_err-all.field-0.0 = search rules in
    subst (λ r. Gives (λ v. v.items) r (each (is m.Comma) (λ n. after_mark m.Comma (param n)) c.args.earlier.items c.args.cursor.now) c.push_param.new.cursor) (sym same) (loop_err (is m.Comma) (put (λ n. after_mark m.Comma (param n))) params_strict c.args.earlier.items c.args.cursor.now c.loop-cursor.all.items c.loop-cursor.cursor c.loop-cursor.invariant (Vec Param) (sym c.next_is.ensures ∙ c.loop-cursor-test.true) (λ v. v.items) c.in_err-all.field-0.0 c.push_param.new.cursor c.in_err-all.ensures)

pub loop-cursor-smaller : goal.loop-cursor-smaller
loop-cursor-smaller c = params_strict c.loop-cursor.all.items c.loop-cursor.cursor c.push_param.new.cursor c.in_ok-all.all.items c.in_ok-all.ensures

pub loop-cursor-preserved : goal.loop-cursor-preserved
loop-cursor-preserved c = loop_on (is m.Comma) (put (λ n. after_mark m.Comma (param n))) params_strict c.args.earlier.items c.args.cursor.now c.loop-cursor.all.items c.loop-cursor.cursor c.loop-cursor.invariant (sym c.next_is.ensures ∙ c.loop-cursor-test.true) c.in_ok-all.all.items c.push_param.new.cursor c.in_ok-all.ensures

pub returns : goal.returns
returns c = loop_over (is m.Comma) (put (λ n. after_mark m.Comma (param n))) params_strict c.args.earlier.items c.args.cursor.now c.loop-cursor.all.items c.loop-cursor.cursor c.loop-cursor.invariant (sym c.next_is.ensures ∙ c.loop-cursor-test.false)
