use Rattle.std.proofs.Common.{rules, ◌≡◌, map, Err, sym, ◌∙◌, subst}
use Rattle.std.specs.Global.{Vec}
use Rattle.contract_tree.specs.declared.tree.Function.{Function}
use Rattle.contract_tree.specs.Tree.{function_of}
use Rattle.contract_grammar.specs.Marks.{is_no_end}
use Rattle.contract_grammar.specs.Rules.{put, each}
use Rattle.contract_grammar.specs.Reads.{Gives}
use Rattle.contract_grammar.specs.Reading.{function}
use Rattle.contract_grammar.proofs.Loops.{loop_over, loop_on, loop_err}
use Rattle.contract_grammar.proofs.Shorter.{functions_strict}
use Rattle.contract_parse.proofs.function.functions.Goals as goal

pub returns-in_err-all : goal.returns-in_err-all
returns-in_err-all c =
    let same : c.from_residual.result ≡ Err c.in_err-all.field-0.0 = search rules in
    subst (λ r. Gives (λ v. map function_of v.items) r (each is_no_end (λ n. function) (map function_of c.args.earlier.items) c.args.cursor.now) c.push_function.new.cursor) (sym same) (loop_err is_no_end (put (λ n. function)) functions_strict (map function_of c.args.earlier.items) c.args.cursor.now (map function_of c.loop-cursor.all.items) c.loop-cursor.cursor c.loop-cursor.invariant (Vec Function) (sym c.goes_on.ensures ∙ c.loop-cursor-test.true) (λ v. map function_of v.items) c.in_err-all.field-0.0 c.push_function.new.cursor c.in_err-all.ensures)

pub loop-cursor-smaller : goal.loop-cursor-smaller
loop-cursor-smaller c = functions_strict (map function_of c.loop-cursor.all.items) c.loop-cursor.cursor c.push_function.new.cursor (map function_of c.in_ok-all.all.items) c.in_ok-all.ensures

pub loop-cursor-preserved : goal.loop-cursor-preserved
loop-cursor-preserved c = loop_on is_no_end (put (λ n. function)) functions_strict (map function_of c.args.earlier.items) c.args.cursor.now (map function_of c.loop-cursor.all.items) c.loop-cursor.cursor c.loop-cursor.invariant (sym c.goes_on.ensures ∙ c.loop-cursor-test.true) (map function_of c.in_ok-all.all.items) c.push_function.new.cursor c.in_ok-all.ensures

pub returns : goal.returns
returns c = loop_over is_no_end (put (λ n. function)) functions_strict (map function_of c.args.earlier.items) c.args.cursor.now (map function_of c.loop-cursor.all.items) c.loop-cursor.cursor c.loop-cursor.invariant (sym c.goes_on.ensures ∙ c.loop-cursor-test.false)
