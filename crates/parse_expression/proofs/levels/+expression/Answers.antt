-- The loops, and the two readers that are defined by recursion on a number.
use Rattle.std.proofs.Common.{rules, ◌≡◌, ◌-◌, ◌<◌, map, Err, sym, ap, ◌∙◌, subst, arith}
use Rattle.parse_expression.specs.declared.build.Subtree.{Subtree}
use Rattle.parse_expression.specs.declared.build.Subtrees.{Subtrees}
use Rattle.contract_tree.specs.Tree.{tree_of}
use Rattle.contract_grammar.specs.contract_tokens.declared.token.Mark.TheVariants as m
use Rattle.contract_grammar.specs.Grammar.{is_chained}
use Rattle.contract_grammar.specs.Marks.{is, has, sign_of}
use Rattle.contract_grammar.specs.Rules.{put, each, turns, next}
use Rattle.contract_grammar.specs.Reads.{Gives}
use Rattle.contract_grammar.specs.Reading.{operand, operand_in, inner_operand, comma_then, level_of, rest_of_level, binary}
use Rattle.contract_grammar.proofs.Turns.{level_none, level_more, operand_is}
use Rattle.contract_grammar.proofs.Shorter.{items_strict, binary_strict}
use Rattle.contract_grammar.proofs.Loops.{gives_by, loop_over, loop_on, loop_err}
use Rattle.contract_grammar.specs.declared.limits.TheConstants.{WHOLE}
use Rattle.parse_expression.proofs.levels.+expression.Goals as goal

pub operand-returns : goal.operand-returns
operand-returns t c = gives_by (λ b. tree_of b.expr) c.operand_by_start.result (operand c.args.depth c.args.cursor.now) (operand_in (inner_operand c.args.depth) c.args.cursor.now) c.operand_by_start.new.cursor (operand_is c.args.depth c.args.cursor.now) c.operand_by_start.ensures

pub chain-loop-cursor-smaller : goal.chain-loop-cursor-smaller
chain-loop-cursor-smaller t c = binary_strict c.args.depth c.args.level (c.args.level - 1) (tree_of c.loop-cursor.left.expr) c.loop-cursor.cursor c.binary.new.cursor (tree_of c.in_ok-left.left.expr) c.in_ok-left.ensures

pub chain-loop-cursor-preserved : goal.chain-loop-cursor-preserved
chain-loop-cursor-preserved t c = loop_on (has (sign_of c.args.level)) (binary c.args.level (level_of (operand c.args.depth) (c.args.level - 1))) (binary_strict c.args.depth c.args.level (c.args.level - 1)) (tree_of c.args.first.expr) c.args.cursor.now (tree_of c.loop-cursor.left.expr) c.loop-cursor.cursor c.loop-cursor.invariant (sym c.next_is_sign.ensures ∙ c.loop-cursor-test.true) (tree_of c.in_ok-left.left.expr) c.binary.new.cursor c.in_ok-left.ensures

pub chain-returns-in_err-left : goal.chain-returns-in_err-left
chain-returns-in_err-left t c =
    let same : c.from_residual.result ≡ Err c.in_err-left.field-0.0 = search rules in
    subst (λ r. Gives (λ b. tree_of b.expr) r (turns (has (sign_of c.args.level)) (binary c.args.level (level_of (operand c.args.depth) (c.args.level - 1))) (tree_of c.args.first.expr) c.args.cursor.now) c.binary.new.cursor) (sym same) (loop_err (has (sign_of c.args.level)) (binary c.args.level (level_of (operand c.args.depth) (c.args.level - 1))) (binary_strict c.args.depth c.args.level (c.args.level - 1)) (tree_of c.args.first.expr) c.args.cursor.now (tree_of c.loop-cursor.left.expr) c.loop-cursor.cursor c.loop-cursor.invariant Subtree (sym c.next_is_sign.ensures ∙ c.loop-cursor-test.true) (λ b. tree_of b.expr) c.in_err-left.field-0.0 c.binary.new.cursor c.in_err-left.ensures)

pub chain-returns : goal.chain-returns
chain-returns t c = loop_over (has (sign_of c.args.level)) (binary c.args.level (level_of (operand c.args.depth) (c.args.level - 1))) (binary_strict c.args.depth c.args.level (c.args.level - 1)) (tree_of c.args.first.expr) c.args.cursor.now (tree_of c.loop-cursor.left.expr) c.loop-cursor.cursor c.loop-cursor.invariant (sym c.next_is_sign.ensures ∙ c.loop-cursor-test.false)

pub items-loop-cursor-smaller : goal.items-loop-cursor-smaller
items-loop-cursor-smaller t c = items_strict c.args.depth (map tree_of c.loop-cursor.all.items.items) c.loop-cursor.cursor c.item.new.cursor (map tree_of c.in_ok-all.all.items.items) c.in_ok-all.ensures

pub items-loop-cursor-preserved : goal.items-loop-cursor-preserved
items-loop-cursor-preserved t c = loop_on (is m.Comma) (put (comma_then (level_of (operand c.args.depth) WHOLE))) (items_strict c.args.depth) (map tree_of c.args.earlier.items.items) c.args.cursor.now (map tree_of c.loop-cursor.all.items.items) c.loop-cursor.cursor c.loop-cursor.invariant (sym c.next_is.ensures ∙ c.loop-cursor-test.true) (map tree_of c.in_ok-all.all.items.items) c.item.new.cursor c.in_ok-all.ensures

pub items-returns-in_err-all : goal.items-returns-in_err-all
items-returns-in_err-all t c =
    let same : c.from_residual.result ≡ Err c.in_err-all.field-0.0 = search rules in
    subst (λ r. Gives (λ l. map tree_of l.items.items) r (each (is m.Comma) (comma_then (level_of (operand c.args.depth) WHOLE)) (map tree_of c.args.earlier.items.items) c.args.cursor.now) c.item.new.cursor) (sym same) (loop_err (is m.Comma) (put (comma_then (level_of (operand c.args.depth) WHOLE))) (items_strict c.args.depth) (map tree_of c.args.earlier.items.items) c.args.cursor.now (map tree_of c.loop-cursor.all.items.items) c.loop-cursor.cursor c.loop-cursor.invariant Subtrees (sym c.next_is.ensures ∙ c.loop-cursor-test.true) (λ l. map tree_of l.items.items) c.in_err-all.field-0.0 c.item.new.cursor c.in_err-all.ensures)

pub items-returns : goal.items-returns
items-returns t c = loop_over (is m.Comma) (put (comma_then (level_of (operand c.args.depth) WHOLE))) (items_strict c.args.depth) (map tree_of c.args.earlier.items.items) c.args.cursor.now (map tree_of c.loop-cursor.all.items.items) c.loop-cursor.cursor c.loop-cursor.invariant (sym c.next_is.ensures ∙ c.loop-cursor-test.false)

pub at_level-returns-then-level-eq0 : goal.at_level-returns-then-level-eq0
at_level-returns-then-level-eq0 t c = gives_by (λ b. tree_of b.expr) c.operand.result (level_of (operand c.args.depth) c.args.level c.args.cursor.now) (operand c.args.depth c.args.cursor.now) c.operand.new.cursor (ap (λ n. level_of (operand c.args.depth) n c.args.cursor.now) c.if-level-eq0.true ∙ level_none (operand c.args.depth) c.args.cursor.now) c.operand.ensures

pub at_level-returns : goal.at_level-returns
at_level-returns t c =
    let some : 0 < c.args.level = omega (arith, c.if-level-eq0.false) in
    gives_by (λ b. tree_of b.expr) c.binary_level.result (level_of (operand c.args.depth) c.args.level c.args.cursor.now) (next (rest_of_level (is_chained c.args.level) c.args.level (level_of (operand c.args.depth) (c.args.level - 1))) (level_of (operand c.args.depth) (c.args.level - 1) c.args.cursor.now)) c.binary_level.new.cursor (level_more (operand c.args.depth) c.args.level c.args.cursor.now some) c.binary_level.ensures
