-- The loop, and the reader that is defined by recursion on a number.
use Rattle.std.proofs.Common.{rules, ◌≡◌, Ok, Err, ◌-◌, map, [], sym, ap, ◌∙◌, subst, arith}
use Rattle.std.specs.Global.{Vec}
use Rattle.contract_tree.specs.declared.tree.Statement.{Statement}
use Rattle.contract_tree.specs.Tree.{tree_of, statement_of, statement_list}
use Rattle.contract_tokens.specs.declared.token.Mark.TheVariants as m
use Rattle.contract_grammar.specs.Marks.{is, is_not}
use Rattle.contract_grammar.specs.declared.Obstacle.TheVariants.{Nesting}
use Rattle.contract_grammar.specs.Rules.{put, refuse, seq, each}
use Rattle.contract_grammar.specs.Reads.{Gives}
use Rattle.contract_grammar.specs.Reading.{before_mark, if_statement, statement, block, block_of}
use Rattle.contract_grammar.proofs.Turns.{block_none, block_more}
use Rattle.contract_grammar.proofs.Loops.{preceded_taken, gives_by, loop_over, loop_on, loop_err}
use Rattle.contract_grammar.proofs.Shorter.{statements_strict}
use Rattle.contract_parse.specs.Blocks.{if_of}
use Rattle.contract_parse.proofs.Blocks.{if_of_is, if_read, stops_by}
use Rattle.contract_parse.proofs.statement.+block.Goals as goal

pub statements-loop-cursor-smaller : goal.statements-loop-cursor-smaller
statements-loop-cursor-smaller t c = statements_strict c.args.nesting (map statement_of c.loop-cursor.all.items) c.loop-cursor.cursor c.push_statement.new.cursor (map statement_of c.in_ok-all.all.items) c.in_ok-all.ensures

pub statements-loop-cursor-preserved : goal.statements-loop-cursor-preserved
statements-loop-cursor-preserved t c = loop_on (is_not m.BraceClose) (put (λ n. statement (block c.args.nesting))) (statements_strict c.args.nesting) [] c.args.cursor.now (map statement_of c.loop-cursor.all.items) c.loop-cursor.cursor c.loop-cursor.invariant (sym c.next_is_other.ensures ∙ c.loop-cursor-test.true) (map statement_of c.in_ok-all.all.items) c.push_statement.new.cursor c.in_ok-all.ensures

pub statements-returns-in_err-all : goal.statements-returns-in_err-all
statements-returns-in_err-all t c =
    let same : c.from_residual.result ≡ Err c.in_err-all.field-0.0 = search rules in
    subst (λ r. Gives (λ v. map statement_of v.items) r (each (is_not m.BraceClose) (λ n. statement (block c.args.nesting)) [] c.args.cursor.now) c.push_statement.new.cursor) (sym same) (loop_err (is_not m.BraceClose) (put (λ n. statement (block c.args.nesting))) (statements_strict c.args.nesting) [] c.args.cursor.now (map statement_of c.loop-cursor.all.items) c.loop-cursor.cursor c.loop-cursor.invariant (Vec Statement) (sym c.next_is_other.ensures ∙ c.loop-cursor-test.true) (λ v. map statement_of v.items) c.in_err-all.field-0.0 c.push_statement.new.cursor c.in_err-all.ensures)

pub statements-returns : goal.statements-returns
statements-returns t c = loop_over (is_not m.BraceClose) (put (λ n. statement (block c.args.nesting))) (statements_strict c.args.nesting) [] c.args.cursor.now (map statement_of c.loop-cursor.all.items) c.loop-cursor.cursor c.loop-cursor.invariant (sym c.next_is_other.ensures ∙ c.loop-cursor-test.false)

pub block-returns : goal.block-returns
block-returns t c = gives_by (λ v. statement_list (map statement_of v.items)) c.open_block.result (block c.args.nesting c.args.cursor.now) (block_of (block (c.args.nesting - 1)) c.args.cursor.now) c.open_block.new.cursor (block_more c.args.nesting c.args.cursor.now (omega (arith, c.if-nesting-eq0.false))) c.open_block.ensures

pub block-returns-then-nesting-eq0 : goal.block-returns-then-nesting-eq0
block-returns-then-nesting-eq0 t c = gives_by (λ v. statement_list (map statement_of v.items)) c.refuse_block.result (block c.args.nesting c.args.cursor.now) (refuse Nesting (is m.BraceOpen) c.args.cursor.now) c.refuse_block.new.cursor (ap (λ n. block n c.args.cursor.now) c.if-nesting-eq0.true ∙ block_none c.args.cursor.now) c.refuse_block.ensures

pub open_block-returns : goal.open_block-returns
open_block-returns t c =
    let rest = seq (each (is_not m.BraceClose) (λ n. statement (block c.args.nesting)) []) (λ ss. before_mark m.BraceClose (statement_list ss)) in
    gives_by (λ v. statement_list (map statement_of v.items)) c.block_rest.result (block_of (block c.args.nesting) c.args.cursor.now) (rest c.take.new.self) c.block_rest.new.cursor (preceded_taken m.BraceOpen rest c.args.cursor.now c.take.new.self c.in_ok-take.field-0 c.in_ok-take.ensures.read) c.block_rest.ensures

pub if_statement-returns : goal.if_statement-returns
if_statement-returns t c =
    let at = c.in_ok-at.at in
    let test = tree_of c.in_ok-test.test in
    let first = statement_list (map statement_of c.in_ok-first.first.items) in
    if_read (block c.args.nesting) c.args.cursor.now _ _ _ at test first c.in_ok-at.ensures.read c.in_ok-test.ensures c.in_ok-first.ensures
    ∙ c.in_ok-second.ensures at test first
    ∙ ap (λ s. (Ok s, c.else_part.new.cursor)) (sym (if_of_is at c.in_ok-test.test c.in_ok-first.first c.in_ok-second.second))

pub if_statement-returns-in_err-second : goal.if_statement-returns-in_err-second
if_statement-returns-in_err-second t c =
    let at = c.in_ok-at.at in
    let test = tree_of c.in_ok-test.test in
    let first = statement_list (map statement_of c.in_ok-first.first.items) in
    let read = if_read (block c.args.nesting) c.args.cursor.now _ _ _ at test first c.in_ok-at.ensures.read c.in_ok-test.ensures c.in_ok-first.ensures in
    let same : c.from_residual-in_err-second.result ≡ Err c.in_err-second.field-0.0 = search rules in
    subst (λ r. Gives statement_of r (if_statement (block c.args.nesting) c.args.cursor.now) c.else_part.new.cursor) (sym same)
    (stops_by statement_of (if_of at test first) c.in_err-second.field-0.0 _ _ c.else_part.new.cursor read (c.in_err-second.ensures at test first))
