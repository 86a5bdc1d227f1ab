use Rattle.std.proofs.Common.{◌≡◌, map, length, ◌+◌, ◌*◌, []}
use Rattle.contract_tree.specs.Tree.{statement_of}
use Rattle.contract_tokens.specs.declared.token.Mark.TheVariants as m
use Rattle.contract_grammar.specs.Marks.{is_not}
use Rattle.contract_grammar.specs.Rules.{each}
use Rattle.contract_grammar.specs.Reading.{statement, block}
use Rattle.contract_parse.proofs.statement.+block.Given as goal

-- the first summand falls with each nested block; the rest orders the calls that leave it
abbrev pub decreases-block : goal.decreases-block
decreases-block l = l.nesting * 100

abbrev pub decreases-else_part : goal.decreases-else_part
decreases-else_part l = l.nesting * 100 + 5

abbrev pub decreases-if_statement : goal.decreases-if_statement
decreases-if_statement l = l.nesting * 100 + 7

abbrev pub decreases-while_statement : goal.decreases-while_statement
decreases-while_statement l = l.nesting * 100 + 6

abbrev pub decreases-statement : goal.decreases-statement
decreases-statement l = l.nesting * 100 + 8

abbrev pub decreases-push_statement : goal.decreases-push_statement
decreases-push_statement l = l.nesting * 100 + 9

abbrev pub decreases-statements : goal.decreases-statements
decreases-statements l = l.nesting * 100 + 10

abbrev pub decreases-open_block : goal.decreases-open_block
decreases-open_block l = l.nesting * 100 + 12

abbrev pub decreases-block_rest : goal.decreases-block_rest
decreases-block_rest l = l.nesting * 100 + 11

abbrev pub decreases-statements-loop-cursor : goal.decreases-statements-loop-cursor
decreases-statements-loop-cursor l = length l.cursor

abbrev pub invariant-statements-loop-cursor : goal.invariant-statements-loop-cursor
invariant-statements-loop-cursor l = each (is_not m.BraceClose) (λ n. statement (block l.nesting)) (map statement_of l.all.items) l.cursor ≡ each (is_not m.BraceClose) (λ n. statement (block l.nesting)) [] l.initial.cursor
