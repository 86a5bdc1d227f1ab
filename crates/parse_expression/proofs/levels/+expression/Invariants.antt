use Rattle.std.proofs.Common.{◌≡◌, ◌-◌, map, length, ◌+◌, ◌*◌}
use Rattle.contract_tree.specs.Tree.{tree_of}
use Rattle.contract_grammar.specs.contract_tokens.declared.token.Mark.TheVariants as m
use Rattle.contract_grammar.specs.Marks.{is, has, sign_of}
use Rattle.contract_grammar.specs.Rules.{turns, each}
use Rattle.contract_grammar.specs.Reading.{operand, comma_then, level_of, binary}
use Rattle.contract_grammar.specs.declared.limits.TheConstants.{WHOLE}
use Rattle.parse_expression.proofs.levels.+expression.Given as goal

-- the first summand falls when more becomes pending; the rest orders the calls that leave it
abbrev pub decreases-arguments : goal.decreases-arguments
decreases-arguments l = l.depth * 1000 + 2

abbrev pub decreases-builtin_call : goal.decreases-builtin_call
decreases-builtin_call l = l.depth * 1000 + 3

abbrev pub decreases-name_or_call : goal.decreases-name_or_call
decreases-name_or_call l = l.depth * 1000 + 3

abbrev pub decreases-prefix_operand : goal.decreases-prefix_operand
decreases-prefix_operand l = l.depth * 1000 + 3

abbrev pub decreases-group : goal.decreases-group
decreases-group l = l.depth * 1000 + 3

abbrev pub decreases-operand_by_start : goal.decreases-operand_by_start
decreases-operand_by_start l = l.depth * 1000 + 4

abbrev pub decreases-operand : goal.decreases-operand
decreases-operand l = l.depth * 1000 + 5

abbrev pub decreases-binary : goal.decreases-binary
decreases-binary l = l.depth * 1000 + l.level * 5 + 3

abbrev pub decreases-chain : goal.decreases-chain
decreases-chain l = l.depth * 1000 + l.level * 5 + 4

abbrev pub decreases-at_level : goal.decreases-at_level
decreases-at_level l = l.depth * 1000 + l.level * 5 + 7

abbrev pub decreases-binary_level : goal.decreases-binary_level
decreases-binary_level l = l.depth * 1000 + l.level * 5 + 6

abbrev pub decreases-rest : goal.decreases-rest
decreases-rest l = l.depth * 1000 + l.level * 5 + 5

abbrev pub decreases-item : goal.decreases-item
decreases-item l = l.depth * 1000 + 40

abbrev pub decreases-items : goal.decreases-items
decreases-items l = l.depth * 1000 + 41

abbrev pub decreases-more_items : goal.decreases-more_items
decreases-more_items l = l.depth * 1000 + 42

abbrev pub decreases-chain-loop-cursor : goal.decreases-chain-loop-cursor
decreases-chain-loop-cursor l = length l.cursor

abbrev pub invariant-chain-loop-cursor : goal.invariant-chain-loop-cursor
invariant-chain-loop-cursor l = turns (has (sign_of l.level)) (binary l.level (level_of (operand l.depth) (l.level - 1))) (tree_of l.left.expr) l.cursor ≡ turns (has (sign_of l.level)) (binary l.level (level_of (operand l.depth) (l.level - 1))) (tree_of l.fn.first.expr) l.initial.cursor

abbrev pub decreases-items-loop-cursor : goal.decreases-items-loop-cursor
decreases-items-loop-cursor l = length l.cursor

abbrev pub invariant-items-loop-cursor : goal.invariant-items-loop-cursor
invariant-items-loop-cursor l = each (is m.Comma) (comma_then (level_of (operand l.depth) WHOLE)) (map tree_of l.all.items.items) l.cursor ≡ each (is m.Comma) (comma_then (level_of (operand l.depth) WHOLE)) (map tree_of l.fn.earlier.items.items) l.initial.cursor
