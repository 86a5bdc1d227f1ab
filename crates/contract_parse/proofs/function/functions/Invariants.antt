use Rattle.std.proofs.Common.{◌≡◌, map, length}
use Rattle.contract_tree.specs.Tree.{function_of}
use Rattle.contract_grammar.specs.Marks.{is_no_end}
use Rattle.contract_grammar.specs.Rules.{each}
use Rattle.contract_grammar.specs.Reading.{function}
use Rattle.contract_parse.proofs.function.functions.Given as goal

abbrev pub decreases-loop-cursor : goal.decreases-loop-cursor
decreases-loop-cursor l = length l.cursor

abbrev pub invariant-loop-cursor : goal.invariant-loop-cursor
invariant-loop-cursor l = each is_no_end (λ n. function) (map function_of l.all.items) l.cursor ≡ each is_no_end (λ n. function) (map function_of l.fn.earlier.items) l.initial.cursor
