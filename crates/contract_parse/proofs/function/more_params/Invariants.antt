use Rattle.std.proofs.Common.{◌≡◌, length}
use Rattle.contract_tokens.specs.declared.token.Mark.TheVariants as m
use Rattle.contract_grammar.specs.Marks.{is}
use Rattle.contract_grammar.specs.Rules.{each}
use Rattle.contract_grammar.specs.Reading.{after_mark, param}
use Rattle.contract_parse.proofs.function.more_params.Given as goal

abbrev pub decreases-loop-cursor : goal.decreases-loop-cursor
decreases-loop-cursor l = length l.cursor

abbrev pub invariant-loop-cursor : goal.invariant-loop-cursor
invariant-loop-cursor l = each (is m.Comma) (λ n. after_mark m.Comma (param n)) l.all.items l.cursor ≡ each (is m.Comma) (λ n. after_mark m.Comma (param n)) l.fn.earlier.items l.initial.cursor
