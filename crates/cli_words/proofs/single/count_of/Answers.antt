use Rattle.cli_words.proofs.Commands.{not_counted}
use Rattle.cli_words.proofs.single.count_of.Goals as goal

pub returns-then-not-is_count : goal.returns-then-not-is_count
returns-then-not-is_count c = not_counted c.args.text.now c.in_ok-number.number c.in_ok-number.ensures (λ counted. absurd (cc (c.if-not-is_count.ensures.1 counted)))
