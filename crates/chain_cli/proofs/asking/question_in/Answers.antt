use Rattle.std.proofs.Common.{ℕ, ◌-◌, ap, ◌∙◌}
use Rattle.chain_cli.proofs.Asked.{last_asked}
use Rattle.chain_cli.proofs.asking.question_in.Goals as goal

pub returns-in-AtLast : goal.returns-in-AtLast
returns-in-AtLast c blocks stands =
    last_asked c.args.chain.now c.args.asked.now c.in-AtLast.kind c.in-AtLast.key
    c.saturating_sub.result blocks c.in-AtLast.is
    (c.saturating_sub.ensures ∙ ap (λ (count : ℕ). count - 1) c.len.ensures) stands
