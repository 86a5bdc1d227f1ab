use Rattle.std.proofs.Common.{refl}
use Rattle.chain_input.proofs.Turns.{folded_whole, folded_refusal}
use Rattle.chain_input.proofs.folding.fold.Goals as goal

pub returns-in-Ok-Whole-clause-fold : goal.returns-in-Ok-Whole-clause-fold
returns-in-Ok-Whole-clause-fold g c =
    folded_whole _ (λ folder. folder.last) (λ s t chain frame turned is. is.judged)
    (g.I.Source.left c.args.source.now) _ refl
    (g.I.Source.left c.take_frames.new.source) _ c.in-Ok-Whole.chain
    (rw (c.new-chain.ensures, c.in-Ok-Whole.field-0-is) at c.in-Ok-Whole.ensures.takes)

pub returns-in-Ok-Refused-clause-fold : goal.returns-in-Ok-Refused-clause-fold
returns-in-Ok-Refused-clause-fold g c =
    folded_refusal _ (λ folder. folder.last) (λ s t chain frame turned is. is.judged)
    (g.I.Source.left c.args.source.now) _ refl
    (g.I.Source.left c.take_frames.new.source) _ c.in-Ok-Refused.frame c.in-Ok-Refused.cause
    (rw (c.new-chain.ensures, c.in-Ok-Refused.field-0-is) at c.in-Ok-Refused.ensures.takes)
