use Rattle.std.proofs.Common.{◌∙◌, ℕ, ap}
use Rattle.skip_links.specs.Paths.{onward}
use Rattle.skip_links.proofs.Bound.{late}
use Rattle.skip_links.proofs.walking.next_block.Goals as goal

pub returns : goal.returns
returns c = rw (late c.args.block c.args.at c.if-block-at.false) (c.onward.ensures ∙ ap (onward (λ (link : ℕ). link) c.args.at) (c.as_slice.ensures ∙ c.in_ok-links.ensures.blocks))
