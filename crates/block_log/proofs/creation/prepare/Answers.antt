use Rattle.std.proofs.Common.{ℕ, List, rules}
use Rattle.block_log.specs.Steps.{HasClosedHead, HasNoBlock}
use Rattle.block_log.proofs.Resting.{then_step}
use Rattle.block_log.proofs.TornHeads.{second_step}
use Rattle.block_log.proofs.creation.prepare.Goals as goal

pub returns-clause-makes : goal.returns-clause-makes
returns-clause-makes g c = record {
  head = search rules;
  images = λ (content : List ℕ) told.
      then_step g.M.Clock.now g.M.Clock.disk _ _ _ HasNoBlock HasClosedHead 1 8 content told (c.close_head.ensures.makes.images content told) c.in_ok-close_head.ensures.makes.head (rw c.copy_from_slice.ensures.after at c.write_through.ensures.images) second_step;
  still_known = search rules;
}
