use Rattle.std.proofs.Common.{ℕ, List, false, subst, rules}
use Rattle.disk_model.specs.Disk.{Torn}
use Rattle.disk_model.proofs.Moments.{weaker}
use Rattle.block_log.specs.Log.{IsBlank}
use Rattle.block_log.specs.Steps.{HasClosedHead, HasNoBlock}
use Rattle.block_log.proofs.Resting.{rests_at, rests_keeps, rests_weaker}
use Rattle.block_log.proofs.TornHeads.{begun_head, blank_none, first_step}
use Rattle.block_log.proofs.creation.close_head.Goals as goal

pub returns-then-is_begun-clause-makes : goal.returns-then-is_begun-clause-makes
returns-then-is_begun-clause-makes g c = record {
  head = rests_weaker (IsBlank c.args.is_begun) HasClosedHead _ c.requires.blank
      (λ (content : List ℕ) blank. begun_head content (subst (λ b. IsBlank b content) c.if-is_begun.true blank));
  images = λ (content : List ℕ) told.
      let at = rests_at (IsBlank c.args.is_begun) _ content c.requires.blank told in
      rests_keeps g.M.Clock.now g.M.Clock.disk _ HasNoBlock content at.0 (blank_none c.args.is_begun content at.1);
  still_known = search rules;
}

pub returns-clause-makes : goal.returns-clause-makes
returns-clause-makes g c = record {
  head = search rules;
  images = λ (content : List ℕ) told.
      let at = rests_at (IsBlank c.args.is_begun) _ content c.requires.blank told in
      let blank : IsBlank false content = subst (λ b. IsBlank b content) c.if-is_begun.false at.1 in
      weaker g.M.Clock.now g.M.Clock.disk _ _ (Torn 0 1 content) HasNoBlock (c.write_through.ensures.images content at.0) (first_step content blank);
  still_known = search rules;
}
