use Rattle.std.proofs.Common.{◌≡◌, ℕ, List, true, Some, subst, ◌∙◌, sym}
use Rattle.std.specs.Rc.{rc_slice_items}
use Rattle.lc_io.specs.Scratch.{ScratchState, is_known, HoldsAt}
use Rattle.body_store.specs.Bodies.{KeptBody, body_at}
use Rattle.body_store.specs.Cached.{pairs_of}
use Rattle.body_store.proofs.Agreeing.{agrees_on, agrees_fewer, agrees_more, body_read}
use Rattle.body_store.proofs.keeping.body_from.Given.{Over}
use Rattle.body_store.proofs.keeping.body_from.Goals as goal

pub returns-in_err-body-clause-agrees : goal.returns-in_err-body-clause-agrees
returns-in_err-body-clause-agrees g c = agrees_fewer _ _ _ _ c.body_at_hand.ensures.kept c.requires.agrees

pub returns-in-Some-clause-agrees : goal.returns-in-Some-clause-agrees
returns-in-Some-clause-agrees g c = agrees_fewer _ _ _ _ c.body_at_hand.ensures.kept c.requires.agrees

pub returns-in_err-body-2-clause-agrees : goal.returns-in_err-body-2-clause-agrees
returns-in_err-body-2-clause-agrees g c = agrees_on _ _ _ c.read.ensures.scratch.retains
    (agrees_fewer _ _ _ _ c.body_at_hand.ensures.kept c.requires.agrees)

module _ (g : Over) (c : goal.After-keep_shared g) where
  abbrev kept : List KeptBody
  kept = c.args.kept.now

  abbrev before : ScratchState
  before = g.S.Scratch.state c.args.scratch.now

  body_is : is_known before ≡ true
      → body_at kept c.args.index.0 ≡ Some (rc_slice_items c.in_ok-body-2.body)
  body_is told =
      body_read (record { kept = kept; cached = pairs_of c.args.cache.now.entries }) before
      c.args.index.0 c.at-one.result.now (rc_slice_items c.in_ok-body-2.body)
      c.requires.agrees c.requires.within c.at-one.ensures
      (subst (λ (place : ℕ). HoldsAt before place (rc_slice_items c.in_ok-body-2.body))
      c.place.ensures c.in_ok-body-2.ensures.bytes)
      (c.in_ok-body-2.ensures.len ∙ c.len.ensures) told

pub returns-clause-body : goal.returns-clause-body
returns-clause-body g c = body_is g c

pub returns-clause-agrees : goal.returns-clause-agrees
returns-clause-agrees g c =
    agrees_more (kept g c) _ _ _ _ c.keep_shared.ensures.at_hand
    (λ told. body_is g c (sym c.read.ensures.scratch.retains.known ∙ told))
    (agrees_on _ (before g c) _ c.read.ensures.scratch.retains
    (agrees_fewer (kept g c) _ _ _ c.body_at_hand.ensures.kept c.requires.agrees))
