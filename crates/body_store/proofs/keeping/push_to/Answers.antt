use Rattle.std.proofs.Common.{◌≡◌, ℕ, List, [], ◌∷◌, ◌++◌, subst, ap, ◌∙◌, sym}
use Rattle.std.specs.Rc.{rc_slice_items}
use Rattle.std.proofs.lemmas.List.{map-append}
use Rattle.lc_io.specs.Scratch.{ScratchState, IsKeptAt}
use Rattle.body_store.specs.Bodies.{KeptBody, bodies_of}
use Rattle.body_store.specs.Agreement.{Agrees, IsBodyOf}
use Rattle.body_store.specs.Cached.{pairs_of}
use Rattle.body_store.proofs.Agreeing.{agrees_on, agrees_more, agrees_pushed, is_last}
use Rattle.body_store.proofs.keeping.push_to.Given.{Over}
use Rattle.body_store.proofs.keeping.push_to.Goals as goal

module _ (g : Over) (c : goal.After-keep g) where
  abbrev old : List KeptBody
  old = c.args.kept.now

  abbrev after : ScratchState
  after = g.S.Scratch.state c.put.new.self

  abbrev one : KeptBody
  one = record { place = c.in_ok-place.place; body = rc_slice_items c.args.body }

  is_kept : IsKeptAt after c.in_ok-place.place (rc_slice_items c.args.body)
  is_kept = subst (IsKeptAt after c.in_ok-place.place) c.as_slice.ensures.value
      c.in_ok-place.ensures.put

  pushed : c.push.new.self ≡ old ++ one ∷ []
  pushed = c.in_ok-push.ensures.ok ∙ ap (λ (one : KeptBody). old ++ one ∷ []) c.new-one.ensures

  last : IsBodyOf (old ++ one ∷ []) (c.len.result, rc_slice_items c.args.body)
  last = subst (λ (index : ℕ). IsBodyOf (old ++ one ∷ []) (index, rc_slice_items c.args.body))
      (sym c.len.ensures) (is_last old one)

  agrees : Agrees (record { kept = old ++ one ∷ []; cached = pairs_of c.keep.new.cache.entries })
      after
  agrees =
      agrees_more (old ++ one ∷ []) (pairs_of c.args.cache.now.entries) _
      (c.len.result, rc_slice_items c.args.body) after c.keep.ensures.at_hand (λ told. last)
      (agrees_pushed _ one after is_kept
      (agrees_on _ _ after c.in_ok-place.ensures.retains c.requires.agrees))

pub returns-clause-pushed : goal.returns-clause-pushed
returns-clause-pushed g c = ap bodies_of (pushed g c)
    ∙ map-append (λ (one : KeptBody). one.body) (old g c) (one g c ∷ [])

pub returns-clause-agrees : goal.returns-clause-agrees
returns-clause-agrees g c =
    subst (λ (kept : List KeptBody). Agrees
    (record { kept = kept; cached = pairs_of c.keep.new.cache.entries }) (after g c))
    (sym (pushed g c)) (agrees g c)
