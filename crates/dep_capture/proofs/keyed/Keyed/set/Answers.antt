use Rattle.std.proofs.Common.{◌==◌, ◌∙◌, ap, sym, subst}
use Rattle.std.specs.Cmp.Lexicographic.{pointwise}
use Rattle.dep_capture.specs.Keyed.{place_of, ArePlaces}
use Rattle.dep_capture.proofs.Places.{there_not, places_stay}
use Rattle.dep_capture.proofs.keyed.Keyed.set.Goals as goal

pub push-requires : goal.push-requires
push-requires g c =
    let key_of = g.T.HasKey.key in
    there_not (λ item. pointwise ◌==◌ (key_of item) (key_of c.args.item)) c.args.self.now
    (ap (place_of key_of c.args.self.now) (sym c.key.ensures) ∙ sym c.place_of.ensures
    ∙ c.in-None.is)

pub invariant_of-self : goal.invariant_of-self
invariant_of-self g c =
    let key_of = g.T.HasKey.key in
    subst (ArePlaces key_of c.self.inside.places) (sym c.replace.ensures)
    (places_stay key_of c.self.inside.places c.self.inside.items.items c.args.item c.in-Some.place
    c.self.invariant
    (ap (place_of key_of c.self.inside.items.items) (sym c.key.ensures)
    ∙ ap (λ items. place_of key_of items c.key.result.now) c.self.view_is
    ∙ sym c.place_of.ensures ∙ c.in-Some.is))
