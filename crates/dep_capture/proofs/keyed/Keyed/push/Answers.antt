use Rattle.std.proofs.Common.{◌≡◌, ◌∙◌, false, cond, Some, sym, subst}
use Rattle.std.specs.BTreeMap.{get}
use Rattle.std.specs.Ordering.{nat_cmp, is_eq}
use Rattle.std.specs.Cmp.Lexicographic.{slice_cmp}
use Rattle.dep_capture.specs.Keyed.{has_key, ArePlaces}
use Rattle.dep_capture.proofs.Places.{places_more}
use Rattle.dep_capture.proofs.keyed.Keyed.push.Goals as goal

pub invariant_of-self-in-Ok : goal.invariant_of-self-in-Ok
invariant_of-self-in-Ok g c =
    let key_of = g.T.HasKey.key in
    let free = subst (λ items. has_key key_of items (key_of c.args.item) ≡ false)
    (sym c.self.view_is) c.requires in
    subst (ArePlaces key_of c.insert.new.self) (sym c.in_ok-push.ensures.items)
    (places_more key_of c.self.inside.places c.insert.new.self c.self.inside.items.items c.args.item
    c.self.invariant free
    (λ other. c.in-Ok.ensures.updates.0 other
    ∙ (λ i. cond (is_eq (slice_cmp nat_cmp (c.key-key.ensures i) other))
    (Some ((c.len-place.ensures ∙ c.self.inside.items.ok.0) i))
    (get (slice_cmp nat_cmp) c.self.inside.places other))))
