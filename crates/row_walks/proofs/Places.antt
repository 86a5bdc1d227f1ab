-- A place that is inserted into an ordered set of places is a version inserted among others.
use Rattle.std.proofs.Common.{◌≡◌, ◌∙◌, true, false, List, [], ◌∷◌, map}
use Rattle.std.proofs.Common.{Ordering, Less, Equal, Greater, refl, ap, subst}
use Rattle.std.specs.Ordering.{match_ordering}
use Rattle.std.specs.BTreeSet.{insert_key}
use Rattle.lc_base.specs.declared.row.Dep.{Dep}
use Rattle.root_laws.specs.Ancestors.{comes_after, inserted, itself}
use Rattle.root_laws.specs.Places.{Place, version_at}
use Rattle.root_laws.proofs.Order.{not_after_itself}
use Rattle.root_laws.proofs.Places.{Tells, place_cmp, tells}

one_put : (first : Place) (places : List Place) (place : Place)
    → map version_at (insert_key place_cmp places place)
    ≡ inserted itself (version_at place) (map version_at places)
    → map version_at (insert_key place_cmp (first ∷ places) place)
    ≡ inserted itself (version_at place) (map version_at (first ∷ places))
one_put first places place rest =
    go (place_cmp place first) refl (tells (version_at place) (version_at first))
  where
    go : (o : Ordering) → place_cmp place first ≡ o
        → Tells (place_cmp place first) (version_at place) (version_at first)
        → map version_at (match_ordering (place_cmp place first) (place ∷ first ∷ places)
        (first ∷ places) (first ∷ insert_key place_cmp places place))
        ≡ inserted itself (version_at place) (map version_at (first ∷ places))
    go Less c told =
        let own : Tells Less (version_at place) (version_at first) =
        subst (λ (o : Ordering). Tells o (version_at place) (version_at first)) c told in
        rw (c, own.0, own.1) refl
    go Equal c told =
        let own : version_at first ≡ version_at place =
        subst (λ (o : Ordering). Tells o (version_at place) (version_at first)) c told in
        let one : comes_after (version_at first) (version_at place) ≡ false =
        ap (λ (v : Dep). comes_after v (version_at place)) own
        ∙ not_after_itself (version_at place) in
        let two : comes_after (version_at place) (version_at first) ≡ false =
        ap (comes_after (version_at place)) own ∙ not_after_itself (version_at place) in
        rw (c, one, two) refl
    go Greater c told =
        let own : comes_after (version_at first) (version_at place) ≡ true =
        subst (λ (o : Ordering). Tells o (version_at place) (version_at first)) c told in
        rw (c, own) (ap (λ (versions : List Dep). version_at first ∷ versions) rest)

pub put_in : (places : List Place) (place : Place)
    → map version_at (insert_key place_cmp places place)
    ≡ inserted itself (version_at place) (map version_at places)
put_in [] place = refl
put_in (first ∷ places) place = one_put first places place (put_in places place)
