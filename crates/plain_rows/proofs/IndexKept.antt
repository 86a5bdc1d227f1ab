-- One place more of a key changes what is kept of that key alone.
use Rattle.std.proofs.Common.{◌≡◌, ◌==◌, ℕ, List, [], ◌∷◌, ◌++◌, cond, Some, ap, ◌∙◌, inl, inr}
use Rattle.std.specs.BTreeMap.{BTreeMap, get}
use Rattle.std.specs.Ordering.{nat_cmp, is_eq}
use Rattle.std.specs.Cmp.Lexicographic.{pointwise, slice_cmp}
use Rattle.std.proofs.lemmas.Bool.{cases_Bool}
use Rattle.std.proofs.lemmas.Map.Text.{is_eq-slice_cmp}
use Rattle.std.proofs.lemmas.Slice.Eq.{bytes_eq-Decides}
use Rattle.plain_rows.specs.declared.places.Place.{Place}
use Rattle.plain_rows.specs.Places.{list_or_empty, places_in}

pub kept_more : (before after : BTreeMap (List ℕ) (List Place)) (key other : List ℕ) (place : Place)
    (list : List Place)
    → list ≡ places_in before key ++ place ∷ []
    → get (slice_cmp nat_cmp) after other ≡ cond (is_eq (slice_cmp nat_cmp key other)) (Some list)
    (get (slice_cmp nat_cmp) before other)
    → places_in after other ≡ cond (pointwise ◌==◌ key other) (places_in before other ++ place ∷ [])
    (places_in before other)
kept_more before after key other place list own updates = elim
    (cases_Bool (pointwise ◌==◌ key other)) [
      | inl t ↦ rw t (ap list_or_empty updates ∙ chosen t ∙ own
          ∙ ap (λ (k : List ℕ). places_in before k ++ place ∷ []) ((bytes_eq-Decides key other).0 t))
      | inr f ↦ rw f (ap list_or_empty updates ∙ chosen f)
    ]
  where
    chosen : {b : _} → pointwise ◌==◌ key other ≡ b
        → list_or_empty (cond (is_eq (slice_cmp nat_cmp key other)) (Some list)
        (get (slice_cmp nat_cmp) before other)) ≡ list_or_empty
        (cond b (Some list) (get (slice_cmp nat_cmp) before other))
    chosen e = ap (λ b. list_or_empty (cond b (Some list) (get (slice_cmp nat_cmp) before other)))
        (is_eq-slice_cmp key other ∙ e)
