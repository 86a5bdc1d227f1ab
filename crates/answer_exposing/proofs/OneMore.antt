-- The items of a list, one after another: an invariant is about the items after an index, which are
-- still to come.
use Rattle.std.proofs.Common.{◌≡◌, ◌∙◌, ℕ, zero, suc, ◌+◌, ◌<◌, ◌≤◌, List, [], ◌∷◌, ◌++◌, length}
use Rattle.std.proofs.Common.{map, drop, get_or, slice_get, Some, refl, sym, ap, arith, append-nil}
use Rattle.std.proofs.Common.{append_assoc}
use Rattle.std.proofs.lemmas.List.{drop_more}
use Rattle.std.proofs.lemmas.Option.{slice_get_within, get_or_from_slice_get}

pub item_at : {A : Type 0} (xs : List A) (i : ℕ) → i < length xs → (x : A)
    × (slice_get xs i ≡ Some x)
item_at [] i low = absurd (omega (arith, low))
item_at (x ∷ xs) zero low = (x, refl)
item_at (x ∷ xs) (suc i) low = item_at xs i (omega (arith, low))

pub after : {A : Type 0} (xs : List A) (i : ℕ) (x : A) → slice_get xs i ≡ Some x
    → drop i xs ≡ x ∷ drop (i + 1) xs
after {A = A} xs i x at = drop_more xs i x (slice_get_within xs i x at)
    ∙ ap (λ (y : A). y ∷ drop (i + 1) xs) (get_or_from_slice_get xs i x x at)

pub after_item : {A : Type 0} (xs : List A) (i : ℕ) (x : A) → i < length xs → x ≡ get_or xs i x
    → drop i xs ≡ x ∷ drop (i + 1) xs
after_item {A = A} xs i x low is = drop_more xs i x low
    ∙ ap (λ (y : A). y ∷ drop (i + 1) xs) (sym is)

pub none_after : {A : Type 0} (xs : List A) (i : ℕ) → length xs ≤ i → drop i xs ≡ []
none_after [] zero le = refl
none_after [] (suc i) le = refl
none_after (x ∷ xs) zero le = absurd (omega (arith, le))
none_after (x ∷ xs) (suc i) le = none_after xs i (omega (arith, le))

-- ---- lists of texts

pub text_goes_on : {A B : Type 0} (f : A → B) (xs : List A) (i : ℕ) (x : A) (old new all : List B)
    → slice_get xs i ≡ Some x → new ≡ old ++ f x ∷ []
    → old ++ map f (drop i xs) ≡ all → new ++ map f (drop (i + 1) xs) ≡ all
text_goes_on {A = A} {B = B} f xs i x old new all at is before =
    let rest : List B = map f (drop (i + 1) xs) in
    ap (λ (texts : List B). texts ++ rest) is ∙ append_assoc old (f x ∷ []) rest
    ∙ ap (λ (ys : List A). old ++ map f ys) (sym (after xs i x at)) ∙ before

pub text_ends : {A B : Type 0} (f : A → B) (xs : List A) (i : ℕ) (old all : List B) → length xs ≤ i
    → old ++ map f (drop i xs) ≡ all → old ≡ all
text_ends {A = A} {B = B} f xs i old all le before =
    sym (append-nil old) ∙ ap (λ (ys : List A). old ++ map f ys) (sym (none_after xs i le))
    ∙ before
