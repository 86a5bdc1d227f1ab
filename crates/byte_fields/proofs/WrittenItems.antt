-- Writing items one after another in a loop writes what `flat_map` says.
use Rattle.std.proofs.Common.{◌≡◌, ℕ, zero, suc, ◌+◌, ◌<◌, ◌≤◌, List, [], ◌∷◌, ◌++◌, length, get_or, take, sym, ap, subst, ◌∙◌, append_assoc, arith}
use Rattle.std.specs.List.{concat, flat_map, AllByRecursion}
use Rattle.std.proofs.lemmas.List.{append-nil, take_more, take_all}
use Rattle.std.proofs.lemmas.List.Concat.{flat_map-append}
use Rattle.byte_fields.proofs.Laws.{concat-append}

-- These items were appended, and each is lawful.
pub record Written {A : Type 0} (fields : A → List (List ℕ)) (Is : A → Type 0) (old new : List ℕ) (items : List A) : Type 0 where
  pub bytes : new ≡ old ++ concat (flat_map fields items)
  pub lawful : AllByRecursion Is items

pub all_more : {A : Type 0} (Is : A → Type 0) (xs : List A) (x : A) → AllByRecursion Is xs → Is x → AllByRecursion Is (xs ++ x ∷ [])
all_more Is [] x all is = (is, tt)
all_more Is (y ∷ ys) x all is = (all.0, all_more Is ys x all.1 is)

pub all_at : {A : Type 0} (Is : A → Type 0) (xs : List A) (i : ℕ) (x : A) → i < length xs → x ≡ get_or xs i x → AllByRecursion Is xs → Is x
all_at Is [] i x lt e all = absurd (omega arith)
all_at Is (y ∷ ys) zero x lt e all = subst Is (sym e) all.0
all_at Is (y ∷ ys) (suc i) x lt e all = all_at Is ys i x (omega arith) e all.1

pub written_none : {A : Type 0} (fields : A → List (List ℕ)) (Is : A → Type 0) (old : List ℕ) → Written fields Is old old []
written_none fields Is old = record { bytes = sym (append-nil old); lawful = tt }

-- the fields of one more item
pub one_item_more : {A : Type 0} (fields : A → List (List ℕ)) (xs : List A) (i : ℕ) (x : A) → i < length xs → x ≡ get_or xs i x → concat (flat_map fields (take (i + 1) xs)) ≡ concat (flat_map fields (take i xs)) ++ concat (fields x)
one_item_more {A} fields xs i x lt e =
    let taken : take (i + 1) xs ≡ take i xs ++ x ∷ [] = take_more xs i x lt ∙ ap (λ (y : A). take i xs ++ y ∷ []) (sym e) in
    ap (λ (ys : List A). concat (flat_map fields ys)) taken
    ∙ ap concat (flat_map-append fields (take i xs) (x ∷ []) ∙ ap (λ (t : List (List ℕ)). flat_map fields (take i xs) ++ t) (append-nil (fields x))) ∙ concat-append (flat_map fields (take i xs)) (fields x)

pub written_more : {A : Type 0} (fields : A → List (List ℕ)) (Is : A → Type 0) (old new newer : List ℕ) (xs : List A) (i : ℕ) (x : A) → i < length xs → x ≡ get_or xs i x → newer ≡ new ++ concat (fields x) → Is x
    → Written fields Is old new (take i xs) → Written fields Is old newer (take (i + 1) xs)
written_more {A} fields Is old new newer xs i x lt e put is so_far =
    let taken : take (i + 1) xs ≡ take i xs ++ x ∷ [] = take_more xs i x lt ∙ ap (λ (y : A). take i xs ++ y ∷ []) (sym e) in
    record {
      bytes =
          put ∙ ap (λ (t : List ℕ). t ++ concat (fields x)) so_far.bytes ∙ append_assoc old (concat (flat_map fields (take i xs))) (concat (fields x))
          ∙ ap (λ (t : List ℕ). old ++ t) (sym (one_item_more fields xs i x lt e));
      lawful = subst (AllByRecursion Is) (sym taken) (all_more Is (take i xs) x so_far.lawful is);
    }

pub written_all : {A : Type 0} (fields : A → List (List ℕ)) (Is : A → Type 0) (old new : List ℕ) (xs : List A) (i : ℕ) → length xs ≤ i → Written fields Is old new (take i xs) → Written fields Is old new xs
written_all fields Is old new xs i le so_far = subst (Written fields Is old new) (take_all i xs le) so_far
