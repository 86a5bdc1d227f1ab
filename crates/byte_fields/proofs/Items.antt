-- Fields one after another, as many as a count before them says.
use Rattle.std.proofs.Common.{◌≡◌, ℕ, zero, suc, List, [], ◌∷◌, ◌++◌, length, drop, refl, sym, ap, subst, arith}
use Rattle.std.specs.List.{flat_map, AllByRecursion}
use Rattle.std.proofs.lemmas.List.{append-nil}
use Rattle.byte_fields.specs.Reading.{Field, bind_at, items_at}
use Rattle.byte_fields.proofs.Laws.{IsField, bind_field, ret_field, renamed}

-- n values of a kind
abbrev pub Items : {A : Type 0} → (A → Type 0) → ℕ → List A → Type 0
Items Is n xs = (length xs ≡ n) × AllByRecursion Is xs

-- the first item, or `other` if there is none
abbrev first_or : {A : Type 0} → A → List A → A
first_or other [] = other
first_or other (x ∷ xs) = x

no_items : {A : Type 0} (Is : A → Type 0) (xs : List A) → length xs ≡ 0 → xs ≡ []
no_items Is [] e = refl
no_items Is (x ∷ xs) e = absurd (omega arith)

-- the first and the others, taken apart and joined
parts_are : {A : Type 0} (Is : A → Type 0) (other : A) (n : ℕ) (xs : List A) → Is (first_or other xs) × (Items Is n (drop 1 xs) × (xs ≡ first_or other xs ∷ drop 1 xs)) → Items Is (suc n) xs
parts_are Is other n [] is = absurd cc
parts_are Is other n (x ∷ xs) is = (ap suc is.1.0.0, (is.0, is.1.0.1))

are_parts : {A : Type 0} (Is : A → Type 0) (other : A) (n : ℕ) (xs : List A) → Items Is (suc n) xs → Is (first_or other xs) × (Items Is n (drop 1 xs) × (xs ≡ first_or other xs ∷ drop 1 xs))
are_parts Is other n [] is = absurd (omega (arith, is.0))
are_parts Is other n (x ∷ xs) is = (is.1.0, ((omega (arith, is.0), is.1.1), refl))

same_fields : {A : Type 0} (fields : A → List (List ℕ)) (other : A) (xs : List A) → xs ≡ first_or other xs ∷ drop 1 xs → fields (first_or other xs) ++ (flat_map fields (drop 1 xs) ++ []) ≡ flat_map fields xs
same_fields fields other [] e = absurd cc
same_fields fields other (x ∷ xs) e = ap (λ (t : List (List ℕ)). fields x ++ t) (append-nil (flat_map fields xs))

pub items_field : {A : Type 0} {item : List ℕ → Field A} {fields : A → List (List ℕ)} {Is : A → Type 0} → IsField item fields Is → (n : ℕ) → IsField (items_at item n) (flat_map fields) (Items Is n)
unfolding items_at
items_field {A} {item} {fields} {Is} field zero = renamed (ret_field []) (λ xs is. subst (Items Is 0) (sym is) (refl, tt)) (λ xs is. no_items Is xs is.0) (λ xs is. ap (flat_map fields) (sym is))
items_field {A} {item} {fields} {Is} field (suc n) =
    let other : A = field.some.value in
    let others = items_field field n in
    let after = λ (x : A) (is_x : Is x). bind_field {Is_b = λ ys xs. xs ≡ x ∷ ys} (λ (xs : List A). drop 1 xs) others (λ ys is_ys. ret_field (x ∷ ys)) (λ ys xs is_ys is_xs. ap (λ (zs : List A). drop 1 zs) is_xs) in
    renamed (bind_field {Is_b = λ x xs. Items Is n (drop 1 xs) × (xs ≡ x ∷ drop 1 xs)} (first_or other) field after (λ x xs is_x is_xs. ap (first_or other) is_xs.1))
    (parts_are Is other n) (are_parts Is other n) (λ xs is. same_fields fields other xs is.1.1)

-- a count, then as many fields
pub counted_field : {A : Type 0} {count : List ℕ → Field ℕ} {count_fields : ℕ → List (List ℕ)} {IsCount : ℕ → Type 0} {item : List ℕ → Field A} {fields : A → List (List ℕ)} {Is : A → Type 0}
    → IsField count count_fields IsCount → IsField item fields Is → IsField (bind_at count (items_at item)) (λ xs. count_fields (length xs) ++ flat_map fields xs) (λ xs. IsCount (length xs) × AllByRecursion Is xs)
counted_field {A} {count} {count_fields} {IsCount} {item} {fields} {Is} number field =
    renamed (bind_field {Is_b = λ n xs. Items Is n xs} length number (λ n is_n. items_field field n) (λ n xs is_n is_xs. is_xs.0))
    (λ xs is. (is.0, is.1.1)) (λ xs is. (is.0, (refl, is.1))) (λ xs is. refl)
