-- Lists in general: what holds of all items, filters, maps, and what is found from the back.
use Rattle.std.proofs.Common.{◌≡◌, ◌∙◌, ◌⊎◌, Bool, true, false, ◌||◌, suc, List, [], ◌∷◌, ◌++◌, Option, Some, None, refl, sym, ap, subst, arith, map, filter, reverse, inl, inr}
use Rattle.std.specs.List.{find, list_any, filter_map, AllByRecursion, Contains}
use Rattle.std.specs.Option.{option_map, option_or, is_some}
use Rattle.std.proofs.lemmas.List.{map-append, reverse-append}
use Rattle.std.proofs.lemmas.List.Elements.{All-from_recursion}
use Rattle.std.proofs.lemmas.List.Folds.{find-append}
use Rattle.std.proofs.lemmas.Bool.{cases_Bool}
use Rattle.std.proofs.lemmas.Option.{none-some, same_Some}
pub use Rattle.skip_links.proofs.Lists.{not_both, all_weaker, all_append, all_reverse, filter_reverse, find_on, find_filter, any_filter}

pub or_false : (b : Bool) → (b || false) ≡ b
or_false true = refl
or_false false = refl

pub or_true : (b : Bool) → (b || true) ≡ true
or_true true = refl
or_true false = refl

pub or_assoc : (a b c : Bool) → ((a || b) || c) ≡ (a || (b || c))
or_assoc true b c = refl
or_assoc false b c = refl

pub option_cases : {X : Type 0} (o : Option X) → (o ≡ None) ⊎ ((x : X) × (o ≡ Some x))
option_cases None = inl refl
option_cases (Some x) = inr (x, refl)

-- ---- what holds of all items

pub all_both : {X : Type 0} (P Q : X → Type 0) (xs : List X) → AllByRecursion P xs → AllByRecursion Q xs → AllByRecursion (λ x. P x × Q x) xs
all_both P Q [] h k = tt
all_both P Q (x ∷ xs) h k = ((h.0, k.0), all_both P Q xs h.1 k.1)

pub all_front : {X : Type 0} (P : X → Type 0) (xs ys : List X) → AllByRecursion P (xs ++ ys) → AllByRecursion P xs
all_front P [] ys h = tt
all_front P (x ∷ xs) ys h = (h.0, all_front P xs ys h.1)

pub all_back : {X : Type 0} (P : X → Type 0) (xs ys : List X) → AllByRecursion P (xs ++ ys) → AllByRecursion P ys
all_back P [] ys h = h
all_back P (x ∷ xs) ys h = all_back P xs ys h.1

pub all_map : {X Y : Type 0} (P : Y → Type 0) (f : X → Y) (xs : List X) → AllByRecursion (λ x. P (f x)) xs → AllByRecursion P (map f xs)
all_map P f [] h = tt
all_map P f (x ∷ xs) h = (h.0, all_map P f xs h.1)

pub all_filter_map : {X Y : Type 0} (P : Y → Type 0) (h : X → Option Y) (xs : List X) → ((x : X) (y : Y) → h x ≡ Some y → P y) → AllByRecursion P (filter_map h xs)
all_filter_map P h [] f = tt
all_filter_map P h (x ∷ xs) f = elim (option_cases (h x)) [
  | inl e ↦ rw e (all_filter_map P h xs f)
  | inr s ↦ rw s.1 (f x s.0 s.1, all_filter_map P h xs f)
]

pub all_contained : {X : Type 0} (xs : List X) → AllByRecursion (Contains xs) xs
all_contained {X = X} [] = tt
all_contained {X = X} (x ∷ xs) = ((0, omega arith, refl), all_weaker (Contains xs) (Contains (x ∷ xs)) (λ y c. (suc c.0, omega (arith, c.1), c.2)) xs (all_contained xs))

pub contained : {X : Type 0} (P : X → Type 0) (xs : List X) (x : X) → AllByRecursion P xs → Contains xs x → P x
contained {X = X} P xs x all has = subst P has.2 (All-from_recursion P xs all has.0 x has.1)

-- ---- filters and maps

pub keep_all : {X : Type 0} (p : X → Bool) (xs : List X) → AllByRecursion (λ x. p x ≡ true) xs → filter p xs ≡ xs
keep_all {X = X} p [] h = refl
keep_all {X = X} p (x ∷ xs) h = rw h.0 (ap (λ (t : List X). x ∷ t) (keep_all p xs h.1))

pub keep_none : {X : Type 0} (p : X → Bool) (xs : List X) → AllByRecursion (λ x. p x ≡ false) xs → filter p xs ≡ []
keep_none p [] h = refl
keep_none p (x ∷ xs) h = rw h.0 (keep_none p xs h.1)

pub map_on : {X Y : Type 0} (f g : X → Y) (xs : List X) → AllByRecursion (λ x. f x ≡ g x) xs → map f xs ≡ map g xs
map_on f g [] h = refl
map_on f g (x ∷ xs) h = let rest = map_on f g xs h.1 in rw (h.0, rest) refl

pub map_map : {X Y Z : Type 0} (f : Y → Z) (g : X → Y) (xs : List X) → map f (map g xs) ≡ map (λ x. f (g x)) xs
map_map f g [] = refl
map_map f g (x ∷ xs) = rw (map_map f g xs) refl

pub map_reverse : {X Y : Type 0} (f : X → Y) (xs : List X) → reverse (map f xs) ≡ map f (reverse xs)
map_reverse f [] = refl
map_reverse f (x ∷ xs) = rw (reverse-append (f x ∷ []) (map f xs), reverse-append (x ∷ []) xs, map_reverse f xs) (sym (map-append f (reverse xs) (x ∷ [])))

-- ---- what is found

pub find_map : {X Y : Type 0} (p : Y → Bool) (f : X → Y) (xs : List X) → find p (map f xs) ≡ option_map f (find (λ x. p (f x)) xs)
find_map p f [] = refl
find_map p f (x ∷ xs) = elim (cases_Bool (p (f x))) [
  | inl e ↦ rw e refl
  | inr e ↦ rw e (find_map p f xs)
]

pub find_none : {X : Type 0} (p : X → Bool) (xs : List X) → AllByRecursion (λ y. p y ≡ false) xs → find p xs ≡ None
find_none p [] h = refl
find_none p (x ∷ xs) h = rw h.0 (find_none p xs h.1)

-- what holds of all items holds of the one that is found
pub found_has : {X : Type 0} (P : X → Type 0) (p : X → Bool) (xs : List X) (x : X) → AllByRecursion P xs → find p xs ≡ Some x → P x
found_has P p [] x h e = absurd (none-some x e)
found_has {X = X} P p (y ∷ xs) x h e = elim (cases_Bool (p y)) [
  | inl t ↦ let e' : Some y ≡ Some x = rw t at e in subst P (same_Some y x e') h.0
  | inr t ↦ let e' : find p xs ≡ Some x = rw t at e in found_has P p xs x h.1 e'
]

pub found_passes : {X : Type 0} (p : X → Bool) (xs : List X) (x : X) → find p xs ≡ Some x → p x ≡ true
found_passes p [] x e = absurd (none-some x e)
found_passes {X = X} p (y ∷ xs) x e = elim (cases_Bool (p y)) [
  | inl t ↦ let e' : Some y ≡ Some x = rw t at e in ap p (sym (same_Some y x e')) ∙ t
  | inr t ↦ let e' : find p xs ≡ Some x = rw t at e in found_passes p xs x e'
]

pub is_some_or : {X : Type 0} (a b : Option X) → is_some (option_or a b) ≡ (is_some a || is_some b)
is_some_or None b = refl
is_some_or (Some x) b = refl

-- there is a last one exactly if there is one
pub some_last : {X : Type 0} (p : X → Bool) (xs : List X) → is_some (find p (reverse xs)) ≡ list_any p xs
some_last p [] = refl
some_last p (x ∷ xs) =
    let rest = some_last p xs in
    rw (reverse-append (x ∷ []) xs, find-append p (reverse xs) (x ∷ []), is_some_or (find p (reverse xs)) (find p (x ∷ [])), rest)
    (elim (cases_Bool (p x)) [
      | inl e ↦ rw e (or_true (list_any p xs))
      | inr e ↦ rw e (or_false (list_any p xs))
    ])

-- the last one is the only one
pub last_only : {X : Type 0} (p : X → Bool) (xs : List X) (x : X) → AllByRecursion (λ y. p y ≡ true → y ≡ x) xs → list_any p xs ≡ true → find p (reverse xs) ≡ Some x
last_only {X = X} p xs x all any = elim (option_cases (find p (reverse xs))) [
  | inl none ↦ let no_one : list_any p xs ≡ false = sym (some_last p xs) ∙ rw none refl in absurd (not_both (list_any p xs) any no_one)
  | inr s ↦ s.1 ∙ ap (λ (y : X). Some y) (found_has (λ y. p y ≡ true → y ≡ x) p (reverse xs) s.0 (all_reverse (λ y. p y ≡ true → y ≡ x) xs all) s.1 (found_passes p (reverse xs) s.0 s.1))
]
