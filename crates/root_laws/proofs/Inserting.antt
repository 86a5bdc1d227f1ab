-- Items inserted among others, in the order of their versions.
use Rattle.std.proofs.Common.{◌≡◌, ◌∙◌, true, List, [], ◌∷◌, map, refl, ap, inl, inr}
use Rattle.std.specs.List.{AllByRecursion}
use Rattle.std.proofs.lemmas.Bool.{cases_Bool}
use Rattle.lc_base.specs.declared.row.Dep.{Dep}
use Rattle.root_laws.proofs.Lists.{all_weaker}
use Rattle.root_laws.specs.Ancestors.{comes_after, inserted, all_inserted}
use Rattle.root_laws.proofs.Order.{after_trans}

-- Items are in order, the last version first: each one's version comes after those of all items
-- behind it.
abbrev pub Falls : {A : Type 0} → (A → Dep) → List A → Type 0
Falls version_of [] = Unit {0}
Falls version_of (first ∷ others) =
    AllByRecursion (λ other. comes_after (version_of first) (version_of other) ≡ true) others
    × Falls version_of others

module _ {A : Type 0} (version_of : A → Dep) where
  -- What holds of an item and of the others holds of all of them once it is inserted.
  pub inserted_all : (P : A → Type 0) (item : A) (others : List A) → P item
      → AllByRecursion P others → AllByRecursion P (inserted version_of item others)
  inserted_all P item [] p all = (p, tt)
  inserted_all P item (first ∷ others) p all =
      elim (cases_Bool (comes_after (version_of first) (version_of item))) [
        | inl t ↦ rw t (all.0, inserted_all P item others p all.1)
        | inr f ↦ elim (cases_Bool (comes_after (version_of item) (version_of first))) [
          | inl u ↦ rw (f, u) (p, all)
          | inr u ↦ rw (f, u) all
        ]
      ]

  pub all_inserted_all : (P : A → Type 0) (items others : List A) → AllByRecursion P items
      → AllByRecursion P others → AllByRecursion P (all_inserted version_of items others)
  all_inserted_all P [] others ps all = all
  all_inserted_all P (item ∷ items) others ps all =
      all_inserted_all P items (inserted version_of item others) ps.1
      (inserted_all P item others ps.0 all)

  -- Items in order stay so.
  pub inserted_falls : (item : A) (others : List A) → Falls version_of others
      → Falls version_of (inserted version_of item others)
  inserted_falls item [] h = (tt, tt)
  inserted_falls item (first ∷ others) h =
      elim (cases_Bool (comes_after (version_of first) (version_of item))) [
        | inl t ↦ rw t (
          inserted_all (λ other. comes_after (version_of first) (version_of other) ≡ true)
              item others t h.0,
          inserted_falls item others h.1,
        )
        | inr f ↦ elim (cases_Bool (comes_after (version_of item) (version_of first))) [
          | inl u ↦ rw (f, u) (
            (
              u,
              all_weaker (λ (other : A). comes_after (version_of first) (version_of other) ≡ true)
                  (λ (other : A). comes_after (version_of item) (version_of other) ≡ true)
                  (λ other v. after_trans (version_of item) (version_of first) (version_of other) u
                  v)
                  others h.0,
            ),
            h,
          )
          | inr u ↦ rw (f, u) h
        ]
      ]

  pub all_inserted_falls : (items others : List A) → Falls version_of others
      → Falls version_of (all_inserted version_of items others)
  all_inserted_falls [] others h = h
  all_inserted_falls (item ∷ items) others h =
      all_inserted_falls items (inserted version_of item others) (inserted_falls item others h)

-- If a function keeps versions, it doesn't matter whether it comes before an insertion or after it.
pub inserted_map : {A B : Type 0} (f : A → B) (a_of : A → Dep) (b_of : B → Dep)
    → ((x : A) → b_of (f x) ≡ a_of x) → (x : A) (xs : List A)
    → inserted b_of (f x) (map f xs) ≡ map f (inserted a_of x xs)
inserted_map f a_of b_of h x [] = refl
inserted_map {A} {B} f a_of b_of h x (y ∷ ys) = elim (cases_Bool (comes_after (a_of y) (a_of x))) [
  | inl t ↦ rw (h y, h x, t) (ap (λ (zs : List B). f y ∷ zs) (inserted_map f a_of b_of h x ys))
  | inr t ↦ elim (cases_Bool (comes_after (a_of x) (a_of y))) [
    | inl u ↦ rw (h y, h x, t, u) refl
    | inr u ↦ rw (h y, h x, t, u) refl
  ]
]

pub all_inserted_map : {A B : Type 0} (f : A → B) (a_of : A → Dep) (b_of : B → Dep)
    → ((x : A) → b_of (f x) ≡ a_of x) → (xs ys : List A)
    → all_inserted b_of (map f xs) (map f ys) ≡ map f (all_inserted a_of xs ys)
all_inserted_map f a_of b_of h [] ys = refl
all_inserted_map {A} {B} f a_of b_of h (x ∷ xs) ys =
    ap (λ (zs : List B). all_inserted b_of (map f xs) zs) (inserted_map f a_of b_of h x ys)
    ∙ all_inserted_map f a_of b_of h xs (inserted a_of x ys)
