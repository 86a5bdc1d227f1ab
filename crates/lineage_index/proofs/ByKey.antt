-- Lists with one value for each of some distinct keys.
use Rattle.std.proofs.Common.{◌≡◌, ◌≢◌, ◌∙◌, ℕ, zero, suc, ◌<◌, Bool, true, false, ◌==◌, ◌||◌, List, [], ◌∷◌, ◌++◌, length, get_or, set, map, refl, sym, ap, arith, inl, inr}
use Rattle.std.specs.List.{AllPairs, AllByRecursion}
use Rattle.std.specs.Cmp.Lexicographic.{pointwise}
use Rattle.std.proofs.lemmas.List.{map-append}
use Rattle.std.proofs.lemmas.List.Elements.{recursion_from_All}
use Rattle.std.proofs.lemmas.Bool.{cases_Bool}
use Rattle.plain_rows.specs.root_laws.Root.{is_among}
use Rattle.plain_rows.proofs.root_laws.Lists.{all_weaker, map_on, not_both}
use Rattle.plain_rows.proofs.root_laws.Keys.{same_key, key_is_key}
use Rattle.lineage_index.specs.Growth.{changed_at}

apart_of : (key : List ℕ) (keys : List (List ℕ)) → AllPairs ◌≢◌ (key ∷ keys) → AllByRecursion (λ (other : List ℕ). key ≢ other) keys
apart_of key keys distinct = recursion_from_All (λ (other : List ℕ). key ≢ other) keys (λ j d l. distinct 0 (suc j) d (omega arith) (omega (arith, l)))

rest_of : (key : List ℕ) (keys : List (List ℕ)) → AllPairs ◌≢◌ (key ∷ keys) → AllPairs ◌≢◌ keys
rest_of key keys distinct i j d l k = distinct (suc i) (suc j) d (omega (arith, l)) (omega (arith, k))

pub differ : (a b : List ℕ) → a ≢ b → pointwise ◌==◌ a b ≡ false
differ a b apart = elim (cases_Bool (pointwise ◌==◌ a b)) [
  | inl t ↦ absurd (apart (same_key a b t))
  | inr t ↦ t
]

pub changed_here : {A : Type 0} (f : List ℕ → A) (key other : List ℕ) (x : A) → pointwise ◌==◌ key other ≡ true → changed_at f key x other ≡ x
changed_here f key other x t = rw t refl

pub changed_there : {A : Type 0} (f : List ℕ → A) (key other : List ℕ) (x : A) → pointwise ◌==◌ key other ≡ false → changed_at f key x other ≡ f other
changed_there f key other x t = rw t refl

-- a function that is changed at another key alone has the same values
unchanged : {A : Type 0} (f : List ℕ → A) (key : List ℕ) (x : A) (keys : List (List ℕ)) → AllByRecursion (λ (other : List ℕ). key ≢ other) keys → map (changed_at f key x) keys ≡ map f keys
unchanged f key x keys apart = map_on (changed_at f key x) f keys (all_weaker (λ (other : List ℕ). key ≢ other) (λ (other : List ℕ). changed_at f key x other ≡ f other) (λ other a. rw (differ key other a) refl) keys apart)

-- the value of one key is set
pub set_at_key : {A : Type 0} (f : List ℕ → A) (keys : List (List ℕ)) (key : List ℕ) (i : ℕ) (x : A) (d : List ℕ) → AllPairs ◌≢◌ keys → i < length keys → get_or keys i d ≡ key
    → set (map f keys) i x ≡ map (changed_at f key x) keys
set_at_key f [] key i x d distinct l at = absurd (omega (arith, l))
set_at_key {A = A} f (first ∷ keys) key zero x d distinct l at =
    let apart : AllByRecursion (λ (other : List ℕ). key ≢ other) keys = all_weaker (λ (other : List ℕ). first ≢ other) (λ (other : List ℕ). key ≢ other) (λ other a e. a (at ∙ e)) keys (apart_of first keys distinct) in
    let here : pointwise ◌==◌ key first ≡ true = rw at (key_is_key key) in
    rw here (ap (λ (xs : List A). x ∷ xs) (sym (unchanged f key x keys apart)))
set_at_key {A = A} f (first ∷ keys) key (suc i) x d distinct l at =
    let other : first ≢ key = λ e. distinct 0 (suc i) d (omega arith) (omega (arith, l)) (e ∙ sym at) in
    let not_here : pointwise ◌==◌ key first ≡ false = differ key first (λ e. other (sym e)) in
    rw not_here (ap (λ (xs : List A). f first ∷ xs) (set_at_key f keys key i x d (rest_of first keys distinct) (omega (arith, l)) at))

-- one key more
pub push_key : {A : Type 0} (f : List ℕ → A) (keys : List (List ℕ)) (key : List ℕ) (x : A) → is_among keys key ≡ false → map f keys ++ x ∷ [] ≡ map (changed_at f key x) (keys ++ key ∷ [])
push_key {A = A} f keys key x none =
    let here : pointwise ◌==◌ key key ≡ true = key_is_key key in
    map_append_one ∙ sym (map-append (changed_at f key x) keys (key ∷ []))
  where
    each : (ks : List (List ℕ)) → is_among ks key ≡ false → AllByRecursion (λ (other : List ℕ). f other ≡ changed_at f key x other) ks
    each [] e = tt
    each (k ∷ ks) e =
        let off : pointwise ◌==◌ k key ≡ false = first_false (pointwise ◌==◌ k key) (is_among ks key) e in
        let off' : pointwise ◌==◌ key k ≡ false = differ key k (λ same. not_both (pointwise ◌==◌ k key) (rw same (key_is_key k)) off) in
        (rw off' refl, each ks (rest_false (pointwise ◌==◌ k key) (is_among ks key) e))
      where
        first_false : (a b : Bool) → (a || b) ≡ false → a ≡ false
        first_false true b e = cc
        first_false false b e = refl

        rest_false : (a b : Bool) → (a || b) ≡ false → b ≡ false
        rest_false true b e = cc
        rest_false false b e = e

    map_append_one : map f keys ++ x ∷ [] ≡ map (changed_at f key x) keys ++ map (changed_at f key x) (key ∷ [])
    map_append_one = rw (key_is_key key) (ap (λ (xs : List A). xs ++ x ∷ []) (map_on f (changed_at f key x) keys (each keys none)))

-- two functions that agree on the keys
pub same_by_key : {A : Type 0} (f g : List ℕ → A) (keys : List (List ℕ)) → AllByRecursion (λ (key : List ℕ). f key ≡ g key) keys → map f keys ≡ map g keys
same_by_key f g keys same = map_on f g keys same

-- a function that is changed at a key that is not among them
pub changed_nowhere : {A : Type 0} (f : List ℕ → A) (key : List ℕ) (x : A) (keys : List (List ℕ)) → is_among keys key ≡ false → map (changed_at f key x) keys ≡ map f keys
changed_nowhere f key x [] none = refl
changed_nowhere {A = A} f key x (k ∷ keys) none =
    let off : pointwise ◌==◌ key k ≡ false = differ key k (λ e. not_both (pointwise ◌==◌ k key) (rw e (key_is_key k)) (first_off (pointwise ◌==◌ k key) (is_among keys key) none)) in
    rw off (ap (λ (xs : List A). f k ∷ xs) (changed_nowhere f key x keys (rest_off (pointwise ◌==◌ k key) (is_among keys key) none)))
  where
    first_off : (a b : Bool) → (a || b) ≡ false → a ≡ false
    first_off true b e = cc
    first_off false b e = refl

    rest_off : (a b : Bool) → (a || b) ≡ false → b ≡ false
    rest_off true b e = cc
    rest_off false b e = e

pub same_everywhere : {A : Type 0} (f g : List ℕ → A) (keys : List (List ℕ)) → ((key : List ℕ) → f key ≡ g key) → map f keys ≡ map g keys
same_everywhere f g [] same = refl
same_everywhere f g (key ∷ keys) same = let rest = same_everywhere f g keys same in rw (same key, rest) refl
