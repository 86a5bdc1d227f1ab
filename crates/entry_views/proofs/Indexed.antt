-- One of some items, by its index.
use Rattle.std.proofs.Common.{◌≡◌, ◌∙◌, ℕ, zero, suc, ◌+◌, ◌≤◌, List, [], ◌∷◌, length, drop, slice_get, Option, Some, None, MatchOption, sym, ap, arith}
use Rattle.std.proofs.lemmas.List.{length-drop, drop-drop}
use Rattle.std.proofs.lemmas.Option.{slice_get_past}

abbrev none_of : (A : Type 0) → List A
none_of A = []

pub drop_one : {A : Type 0} (n : ℕ) (all rest after : List A) (x : A) → rest ≡ drop n all → rest ≡ x ∷ after → after ≡ drop (n + 1) all
drop_one {A = A} n all rest after x is parts =
    sym (ap (λ (t : List A). drop 1 t) (sym is ∙ parts)) ∙ drop-drop 1 n all

pub this_one : {A : Type 0} (n : ℕ) (all rest after : List A) (x : A) → rest ≡ drop n all → rest ≡ x ∷ after → slice_get all n ≡ Some x
this_one {A = A} n [] rest after x is parts = absurd (let none = length-drop n (none_of A) in omega (arith, none, ap (λ (t : List A). length t) (sym is ∙ parts)))
this_one zero (y ∷ all) rest after x is parts = let same = sym is ∙ parts in cc
this_one (suc n) (y ∷ all) rest after x is parts = this_one n all rest after x is parts

pub none_there : {A : Type 0} (n i : ℕ) (all rest : List A) → rest ≡ drop n all → rest ≡ [] → n ≤ i → slice_get all i ≡ None
none_there {A = A} n i all rest is none le = slice_get_past all i (let left = length-drop n all in omega (arith, le, left, ap (λ (t : List A). length t) (sym is ∙ none)))

-- what is next after n items
pub next_is : {A : Type 0} (o : Option A) (n i : ℕ) (all rest after : List A) → i ≤ n → n ≤ i → rest ≡ drop n all → MatchOption o (rest ≡ []) (λ x. rest ≡ x ∷ after) → o ≡ slice_get all i
next_is None n i all rest after le ge is end = sym (none_there n i all rest is end ge)
next_is (Some x) n i all rest after le ge is parts =
    let same : n ≡ i = omega (arith, le, ge) in
    sym (ap (λ (k : ℕ). slice_get all k) (sym same) ∙ this_one n all rest after x is parts)
