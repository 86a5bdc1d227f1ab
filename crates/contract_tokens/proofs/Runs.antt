-- The longest prefix of a list whose items pass a test, and what follows it.
use Rattle.std.proofs.Common.{◌≡◌, Bool, true, false, cond, List, [], ◌∷◌, ◌++◌, length, inl, inr, sym, ap, subst, refl, ◌∙◌, arith}
use Rattle.std.specs.Prelude.{take_while}
use Rattle.std.specs.List.{list_all, prefix_len}
use Rattle.std.proofs.lemmas.Bool.{cases_Bool, and_parts, and_from}
use Rattle.std.proofs.lemmas.List.Sums.{take_while-cons}

-- the list is empty, or its first item fails the test
abbrev pub Stops : {X : Type 0} → (X → Bool) → List X → Type 0
Stops test [] = Unit {0}
Stops test (x ∷ _) = test x ≡ false

pub record IsRun {X : Type 0} (test : X → Bool) (xs prefix rest : List X) : Type 0 where
  pub parts : xs ≡ prefix ++ rest
  pub passes : list_all test prefix ≡ true
  pub stops : Stops test rest

pub run_of : {X : Type 0} (test : X → Bool) (prefix rest : List X) → list_all test prefix ≡ true → Stops test rest → (take_while test (prefix ++ rest) ≡ prefix) × (prefix_len test (prefix ++ rest) ≡ length prefix)
run_of test [] [] h s = (refl, refl)
run_of test [] (x ∷ rest) h s = (rw s refl, rw s refl)
run_of test (x ∷ prefix) rest h s =
    let parts = and_parts (test x) (list_all test prefix) h in
    let more = run_of test prefix rest (parts.1) s in
    let kept : cond (test x) (x ∷ take_while test (prefix ++ rest)) [] ≡ x ∷ prefix = rw (parts.0, more.0) refl in
    (take_while-cons test x (prefix ++ rest) ∙ kept, rw parts.0 (omega (arith, more.1)))

pub run : {X : Type 0} (test : X → Bool) (xs : List X) → (rest : List X) × IsRun test xs (take_while test xs) rest
run test [] = ([], record { parts = refl; passes = refl; stops = tt })
run {X = X} test (x ∷ xs) =
    elim (cases_Bool (test x)) [
      | inl h ↦ (
          let more = run test xs in
          let prefix : take_while test (x ∷ xs) ≡ x ∷ take_while test xs = take_while-cons test x xs ∙ (rw h refl) in
          let P : List X → Type 0 = λ f. IsRun test (x ∷ xs) f more.0 in
          (more.0, subst P (sym prefix) (record { parts = ap (λ l. x ∷ l) more.1.parts; passes = and_from (test x) (list_all test (take_while test xs)) h more.1.passes; stops = more.1.stops })))
      | inr h ↦ (
          let prefix : take_while test (x ∷ xs) ≡ [] = take_while-cons test x xs ∙ (rw h refl) in
          let P : List X → Type 0 = λ f. IsRun test (x ∷ xs) f (x ∷ xs) in
          (x ∷ xs, subst P (sym prefix) (record { parts = refl; passes = refl; stops = h })))
    ]

-- after a run, no further item passes
pub nothing_more : {X : Type 0} (test : X → Bool) (rest more after : List X) → Stops test rest → rest ≡ more ++ after → list_all test more ≡ true → more ≡ []
nothing_more test rest [] after s e h = refl
nothing_more test rest (x ∷ more) after s e h =
    let stop : test x ≡ false = subst (Stops test) e s in
    let pass = and_parts (test x) (list_all test more) h in
    absurd (let p : test x ≡ true = pass.0 in cc)

pub list_all-append : {X : Type 0} (test : X → Bool) (prefix more : List X) → list_all test (prefix ++ more) ≡ true → (list_all test prefix ≡ true) × (list_all test more ≡ true)
list_all-append test [] more h = (refl, h)
list_all-append test (x ∷ prefix) more h =
    let parts = and_parts (test x) (list_all test (prefix ++ more)) h in
    let rest = list_all-append test prefix more parts.1 in
    (and_from (test x) (list_all test prefix) parts.0 rest.0, rest.1)

-- two prefixes of one list: one of them is a prefix of the other
pub data IsCompared {X : Type 0} (a b c d : List X) : Type 0 where
  Longer : (more : List X) → b ≡ a ++ more → c ≡ more ++ d → IsCompared a b c d
  Shorter : (more : List X) → a ≡ b ++ more → d ≡ more ++ c → IsCompared a b c d

-- a ++ c ≡ b ++ d
pub compared : {X : Type 0} (a b c d : List X) → a ++ c ≡ b ++ d → IsCompared a b c d
compared [] b c d e = Longer b refl e
compared (x ∷ a) [] c d e = Shorter (x ∷ a) refl (sym e)
compared (x ∷ a) (y ∷ b) c d e =
    let head : x ≡ y = cc in
    let tail : a ++ c ≡ b ++ d = cc in
    elim (compared a b c d tail) [
      | Longer more p q ↦ Longer more (let f : b ≡ a ++ more = p in cc) q
      | Shorter more p q ↦ Shorter more (let f : a ≡ b ++ more = p in cc) q
    ]
