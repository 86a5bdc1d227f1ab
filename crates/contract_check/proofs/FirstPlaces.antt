-- The indexes of names, as entries are added and removed.
use Rattle.std.proofs.Common.{◌≡◌, ◌∙◌, ◌<◌, ℕ, zero, suc, ◌+◌, Bool, true, false, cond, ◌==◌, List, [], ◌∷◌, ◌++◌, length, position, slice_get, slice_set, Option, Some, None, is_some, nat_lt, inl, inr, refl, sym, ap, subst, arith}
use Rattle.std.specs.Prelude.{IfSome}
use Rattle.std.specs.Option.{option_map, option_or}
use Rattle.std.specs.List.{position_or_len, list_any}
use Rattle.std.specs.Map.{lookup, set_value, keys_of}
use Rattle.std.specs.BTreeMap.{BTreeMap}
use Rattle.std.specs.Cmp.Lexicographic.{pointwise}
use Rattle.std.proofs.lemmas.Bool.{cases_Bool, cases_lt}
use Rattle.std.proofs.lemmas.Bool.Decides.{nat_tests}
use Rattle.std.proofs.lemmas.Map.Made.{is_some-lookup}
use Rattle.contract_check.specs.Indexes.{AreNoted}

-- ---- the index of the first item that passes a test

pub at_head : {X : Type 0} (p : X → Bool) (x : X) (xs : List X) → p x ≡ true → position p (x ∷ xs) ≡ Some 0
at_head p x xs e =
    let some : nat_lt 0 (suc (length xs)) ≡ true = grind (arith, nat_tests) in
    let shown : position p (x ∷ xs) ≡ cond (nat_lt 0 (suc (length xs))) (Some 0) None = rw e refl in
    rw some at shown

pub past_head : {X : Type 0} (p : X → Bool) (x : X) (xs : List X) → p x ≡ false → position p (x ∷ xs) ≡ option_map suc (position p xs)
past_head p x xs e =
    let n = position_or_len p xs in
    elim (cases_lt n (length xs)) [
      | inl under ↦
          let outer : nat_lt (1 + n) (suc (length xs)) ≡ true = grind (arith, nat_tests) in
          let inner : nat_lt n (length xs) ≡ true = grind (arith, nat_tests) in
          let further : 1 + n ≡ suc n = omega arith in
          rw (e, outer, inner) (ap Some further)
      | inr over ↦
          let outer : nat_lt (1 + n) (suc (length xs)) ≡ false = grind (arith, nat_tests) in
          let inner : nat_lt n (length xs) ≡ false = grind (arith, nat_tests) in
          rw (e, outer, inner) refl
    ]

-- The index, given whether the first item passes and the index among the others.
abbrev placed : Bool → Option ℕ → Option ℕ
placed true later = Some 0
placed false later = option_map suc later

position_is : {X : Type 0} (p : X → Bool) (x : X) (xs : List X) → position p (x ∷ xs) ≡ placed (p x) (position p xs)
position_is p x xs = elim (cases_Bool (p x)) [
  | inl t ↦ at_head p x xs t ∙ ap (λ b. placed b (position p xs)) (sym t)
  | inr f ↦ past_head p x xs f ∙ ap (λ b. placed b (position p xs)) (sym f)
]

abbrev pub last_or : Bool → ℕ → Option ℕ
last_or b n = cond b (Some n) None

placed_or : (b c : Bool) (o : Option ℕ) (n : ℕ) → placed b (option_or o (last_or c n)) ≡ option_or (placed b o) (last_or c (suc n))
placed_or true c o n = refl
placed_or false c (Some i) n = refl
placed_or false true None n = refl
placed_or false false None n = refl

-- One more entry at the end.
pub index_more : {K X : Type 0} (p : K → Bool) (es : List (K × X)) (last : K × X) → position p (keys_of (es ++ last ∷ [])) ≡ option_or (position p (keys_of es)) (last_or (p last.0) (length es))
index_more p [] last = position_is p last.0 [] ∙ go (p last.0)
  where
    go : (b : Bool) → placed b None ≡ option_or None (last_or b 0)
    go true = refl
    go false = refl
index_more {K} {X} p (e ∷ es) last =
    position_is p e.0 (keys_of (es ++ last ∷ [])) ∙ ap (placed (p e.0)) (index_more p es last) ∙ placed_or (p e.0) (p last.0) (position p (keys_of es)) (length es)
    ∙ ap (λ o. option_or o (last_or (p last.0) (suc (length es)))) (sym (position_is p e.0 (keys_of es)))

placed_within : (b : Bool) (o : Option ℕ) (n : ℕ) → IfSome o (λ index. index < n) → IfSome (placed b o) (λ index. index < suc n)
placed_within true o n w = omega arith
placed_within false None n w = tt
placed_within false (Some index) n w = omega (arith, w)

pub index_within : {K X : Type 0} (p : K → Bool) (es : List (K × X)) → IfSome (position p (keys_of es)) (λ index. index < length es)
index_within p [] = tt
index_within {K} {X} p (e ∷ es) = subst (λ (o : Option ℕ). IfSome o (λ index. index < suc (length es))) (sym (position_is p e.0 (keys_of es))) (placed_within (p e.0) (position p (keys_of es)) (length es) (index_within p es))

-- The keys by themselves.
pub index_of_key : {K X : Type 0} (p : K → Bool) (es : List (K × X)) → position (λ (e : K × X). p e.0) es ≡ position p (keys_of es)
index_of_key p [] = refl
index_of_key {K} {X} p (e ∷ es) = position_is (λ (e : K × X). p e.0) e es ∙ ap (placed (p e.0)) (index_of_key p es) ∙ sym (position_is p e.0 (keys_of es))

placed_found : {X : Type 0} (b : Bool) (index : Option ℕ) (x : X) (found : Option X) → is_some index ≡ is_some found → is_some (placed b index) ≡ is_some (cond b (Some x) found)
placed_found true index x found e = refl
placed_found false None x found e = e
placed_found false (Some i) x found e = e

pub found_where_placed : {K X : Type 0} (p : K → Bool) (es : List (K × X)) → is_some (position p (keys_of es)) ≡ is_some (lookup p es)
found_where_placed p [] = refl
found_where_placed {K} {X} p (e ∷ es) = ap (λ (o : Option ℕ). is_some o) (position_is p e.0 (keys_of es)) ∙ placed_found (p e.0) (position p (keys_of es)) e.1 (lookup p es) (found_where_placed p es)

pub known : {K X : Type 0} (p : K → Bool) (es : List (K × X)) → is_some (position p (keys_of es)) ≡ list_any p (keys_of es)
known p es = found_where_placed p es ∙ is_some-lookup p es

-- ---- the entry at the index of a name

-- what is found by a test and what setting a value changes, if this is the index of the first key
-- that passes
abbrev pub At : {K X : Type 0} → (K → Bool) → List (K × X) → Option ℕ → Type 0
At {K} {X} test es None = (lookup test es ≡ None) × ((v : X) → set_value test es v ≡ es)
At {K} {X} test es (Some i) =
    (e : K × X) → slice_get es i ≡ Some e
    → (lookup test es ≡ Some e.1) × ((v : X) → set_value test es v ≡ slice_set es i (e.0, v)) × (test e.0 ≡ true)

at_first : {K X : Type 0} (test : K → Bool) (first : K × X) (es : List (K × X)) → test first.0 ≡ true → At test (first ∷ es) (Some 0)
at_first {K} {X} test first es t e is =
    let same : first ≡ e = cc in
    subst (λ (e : K × X). (lookup test (first ∷ es) ≡ Some e.1) × ((v : X) → set_value test (first ∷ es) v ≡ slice_set (first ∷ es) 0 (e.0, v)) × (test e.0 ≡ true)) same
    (ap (λ b. cond b (Some first.1) (lookup test es)) t, (λ v. ap (λ b. cond b ((first.0, v) ∷ es) (first ∷ set_value test es v)) t), t)

at_later : {K X : Type 0} (test : K → Bool) (first : K × X) (es : List (K × X)) (o : Option ℕ) → test first.0 ≡ false → At test es o → At test (first ∷ es) (option_map suc o)
at_later test first es None f at = (
  ap (λ b. cond b (Some first.1) (lookup test es)) f ∙ at.0,
  λ v. ap (λ b. cond b ((first.0, v) ∷ es) (first ∷ set_value test es v)) f ∙ ap (λ l. first ∷ l) (at.1 v),
)
at_later test first es (Some i) f at = λ e is.
    let there = at e is in (
      ap (λ b. cond b (Some first.1) (lookup test es)) f ∙ there.0,
      (λ v. ap (λ b. cond b ((first.0, v) ∷ es) (first ∷ set_value test es v)) f ∙ ap (λ l. first ∷ l) (there.1 v)),
      there.2,
    )

at_index : {K X : Type 0} (test : K → Bool) (es : List (K × X)) → At test es (position test (keys_of es))
at_index test [] = (refl, λ v. refl)
at_index {K} {X} test (first ∷ es) = elim (cases_Bool (test first.0)) [
  | inl t ↦ subst (At test (first ∷ es)) (sym (at_head test first.0 (keys_of es) t)) (at_first test first es t)
  | inr f ↦ subst (At test (first ∷ es)) (sym (past_head test first.0 (keys_of es) f)) (at_later test first es (position test (keys_of es)) f (at_index test es))
]

pub found_at : {K X : Type 0} (test : K → Bool) (es : List (K × X)) (o : Option ℕ) → position test (keys_of es) ≡ o → At test es o
found_at test es o is = subst (At test es) is (at_index test es)

-- Setting a value moves no key.
keys_stay : {K X : Type 0} (es : List (K × X)) (i : ℕ) (e : K × X) (value : X) → slice_get es i ≡ Some e → keys_of (slice_set es i (e.0, value)) ≡ keys_of es
keys_stay [] i e value at = refl
keys_stay {K} {X} (first ∷ es) zero e value at =
    let is : first ≡ e = cc in
    ap (λ (e : K × X). e.0 ∷ keys_of es) (sym is)
keys_stay {K} {X} (first ∷ es) (suc i) e value at = ap (λ l. first.0 ∷ l) (keys_stay es i e value at)

pub still_noted : {T : Type 0} (entries : List (List ℕ × T)) (indexes : BTreeMap ℕ ℕ) (i : ℕ) (e : List ℕ × T) (value : T) → slice_get entries i ≡ Some e → AreNoted entries indexes → AreNoted (slice_set entries i (e.0, value)) indexes
still_noted entries indexes i e value at are name is = are name is ∙ ap (λ names. position (pointwise ◌==◌ name) names) (sym (keys_stay entries i e value at))
