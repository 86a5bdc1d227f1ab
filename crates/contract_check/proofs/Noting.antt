-- The recorded indexes are those of the entries, as entries are added and removed.
use Rattle.std.proofs.Common.{◌≡◌, ◌∙◌, ◌<◌, ◌≤◌, ◌-◌, ◌+◌, ℕ, Bool, true, false, cond, ◌==◌, List, [], ◌∷◌, ◌++◌, length, take, get_or, Ordering, Less, Equal, Greater, Option, Some, None, is_some, inl, inr, refl, sym, ap, subst, arith}
use Rattle.std.specs.Prelude.{IfSome}
use Rattle.std.specs.Option.{option_or, option_eq}
use Rattle.std.specs.Ordering.{nat_cmp, is_eq}
use Rattle.std.specs.BTreeMap.{BTreeMap, get}
use Rattle.std.specs.Cmp.Lexicographic.{pointwise, bytes_decides}
use Rattle.std.proofs.lemmas.Bool.{cases_Bool}
use Rattle.std.proofs.lemmas.Bool.Decides.{nat_tests}
use Rattle.std.proofs.lemmas.Cmp.{ranked, nat_cmp_total, tied_itself}
use Rattle.std.proofs.lemmas.List.{take_more, length-take-le}
use Rattle.lc_base.specs.NameBytes.{IsName}
use Rattle.contract_check.specs.Codes.{code}
use Rattle.contract_check.specs.Indexes.{index_in, noted_index, noted_with, noted_without, AreNoted}
use Rattle.contract_check.proofs.FirstPlaces.{index_more, index_within, last_or}
use Rattle.contract_check.proofs.OneCode.{names_differ}

itself : (n : ℕ) → (n == n) ≡ true
itself n = grind (arith, nat_tests)

pub true_or_false : (b : Bool) → b ≡ true → b ≡ false → ⊥
true_or_false true e f = absurd cc
true_or_false false e f = absurd cc

pub or_none : (o : Option ℕ) → option_or o None ≡ o
or_none None = refl
or_none (Some n) = refl

pub unseen : (o : Option ℕ) → is_some o ≡ false → o ≡ None
unseen None e = refl
unseen (Some n) e = absurd cc

pub same_index : (o : Option ℕ) (index : ℕ) → option_eq ◌==◌ o (Some index) ≡ true → o ≡ Some index
same_index None index e = absurd cc
same_index (Some other) index e = (let same : other ≡ index = grind (arith, nat_tests, e) in ap Some same)

-- ---- codes

equal_if : (o : Ordering) (x y : ℕ) → o ≡ nat_cmp x y → is_eq o ≡ true → x ≡ y
equal_if Less x y e t = absurd cc
equal_if Equal x y e t = ranked x y Equal e
equal_if Greater x y e t = absurd cc

-- Codes are equal exactly if the names are.
at_code : (key : ℕ) (name other : List ℕ) (b : Bool) → key ≡ code name → IsName name → IsName other → pointwise ◌==◌ other name ≡ b → is_eq (nat_cmp key (code other)) ≡ b
at_code key name other true is n o same =
    let equal : key ≡ code other = is ∙ ap code (sym ((bytes_decides other name).0 same)) in
    rw equal (ap is_eq (tied_itself nat_cmp_total (code other)))
at_code key name other false is n o differ = elim (cases_Bool (is_eq (nat_cmp key (code other)))) [
  | inl t ↦
      let equal : name ≡ other = names_differ name other n o (sym is ∙ equal_if (nat_cmp key (code other)) key (code other) refl t) in
      let same : pointwise ◌==◌ other name ≡ true = (bytes_decides other name).1 (sym equal) in
      absurd (true_or_false (pointwise ◌==◌ other name) same differ)
  | inr f ↦ f
]

-- What is recorded after a key got this index, or none.
abbrev pub Sets : BTreeMap ℕ ℕ → BTreeMap ℕ ℕ → ℕ → Option ℕ → Type 0
Sets old new key o = (other : ℕ) → get nat_cmp new other ≡ cond (is_eq (nat_cmp key other)) o (get nat_cmp old other)

pub newly_noted : (old new : BTreeMap ℕ ℕ) (name : List ℕ) (key index : ℕ) → key ≡ code name → IsName name → get nat_cmp old key ≡ None → Sets old new key (Some index)
    → (other : List ℕ) → IsName other → noted_index new other ≡ noted_with name index other (noted_index old other)
newly_noted old new name key index is n none sets other o = elim (cases_Bool (pointwise ◌==◌ other name)) [
  | inl t ↦
      let absent : noted_index old other ≡ None = ap (λ (name : List ℕ). noted_index old name) ((bytes_decides other name).0 t) ∙ ap (λ (key : ℕ). get nat_cmp old key) (sym is) ∙ none in
      sets (code other) ∙ rw (at_code key name other true is n o t, absent, t) refl
  | inr f ↦ sets (code other) ∙ rw (at_code key name other false is n o f, f) (sym (or_none (noted_index old other)))
]

pub now_forgotten : (old new : BTreeMap ℕ ℕ) (name : List ℕ) (key index : ℕ) → key ≡ code name → IsName name → get nat_cmp old key ≡ Some index → Sets old new key None
    → (other : List ℕ) → IsName other → noted_index new other ≡ noted_without name index other (noted_index old other)
now_forgotten old new name key index is n some sets other o = elim (cases_Bool (pointwise ◌==◌ other name)) [
  | inl t ↦
      let there : noted_index old other ≡ Some index = ap (λ (name : List ℕ). noted_index old name) ((bytes_decides other name).0 t) ∙ ap (λ (key : ℕ). get nat_cmp old key) (sym is) ∙ some in
      sets (code other) ∙ rw (at_code key name other true is n o t, there, t, itself index) refl
  | inr f ↦ sets (code other) ∙ rw (at_code key name other false is n o f, f) refl
]

-- ---- entries

pub one_more_noted : {T : Type 0} (entries : List (List ℕ × T)) (indexes more : BTreeMap ℕ ℕ) (name : List ℕ) (value : T) (n : ℕ) → AreNoted entries indexes → n ≡ length entries
    → ((other : List ℕ) → IsName other → noted_index more other ≡ noted_with name n other (noted_index indexes other)) → AreNoted (entries ++ (name, value) ∷ []) more
one_more_noted {T} entries indexes more name value n are is adds other o =
    adds other o ∙ ap (λ (o : Option ℕ). noted_with name n other o) (are other o) ∙ ap (λ (n : ℕ). noted_with name n other (index_in entries other)) is
    ∙ sym (index_more (pointwise ◌==◌ other) entries (name, value))

first_is : (n : ℕ) (name other : List ℕ) (b : Bool) (o : Option ℕ) → pointwise ◌==◌ other name ≡ b → IfSome o (λ index. index < n) → noted_without name n other (option_or o (last_or b n)) ≡ o
first_is n name other true (Some index) is under = (let differ : (index == n) ≡ false = grind (arith, nat_tests, under) in rw (is, differ) refl)
first_is n name other false (Some index) is under = rw is refl
first_is n name other true None is under = rw (is, itself n) refl
first_is n name other false None is under = rw is refl

pub one_less_noted : {T : Type 0} (entries : List (List ℕ × T)) (indexes fewer : BTreeMap ℕ ℕ) (n : ℕ) (d : List ℕ × T) → 0 < n → n ≤ length entries → AreNoted (take n entries) indexes
    → ((other : List ℕ) → IsName other → noted_index fewer other ≡ noted_without (get_or entries (n - 1) d).0 (n - 1) other (noted_index indexes other)) → AreNoted (take (n - 1) entries) fewer
one_less_noted {T} entries indexes fewer n d some few are takes other o =
    let e = get_or entries (n - 1) d in
    let kept = take (n - 1) entries in
    let back : n - 1 + 1 ≡ n = omega (arith, some) in
    let below : n - 1 < length entries = omega (arith, some, few) in
    let all : take n entries ≡ kept ++ e ∷ [] =
    ap (λ (n : ℕ). take n entries) (sym back) ∙ take_more entries (n - 1) d below in
    let count : length kept ≡ n - 1 = length-take-le (n - 1) entries (omega (arith, few)) in
    let there : noted_index indexes other ≡ option_or (index_in kept other) (last_or (pointwise ◌==◌ other e.0) (n - 1)) =
    are other o ∙ ap (λ (entries : List (List ℕ × T)). index_in entries other) all ∙ index_more (pointwise ◌==◌ other) kept e
    ∙ ap (λ (n : ℕ). option_or (index_in kept other) (last_or (pointwise ◌==◌ other e.0) n)) count in
    takes other o ∙ ap (λ (old : Option ℕ). noted_without e.0 (n - 1) other old) there
    ∙ first_is (n - 1) e.0 other (pointwise ◌==◌ other e.0) (index_in kept other) refl (subst (λ (n : ℕ). IfSome (index_in kept other) (λ index. index < n)) count (index_within (pointwise ◌==◌ other) kept))
