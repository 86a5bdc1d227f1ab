-- One version more on which a row depends has the row in its list, and the other lists stay.
use Rattle.std.proofs.Common.{◌≡◌, ◌≢◌, ◌==◌, ◌&&◌, ◌||◌, ℕ, zero, suc, ◌<◌, List, [], ◌∷◌, ◌++◌}
use Rattle.std.proofs.Common.{length, get_or, take, slice_get, Bool, true, false, cond, Some, refl}
use Rattle.std.proofs.Common.{sym, ap, ◌∙◌, inl, inr, arith}
use Rattle.std.specs.Prelude.{slice_set, slice_index_or}
use Rattle.std.specs.List.{AllPairs}
use Rattle.std.specs.Cmp.Lexicographic.{pointwise}
use Rattle.std.proofs.lemmas.Bool.{cases_Bool, eqb-true, eq-eqb, and_parts}
use Rattle.std.proofs.lemmas.List.{length-set, length-take, get_or-set_same, get_or-take}
use Rattle.std.proofs.lemmas.List.Folds.{list_any-append}
use Rattle.std.proofs.lemmas.Option.{same_Some, slice_get-get_or, slice_get_within}
use Rattle.std.proofs.lemmas.Option.{get_or_from_slice_get}
use Rattle.std.proofs.lemmas.Slice.Eq.{bytes_eq-Decides}
use Rattle.lc_base.specs.declared.row.Row.{Row}
use Rattle.lc_base.specs.declared.row.Dep.{Dep}
use Rattle.lc_base.specs.History.{StandsBefore, version_of}
use Rattle.plain_rows.specs.Places.{StandsAt}
use Rattle.plain_rows.specs.Users.{users, is_among, AreUsersWith}
use Rattle.plain_rows.proofs.Versions.{version_index}

get_set_same : {A : Type 0} (xs : List A) (i : ℕ) (v : A) → i < length xs
    → slice_get (slice_set xs i v) i ≡ Some v
get_set_same xs i v l = slice_get-get_or (slice_set xs i v) i v
    (omega (arith, length-set xs i v, l)) ∙ ap (λ x. Some x) (get_or-set_same xs i v v l)

get_set_other : {A : Type 0} (xs : List A) (i j : ℕ) (v : A) → i ≢ j
    → slice_get (slice_set xs i v) j ≡ slice_get xs j
get_set_other [] i j v ne = refl
get_set_other (x ∷ xs) zero zero v ne = absurd (ne refl)
get_set_other (x ∷ xs) zero (suc j) v ne = refl
get_set_other (x ∷ xs) (suc i) zero v ne = refl
get_set_other (x ∷ xs) (suc i) (suc j) v ne = get_set_other xs i j v (λ e. ne (ap (λ n. suc n) e))

-- whether a row is this version
abbrev pub names : Row → Dep → Bool
names row dep = pointwise ◌==◌ dep.key row.key && dep.block == row.block

named : (row : Row) (dep : Dep) → names row dep ≡ true → dep ≡ version_of row
named row dep t =
    let parts = and_parts (pointwise ◌==◌ dep.key row.key) (dep.block == row.block) t in
    let keys : dep.key ≡ row.key = (bytes_eq-Decides dep.key row.key).0 parts.0 in
    let blocks : dep.block ≡ row.block = eqb-true dep.block row.block parts.1 in
    λ i. record { key = keys i; block = blocks i }

names_own : (row : Row) → names row (version_of row) ≡ true
names_own row = λ i. (bytes_eq-Decides row.key row.key).1 refl i && eq-eqb row.block row.block refl
    i

none_among : (done : List Dep) (row : Row)
    → ((i : ℕ) (d : Dep) → i < length done → get_or done i d ≢ version_of row)
    → is_among done row ≡ false
none_among [] row apart = refl
none_among (dep ∷ done) row apart =
    let rest = none_among done row (λ i d m. apart (suc i) d (omega (arith, m))) in
    elim (cases_Bool (names row dep)) [
      | inl t ↦ absurd (apart 0 dep (omega arith) (named row dep t))
      | inr f ↦ λ i. f i || rest i
    ]

-- no two rows are one version
one_place : (rows : List Row) (i j : ℕ) (a b : Row) → AllPairs StandsBefore rows
    → slice_get rows i ≡ Some a → slice_get rows j ≡ Some b → version_of b ≡ version_of a → i ≡ j
one_place rows i j a b lawful at_i at_j same =
    same_Some i j (sym (version_index rows i a (version_of a) lawful at_i refl refl)
    ∙ version_index rows j b (version_of a) lawful at_j (ap (λ (d : Dep). d.key) same)
    (ap (λ (d : Dep). d.block) same))

among_more : (done : List Dep) (dep : Dep) (row : Row) (b : Bool) → names row dep ≡ b
    → is_among (done ++ dep ∷ []) row ≡ (is_among done row || (b || false))
among_more done dep row b e = list_any-append (names row) done (dep ∷ [])
    ∙ ap (λ c. is_among done row || (c || false)) e

or_false : (b : Bool) → (b || (false || false)) ≡ b
or_false true = refl
or_false false = refl

pub used_more : (rows : List Row) (done : List Dep) (dep : Dep) (n index : ℕ)
    (lists : List (List ℕ)) → AllPairs StandsBefore rows → AreUsersWith rows done n lists →
    StandsAt rows dep index → ((i : ℕ) (d : Dep) → i < length done → get_or done i d ≢ dep) →
    AreUsersWith rows (done ++ dep ∷ []) n
    (slice_set lists index (slice_index_or lists index [] ++ n ∷ []))
used_more rows done dep n index lists lawful kept stands apart = record {
  long = length-set lists index (slice_index_or lists index [] ++ n ∷ []) ∙ kept.long;
  each = λ i row at. elim (cases_Bool (names row dep)) [
    | inl t ↦
        let version = named row dep t in
        let same : i ≡ index = one_place rows i index row stands.0 lawful at stands.1
        ((λ k. record { key = stands.2 k; block = stands.3 k }) ∙ version) in
        let none : is_among done row ≡ false = none_among done row
        (λ j d m e. apart j d m (e ∙ sym version)) in
        let here : slice_get lists i ≡ Some (users rows row) = kept.each i row at
        ∙ ap (λ b. Some (cond b (users rows row ++ n ∷ []) (users rows row))) none in
        let within = slice_get_within lists i (users rows row) here in
        ap (λ k. slice_get (slice_set lists k (slice_index_or lists k [] ++ n ∷ [])) i) (sym same)
        ∙ get_set_same lists i (slice_index_or lists i [] ++ n ∷ []) within
        ∙ ap (λ (l : List ℕ). Some (l ++ n ∷ []))
        (get_or_from_slice_get lists i (users rows row) [] here)
        ∙ ap (λ b. Some (cond b (users rows row ++ n ∷ []) (users rows row)))
        (sym (among_more done dep row true t ∙ ap (λ b. b || true) none))
    | inr f ↦
        let other : index ≢ i = λ same.
        let is_row : stands.0 ≡ row = same_Some stands.0 row
        (sym stands.1 ∙ ap (slice_get rows) same ∙ at) in
        let own : names row dep ≡ true = ap (names row)
        (sym ((λ k. record { key = stands.2 k; block = stands.3 k })))
        ∙ ap (λ (r : Row). names row (version_of r)) is_row ∙ names_own row in
        cc in
        get_set_other lists index i (slice_index_or lists index [] ++ n ∷ []) other
        ∙ kept.each i row at
        ∙ ap (λ b. Some (cond b (users rows row ++ n ∷ []) (users rows row)))
        (sym (among_more done dep row false f ∙ or_false (is_among done row)))
  ];
}

-- the version at an index is none of those before it
pub apart_before : (deps : List Dep) (i : ℕ) (dep : Dep) → AllPairs ◌≢◌ deps → i < length deps
    → dep ≡ get_or deps i dep →
    (j : ℕ) (d : Dep) → j < length (take i deps) → get_or (take i deps) j d ≢ dep
apart_before deps i dep once m is j d l e =
    let short : j < i = omega (arith, length-take i deps, l) in
    let at : slice_get deps i ≡ Some dep = slice_get-get_or deps i dep m
    ∙ ap (λ x. Some x) (sym is) in
    once j i d short m (sym (get_or-take i deps j d short) ∙ e
    ∙ sym (get_or_from_slice_get deps i dep d at))
