-- As many steps as there are rows are enough to reach all versions that are reached.
use Rattle.std.proofs.Common.{◌≡◌, ◌∙◌, ℕ, zero, suc, ◌<◌, ◌≤◌, Bool, true, false, not, List, []}
use Rattle.std.proofs.Common.{◌∷◌, length, filter, refl, ap, arith, inl, inr}
use Rattle.std.specs.List.{AllByRecursion, Contains}
use Rattle.std.proofs.lemmas.Bool.{cases_Bool, not-true, not_from_true, not_from_false}
use Rattle.lc_base.specs.declared.row.Row.{Row}
use Rattle.lc_base.specs.declared.row.Dep.{Dep}
use Rattle.lc_base.specs.History.{IsLawful, version_of}
use Rattle.root_laws.proofs.Lists.{all_weaker, not_both}
use Rattle.root_laws.proofs.Parts.{filter_short}
use Rattle.root_laws.specs.Ancestors.{comes_after, all_inserted, itself, deps_in, reached_from}
use Rattle.root_laws.proofs.Order.{after_by_block, after_trans, not_after_itself, same_version}
use Rattle.root_laws.proofs.Inserting.{Falls, all_inserted_all, all_inserted_falls}
use Rattle.root_laws.proofs.Versions.{IsVersion, IsEarlier, deps_are_earlier, own_deps}

-- ---- what is wanted

-- Versions of the history that are to be reached, the last one first.
pub record AreWanted (rows : List Row) (wanted : List Dep) : Type 0 where
  pub falls : Falls itself wanted
  pub versions : AllByRecursion (IsVersion rows) wanted

none_wanted : (rows : List Row) → AreWanted rows []
none_wanted rows = record { falls = tt; versions = tt }

pub more_wanted : (rows : List Row) (block : ℕ) (deps wanted : List Dep)
    → AllByRecursion (IsEarlier rows block) deps → AreWanted rows wanted
    → AreWanted rows (all_inserted itself deps wanted)
more_wanted rows block deps wanted earlier are = record {
  falls = all_inserted_falls itself deps wanted are.falls;
  versions = all_inserted_all itself (IsVersion rows) deps wanted
      (all_weaker (IsEarlier rows block) (IsVersion rows) (λ dep is. is.is_version) deps earlier)
      are.versions;
}

-- What a row was derived from.
abbrev pub wanted_of : Row → List Dep
wanted_of row = all_inserted itself row.deps []

pub are_wanted : (rows : List Row) (row : Row) → IsLawful rows → Contains rows row
    → AreWanted rows (wanted_of row)
are_wanted rows row lawful has =
    more_wanted rows row.block row.deps [] (deps_are_earlier rows row lawful has) (none_wanted rows)

-- What is wanted after the last version, when it is reached.
abbrev pub after_last : List Row → Dep → List Dep → List Dep
after_last rows last wanted = all_inserted itself (deps_in rows last) wanted

pub next_wanted : (rows : List Row) (last : Dep) (wanted : List Dep) → IsLawful rows
    → AreWanted rows (last ∷ wanted) → AreWanted rows (after_last rows last wanted)
next_wanted rows last wanted lawful are =
    more_wanted rows last.block (deps_in rows last) wanted
    (own_deps rows last lawful are.versions.0)
    (record { falls = are.falls.1; versions = are.versions.1 })

-- The last version comes after all of it.
pub next_before : (rows : List Row) (last : Dep) (wanted : List Dep) → IsLawful rows
    → AreWanted rows (last ∷ wanted)
    → AllByRecursion (λ (version : Dep). comes_after last version ≡ true)
    (after_last rows last wanted)
next_before rows last wanted lawful are =
    all_inserted_all itself (λ (version : Dep). comes_after last version ≡ true) (deps_in rows last)
    wanted
    (all_weaker (IsEarlier rows last.block) (λ (version : Dep). comes_after last version ≡ true)
    (λ dep is. after_by_block last dep is.before) (deps_in rows last)
    (own_deps rows last lawful are.versions.0))
    are.falls.0

-- ---- how many rows are left

filter_fewer : (p q : Row → Bool) (rows : List Row) → ((x : Row) → p x ≡ true → q x ≡ true)
    → length (filter p rows) ≤ length (filter q rows)
filter_fewer p q [] h = omega arith
filter_fewer p q (x ∷ rows) h = let rest = filter_fewer p q rows h in elim (cases_Bool (p x)) [
  | inl t ↦ let u = h x t in rw (t, u) (omega (arith, rest))
  | inr t ↦ elim (cases_Bool (q x)) [
    | inl u ↦ rw (t, u) (omega (arith, rest))
    | inr u ↦ rw (t, u) rest
  ]
]

one_fewer : (p q : Row → Bool) (rows : List Row) (row : Row) → ((x : Row) → p x ≡ true → q x ≡ true)
    → Contains rows row → p row ≡ false → q row ≡ true
    → length (filter p rows) < length (filter q rows)
one_fewer p q [] row h (k, below, is) f t = absurd (omega (arith, below))
one_fewer p q (x ∷ rows) row h (zero, below, is) f t =
    let rest = filter_fewer p q rows h in
    let f' : p x ≡ false = ap p is ∙ f in
    let t' : q x ≡ true = ap q is ∙ t in
    rw (f', t') (omega (arith, rest))
one_fewer p q (x ∷ rows) row h (suc k, below, is) f t =
    let rest = one_fewer p q rows row h (k, omega (arith, below), is) f t in
    elim (cases_Bool (p x)) [
      | inl u ↦ let v = h x u in rw (u, v) (omega (arith, rest))
      | inr u ↦ elim (cases_Bool (q x)) [
        | inl v ↦ rw (u, v) (omega (arith, rest))
        | inr v ↦ rw (u, v) rest
      ]
    ]

-- A row doesn't come after a version.
abbrev pub is_left : Dep → Row → Bool
is_left last row = not (comes_after (version_of row) last)

-- The number of rows that don't come after the last version that is wanted.
abbrev pub rows_left : List Row → List Dep → ℕ
rows_left rows [] = 0
rows_left rows (last ∷ wanted) = length (filter (is_left last) rows)

own_left : (rows : List Row) (last : Dep) (is : IsVersion rows last) → is_left last is.row ≡ true
own_left rows last is = not_from_false (comes_after (version_of is.row) last)
    (ap (λ (v : Dep). comes_after v last)
    (same_version (version_of is.row) last is.key_is is.block_is) ∙ not_after_itself last)

pub left_falls : (rows : List Row) (last : Dep) (is : IsVersion rows last) (next : List Dep)
    → AllByRecursion (λ (version : Dep). comes_after last version ≡ true) next
    → rows_left rows next < rows_left rows (last ∷ [])
left_falls rows last is [] before =
    let some = one_fewer (λ (row : Row). false) (is_left last) rows is.row
    (λ x e. absurd (not_both false e refl)) is.there refl (own_left rows last is) in
    omega (arith, some)
left_falls rows last is (head ∷ next) before =
    one_fewer (is_left head) (is_left last) rows is.row
    (λ x t. elim (cases_Bool (comes_after (version_of x) last)) [
      | inr f ↦ not_from_false (comes_after (version_of x) last) f
      | inl u ↦ absurd (not_both (comes_after (version_of x) head)
          (after_trans (version_of x) last head u before.0)
          (not-true (comes_after (version_of x) head) t))
    ])
    is.there
    (not_from_true (comes_after (version_of is.row) head)
    (ap (λ (v : Dep). comes_after v head)
    (same_version (version_of is.row) last is.key_is is.block_is) ∙ before.0))
    (own_left rows last is)

-- ---- enough steps

pub enough : (n m : ℕ) (rows : List Row) (wanted : List Dep) → IsLawful rows → AreWanted rows wanted
    → rows_left rows wanted ≤ n → n ≤ m → reached_from m rows wanted ≡ reached_from n rows wanted
unfolding reached_from
enough zero zero rows wanted lawful are few more = refl
enough zero (suc m) rows [] lawful are few more = refl
enough zero (suc m) rows (last ∷ wanted) lawful are few more =
    absurd (let low = left_falls rows last are.versions.0 [] tt in omega (arith, low, few))
enough (suc n) zero rows wanted lawful are few more = absurd (omega (arith, more))
enough (suc n) (suc m) rows [] lawful are few more = refl
enough (suc n) (suc m) rows (last ∷ wanted) lawful are few more =
    let low = left_falls rows last are.versions.0 (after_last rows last wanted)
    (next_before rows last wanted lawful are) in
    ap (λ (versions : List Dep). last ∷ versions)
    (enough n m rows (after_last rows last wanted) lawful
    (next_wanted rows last wanted lawful are) (omega (arith, low, few)) (omega (arith, more)))

pub left_short : (rows : List Row) (wanted : List Dep) → rows_left rows wanted ≤ length rows
left_short rows [] = omega arith
left_short rows (last ∷ wanted) = filter_short (is_left last) rows

-- Any number of steps from the number of rows on reaches the same versions.
pub enough_rows : (m : ℕ) (rows : List Row) (wanted : List Dep) → IsLawful rows
    → AreWanted rows wanted → length rows ≤ m
    → reached_from m rows wanted ≡ reached_from (length rows) rows wanted
enough_rows m rows wanted lawful are more =
    enough (length rows) m rows wanted lawful are (left_short rows wanted) more
