-- The ancestors of a row are all that is reached from it, and nothing else.
use Rattle.std.proofs.Common.{◌≡◌, ◌⊎◌, ℕ, zero, suc, ◌≤◌, true, List, [], ◌∷◌, ◌++◌, length}
use Rattle.std.proofs.Common.{reverse, refl, sym, subst, arith, inl, inr}
use Rattle.std.specs.List.{AllByRecursion, AllPairs, Contains}
use Rattle.std.proofs.lemmas.Bool.{cases_Bool}
use Rattle.std.proofs.lemmas.List.{reverse-append, length-reverse}
use Rattle.std.proofs.lemmas.List.Elements.{All-from_recursion, Contains-append_left, Contains-push}
use Rattle.std.proofs.lemmas.List.Quantifiers.{all_pairs_push}
use Rattle.lc_base.specs.declared.row.Row.{Row}
use Rattle.lc_base.specs.declared.row.Dep.{Dep}
use Rattle.lc_base.specs.History.{IsLawful}
use Rattle.root_laws.proofs.Lists.{all_weaker, all_reverse, all_contained, contained}
use Rattle.root_laws.specs.Ancestors.{comes_after, inserted, all_inserted, itself, deps_in}
use Rattle.root_laws.specs.Ancestors.{reached_from, ancestors}
use Rattle.root_laws.specs.AncestorLaws.{LeadsTo, IsReached, AncestorsAreReached}
use Rattle.root_laws.specs.AncestorLaws.{ReachedVersionsAreAncestors, AncestorsRise}
use Rattle.root_laws.specs.AncestorLaws.{AncestorsAreFew}
use Rattle.root_laws.proofs.Order.{after_by_block, after_trans, one_version}
use Rattle.root_laws.proofs.Inserting.{Falls, all_inserted_all}
use Rattle.root_laws.proofs.Versions.{IsVersion, IsEarlier, own_deps}
use Rattle.root_laws.proofs.Enough.{AreWanted, wanted_of, are_wanted, after_last, next_wanted}
use Rattle.root_laws.proofs.Enough.{next_before, rows_left, left_falls, left_short}

-- ---- items of lists

here : {X : Type 0} (x : X) (xs : List X) → Contains (x ∷ xs) x
here x xs = (0, omega arith, refl)

later : {X : Type 0} (x : X) (xs : List X) (y : X) → Contains xs y → Contains (x ∷ xs) y
later x xs y (k, below, is) = (suc k, omega (arith, below), is)

first_or_rest : {X : Type 0} (x : X) (xs : List X) (y : X) → Contains (x ∷ xs) y
    → (x ≡ y) ⊎ Contains xs y
first_or_rest x xs y (zero, below, is) = inl is
first_or_rest x xs y (suc k, below, is) = inr (k, omega (arith, below), is)

none_there : {X : Type 0} (y : X) → Contains [] y → ⊥
none_there y (k, below, is) = absurd (omega (arith, below))

reverse_has : {X : Type 0} (xs : List X) (x : X) → Contains xs x → Contains (reverse xs) x
reverse_has [] x has = absurd (none_there x has)
reverse_has {X} (y ∷ xs) x has =
    subst (λ (zs : List X). Contains zs x) (sym (reverse-append (y ∷ []) xs))
    (elim (first_or_rest y xs x has) [
      | inl is ↦ subst (λ (z : X). Contains (reverse xs ++ y ∷ []) z) is
          (Contains-push (reverse xs) y)
      | inr rest ↦ Contains-append_left (reverse xs) (y ∷ []) x (reverse_has xs x rest)
    ])

-- ---- inserted versions are there

inserted_there : (x : Dep) (ys : List Dep) → Contains (inserted itself x ys) x
inserted_there x [] = here x []
inserted_there x (y ∷ ys) = elim (cases_Bool (comes_after y x)) [
  | inl t ↦ rw t (later y (inserted itself x ys) x (inserted_there x ys))
  | inr f ↦ elim (cases_Bool (comes_after x y)) [
    | inl u ↦ rw (f, u) (here x (y ∷ ys))
    | inr u ↦ rw (f, u) (subst (λ (z : Dep). Contains (y ∷ ys) z) (one_version y x f u) (here y ys))
  ]
]

others_stay : (x : Dep) (ys : List Dep) (v : Dep) → Contains ys v
    → Contains (inserted itself x ys) v
others_stay x [] v has = absurd (none_there v has)
others_stay x (y ∷ ys) v has = elim (cases_Bool (comes_after y x)) [
  | inl t ↦ rw t (elim (first_or_rest y ys v has) [
    | inl is ↦ subst (λ (z : Dep). Contains (y ∷ inserted itself x ys) z) is
        (here y (inserted itself x ys))
    | inr rest ↦ later y (inserted itself x ys) v (others_stay x ys v rest)
  ])
  | inr f ↦ elim (cases_Bool (comes_after x y)) [
    | inl u ↦ rw (f, u) (later x (y ∷ ys) v has)
    | inr u ↦ rw (f, u) has
  ]
]

all_stay : (xs ys : List Dep) (v : Dep) → Contains ys v → Contains (all_inserted itself xs ys) v
all_stay [] ys v has = has
all_stay (x ∷ xs) ys v has = all_stay xs (inserted itself x ys) v (others_stay x ys v has)

all_there : (xs ys : List Dep) (v : Dep) → Contains xs v → Contains (all_inserted itself xs ys) v
all_there [] ys v has = absurd (none_there v has)
all_there (x ∷ xs) ys v has = elim (first_or_rest x xs v has) [
  | inl is ↦ all_stay xs (inserted itself x ys) v
      (subst (λ (z : Dep). Contains (inserted itself x ys) z) is (inserted_there x ys))
  | inr rest ↦ all_there xs (inserted itself x ys) v rest
]

-- ---- what holds of all that is reached

pub reached_all : (P : Dep → Type 0) (rows : List Row)
    → ((version : Dep) → P version → AllByRecursion P (deps_in rows version))
    → (n : ℕ) (wanted : List Dep) → AllByRecursion P wanted
    → AllByRecursion P (reached_from n rows wanted)
unfolding reached_from
reached_all P rows h zero wanted all = tt
reached_all P rows h (suc n) [] all = tt
reached_all P rows h (suc n) (last ∷ wanted) all = (
  all.0,
  reached_all P rows h n (all_inserted itself (deps_in rows last) wanted)
      (all_inserted_all itself P (deps_in rows last) wanted (h last all.0) all.1),
)

pub reached_few : (n : ℕ) (rows : List Row) (wanted : List Dep)
    → length (reached_from n rows wanted) ≤ n
unfolding reached_from
reached_few zero rows wanted = omega arith
reached_few (suc n) rows [] = omega arith
reached_few (suc n) rows (last ∷ wanted) =
    let rest = reached_few n rows (all_inserted itself (deps_in rows last) wanted) in
    omega (arith, rest)

-- A version of the history that this bound comes after.
record IsBefore (rows : List Row) (bound version : Dep) : Type 0 where
  pub is_version : IsVersion rows version
  pub before : comes_after bound version ≡ true

deps_before : (rows : List Row) (bound version : Dep) → IsLawful rows → IsBefore rows bound version
    → AllByRecursion (IsBefore rows bound) (deps_in rows version)
deps_before rows bound version lawful is =
    all_weaker (IsEarlier rows version.block) (IsBefore rows bound)
    (λ dep e. record {
      is_version = e.is_version;
      before =
          after_trans bound version dep is.before (after_by_block version dep e.before);
    })
    (deps_in rows version) (own_deps rows version lawful is.is_version)

all_before : (rows : List Row) (bound : Dep) (wanted : List Dep)
    → AllByRecursion (IsVersion rows) wanted
    → AllByRecursion (λ (version : Dep). comes_after bound version ≡ true) wanted
    → AllByRecursion (IsBefore rows bound) wanted
all_before rows bound [] are before = tt
all_before rows bound (version ∷ wanted) are before =
    (record { is_version = are.0; before = before.0 }, all_before rows bound wanted are.1 before.1)

-- ---- they are in order

pub reached_falls : (n : ℕ) (rows : List Row) (wanted : List Dep) → IsLawful rows
    → AreWanted rows wanted → Falls itself (reached_from n rows wanted)
unfolding reached_from
reached_falls zero rows wanted lawful are = tt
reached_falls (suc n) rows [] lawful are = tt
reached_falls (suc n) rows (last ∷ wanted) lawful are =
    let next : List Dep = after_last rows last wanted in
    let wants : AreWanted rows next = next_wanted rows last wanted lawful are in (
      all_weaker (IsBefore rows last) (λ (version : Dep). comes_after last version ≡ true)
          (λ version is. is.before) (reached_from n rows next)
          (reached_all (IsBefore rows last) rows
          (λ version is. deps_before rows last version lawful is)
          n next (all_before rows last next wants.versions
          (next_before rows last wanted lawful are))),
      reached_falls n rows next lawful wants,
    )

abbrev Precedes : Dep → Dep → Type 0
Precedes version next = comes_after next version ≡ true

rises : (versions : List Dep) → Falls itself versions → AllPairs Precedes (reverse versions)
rises [] falls = λ i j d less within. absurd (omega (arith, less, within))
rises (version ∷ versions) falls =
    subst (λ (vs : List Dep). AllPairs Precedes vs) (sym (reverse-append (version ∷ []) versions))
    (all_pairs_push Precedes (reverse versions) version (rises versions falls.1)
    (All-from_recursion (λ (other : Dep). Precedes other version) (reverse versions)
    (all_reverse (λ (other : Dep). Precedes other version) versions falls.0)))

-- ---- all that is wanted is reached, and what that was derived from

wanted_reached : (n : ℕ) (rows : List Row) (wanted : List Dep) (version : Dep) → IsLawful rows
    → AreWanted rows wanted → rows_left rows wanted ≤ n → Contains wanted version
    → Contains (reached_from n rows wanted) version
unfolding reached_from
wanted_reached zero rows [] version lawful are few has = absurd (none_there version has)
wanted_reached zero rows (last ∷ wanted) version lawful are few has =
    absurd (let low = left_falls rows last are.versions.0 [] tt in omega (arith, low, few))
wanted_reached (suc n) rows [] version lawful are few has = absurd (none_there version has)
wanted_reached (suc n) rows (last ∷ wanted) version lawful are few has =
    let next : List Dep = after_last rows last wanted in
    let low = left_falls rows last are.versions.0 next (next_before rows last wanted lawful are) in
    elim (first_or_rest last wanted version has) [
      | inl is ↦ subst (λ (z : Dep). Contains (last ∷ reached_from n rows next) z) is
          (here last (reached_from n rows next))
      | inr rest ↦ later last (reached_from n rows next) version
          (wanted_reached n rows next version lawful (next_wanted rows last wanted lawful are)
          (omega (arith, low, few)) (all_stay (deps_in rows last) wanted version rest))
    ]

deps_reached : (n : ℕ) (rows : List Row) (wanted : List Dep) (version dep : Dep) → IsLawful rows
    → AreWanted rows wanted → rows_left rows wanted ≤ n
    → Contains (reached_from n rows wanted) version → Contains (deps_in rows version) dep
    → Contains (reached_from n rows wanted) dep
unfolding reached_from
deps_reached zero rows wanted version dep lawful are few has on = absurd (none_there version has)
deps_reached (suc n) rows [] version dep lawful are few has on = absurd (none_there version has)
deps_reached (suc n) rows (last ∷ wanted) version dep lawful are few has on =
    let next : List Dep = after_last rows last wanted in
    let low = left_falls rows last are.versions.0 next (next_before rows last wanted lawful are) in
    let wants : AreWanted rows next = next_wanted rows last wanted lawful are in
    later last (reached_from n rows next) dep
    (elim (first_or_rest last (reached_from n rows next) version has) [
      | inl is ↦ wanted_reached n rows next dep lawful wants (omega (arith, low, few))
          (all_there (deps_in rows last) wanted dep
          (subst (λ (v : Dep). Contains (deps_in rows v) dep) (sym is) on))
      | inr rest ↦ deps_reached n rows next version dep lawful wants (omega (arith, low, few)) rest
          on
    ])

-- ---- the laws

abbrev reached : List Row → Row → List Dep
reached rows row = reached_from (length rows) rows (wanted_of row)

one_further : (rows : List Row) (steps first : List Dep) (version dep : Dep)
    → LeadsTo rows first steps version → Contains (deps_in rows version) dep
    → LeadsTo rows first (steps ++ dep ∷ []) dep
one_further rows [] first version dep leads on = absurd leads
one_further rows (step ∷ []) first version dep leads on =
    (leads.0, (subst (λ (v : Dep). Contains (deps_in rows v) dep) (sym leads.1) on, refl))
one_further rows (step ∷ next ∷ steps) first version dep leads on =
    (leads.0, one_further rows (next ∷ steps) (deps_in rows step) version dep leads.1 on)

pub each_is_reached : AncestorsAreReached
each_is_reached rows row version lawful has there =
    contained (IsReached rows row) (ancestors rows row) version
    (all_reverse (IsReached rows row) (reached rows row)
    (reached_all (IsReached rows row) rows further (length rows) (wanted_of row)
    (all_inserted_all itself (IsReached rows row) row.deps []
    (all_weaker (Contains row.deps) (IsReached rows row) (λ dep on. (dep ∷ [], (on, refl)))
    row.deps (all_contained row.deps)) tt)))
    there
  where
    further : (version : Dep) → IsReached rows row version
        → AllByRecursion (IsReached rows row) (deps_in rows version)
    further version is =
        all_weaker (Contains (deps_in rows version)) (IsReached rows row)
        (λ dep on. (is.0 ++ dep ∷ [], one_further rows is.0 row.deps version dep is.1 on))
        (deps_in rows version) (all_contained (deps_in rows version))

leads : (rows : List Row) (row : Row) → IsLawful rows → Contains rows row
    → (steps first : List Dep) (version : Dep)
    → ((dep : Dep) → Contains first dep → Contains (reached rows row) dep)
    → LeadsTo rows first steps version → Contains (reached rows row) version
leads rows row lawful has [] first version within is = absurd is
leads rows row lawful has (step ∷ []) first version within is =
    subst (λ (v : Dep). Contains (reached rows row) v) is.1 (within step is.0)
leads rows row lawful has (step ∷ next ∷ steps) first version within is =
    leads rows row lawful has (next ∷ steps) (deps_in rows step) version
    (λ dep on. deps_reached (length rows) rows (wanted_of row) step dep lawful
    (are_wanted rows row lawful has) (left_short rows (wanted_of row)) (within step is.0) on)
    is.1

pub reached_is_ancestor : ReachedVersionsAreAncestors
reached_is_ancestor rows row version lawful has is =
    reverse_has (reached rows row) version
    (leads rows row lawful has is.0 row.deps version
    (λ dep on. wanted_reached (length rows) rows (wanted_of row) dep lawful
    (are_wanted rows row lawful has) (left_short rows (wanted_of row))
    (all_there row.deps [] dep on)) is.1)

pub ancestors_in_order : AncestorsRise
ancestors_in_order rows row lawful has =
    rises (reached rows row) (reached_falls (length rows) rows (wanted_of row) lawful
    (are_wanted rows row lawful has))

pub ancestors_few : AncestorsAreFew
ancestors_few rows row =
    let few = reached_few (length rows) rows (wanted_of row) in
    omega (arith, few, length-reverse (reached rows row))
