-- The list that a version closes ends with the version's block: no later row depends on the version
-- before it.
use Rattle.std.proofs.Common.{◌≡◌, ◌∙◌, ℕ, suc, ◌<◌, ◌≤◌, Bool, true, false, ◌&&◌, ◌==◌, nat_lt, nat_le, List, [], ◌∷◌, Option, Some, None, refl, sym, ap, arith, map, filter, reverse, inl, inr}
use Rattle.std.specs.List.{find, list_any, AllPairs, AllByRecursion, Contains}
use Rattle.std.specs.Option.{option_or, IsSomeAnd}
use Rattle.std.specs.Cmp.Lexicographic.{pointwise}
use Rattle.std.proofs.lemmas.List.{reverse-append}
use Rattle.std.proofs.lemmas.List.Elements.{recursion_from_All}
use Rattle.std.proofs.lemmas.List.Folds.{find-append}
use Rattle.std.proofs.lemmas.List.Kept.{AllPairs-filter}
use Rattle.std.proofs.lemmas.Bool.{cases_Bool, cases_lt, and_parts, eqb-true, ltb-true, lt-ltb, le-leb}
use Rattle.std.proofs.lemmas.Option.{none-some, same_Some}
use Rattle.lc_base.specs.declared.row.Row.{Row}
use Rattle.lc_base.specs.declared.row.Dep.{Dep}
use Rattle.lc_base.specs.History.{IsLawful, HasLawfulDeps, IsRecordedFrom, StandsBefore, below, up_to, newest, depends_on, version_of}
use Rattle.root_laws.specs.Naming.{closed_uses, uses_of}
use Rattle.root_laws.proofs.Lists.{all_weaker, all_reverse, contained, found_has, not_both, option_cases}
use Rattle.root_laws.proofs.Keys.{same_key, key_is_key}
use Rattle.root_laws.proofs.Headers.{newest_has, below_are_before}

-- ---- the newest version is in the greatest block

-- if none is found from the back, none passes
none_passes : {X : Type 0} (p : X → Bool) (xs : List X) → find p (reverse xs) ≡ None → AllByRecursion (λ x. p x ≡ false) xs
none_passes p [] e = tt
none_passes {X = X} p (x ∷ xs) e =
    let e' : option_or (find p (reverse xs)) (find p (x ∷ [])) ≡ None = sym (find-append p (reverse xs) (x ∷ [])) ∙ ap (find p) (sym (reverse-append (x ∷ []) xs)) ∙ e in
    elim (option_cases (find p (reverse xs))) [
      | inr s ↦ let f : Some s.0 ≡ None = rw s.1 at e' in absurd (none-some s.0 (sym f))
      | inl none ↦ let f : find p (x ∷ []) ≡ None = rw none at e' in elim (cases_Bool (p x)) [
        | inl t ↦ let g : Some x ≡ None = rw t at f in absurd (none-some x (sym g))
        | inr t ↦ (t, none_passes p xs none)
      ]
    ]

-- the last one that passes is in a block no smaller than those of the others
last_is_greatest : (p : Row → Bool) (rows : List Row) (last : Row) → AllPairs StandsBefore rows → find p (reverse rows) ≡ Some last → AllByRecursion (λ (row : Row). p row ≡ true → row.block ≤ last.block) rows
last_is_greatest p [] last ordered e = tt
last_is_greatest p (row ∷ rows) last ordered e =
    let rest : AllPairs StandsBefore rows = λ i j d l k. ordered (suc i) (suc j) d (omega (arith, l)) (omega (arith, k)) in
    let after : AllByRecursion (StandsBefore row) rows = recursion_from_All (StandsBefore row) rows (λ j d l. ordered 0 (suc j) d (omega arith) (omega (arith, l))) in
    let e' : option_or (find p (reverse rows)) (find p (row ∷ [])) ≡ Some last = sym (find-append p (reverse rows) (row ∷ [])) ∙ ap (find p) (sym (reverse-append (row ∷ []) rows)) ∙ e in
    elim (option_cases (find p (reverse rows))) [
      | inr s ↦
          let f : Some s.0 ≡ Some last = rw s.1 at e' in
          let found : find p (reverse rows) ≡ Some last = s.1 ∙ f in
          ((λ t. found_has (λ (r : Row). row.block ≤ r.block) p (reverse rows) last (all_back_to_front rows after) found), last_is_greatest p rows last rest found)
      | inl none ↦
          let f : find p (row ∷ []) ≡ Some last = rw none at e' in
          (first row f, all_weaker (λ (r : Row). p r ≡ false) (λ (r : Row). p r ≡ true → r.block ≤ last.block) (λ r off t. absurd (not_both (p r) t off)) rows (none_passes p rows none))
    ]
  where
    all_back_to_front : (rs : List Row) → AllByRecursion (StandsBefore row) rs → AllByRecursion (λ (r : Row). row.block ≤ r.block) (reverse rs)
    all_back_to_front rs h = all_reverse (λ (r : Row). row.block ≤ r.block) rs (all_weaker (StandsBefore row) (λ (r : Row). row.block ≤ r.block) before_is_low rs h)
      where
        before_is_low : (r : Row) → StandsBefore row r → row.block ≤ r.block
        before_is_low r (inl less) = omega (arith, less)
        before_is_low r (inr same) = omega (arith, same.0)

    first : (r : Row) → find p (r ∷ []) ≡ Some last → p r ≡ true → r.block ≤ last.block
    first r f t = let g : Some r ≡ Some last = rw t at f in let same : r ≡ last = same_Some r last g in rw same (omega arith)

-- ---- rows that depend on a version that is no longer the newest

filter_twice : {X : Type 0} (t p : X → Bool) (xs : List X) → AllByRecursion (λ x. t x ≡ true → p x ≡ true) xs → filter t (filter p xs) ≡ filter t xs
filter_twice t p [] f = refl
filter_twice t p (x ∷ xs) f =
    let rest = filter_twice t p xs f.1 in
    elim (cases_Bool (p x)) [
      | inl e ↦ rw (e, rest) refl
      | inr e ↦ elim (cases_Bool (t x)) [
        | inl u ↦ absurd (not_both (p x) (f.0 u) e)
        | inr u ↦ rw (e, u) rest
      ]
    ]

-- what holds of all that pass holds of each item that passes
all_unfiltered : {X : Type 0} (p : X → Bool) (P : X → Type 0) (xs : List X) → AllByRecursion P (filter p xs) → AllByRecursion (λ x. p x ≡ true → P x) xs
all_unfiltered p P [] h = tt
all_unfiltered {X = X} p P (x ∷ xs) h = elim (cases_Bool (p x)) [
  | inl t ↦ let h' : AllByRecursion P (x ∷ filter p xs) = rw t at h in ((λ u. h'.0), all_unfiltered p P xs h'.1)
  | inr t ↦ let h' : AllByRecursion P (filter p xs) = rw t at h in ((λ u. absurd (not_both (p x) u t)), all_unfiltered p P xs h')
]

-- the dependency by which a row depends on a version
dep_on : (deps : List Dep) (key : List ℕ) (block : ℕ) → list_any (λ (dep : Dep). pointwise ◌==◌ dep.key key && dep.block == block) deps ≡ true → (P : Dep → Type 0) → AllByRecursion P deps
    → (dep : Dep) × (dep.key ≡ key) × (dep.block ≡ block) × P dep
dep_on [] key block t P all = absurd (not_both false t refl)
dep_on (dep ∷ deps) key block t P all = elim (cases_Bool (pointwise ◌==◌ dep.key key && dep.block == block)) [
  | inl on ↦ let parts = and_parts (pointwise ◌==◌ dep.key key) (dep.block == block) on in (dep, same_key dep.key key parts.0, eqb-true dep.block block parts.1, all.0)
  | inr off ↦ let t' : list_any (λ (dep : Dep). pointwise ◌==◌ dep.key key && dep.block == block) deps ≡ true = rw off at t in dep_on deps key block t' P all.1
]

-- no row of a block after that of a newer version depends on the older one
depends_until : (rows : List Row) (row : Row) (old : ℕ) (user : Row) → IsLawful rows → Contains rows row → old < row.block → HasLawfulDeps rows user
    → depends_on row.key old user ≡ true → nat_le user.block row.block ≡ true
depends_until rows row old user lawful has l deps t = elim (cases_lt row.block user.block) [
  | inr early ↦ le-leb user.block row.block early
  | inl late ↦ let d = dep_on user.deps row.key old t (IsRecordedFrom rows user) (recursion_from_All (IsRecordedFrom rows user) user.deps deps.newest) in absurd (newer d.0 d.1 d.2 d.3 late)
]
  where
    -- the version is below the user's block, and so no older one is the newest there
    newer : (dep : Dep) → dep.key ≡ row.key → dep.block ≡ old → IsRecordedFrom rows user dep → row.block < user.block → ⊥
    newer dep k b recorded late = go (newest (below rows user.block) dep.key) refl recorded
      where
        go : (o : Option Row) → newest (below rows user.block) dep.key ≡ o → IsSomeAnd o (λ (version : Row). version.block ≡ dep.block) → ⊥
        go None e h = absurd h
        go (Some version) e h =
            let least = last_is_greatest (λ (r : Row). pointwise ◌==◌ r.key dep.key) (below rows user.block) version (AllPairs-filter StandsBefore (λ (r : Row). nat_lt r.block user.block) rows lawful.ordered) e in
            let all = all_unfiltered (λ (r : Row). nat_lt r.block user.block) (λ (r : Row). pointwise ◌==◌ r.key dep.key ≡ true → r.block ≤ version.block) rows least in
            let low = contained (λ (r : Row). nat_lt r.block user.block ≡ true → pointwise ◌==◌ r.key dep.key ≡ true → r.block ≤ version.block) rows row all has (lt-ltb row.block user.block late) (rw k (key_is_key row.key)) in
            omega (arith, h, b, l, low)

below_up_to : (rows : List Row) (block : ℕ) → below (up_to rows block) block ≡ below rows block
below_up_to rows block = filter_twice (λ (row : Row). nat_lt row.block block) (λ (row : Row). nat_le row.block block) rows (each rows)
  where
    each : (rs : List Row) → AllByRecursion (λ (row : Row). nat_lt row.block block ≡ true → nat_le row.block block ≡ true) rs
    each [] = tt
    each (row ∷ rs) = ((λ t. let low = ltb-true row.block block t in le-leb row.block block (omega (arith, low))), each rs)

pub closed_up_to : (rows : List Row) (row : Row) → IsLawful rows → Contains rows row → closed_uses (up_to rows row.block) row.key row.block ≡ closed_uses rows row.key row.block
closed_up_to rows row lawful has =
    ap (λ (rs : List Row). uses_of (up_to rows row.block) row.key (newest rs row.key)) (below_up_to rows row.block)
    ∙ go (newest (below rows row.block) row.key) refl
  where
    go : (o : Option Row) → newest (below rows row.block) row.key ≡ o → uses_of (up_to rows row.block) row.key o ≡ uses_of rows row.key o
    go None e = refl
    go (Some version) e =
        let low : version.block < row.block = newest_has (λ (v : Row). v.block < row.block) (below rows row.block) row.key version (below_are_before rows row.block) e in
        ap (map version_of) (filter_twice (depends_on row.key version.block) (λ (r : Row). nat_le r.block row.block) rows
        (all_weaker (HasLawfulDeps rows) (λ (r : Row). depends_on row.key version.block r ≡ true → nat_le r.block row.block ≡ true) (λ r deps. depends_until rows row version.block r lawful has low deps) rows
        (recursion_from_All (HasLawfulDeps rows) rows lawful.lawful_deps)))
