-- The entries of the map are in the order of what is wanted: inserting an entry at its place, and
-- finding one there, is what the definitions say of the whole list.
use Rattle.std.proofs.Common.{◌≡◌, ◌∙◌, Bool, true, false, ◌==◌, ◌&&◌, not}
use Rattle.std.proofs.Common.{List, [], ◌∷◌, map, Option, Some, None, Ordering, Less, Equal}
use Rattle.std.proofs.Common.{Greater, refl, sym, ap, subst, inl, inr}
use Rattle.std.specs.List.{AllByRecursion, list_any}
use Rattle.std.specs.List.Sorted.{IsStrictlySortedBy}
use Rattle.std.specs.Ordering.{match_ordering}
use Rattle.std.specs.Cmp.Lexicographic.{pointwise}
use Rattle.std.specs.BTreeMap.{insert_entry, is_at}
use Rattle.std.specs.Map.{lookup, keys_of}
use Rattle.std.proofs.lemmas.Bool.{cases_Bool, and_parts, and_left, or_parts}
use Rattle.std.proofs.lemmas.Bool.{or_from, eq-eqb, eqb-true}
use Rattle.lc_base.specs.declared.digest.Digest.{Digest}
use Rattle.lc_base.specs.declared.row.Dep.{Dep}
use Rattle.prov_entry.specs.declared.entry.BodyDep.{BodyDep}
use Rattle.root_laws.specs.Naming.{is_named}
use Rattle.root_laws.proofs.Lists.{not_both, or_false}
use Rattle.root_laws.proofs.Keys.{same_key, key_is_key}
use Rattle.proof_verifier.specs.proof_checks.Checks.{dep_of}
use Rattle.root_laws.specs.Ancestors.{comes_after, inserted}
use Rattle.root_laws.specs.Places.{Place, version_at}
use Rattle.root_laws.proofs.Order.{not_after_itself, same_version}
use Rattle.root_laws.proofs.Places.{Tells, place_cmp, tells}
use Rattle.proof_verifier.specs.proof_checks.TraceChecks.{has_other_digest}
use Rattle.trace_verifier.specs.Places.{dep_at}

abbrev pub Entry : Type 0
Entry = Place × Digest

-- ---- whether a dependency is of a version

-- The dependency of a version with a digest.
abbrev named : Dep → Digest → BodyDep
named version digest = record { key = version.key; block = version.block; digest = digest }

apart_named : (item first : Dep) (digest : Digest) → (first ≡ item → ⊥)
    → is_named item.key item.block (named first digest) ≡ false
apart_named item first digest apart = elim (cases_Bool both) [
  | inr f ↦ f
  | inl t ↦
      let parts = and_parts (pointwise ◌==◌ first.key item.key) (first.block == item.block) t in
      let key = same_key first.key item.key parts.0 in
      absurd (apart (same_version first item key (eqb-true first.block item.block parts.1)))
]
  where
    both : Bool
    both = pointwise ◌==◌ first.key item.key && first.block == item.block

own_named : (item first : Dep) (digest : Digest) → first ≡ item
    → is_named item.key item.block (named first digest) ≡ true
own_named item first digest e =
    ap (λ (v : Dep). pointwise ◌==◌ v.key item.key && v.block == item.block) e ∙ both
  where
    both : (pointwise ◌==◌ item.key item.key && item.block == item.block) ≡ true
    both = rw (key_is_key item.key, eq-eqb item.block item.block refl) refl

module _ (place : Place) (digest : Digest) where
  abbrev own : BodyDep
  own = dep_at (place, digest)

  abbrev other : BodyDep → Bool
  other = has_other_digest own

  -- ---- an entry is inserted

  -- If no other digest is wanted, an entry of the version has this digest.
  own_digest : (e : Entry) → version_at e.0 ≡ version_at place → other (dep_at e) ≡ false
      → e.1 ≡ digest
  own_digest e same none =
      let named : is_named place.0.1 place.0.0 (dep_at e) ≡ true =
      own_named (version_at place) (version_at e.0) e.1 same in
      let not_other : not (pointwise ◌==◌ e.1.0 digest.0) ≡ false = rw named at none in
      let equal = is_true (pointwise ◌==◌ e.1.0 digest.0) not_other in
      same_digest e.1 digest (same_key e.1.0 digest.0 equal)
    where
      is_true : (b : Bool) → not b ≡ false → b ≡ true
      is_true true t = refl
      is_true false t = absurd cc

      same_digest : (a b : Digest) → a.0 ≡ b.0 → a ≡ b
      same_digest a b e = rw e refl

  abbrev IsPut : List Entry → Type 0
  IsPut entries =
      map dep_at (insert_entry place_cmp entries place digest)
      ≡ inserted dep_of own (map dep_at entries)

  one_put : (e : Entry) (entries : List Entry) → other (dep_at e) ≡ false → IsPut entries
      → IsPut (e ∷ entries)
  one_put e entries none rest =
      go (place_cmp place e.0) refl (tells (version_at place) (version_at e.0))
    where
      go : (o : Ordering) → place_cmp place e.0 ≡ o
          → Tells (place_cmp place e.0) (version_at place) (version_at e.0)
          → map dep_at (match_ordering (place_cmp place e.0)
          ((place, digest) ∷ e ∷ entries)
          ((e.0, digest) ∷ entries)
          (e ∷ insert_entry place_cmp entries place digest))
          ≡ inserted dep_of own (map dep_at (e ∷ entries))
      go Less c told =
          let is : Tells Less (version_at place) (version_at e.0) =
          subst (λ (o : Ordering). Tells o (version_at place) (version_at e.0)) c told in
          rw (c, is.0, is.1) refl
      go Equal c told =
          let is : version_at e.0 ≡ version_at place =
          subst (λ (o : Ordering). Tells o (version_at place) (version_at e.0)) c told in
          let itself = not_after_itself (version_at place) in
          let first : comes_after (version_at e.0) (version_at place) ≡ false =
          ap (λ (v : Dep). comes_after v (version_at place)) is ∙ itself in
          let second : comes_after (version_at place) (version_at e.0) ≡ false =
          ap (comes_after (version_at place)) is ∙ itself in
          let digests : e.1 ≡ digest = own_digest e is none in
          rw (c, first, second)
          (ap (λ (d : Digest). dep_at (e.0, d) ∷ map dep_at entries) (sym digests))
      go Greater c told =
          let is : comes_after (version_at e.0) (version_at place) ≡ true =
          subst (λ (o : Ordering). Tells o (version_at place) (version_at e.0)) c told in
          rw (c, is) (ap (λ (deps : List BodyDep). dep_at e ∷ deps) rest)

  pub put_in : (entries : List Entry) → list_any other (map dep_at entries) ≡ false
      → map dep_at (insert_entry place_cmp entries place digest)
      ≡ inserted dep_of (dep_at (place, digest)) (map dep_at entries)
  put_in [] none = refl
  put_in (e ∷ entries) none =
      let nones = or_parts (other (dep_at e)) (list_any other (map dep_at entries)) none in
      one_put e entries nones.0 (put_in entries nones.1)

  -- ---- nothing is found at the place

  abbrev is_own : BodyDep → Bool
  is_own = is_named place.0.1 place.0.0

  one_absent : (e : Entry) (entries : List Entry)
      → (lookup (is_at (place_cmp place)) entries ≡ None
      → list_any is_own (map dep_at entries) ≡ false)
      → lookup (is_at (place_cmp place)) (e ∷ entries) ≡ None
      → (o : Ordering) → place_cmp place e.0 ≡ o
      → Tells (place_cmp place e.0) (version_at place) (version_at e.0)
      → list_any is_own (map dep_at (e ∷ entries)) ≡ false
  one_absent e entries rest none Less c told =
      let version : Dep = version_at e.0 in
      let is : Tells Less (version_at place) version =
      subst (λ (o : Ordering). Tells o (version_at place) version) c told in
      let apart = λ (same : version ≡ version_at place).
      not_both (comes_after (version_at place) version) is.1
      (ap (comes_after (version_at place)) same ∙ not_after_itself (version_at place)) in
      let others : lookup (is_at (place_cmp place)) entries ≡ None = rw c at none in
      rw (apart_named (version_at place) version e.1 apart) (rest others)
  one_absent e entries rest none Equal c told =
      let found : Some e.1 ≡ None = rw c at none in
      absurd cc
  one_absent e entries rest none Greater c told =
      let version : Dep = version_at e.0 in
      let is : comes_after version (version_at place) ≡ true =
      subst (λ (o : Ordering). Tells o (version_at place) version) c told in
      let apart = λ (same : version ≡ version_at place).
      not_both (comes_after version (version_at place)) is
      (ap (λ (v : Dep). comes_after v (version_at place)) same
      ∙ not_after_itself (version_at place)) in
      let others : lookup (is_at (place_cmp place)) entries ≡ None = rw c at none in
      rw (apart_named (version_at place) version e.1 apart) (rest others)

  -- Then no dependency is of the version.
  pub none_named : (entries : List Entry) → lookup (is_at (place_cmp place)) entries ≡ None
      → list_any (is_named place.0.1 place.0.0) (map dep_at entries) ≡ false
  none_named [] none = refl
  none_named (e ∷ entries) none =
      one_absent e entries (none_named entries) none (place_cmp place e.0) refl
      (tells (version_at place) (version_at e.0))

  -- ---- what is found at the place

  -- Whether a digest that is found is another.
  abbrev pub differs : Option Digest → Bool
  differs None = false
  differs (Some found) = not (pointwise ◌==◌ found.0 digest.0)

  -- Of the entries after one of the version, none is of it.
  none_after : (entries : List Entry) (first : Place) → version_at first ≡ version_at place
      → AllByRecursion (λ (later : Place). place_cmp first later ≡ Less) (keys_of entries)
      → list_any other (map dep_at entries) ≡ false
  none_after [] first same all = refl
  none_after (e ∷ entries) first same all =
      let version : Dep = version_at e.0 in
      let told : Tells Less (version_at first) version =
      subst (λ (o : Ordering). Tells o (version_at first) version) all.0
      (tells (version_at first) version) in
      let apart : version ≡ version_at place → ⊥ =
      λ is. not_both (comes_after (version_at first) version) told.1
      (ap (comes_after (version_at first)) (is ∙ sym same) ∙ not_after_itself (version_at first)) in
      let unnamed = apart_named (version_at place) version e.1 apart in
      let unequal : Bool = not (pointwise ◌==◌ e.1.0 digest.0) in
      or_from (other (dep_at e)) (list_any other (map dep_at entries))
      (and_left (is_named place.0.1 place.0.0 (dep_at e)) unequal unnamed)
      (none_after entries first same all.1)

  abbrev IsFound : List Entry → Type 0
  IsFound entries =
      differs (lookup (is_at (place_cmp place)) entries) ≡ list_any other (map dep_at entries)

  one_found : (e : Entry) (entries : List Entry)
      → AllByRecursion (λ (later : Place). place_cmp e.0 later ≡ Less) (keys_of entries)
      → IsFound entries → (o : Ordering) → place_cmp place e.0 ≡ o
      → Tells (place_cmp place e.0) (version_at place) (version_at e.0)
      → IsFound (e ∷ entries)
  one_found e entries later rest Less c told =
      let version : Dep = version_at e.0 in
      let is : Tells Less (version_at place) version =
      subst (λ (o : Ordering). Tells o (version_at place) version) c told in
      let apart = λ (same : version ≡ version_at place).
      not_both (comes_after (version_at place) version) is.1
      (ap (comes_after (version_at place)) same ∙ not_after_itself (version_at place)) in
      rw (c, apart_named (version_at place) version e.1 apart) rest
  one_found e entries later rest Equal c told =
      let version : Dep = version_at e.0 in
      let is : version ≡ version_at place =
      subst (λ (o : Ordering). Tells o (version_at place) version) c told in
      let found = own_named (version_at place) version e.1 is in
      rw (c, found, none_after entries e.0 is later)
      (sym (or_false (not (pointwise ◌==◌ e.1.0 digest.0))))
  one_found e entries later rest Greater c told =
      let version : Dep = version_at e.0 in
      let is : comes_after version (version_at place) ≡ true =
      subst (λ (o : Ordering). Tells o (version_at place) version) c told in
      let apart = λ (same : version ≡ version_at place).
      not_both (comes_after version (version_at place)) is
      (ap (λ (v : Dep). comes_after v (version_at place)) same
      ∙ not_after_itself (version_at place)) in
      rw (c, apart_named (version_at place) version e.1 apart) rest

  pub found_other : (entries : List Entry) → IsStrictlySortedBy place_cmp (keys_of entries)
      → differs (lookup (is_at (place_cmp place)) entries) ≡ list_any other (map dep_at entries)
  unfolding IsStrictlySortedBy
  found_other [] sorted = refl
  found_other (e ∷ entries) sorted =
      one_found e entries sorted.0 (found_other entries sorted.1) (place_cmp place e.0) refl
      (tells (version_at place) (version_at e.0))
