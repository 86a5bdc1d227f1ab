-- If a leaf covers a key that isn't its own, the key has no version.
use Rattle.std.proofs.Common.{◌≡◌, ◌∙◌, ℕ, true, false, List, [], ◌∷◌, refl, ◌==◌, Option, Some, None, ap, subst, is_some, inl, inr}
use Rattle.std.specs.List.{AllByRecursion}
use Rattle.std.specs.Cmp.Lexicographic.{pointwise}
use Rattle.std.proofs.lemmas.Bool.{cases_Bool}
use Rattle.std.proofs.lemmas.List.Elements.{recursion_from_All}
use Rattle.lc_base.specs.declared.row.Row.{Row}
use Rattle.lc_base.specs.History.{newest}
use Rattle.root_laws.specs.KeyLaws.{IsNext}
use Rattle.root_laws.specs.Root.{is_among, keys_of, is_below, next_key}
use Rattle.root_laws.proofs.Lists.{not_both, option_cases}
use Rattle.root_laws.proofs.Keys.{same_key, among_is_some}
use Rattle.root_laws.proofs.NextKeys.{next_is}
use Rattle.proof_checks.specs.Checks.{is_before_next}

-- What holds of all keys holds of one that is among them.
pub of_one : (P : List ℕ → Type 0) (keys : List (List ℕ)) (key : List ℕ) → AllByRecursion P keys → is_among keys key ≡ true → P key
of_one P [] key all t = absurd (not_both false t refl)
of_one P (other ∷ keys) key all t = elim (cases_Bool (pointwise ◌==◌ other key)) [
  | inl same ↦ subst P (same_key other key same) all.0
  | inr apart ↦ let t' : is_among keys key ≡ true = rw apart at t in of_one P keys key all.1 t'
]

not_among : (keys : List (List ℕ)) (low key : List ℕ) (next : Option (List ℕ)) → IsNext keys low next → is_below low key ≡ true → is_before_next key next ≡ true → is_among keys key ≡ true → ⊥
not_among keys low key None is low_below before t =
    not_both (is_below low key) low_below (of_one (λ (other : List ℕ). is_below low other ≡ false) keys key (recursion_from_All (λ (other : List ℕ). is_below low other ≡ false) keys is) t)
not_among keys low key (Some next) is low_below before t =
    let P : List ℕ → Type 0 = λ (other : List ℕ). is_below low other ≡ true → is_below other next ≡ false in
    not_both (is_below key next) before (of_one P keys key (recursion_from_All P keys is.2) t low_below)

-- No key of the history lies between a leaf's own key and the next one.
pub no_version : (rows : List Row) (low key : List ℕ) → is_below low key ≡ true → is_before_next key (next_key (keys_of rows) low) ≡ true → newest rows key ≡ None
no_version rows low key low_below before = elim (option_cases (newest rows key)) [
  | inl none ↦ none
  | inr s ↦ absurd (not_among (keys_of rows) low key (next_key (keys_of rows) low) (next_is (keys_of rows) low) low_below before (among_is_some rows key ∙ ap is_some s.1))
]
