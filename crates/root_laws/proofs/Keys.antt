-- The keys of a history: each is there once, exactly if it has a version.
use Rattle.std.proofs.Common.{◌≡◌, ◌≢◌, ◌∙◌, ℕ, Bool, true, ◌||◌, ◌==◌, ◌≤◌, ◌+◌, length, List, [], ◌∷◌, ◌++◌, refl, sym, ap, arith, inl, inr}
use Rattle.std.specs.List.{list_any, fold, AllPairs, AllByRecursion}
use Rattle.std.specs.Option.{is_some}
use Rattle.std.specs.Cmp.Lexicographic.{pointwise}
use Rattle.std.proofs.lemmas.List.{length_push}
use Rattle.std.proofs.lemmas.List.Sums.{fold-append}
use Rattle.std.proofs.lemmas.List.Folds.{list_any-append, list_any_at}
use Rattle.std.proofs.lemmas.List.Quantifiers.{all_pairs_push}
use Rattle.std.proofs.lemmas.Bool.{cases_Bool}
use Rattle.std.proofs.lemmas.Slice.Eq.{bytes_eq-Decides}
use Rattle.lc_base.specs.declared.row.Row.{Row}
use Rattle.lc_base.specs.History.{newest}
use Rattle.root_laws.specs.Root.{is_among, with_key, keys_of}
use Rattle.root_laws.proofs.Lists.{all_weaker, not_both, or_assoc, or_false, or_true, some_last}

pub same_key : (a b : List ℕ) → pointwise ◌==◌ a b ≡ true → a ≡ b
same_key a b e = (bytes_eq-Decides a b).0 e

pub key_is_key : (a : List ℕ) → pointwise ◌==◌ a a ≡ true
key_is_key a = (bytes_eq-Decides a a).1 refl

among_with : (keys : List (List ℕ)) (row : Row) (k : List ℕ) → is_among (with_key keys row) k ≡ (is_among keys k || pointwise ◌==◌ row.key k)
among_with keys row k = elim (cases_Bool (is_among keys row.key)) [
  | inl there ↦ rw there (elim (cases_Bool (pointwise ◌==◌ row.key k)) [
    | inl e ↦ let is : is_among keys k ≡ true = ap (is_among keys) (sym (same_key row.key k e)) ∙ there in rw (e, is) refl
    | inr e ↦ rw e (sym (or_false (is_among keys k)))
  ])
  | inr none ↦ rw none (list_any-append (λ (other : List ℕ). pointwise ◌==◌ other k) keys (row.key ∷ []) ∙ ap (λ (b : Bool). is_among keys k || b) (or_false (pointwise ◌==◌ row.key k)))
]

among_fold : (keys : List (List ℕ)) (rows : List Row) (k : List ℕ) → is_among (fold with_key keys rows) k ≡ (is_among keys k || list_any (λ (row : Row). pointwise ◌==◌ row.key k) rows)
among_fold keys [] k = sym (or_false (is_among keys k))
among_fold keys (row ∷ rows) k =
    among_fold (with_key keys row) rows k
    ∙ ap (λ (b : Bool). b || list_any (λ (row : Row). pointwise ◌==◌ row.key k) rows) (among_with keys row k)
    ∙ or_assoc (is_among keys k) (pointwise ◌==◌ row.key k) (list_any (λ (row : Row). pointwise ◌==◌ row.key k) rows)

-- a key is among those of the rows exactly if it has a newest version
pub among_is_some : (rows : List Row) (k : List ℕ) → is_among (keys_of rows) k ≡ is_some (newest rows k)
among_is_some rows k = among_fold [] rows k ∙ sym (some_last (λ (row : Row). pointwise ◌==◌ row.key k) rows)

pub all_among : (keys : List (List ℕ)) → AllByRecursion (λ (k : List ℕ). is_among keys k ≡ true) keys
all_among [] = tt
all_among (x ∷ keys) = (
  rw (key_is_key x) refl,
  all_weaker (λ (k : List ℕ). is_among keys k ≡ true) (λ (k : List ℕ). is_among (x ∷ keys) k ≡ true) (λ k h. rw h (or_true (pointwise ◌==◌ x k))) keys (all_among keys),
)

pub keys_append : (rows more : List Row) → keys_of (rows ++ more) ≡ fold with_key (keys_of rows) more
keys_append rows more = fold-append with_key [] rows more

distinct_with : (keys : List (List ℕ)) (rows : List Row) → AllPairs ◌≢◌ keys → AllPairs ◌≢◌ (fold with_key keys rows)
distinct_with keys [] h = h
distinct_with keys (row ∷ rows) h = distinct_with (with_key keys row) rows (elim (cases_Bool (is_among keys row.key)) [
  | inl t ↦ rw t h
  | inr t ↦ rw t (all_pairs_push ◌≢◌ keys row.key h (λ k d l e. not_both (is_among keys row.key) (list_any_at (λ (other : List ℕ). pointwise ◌==◌ other row.key) keys k d l (rw e (key_is_key row.key))) t))
])

-- no key of a history is there twice
pub keys_distinct : (rows : List Row) → AllPairs ◌≢◌ (keys_of rows)
keys_distinct rows = distinct_with [] rows (λ i j d l k. absurd (omega arith))

-- there are no more keys than rows
pub keys_short : (keys : List (List ℕ)) (rows : List Row) → length (fold with_key keys rows) ≤ length keys + length rows
keys_short keys [] = omega arith
keys_short keys (row ∷ rows) = let rest = keys_short (with_key keys row) rows in let one = with_short keys row in omega (arith, rest, one)
  where
    with_short : (keys : List (List ℕ)) (row : Row) → length (with_key keys row) ≤ length keys + 1
    with_short keys row = elim (cases_Bool (is_among keys row.key)) [
      | inl e ↦ rw e (omega arith)
      | inr e ↦ rw e (omega (arith, length_push keys row.key))
    ]
