-- Rows in order, and those of them that pass a test.
use Rattle.std.proofs.Common.{◌≡◌, ◌∙◌, zero, suc, ◌≤◌, Bool, true, false, List, [], ◌∷◌}
use Rattle.std.proofs.Common.{◌++◌, filter, reverse, Option, Some, None, is_some, refl, sym}
use Rattle.std.proofs.Common.{ap, subst, arith, inl, inr}
use Rattle.std.specs.List.{AllByRecursion, AllPairs, Contains, find, list_any}
use Rattle.std.specs.Option.{option_or}
use Rattle.std.proofs.lemmas.Bool.{cases_Bool, or_parts}
use Rattle.std.proofs.lemmas.Option.{same_Some}
use Rattle.std.proofs.lemmas.List.{reverse-append}
use Rattle.std.proofs.lemmas.List.Elements.{recursion_from_All}
use Rattle.std.proofs.lemmas.List.Folds.{find-append}
use Rattle.lc_base.specs.declared.row.Row.{Row}
use Rattle.lc_base.specs.History.{StandsBefore}
use Rattle.root_laws.proofs.Lists.{all_weaker, all_reverse, contained, found_has, keep_none}
use Rattle.root_laws.proofs.Lists.{some_last, not_both, option_cases}

-- Each row stands before those after it.
abbrev pub InOrder : List Row → Type 0
InOrder [] = Unit {0}
InOrder (row ∷ rows) = AllByRecursion (StandsBefore row) rows × InOrder rows

pub in_order : (rows : List Row) → AllPairs StandsBefore rows → InOrder rows
in_order [] pairs = tt
in_order (row ∷ rows) pairs = (
  recursion_from_All (StandsBefore row) rows
      (λ k d l. pairs 0 (suc k) d (omega arith) (omega (arith, l))),
  in_order rows (λ i j d less l. pairs (suc i) (suc j) d (omega (arith, less)) (omega (arith, l))),
)

-- ---- filters

pub filter_same : (p q : Row → Bool) (rows : List Row)
    → AllByRecursion (λ (row : Row). p row ≡ q row) rows → filter p rows ≡ filter q rows
filter_same p q [] all = refl
filter_same p q (row ∷ rows) all =
    let rest = filter_same p q rows all.1 in
    elim (cases_Bool (q row)) [
      | inl t ↦ let t' = all.0 ∙ t in rw (t, t') (ap (λ (rs : List Row). row ∷ rs) rest)
      | inr f ↦ let f' = all.0 ∙ f in rw (f, f') rest
    ]

-- What holds of the rows that are kept.
pub from_kept : (P : Row → Type 0) (q : Row → Bool) (rows : List Row)
    → AllByRecursion P (filter q rows) → AllByRecursion (λ (row : Row). q row ≡ true → P row) rows
from_kept P q [] all = tt
from_kept P q (row ∷ rows) all = elim (cases_Bool (q row)) [
  | inl t ↦
      let all' : P row × AllByRecursion P (filter q rows) = rw t at all in
      ((λ u. all'.0), from_kept P q rows all'.1)
  | inr f ↦
      let all' : AllByRecursion P (filter q rows) = rw f at all in
      ((λ u. absurd (not_both (q row) u f)), from_kept P q rows all')
]

-- Neither test passes a row.
abbrev Fails : (Row → Bool) → (Row → Bool) → Row → Type 0
Fails p q row = (p row ≡ false) × (q row ≡ false)

-- If one test passes a row and all those before it that the other one passes, and no test passes a
-- row after it, the one keeps what the other does, and that row.
pub filter_last : (p q : Row → Bool) (rows : List Row) (row : Row) → InOrder rows
    → Contains rows row → p row ≡ true → q row ≡ false
    → ((other : Row) → StandsBefore other row → p other ≡ q other)
    → ((other : Row) → StandsBefore row other → (p other ≡ false) × (q other ≡ false))
    → filter p rows ≡ filter q rows ++ row ∷ []
filter_last p q [] row ordered (k, below, is) t f early late = absurd (omega (arith, below))
filter_last p q (first ∷ rows) row ordered (zero, below, is) t f early late =
    let t' : p first ≡ true = ap p is ∙ t in
    let f' : q first ≡ false = ap q is ∙ f in
    let after : AllByRecursion (Fails p q) rows =
    all_weaker (StandsBefore first) (Fails p q)
    (λ other stands. late other (subst (λ (r : Row). StandsBefore r other) is stands)) rows
    ordered.0 in
    let none_p = keep_none p rows
    (all_weaker (Fails p q) (λ (other : Row). p other ≡ false) (λ other both. both.0) rows after) in
    let none_q = keep_none q rows
    (all_weaker (Fails p q) (λ (other : Row). q other ≡ false) (λ other both. both.1) rows after) in
    rw (t', f', none_p, none_q) (ap (λ (r : Row). r ∷ []) is)
filter_last p q (first ∷ rows) row ordered (suc k, below, is) t f early late =
    let stands : StandsBefore first row =
    contained (StandsBefore first) rows row ordered.0 (k, omega (arith, below), is) in
    let same : p first ≡ q first = early first stands in
    let rest = filter_last p q rows row ordered.1 (k, omega (arith, below), is) t f early late in
    elim (cases_Bool (q first)) [
      | inl u ↦ let u' = same ∙ u in rw (u, u') (ap (λ (rs : List Row). first ∷ rs) rest)
      | inr u ↦ let u' = same ∙ u in rw (u, u') rest
    ]

-- ---- the last one that passes a test

none_any : (p : Row → Bool) (rows : List Row) → list_any p rows ≡ false
    → AllByRecursion (λ (row : Row). p row ≡ false) rows
none_any p [] e = tt
none_any p (row ∷ rows) e =
    let parts = or_parts (p row) (list_any p rows) e in
    (parts.0, none_any p rows parts.1)

pub none_pass : (p : Row → Bool) (rows : List Row) → find p (reverse rows) ≡ None
    → AllByRecursion (λ (row : Row). p row ≡ false) rows
none_pass p rows e = none_any p rows (sym (some_last p rows) ∙ ap is_some e)

-- No row that passes is of a later block.
abbrev pub IsUpTo : (Row → Bool) → Row → Row → Type 0
IsUpTo p last row = p row ≡ true → row.block ≤ last.block

pub last_is_latest : (p : Row → Bool) (rows : List Row) (last : Row) → InOrder rows
    → find p (reverse rows) ≡ Some last → AllByRecursion (IsUpTo p last) rows
last_is_latest p [] last ordered e = tt
last_is_latest p (row ∷ rows) last ordered e =
    let found : option_or (find p (reverse rows)) (find p (row ∷ [])) ≡ Some last =
    sym (ap (find p) (reverse-append (row ∷ []) rows) ∙ find-append p (reverse rows) (row ∷ []))
    ∙ e in
    elim (option_cases (find p (reverse rows))) [
      | inl none ↦
          let alone : find p (row ∷ []) ≡ Some last =
          ap (λ (o : Option Row). option_or o (find p (row ∷ []))) (sym none) ∙ found in (
            (λ t. let same : row ≡ last = only t alone in
                omega (arith, ap (λ (r : Row). r.block) same)),
            all_weaker (λ (other : Row). p other ≡ false) (IsUpTo p last)
                (λ other f t. absurd (not_both (p other) t f)) rows (none_pass p rows none),
          )
      | inr s ↦
          let same : s.0 ≡ last =
          same_Some s.0 last
          (ap (λ (o : Option Row). option_or o (find p (row ∷ []))) (sym s.1) ∙ found) in
          let own : find p (reverse rows) ≡ Some last = s.1 ∙ ap (λ (r : Row). Some r) same in (
            (λ t. not_later row last
                (found_has (StandsBefore row) p (reverse rows) last
                (all_reverse (StandsBefore row) rows ordered.0) own)),
            last_is_latest p rows last ordered.1 own,
          )
    ]
  where
    only : p row ≡ true → find p (row ∷ []) ≡ Some last → row ≡ last
    only t e = let e' : Some row ≡ Some last = rw t at e in same_Some row last e'

    not_later : (a b : Row) → StandsBefore a b → a.block ≤ b.block
    not_later a b (inl less) = omega (arith, less)
    not_later a b (inr same) = omega (arith, same.0)
