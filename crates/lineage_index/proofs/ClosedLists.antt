-- The lists of the keys after the rows of a block closed those of their keys.
use Rattle.std.proofs.Common.{◌≡◌, ◌∙◌, ℕ, Bool, true, false, ◌||◌, ◌==◌, List, [], ◌∷◌, ◌++◌, Some, None, refl, sym, ap, inl, inr}
use Rattle.std.specs.List.{list_any, AllByRecursion}
use Rattle.std.specs.Cmp.Lexicographic.{pointwise}
use Rattle.std.proofs.lemmas.List.Folds.{list_any-append}
use Rattle.std.proofs.lemmas.Bool.{cases_Bool}
use Rattle.lc_base.specs.declared.row.Row.{Row}
use Rattle.lc_base.specs.History.{newest, uses}
use Rattle.forward_links.specs.Lists.{Use}
use Rattle.plain_rows.proofs.root_laws.Lists.{option_cases, or_false, some_last}
use Rattle.plain_rows.proofs.root_laws.Growing.{newest_append}
use Rattle.plain_rows.proofs.root_laws.Headers.{newest_has}
use Rattle.lineage_index.specs.Growth.{Grows, open_uses, uses_at, list_after_rows, is_of_key}
use Rattle.lineage_index.specs.Growth.{changed_at}
use Rattle.lineage_index.specs.Heads.{open_list}
use Rattle.lineage_index.proofs.Blocks.{rows_now, no_uses_yet}
use Rattle.lineage_index.proofs.MarkedUses.{none_at, versions_at}

-- one row more
pub one_key_more : (list : List ℕ → List Use) (done : List Row) (row : Row) (key : List ℕ)
    → changed_at (list_after_rows list done) row.key [] key ≡ list_after_rows list
    (done ++ row ∷ []) key
one_key_more list done row key =
    let any : list_any (is_of_key key) (done ++ row ∷ []) ≡ (list_any (is_of_key key) done || pointwise ◌==◌ row.key key) =
    list_any-append (is_of_key key) done (row ∷ []) ∙ ap (λ (b : Bool). list_any (is_of_key key) done || b) (or_false (pointwise ◌==◌ row.key key)) in
    elim (cases_Bool (pointwise ◌==◌ row.key key)) [
      | inl t ↦ rw (t, any, t, or_true (list_any (is_of_key key) done)) refl
      | inr t ↦ rw (t, any, t, or_false (list_any (is_of_key key) done)) refl
    ]
  where
    or_true : (b : Bool) → (b || true) ≡ true
    or_true true = refl
    or_true false = refl

-- the newest version of a key after the block
pub newest_after : (rows new : List Row) (key : List ℕ) (row : Row) → newest new key ≡ Some row → newest (rows ++ new) key ≡ Some row
newest_after rows new key row e = newest_append rows new key ∙ rw e refl

pub newest_kept : (rows new : List Row) (key : List ℕ) → newest new key ≡ None → newest (rows ++ new) key ≡ newest rows key
newest_kept rows new key e = newest_append rows new key ∙ rw e refl

-- nothing was derived yet from a version of the block itself
none_of_block : (rows new : List Row) (n : ℕ) (key : List ℕ) (row : Row) → Grows rows new n
    → row.block ≡ n
    → uses_at (rows ++ new) key (Some row) ≡ []
none_of_block rows new n key row g at =
    none_at (uses_at (rows ++ new) key (Some row))
    (versions_at (rows ++ new) key (Some row) ∙ ap (uses (rows ++ new) key) at
    ∙ no_uses_yet rows new n key g)

-- some rows of the block settled: the lists of the newest versions then
pub settled_to : (rows new done : List Row) (n : ℕ) (key : List ℕ) → Grows rows new n
    → AllByRecursion (λ (row : Row). row.block ≡ n) done
    → list_after_rows (open_uses rows new) done key ≡ uses_at (rows ++ new) key (newest
    (rows ++ done) key)
settled_to rows new done n key g now = elim (option_cases (newest done key)) [
  | inl none ↦
      let off : list_any (is_of_key key) done ≡ false = sym (some_last (is_of_key key) done)
      ∙ rw none refl in
      rw (off, newest_kept rows done key none) refl
  | inr s ↦
      let on : list_any (is_of_key key) done ≡ true = sym (some_last (is_of_key key) done)
      ∙ rw s.1 refl in
      let at : s.0.block ≡ n = newest_has (λ (r : Row). r.block ≡ n) done key s.0 now s.1 in
      rw (on, newest_after rows done key s.0 s.1) (sym (none_of_block rows new n key s.0 g at))
]

-- all rows settled: the open lists of the longer history
pub settled_all : (rows new : List Row) (n : ℕ) (key : List ℕ) → Grows rows new n
    → list_after_rows (open_uses rows new) new key ≡ open_list (rows ++ new) key
settled_all rows new n key g = settled_to rows new new n key g (rows_now rows new n g)
