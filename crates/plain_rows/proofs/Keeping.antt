-- The rows that are kept are a lawful history, with one row more too.
use Rattle.std.proofs.Common.{◌≡◌, ◌∙◌, ℕ, ◌<◌, List, [], ◌∷◌, ◌++◌, length, get_or, slice_get, Some, refl, sym, ap, subst, rules, arith}
use Rattle.std.specs.List.{All}
use Rattle.std.proofs.lemmas.List.{length-append}
use Rattle.std.proofs.lemmas.List.Elements.{All-append}
use Rattle.std.proofs.lemmas.Option.{slice_get-get_or, get_or_from_slice_get}
use Rattle.lc_base.specs.declared.row.Row.{Row}
use Rattle.lc_base.specs.History.{IsLawful}
use Rattle.plain_rows.specs.declared.index.RowsIndex.{RowsIndex}
use Rattle.plain_rows.specs.Index.{IsIndexOf}
use Rattle.plain_rows.specs.Users.{AreVersionsAt}
use Rattle.plain_rows.proofs.Marked.{get_here}
use Rattle.plain_rows.proofs.UsedEnd.{at_front, get_front}
use Rattle.root_laws.specs.TypedLedger.{IsTypedRow}
use Rattle.plain_rows.specs.declared.kept.KeptRow.{KeptRow}
use Rattle.plain_rows.specs.Kept.{row_of, rows_with, rows_of, IsKeptAs, AreKept, KeepsRows}
use Rattle.plain_rows.proofs.Lists.{found_all, versions_stay}

-- ---- no rows

pub none_kept : rows_of [] ≡ []
unfolding rows_of
none_kept = refl

lawful_none : IsLawful []
lawful_none = record { few = omega arith; ordered = search rules; lawful_deps = search rules }

pub keeps_none : (index : RowsIndex) → IsIndexOf [] index → KeepsRows (rows_of []) [] (Some index)
keeps_none index is = subst (λ (rows : List Row). KeepsRows rows [] (Some index)) (sym none_kept) (record {
  lawful = lawful_none;
  typed = search rules;
  kept_are = record { long = refl; each = λ i row at. search rules };
  index_is = is;
})

-- ---- the rows that are kept, and more

rows_with-append : (rows : List Row) (xs ys : List KeptRow) → rows_with rows (xs ++ ys) ≡ rows_with (rows_with rows xs) ys
rows_with-append rows [] ys = refl
rows_with-append rows (x ∷ xs) ys = rows_with-append (rows ++ row_of rows x ∷ []) xs ys

pub rows_of_more : (xs ys : List KeptRow) → rows_of (xs ++ ys) ≡ rows_with (rows_of xs) ys
unfolding rows_of
rows_of_more xs ys = rows_with-append [] xs ys

row_is : (rows : List Row) (kept : KeptRow) (row : Row) → IsKeptAs rows kept row → row_of rows kept ≡ row
row_is rows kept row so =
    let deps = found_all rows kept.deps row.deps so.deps_are in
    λ i. record { key = so.key_is i; block = so.block_is i; tx = so.tx_is i; value = so.value_is i; deps = deps i }

pub rows_more : (rows before : List Row) (more : List KeptRow) (kept : KeptRow) (row : Row) → rows_with rows more ≡ before → IsKeptAs before kept row → rows_with rows (more ++ kept ∷ []) ≡ before ++ row ∷ []
rows_more rows before more kept row is so =
    rows_with-append rows more (kept ∷ [])
    ∙ ap (λ (l : List Row). l ++ row_of l kept ∷ []) is
    ∙ ap (λ (r : Row). before ++ r ∷ []) (row_is before kept row so)

-- a row is kept as it was made to be
pub kept_as : (rows : List Row) (kept : KeptRow) (row : Row) (deps : List ℕ) → kept ≡ record { key = row.key; block = row.block; tx = row.tx; value = row.value; deps = deps } → AreVersionsAt rows deps row.deps → IsKeptAs rows kept row
kept_as rows kept row deps is at = record {
  key_is = ap (λ (k : KeptRow). k.key) is;
  block_is = ap (λ (k : KeptRow). k.block) is;
  tx_is = ap (λ (k : KeptRow). k.tx) is;
  value_is = ap (λ (k : KeptRow). k.value) is;
  deps_are = subst (λ (ds : List ℕ). AreVersionsAt rows ds row.deps) (sym (ap (λ (k : KeptRow). k.deps) is)) at;
}

stays : (rows : List Row) (new : Row) (kept : KeptRow) (row : Row) → IsKeptAs rows kept row → IsKeptAs (rows ++ new ∷ []) kept row
stays rows new kept row so = record {
  key_is = so.key_is;
  block_is = so.block_is;
  tx_is = so.tx_is;
  value_is = so.value_is;
  deps_are = versions_stay rows (new ∷ []) kept.deps row.deps so.deps_are;
}

pub kept_more : (rows : List Row) (kept : List KeptRow) (item : KeptRow) (row : Row) → AreKept rows kept → IsKeptAs rows item row → AreKept (rows ++ row ∷ []) (kept ++ item ∷ [])
kept_more rows kept item row are so = record {
  long = omega (arith, length-append kept (item ∷ []), length-append rows (row ∷ []), are.long);
  each = at_front (λ (i : ℕ) (r : Row). (k : KeptRow) × (slice_get (kept ++ item ∷ []) i ≡ Some k) × IsKeptAs (rows ++ row ∷ []) k r) rows row
      (λ i r at. let h = are.each i r at in (h.0, get_front kept item h.0 i h.1, stays rows row h.0 r h.2))
      (item, ap (slice_get (kept ++ item ∷ [])) (sym are.long) ∙ get_here kept item [], stays rows row item row so);
}

-- ---- the row that is kept at an index

pub kept_there : (rows : List Row) (kept : List KeptRow) (i : ℕ) (item : KeptRow) (row : Row) → AreKept rows kept → slice_get rows i ≡ Some row → item ≡ get_or kept i item → IsKeptAs rows item row
kept_there rows kept i item row are at is =
    let h = are.each i row at in
    let same : h.0 ≡ item = sym (get_or_from_slice_get kept i h.0 item h.1) ∙ sym is in
    subst (λ (k : KeptRow). IsKeptAs rows k row) same h.2

pub kept_at : (rows : List Row) (kept : List KeptRow) (i : ℕ) (item : KeptRow) → AreKept rows kept → i < length kept → item ≡ get_or kept i item → (row : Row) × (slice_get rows i ≡ Some row) × IsKeptAs rows item row
kept_at rows kept i item are m is =
    let d = row_of [] item in
    let row = get_or rows i d in
    let at : slice_get rows i ≡ Some row = slice_get-get_or rows i d (omega (arith, m, are.long)) in
    (row, at, kept_there rows kept i item row are at is)

-- ---- rows after those that are kept

pub keeps_more : (rows new : List Row) (kept more all : List KeptRow) (index : RowsIndex) → rows ≡ rows_of kept → all ≡ kept ++ more → rows_with rows more ≡ rows ++ new → IsLawful (rows ++ new) → All IsTypedRow rows → All IsTypedRow new → AreKept (rows ++ new) (kept ++ more) → IsIndexOf (rows ++ new) index →
    KeepsRows (rows_of all) all (Some index)
keeps_more rows new kept more all index is joined added lawful before now are over =
    let same : rows ++ new ≡ rows_of all = sym added ∙ ap (λ (l : List Row). rows_with l more) is ∙ sym (rows_of_more kept more) ∙ ap rows_of (sym joined) in
    subst (λ (l : List Row). KeepsRows l all (Some index)) same (record {
      lawful = lawful;
      typed = All-append IsTypedRow rows new before now;
      kept_are = subst (AreKept (rows ++ new)) (sym joined) are;
      index_is = over;
    })
