-- The rows of the blocks up to one are the first ones, and so are their entries.
use Rattle.std.proofs.Common.{◌≡◌, ◌∙◌, ℕ, suc, ◌+◌, ◌<◌, ◌≤◌, true, false, nat_le, Bool, List, []}
use Rattle.std.proofs.Common.{◌∷◌, ◌++◌, length, get_or, take, drop, filter, Some, refl, sym, ap}
use Rattle.std.proofs.Common.{subst, arith, inl, inr}
use Rattle.std.specs.Prelude.{slice_get}
use Rattle.std.specs.List.{All, AllByRecursion}
use Rattle.std.specs.List.Sorted.{IsNonDecreasingBy}
use Rattle.std.proofs.lemmas.Bool.{cases_lt, le-leb, lt-leb}
use Rattle.std.proofs.lemmas.List.{append-nil, take-append-drop, get_or-drop, length-drop}
use Rattle.std.proofs.lemmas.List.{length-take-le}
use Rattle.std.proofs.lemmas.List.Elements.{All-weaker, filter-append, recursion_from_All}
use Rattle.std.proofs.lemmas.Option.{get_or_from_slice_get}
use Rattle.lc_base.specs.declared.row.Row.{Row}
use Rattle.lc_base.specs.History.{IsLawful, up_to}
use Rattle.lineage_index.proofs.root_laws.Lists.{keep_all, keep_none, all_weaker}
use Rattle.lineage_index.proofs.plain_rows.Later.{blocks_rise}
use Rattle.lineage_index.proofs.root_laws.Parts.{lawful_up_to}
use Rattle.lineage_index.specs.entry_store.Entries.{Entry}
use Rattle.lineage_index.specs.Entries.{entries_of}
use Rattle.lineage_index.proofs.StoreEntries.{earlier_entries}
use Rattle.lineage_index.specs.Settling.{IsStoreOf}
use Rattle.lineage_index.specs.declared.index.LineageIndex.{LineageIndex}
use Rattle.lineage_index.specs.Index.{IsIndexOf}
use Rattle.lineage_rewind.specs.Front.{AreFirst, AreUpTo}

-- All rows from one of a later block on are of later blocks.
pub later_from : (rows : List Row) (at i : ℕ) (row : Row) → IsLawful rows
    → slice_get rows i ≡ Some row → at < row.block
    → All (λ (other : Row). at < other.block) (drop i rows)
later_from rows at i row lawful there above k d l =
    let here : get_or rows i d ≡ row = get_or_from_slice_get rows i row d there in
    let rises = blocks_rise rows lawful i (i + k) d (omega arith)
    (omega (arith, l, length-drop i rows)) in
    let low : row.block ≤ (get_or rows (i + k) d).block = subst
    (λ (r : Row). r.block ≤ (get_or rows (i + k) d).block) here rises in
    subst (λ (r : Row). at < r.block) (sym (get_or-drop i rows k d)) (omega (arith, low, above))

module _ (rows : List Row) (at count : ℕ) (cut : AreUpTo rows at count) where
  pub first_rows : take count rows ≡ up_to rows at
  first_rows =
      let p : Row → Bool = λ (row : Row). nat_le row.block at in
      let low : AllByRecursion (λ (row : Row). p row ≡ true) (take count rows) =
      all_weaker (λ (row : Row). row.block ≤ at) (λ (row : Row). p row ≡ true)
      (λ row h. le-leb row.block at h) (take count rows)
      (recursion_from_All (λ (row : Row). row.block ≤ at) (take count rows) cut.first) in
      let high : AllByRecursion (λ (row : Row). p row ≡ false) (drop count rows) =
      all_weaker (λ (row : Row). at < row.block) (λ (row : Row). p row ≡ false)
      (λ row h. lt-leb row.block at h) (drop count rows)
      (recursion_from_All (λ (row : Row). at < row.block) (drop count rows) cut.later) in
      sym (ap (filter p) (sym (take-append-drop count rows))
      ∙ filter-append p (take count rows) (drop count rows)
      ∙ ap (λ (rs : List Row). rs ++ filter p (drop count rows)) (keep_all p (take count rows) low)
      ∙ ap (λ (rs : List Row). take count rows ++ rs) (keep_none p (drop count rows) high)
      ∙ append-nil (take count rows))

  pub rows_within : All (λ (row : Row). row.block < at + 1) (up_to rows at)
  rows_within = subst (All (λ (row : Row). row.block < at + 1)) first_rows
      (All-weaker (λ (row : Row). row.block ≤ at) (λ (row : Row). row.block < at + 1)
      (λ row h. omega (arith, h)) (take count rows) cut.first)

  first_entries : take count (entries_of rows rows) ≡ entries_of (take count rows) (take count rows)
  first_entries =
      let low : All (λ (row : Row). row.block < at + 1) (take count rows) = All-weaker
      (λ (row : Row). row.block ≤ at) (λ (row : Row). row.block < at + 1)
      (λ row h. omega (arith, h)) (take count rows) cut.first in
      let high : All (λ (row : Row). at + 1 ≤ row.block) (drop count rows) = All-weaker
      (λ (row : Row). at < row.block) (λ (row : Row). at + 1 ≤ row.block)
      (λ row h. omega (arith, h)) (drop count rows) cut.later in
      ap (λ (rs : List Row). take count (entries_of rs rs)) (sym (take-append-drop count rows))
      ∙ ap (λ (n : ℕ). take n (entries_of (take count rows ++ drop count rows)
      (take count rows ++ drop count rows))) (sym (length-take-le count rows cut.within))
      ∙ earlier_entries (take count rows) (drop count rows) (at + 1) low high

  pub first_store : (entries more : List Entry) → IsStoreOf rows more → entries ≡ take count more
      → IsStoreOf (up_to rows at) entries
  first_store entries more store is = record {
    lawful = lawful_up_to rows at store.lawful;
    entries_are =
        is ∙ ap (take count) store.entries_are ∙ first_entries
        ∙ ap (λ (rs : List Row). entries_of rs rs) first_rows;
  }

-- The store of an index.
pub store_of : (rows : List Row) (n : ℕ) (index : LineageIndex) (entries : List Entry)
    → IsIndexOf rows n index → entries ≡ entries_of rows rows → IsStoreOf rows entries
store_of rows n index entries is are = record { lawful = is.store.lawful; entries_are = are }

-- These rows are the first ones, and their entries are the first entries.
pub are_first : (rows : List Row) (at count : ℕ) → AreUpTo rows at count → (n : ℕ)
    (index : LineageIndex) (entries more : List Entry) → IsIndexOf rows n index
    → more ≡ entries_of rows rows → entries ≡ take count more
    → AreFirst rows (up_to rows at) n index entries
are_first rows at count cut n index entries more is are front =
    let up : take count rows ≡ up_to rows at = first_rows rows at count cut in
    let long : length (up_to rows at) ≡ count = sym (ap length up)
    ∙ length-take-le count rows cut.within in
    record {
      whole_is = is;
      first = sym up ∙ ap (λ (k : ℕ). take k rows) (sym long);
      store = first_store rows at count cut entries more (store_of rows n index more is are) front;
    }

-- ---- the number of these rows

up_to_begins : (rows : List Row) (at : ℕ) → IsNonDecreasingBy (λ (row : Row). row.block) rows
    → take (length (up_to rows at)) rows ≡ up_to rows at
up_to_begins [] at rises = refl
up_to_begins (row ∷ rows) at rises = elim (cases_lt at row.block) [
  | inl above ↦
      let high : AllByRecursion (λ (r : Row). nat_le r.block at ≡ false) (row ∷ rows) =
      all_weaker (λ (r : Row). row.block ≤ r.block) (λ (r : Row). nat_le r.block at ≡ false)
      (λ r h. lt-leb r.block at (omega (arith, h, above))) (row ∷ rows)
      (recursion_from_All (λ (r : Row). row.block ≤ r.block) (row ∷ rows)
      (λ k d l. rises 0 k d (omega arith) l)) in
      let none : up_to (row ∷ rows) at ≡ [] = keep_none (λ (r : Row). nat_le r.block at)
      (row ∷ rows) high in
      ap (λ (rs : List Row). take (length rs) (row ∷ rows)) none ∙ sym none
  | inr low ↦
      let rest = up_to_begins rows at
      (λ i j d l k. rises (suc i) (suc j) d (omega (arith, l)) (omega (arith, k))) in
      let now : nat_le row.block at ≡ true = le-leb row.block at low in
      rw now (ap (λ (rs : List Row). row ∷ rs) rest)
]

-- The first rows, as many as there are of the blocks up to one, are those of these blocks.
pub up_to_first : (rows : List Row) (at : ℕ) → IsLawful rows
    → take (length (up_to rows at)) rows ≡ up_to rows at
up_to_first rows at lawful = up_to_begins rows at (blocks_rise rows lawful)
