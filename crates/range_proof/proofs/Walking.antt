-- Going back from the last version of a range, one after another, gives all of them.
use Rattle.std.proofs.Common.{◌≡◌, ◌∙◌, ℕ, ◌+◌, ◌<◌, ◌==◌, nat_le}
use Rattle.std.proofs.Common.{List, [], ◌∷◌, ◌++◌, length, map, filter, reverse, slice_get, Option}
use Rattle.std.proofs.Common.{Some, None, refl, sym, ap, subst, arith, inl, inr}
use Rattle.std.specs.List.{Contains}
use Rattle.std.specs.Cmp.Lexicographic.{pointwise}
use Rattle.std.proofs.lemmas.Bool.{cases_Bool, leb-true, leb-false}
use Rattle.std.proofs.lemmas.List.{append-nil, append_assoc, map-append, reverse-append}
use Rattle.std.proofs.lemmas.List.{length-append, length-map, length-reverse}
use Rattle.std.proofs.lemmas.Option.{none-some, same_Some, slice_get_within}
use Rattle.std.proofs.lemmas.Option.{get_or_from_slice_get}
use Rattle.lc_base.specs.declared.row.Row.{Row}
use Rattle.lc_base.specs.History.{IsLawful, below, latest, newest}
use Rattle.root_laws.proofs.Headers.{newest_is_key, newest_has, below_are_before}
use Rattle.root_laws.proofs.Keys.{same_key, key_is_key}
use Rattle.plain_rows.specs.Places.{IsRowAt}
use Rattle.root_laws.specs.Ranges.{rows_between}
use Rattle.root_laws.proofs.Ends.{latest_is}
use Rattle.root_laws.proofs.UpTo.{IsBetween, is_up_to, is_before, one_more, none_low}
use Rattle.root_laws.proofs.UpTo.{none_before, before_same, none_between, all_latest}
use Rattle.range_proof.specs.Finding.{AreRowsAt, unless_before}

-- The rows that are still to be found, from the one at the next index on.
abbrev pub AreLeft : List Row → List ℕ → ℕ → ℕ → Option ℕ → List Row → Type 0
AreLeft rows key from to None left = left ≡ []
AreLeft rows key from to (Some index) left =
    (row : Row) × (slice_get rows index ≡ Some row) × IsBetween key from to row
    × (left ≡ reverse (filter (is_up_to key from to row.block) rows))

-- The rows that were found, and those that are still to be found, are all of the range.
pub record IsWalked (rows : List Row) (key : List ℕ) (from to : ℕ) (found : List ℕ)
    (next : Option ℕ) : Type 0 where
  pub left : List Row
  pub are_left : AreLeft rows key from to next left
  pub all : map (slice_get rows) found ++ map Some left
      ≡ map Some (reverse (rows_between rows key from to))

-- ---- a row at an index

none_at : (rows : List Row) (index : Option ℕ) → IsRowAt rows index None → index ≡ None
none_at rows None is = refl
none_at rows (Some index) is = absurd (none-some is.0 is.1)

some_at : (rows : List Row) (index : Option ℕ) (row : Row) → IsRowAt rows index (Some row)
    → (i : ℕ) × (index ≡ Some i) × (slice_get rows i ≡ Some row)
some_at rows None row is = absurd (none-some row (sym is))
some_at rows (Some index) row is =
    (index, refl, is.2 ∙ ap (λ (r : Row). Some r) (sym (same_Some row is.0 is.1)))

contains : (rows : List Row) (index : ℕ) (row : Row) → slice_get rows index ≡ Some row
    → Contains rows row
contains rows index row at =
    (index, slice_get_within rows index row at, get_or_from_slice_get rows index row row at)

nothing_left : (rows : List Row) (key : List ℕ) (from to : ℕ) (next : Option ℕ) (left : List Row)
    → next ≡ None → left ≡ [] → AreLeft rows key from to next left
nothing_left rows key from to next left none empty =
    subst (λ (o : Option ℕ). AreLeft rows key from to o left) (sym none) empty

one_next : (rows : List Row) (key : List ℕ) (from to : ℕ) (next : Option ℕ) (row : Row)
    (left : List Row) → IsRowAt rows next (Some row) → IsBetween key from to row
    → left ≡ reverse (filter (is_up_to key from to row.block) rows)
    → AreLeft rows key from to next left
one_next rows key from to next row left is between are =
    let at = some_at rows next row is in
    subst (λ (o : Option ℕ). AreLeft rows key from to o left) (sym at.1)
    (row, at.2, between, are)

module _ (rows : List Row) (lawful : IsLawful rows) (key : List ℕ) (from to : ℕ) where
  -- ---- at first

  starts : (next : Option ℕ) → IsRowAt rows next (unless_before from (latest rows key to))
      → AreLeft rows key from to next (reverse (rows_between rows key from to))
  starts next = go (latest rows key to) refl
    where
      go : (o : Option Row) → latest rows key to ≡ o → IsRowAt rows next (unless_before from o)
          → AreLeft rows key from to next (reverse (rows_between rows key from to))
      go None e is =
          nothing_left rows key from to next (reverse (rows_between rows key from to))
          (none_at rows next is) (ap reverse (none_between rows lawful key from to e))
      go (Some row) e is = elim (cases_Bool (nat_le from row.block)) [
        | inl t ↦
            let is' : IsRowAt rows next (Some row) = rw t at is in
            one_next rows key from to next row (reverse (rows_between rows key from to)) is'
            (latest_is rows key from to row e (leb-true from row.block t))
            (ap reverse (all_latest rows lawful key from to row e))
        | inr f ↦
            let is' : IsRowAt rows next None = rw f at is in
            nothing_left rows key from to next (reverse (rows_between rows key from to))
            (none_at rows next is')
            (ap reverse (all_latest rows lawful key from to row e
            ∙ none_low rows lawful key from to row.block (leb-false from row.block f)))
      ]

  pub begun : (next : Option ℕ) → IsRowAt rows next (unless_before from (latest rows key to))
      → IsWalked rows key from to [] next
  begun next is = record {
    left = reverse (rows_between rows key from to);
    are_left = starts next is;
    all = refl;
  }

  -- ---- a version more

  -- The rows of the range before a row of it.
  abbrev before : Row → List Row
  before row = filter (is_before key from to row.block) rows

  goes_on : (row : Row) (next : Option ℕ) → IsBetween key from to row
      → IsRowAt rows next (unless_before from (newest (below rows row.block) row.key))
      → AreLeft rows key from to next (reverse (before row))
  goes_on row next between = go (newest (below rows row.block) row.key) refl
    where
      own_key : row.key ≡ key
      own_key = same_key row.key key between.key_is

      of_key : (o : Option Row) → newest (below rows row.block) row.key ≡ o
          → newest (below rows row.block) key ≡ o
      of_key o e = ap (newest (below rows row.block)) (sym own_key) ∙ e

      go : (o : Option Row) → newest (below rows row.block) row.key ≡ o
          → IsRowAt rows next (unless_before from o)
          → AreLeft rows key from to next (reverse (before row))
      go None e is =
          nothing_left rows key from to next (reverse (before row)) (none_at rows next is)
          (ap reverse (none_before rows lawful key from to row.block (of_key None e)))
      go (Some older) e is =
          let less : older.block < row.block =
          newest_has (λ (r : Row). r.block < row.block) (below rows row.block) row.key older
          (below_are_before rows row.block) e in
          let same = before_same rows lawful key from to row.block older (of_key (Some older) e)
          less in
          elim (cases_Bool (nat_le from older.block)) [
            | inl t ↦
                let is' : IsRowAt rows next (Some older) = rw t at is in
                let high = between.high in
                one_next rows key from to next older (reverse (before row)) is'
                (record {
                  key_is = ap (λ (k : List ℕ). pointwise ◌==◌ k key)
                      (newest_is_key (below rows row.block) row.key older e ∙ own_key)
                      ∙ key_is_key key;
                  low = leb-true from older.block t;
                  high = omega (arith, less, high);
                })
                (ap reverse same)
            | inr f ↦
                let is' : IsRowAt rows next None = rw f at is in
                nothing_left rows key from to next (reverse (before row)) (none_at rows next is')
                (ap reverse (same
                ∙ none_low rows lawful key from to older.block (leb-false from older.block f)))
          ]

  turned : (rs : List Row) (row : Row) → reverse (rs ++ row ∷ []) ≡ row ∷ reverse rs
  turned rs row = reverse-append rs (row ∷ [])

  pushed : (found : List ℕ) (index : ℕ) (row : Row) (left : List Row)
      → slice_get rows index ≡ Some row
      → map (slice_get rows) (found ++ index ∷ []) ++ map Some left
      ≡ map (slice_get rows) found ++ map Some (row ∷ left)
  pushed found index row left at =
      ap (λ (rs : List (Option Row)). rs ++ map Some left)
      (map-append (slice_get rows) found (index ∷ []))
      ∙ append_assoc (map (slice_get rows) found) (slice_get rows index ∷ []) (map Some left)
      ∙ ap (λ (o : Option Row). map (slice_get rows) found ++ o ∷ map Some left) at

  pub walked_on : (found longer : List ℕ) (index : ℕ) (next : Option ℕ)
      → longer ≡ found ++ index ∷ [] → IsWalked rows key from to found (Some index)
      → ((row : Row) → slice_get rows index ≡ Some row
      → IsRowAt rows next (unless_before from (newest (below rows row.block) row.key)))
      → IsWalked rows key from to longer next
  walked_on found longer index next more so_far older =
      let left = so_far.are_left in
      let row = left.0 in
      let at = left.1 in
      let between = left.2 in
      let rest : so_far.left ≡ row ∷ reverse (before row) =
      left.3
      ∙ ap reverse (one_more rows lawful key from to row (contains rows index row at) between)
      ∙ turned (before row) row in
      record {
        left = reverse (before row);
        are_left = goes_on row next between (older row at);
        all = ap (λ (is : List ℕ). map (slice_get rows) is ++ map Some (reverse (before row))) more
            ∙ pushed found index row (reverse (before row)) at
            ∙ ap (λ (rs : List Row). map (slice_get rows) found ++ map Some rs) (sym rest)
            ∙ so_far.all;
      }

-- ---- at last

pub all_walked : (rows : List Row) (key : List ℕ) (from to : ℕ) (found : List ℕ)
    (next : Option ℕ) → IsWalked rows key from to found next → next ≡ None
    → AreRowsAt rows found (reverse (rows_between rows key from to))
all_walked rows key from to found next so_far none =
    let left : AreLeft rows key from to None so_far.left =
    subst (λ (o : Option ℕ). AreLeft rows key from to o so_far.left) none so_far.are_left in
    sym (append-nil (map (slice_get rows) found))
    ∙ ap (λ (rs : List Row). map (slice_get rows) found ++ map Some rs) (sym left)
    ∙ so_far.all

-- An index that is next is one of a row.
pub next_within : (rows : List Row) (key : List ℕ) (from to : ℕ) (found : List ℕ) (index : ℕ)
    → IsWalked rows key from to found (Some index) → index < length rows
next_within rows key from to found index so_far =
    slice_get_within rows index so_far.are_left.0 so_far.are_left.1

-- ---- how many

pub as_many : (rows : List Row) (key : List ℕ) (from to : ℕ) (found : List ℕ) (next : Option ℕ)
    (so_far : IsWalked rows key from to found next)
    → length found + length so_far.left ≡ length (rows_between rows key from to)
as_many rows key from to found next so_far =
    let left = so_far.left in
    let some : Row → Option Row = λ r. Some r in
    let sum : length (map (slice_get rows) found ++ map some left) ≡ length found + length left =
    length-append (map (slice_get rows) found) (map some left)
    ∙ ap (λ (n : ℕ). n + length (map some left)) (length-map found (slice_get rows))
    ∙ ap (λ (n : ℕ). length found + n) (length-map left some) in
    sym sum ∙ ap length so_far.all
    ∙ length-map (reverse (rows_between rows key from to)) some
    ∙ length-reverse (rows_between rows key from to)

pub all_found : (rows : List Row) (key : List ℕ) (from to : ℕ) (found : List ℕ)
    (next : Option ℕ) → IsWalked rows key from to found next → next ≡ None
    → length found ≡ length (rows_between rows key from to)
all_found rows key from to found next so_far none =
    let left : AreLeft rows key from to None so_far.left =
    subst (λ (o : Option ℕ). AreLeft rows key from to o so_far.left) none so_far.are_left in
    let no_more : length so_far.left ≡ 0 = ap length left in
    let both = as_many rows key from to found next so_far in
    omega (arith, no_more, both)
