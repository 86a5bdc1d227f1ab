-- The lists of rows, open or closed, have the rows that were derived from them.
use Rattle.std.proofs.Common.{◌≡◌, ◌∙◌, ℕ, ◌==◌, Bool, false, if◌then◌else◌, List, [], map}
use Rattle.std.proofs.Common.{get_or, Option, None, Some, refl, sym, ap, subst}
use Rattle.std.specs.Prelude.{slice_get}
use Rattle.std.specs.Option.{is_some}
use Rattle.std.proofs.lemmas.Option.{same_Some}
use Rattle.lc_base.specs.declared.row.Row.{Row}
use Rattle.lc_base.specs.History.{newest, uses}
use Rattle.plain_rows.specs.Users.{AreVersionsAt, users}
use Rattle.plain_rows.proofs.Using.{uses_at as versions_used}
use Rattle.forward_links.specs.Lists.{rows_of}
use Rattle.plain_rows.specs.root_laws.Root.{is_among, keys_of}
use Rattle.plain_rows.proofs.root_laws.Headers.{newest_is_key}
use Rattle.plain_rows.proofs.root_laws.Keys.{among_is_some}
use Rattle.plain_rows.proofs.root_laws.Lists.{not_both}
use Rattle.lineage_index.specs.Growth.{uses_at}
use Rattle.skip_links.specs.Versions.{newest_index}
use Rattle.lineage_index.specs.Heads.{index_or_zero, newest_at, open_list}
use Rattle.lineage_index.specs.Closed.{IsOpenListOf, closed_users}
use Rattle.lineage_index.proofs.ClosedRows.{newest_row, row_among}
use Rattle.lineage_index.proofs.KeptStates.{index_among}
use Rattle.lineage_index.proofs.KeyLists.{value_at}
use Rattle.lineage_index.proofs.MarkedUses.{rows_at}

-- The list that is kept of a key is its open list.
pub open_listed : (rows : List Row) (key : List ℕ) (i : ℕ) (list : List ℕ)
    → slice_get (keys_of rows) i ≡ Some key
    → list ≡ rows_of (get_or (map (open_list rows) (keys_of rows)) i [])
    → IsOpenListOf rows key list
open_listed rows key i list at is =
    let row = newest_row rows key (index_among (keys_of rows) key i at) in (
      row.0,
      row.1,
      is ∙ ap rows_of (value_at (open_list rows) (keys_of rows) key i [] at).1
          ∙ ap (λ (version : Option Row). rows_of (uses_at rows key version)) row.1
          ∙ ap (λ (k : List ℕ). rows_of (uses_at rows k (Some row.0))) (sym
          (newest_is_key rows key row.0 row.1))
          ∙ rows_at rows row.0,
    )

pub not_listed : (rows : List Row) (key : List ℕ) → is_among (keys_of rows) key ≡ false
    → newest rows key ≡ None
not_listed rows key none = go (newest rows key) (sym (among_is_some rows key) ∙ none)
  where
    go : (o : Option Row) → is_some o ≡ false → o ≡ None
    go None e = refl
    go (Some row) e = cc

-- The open list of a row's key is that of the row, where it is the newest row of the key.
pub open_of_row : (rows : List Row) (row : Row) (index at : ℕ) (key list : List ℕ)
    → slice_get rows index ≡ Some row → key ≡ row.key
    → Some at ≡ newest_index rows key → at ≡ index → IsOpenListOf rows key list
    → list ≡ users rows row
open_of_row rows row index at key list here same last place is =
    let there = newest_row rows key (ap (is_among (keys_of rows)) same
    ∙ row_among rows index row here) in
    let found : newest_at rows key ≡ index = sym (ap index_or_zero last) ∙ place in
    let row_is : there.0 ≡ row = same_Some there.0 row (sym there.2 ∙ ap (slice_get rows) found
    ∙ here) in
    let one : is.0 ≡ row = same_Some is.0 row (sym is.1 ∙ there.1
    ∙ ap (λ (r : Row). Some r) row_is) in
    is.2 ∙ ap (users rows) one

-- The closed list of a row that is not the newest of its key.
pub closed_of_row : (rows : List Row) (row : Row) (index at : ℕ) (key list : List ℕ) → key ≡ row.key
    → Some at ≡ newest_index rows key → (at == index) ≡ false → list ≡ closed_users rows rows index
    row → list ≡ users rows row
closed_of_row rows row index at key list same last off is =
    let found : at ≡ newest_at rows row.key = ap index_or_zero last ∙ ap (newest_at rows) same in
    let other : (newest_at rows row.key == index) ≡ false = ap (λ (n : ℕ). n == index) (sym found)
    ∙ off in
    is ∙ ap (λ (b : Bool). if b then [] else users rows row) other

-- The key of a row has a leaf.
pub row_listed : (rows : List Row) (row : Row) (index : ℕ) (key : List ℕ)
    → slice_get rows index ≡ Some row → key ≡ row.key
    → is_among (keys_of rows) key ≡ false → ⊥
row_listed rows row index key at same none =
    not_both (is_among (keys_of rows) key) (ap (is_among (keys_of rows)) same
    ∙ row_among rows index row at) none

pub versions_of_row : (rows : List Row) (row : Row) (list : List ℕ) → list ≡ users rows row
    → AreVersionsAt rows list (uses rows row.key row.block)
versions_of_row rows row list is =
    subst (λ (indexes : List ℕ). AreVersionsAt rows indexes (uses rows row.key row.block)) (sym is)
    (versions_used rows row)
