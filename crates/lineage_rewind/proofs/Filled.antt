-- An empty list is filled with the uses of a row among the first rows.
use Rattle.std.proofs.Common.{◌≡◌, ◌∙◌, ℕ, zero, suc, ◌+◌, ◌<◌, ◌≤◌, List, [], ◌∷◌, ◌++◌, length}
use Rattle.std.proofs.Common.{get_or, take, map, Some, refl, sym, ap, ap₂, arith}
use Rattle.std.specs.Prelude.{slice_get, slice_set}
use Rattle.std.proofs.lemmas.List.{length-map, length-set, get_or-map, get_or-set_same, take_more}
use Rattle.std.proofs.lemmas.Option.{same_Some, none-some, slice_get_within}
use Rattle.lc_base.specs.declared.row.Row.{Row}
use Rattle.lc_base.specs.declared.row.Dep.{Dep}
use Rattle.lc_base.specs.History.{depends_on}
use Rattle.lineage_index.specs.root_laws.Root.{keys_of}
use Rattle.lineage_index.proofs.root_laws.Keys.{keys_short}
use Rattle.lineage_index.specs.plain_rows.First.{is_below, numbers_below}
use Rattle.lineage_index.specs.plain_rows.Users.{number_of, there, users, version_at}
use Rattle.lineage_index.proofs.plain_rows.First.{marked_first}
use Rattle.lineage_index.proofs.plain_rows.Using.{uses_at as versions_used}
use Rattle.lineage_index.specs.entry_store.Entries.{Entry}
use Rattle.lineage_index.specs.declared.index.LineageIndex.{LineageIndex}
use Rattle.lineage_index.specs.forward_links.declared.kept_list.KeptList.{KeptList}
use Rattle.lineage_index.specs.forward_links.Lists.{Use, kept_of, rows_of, versions_of, with_use_at}
use Rattle.lineage_index.specs.Growth.{uses_at}
use Rattle.lineage_index.specs.Heads.{newest_at}
use Rattle.lineage_index.proofs.MarkedUses.{rows_at, versions_at}
use Rattle.lineage_rewind.specs.Front.{AreFirst, CanFill, IsEmpty}

-- ---- one list of several

pub set_same : {A : Type 0} (xs : List A) (i : ℕ) (x : A) → slice_get xs i ≡ Some x
    → slice_set xs i x ≡ xs
set_same [] i x at = absurd (none-some x at)
set_same {A = A} (y ∷ xs) zero x at = ap (λ (z : A). z ∷ xs) (sym (same_Some y x at))
set_same {A = A} (y ∷ xs) (suc i) x at = ap (λ (zs : List A). y ∷ zs) (set_same xs i x at)

set_again : {A : Type 0} (xs : List A) (i : ℕ) (x y : A)
    → slice_set (slice_set xs i x) i y ≡ slice_set xs i y
set_again [] i x y = refl
set_again (z ∷ xs) zero x y = refl
set_again {A = A} (z ∷ xs) (suc i) x y = ap (λ (zs : List A). z ∷ zs) (set_again xs i x y)

-- A list that has the first uses, with the next one added.
pub use_more : (all : List (List Use)) (list i : ℕ) (uses : List Use) (use_ d : Use)
    → list < length all → i < length uses → use_ ≡ get_or uses i d
    → with_use_at (slice_set all list (take i uses)) list use_ ≡ slice_set all list
    (take (i + 1) uses)
use_more all list i uses use_ d within below is =
    ap (λ (l : List Use). slice_set (slice_set all list (take i uses)) list (l ++ use_ ∷ []))
    (get_or-set_same all list (take i uses) [] within)
    ∙ set_again all list (take i uses) (take i uses ++ use_ ∷ [])
    ∙ ap (slice_set all list)
    (ap (λ (x : Use). take i uses ++ x ∷ []) is ∙ sym (take_more uses i d below))

pub lists_within : (all : List (List Use)) (list : ℕ) (x : List Use) (lists : List KeptList)
    → list < length all → lists ≡ map kept_of (slice_set all list x) → list < length lists
lists_within all list x lists within is = omega
    (arith, within, ap length is, length-map (slice_set all list x) kept_of, length-set all list x)

pub no_dep : Dep
no_dep = record { key = []; block = 0 }

pub no_use : Use
no_use = record { version = no_dep; row = 0 }

-- The use whose row is the user at an index.
pub use_there : (users : List ℕ) (uses : List Use) (i : ℕ) (version : Dep) → users ≡ rows_of uses
    → i < length uses → version ≡ get_or (versions_of uses) i no_dep
    → record { version = version; row = get_or users i 0 } ≡ get_or uses i no_use
use_there users uses i version users_are within is =
    ap₂ (λ (v : Dep) (row : ℕ). let use_ : Use = record { version = v; row = row } in use_)
    (is ∙ get_or-map (λ (u : Use). u.version) uses i no_use no_dep within)
    (ap (λ (all : List ℕ). get_or all i 0) users_are
    ∙ get_or-map (λ (u : Use). u.row) uses i no_use 0 within)

-- There are as many users as uses.
pub as_many_uses : (users : List ℕ) (uses : List Use) → users ≡ rows_of uses
    → length users ≡ length uses
as_many_uses users uses are = ap length are ∙ length-map uses (λ (u : Use). u.row)

-- ---- the first rows

get_taken : {A : Type 0} (k : ℕ) (xs : List A) (i : ℕ) (x : A) → slice_get (take k xs) i ≡ Some x
    → slice_get xs i ≡ Some x
get_taken zero xs i x at = absurd (none-some x at)
get_taken (suc k) [] i x at = absurd (none-some x at)
get_taken (suc k) (y ∷ xs) zero x at = at
get_taken (suc k) (y ∷ xs) (suc i) x at = get_taken k xs i x at

module _ (all rows : List Row) (n : ℕ) (whole : LineageIndex) (entries : List Entry)
    (first : AreFirst all rows n whole entries) (index : ℕ) (row : Row)
    (at : slice_get rows index ≡ Some row) where
  pub row_in_all : slice_get all index ≡ Some row
  row_in_all = get_taken (length rows) all index row (ap (λ (rs : List Row). slice_get rs index)
      (sym first.first) ∙ at)

  pub within_all : index < length all
  within_all = slice_get_within all index row row_in_all

  -- Its users among the first rows are those of its users that are below their number.
  pub users_below : (own below : List ℕ) (end : ℕ) → own ≡ users all row → end ≡ length rows
      → below ≡ numbers_below end own → below ≡ users rows row
  users_below own below end own_is end_is below_is =
      below_is ∙ ap (numbers_below end) own_is
      ∙ ap (λ (k : ℕ). numbers_below k (users all row)) end_is
      ∙ marked_first number_of (depends_on row.key row.block) (is_below (length rows)) (length rows)
      (λ m x. refl) 0 (length rows) all (omega arith)
      ∙ ap (λ (rs : List Row). users rs row) (sym first.first)

  pub can_fill : (others : List (List Use)) (list : ℕ) (lists : List KeptList) (below : List ℕ)
      → IsEmpty others list lists → below ≡ users rows row
      → CanFill rows (uses_at rows row.key (Some row)) others list lists entries below
  can_fill others list lists below empty is = record {
    store = first.store;
    users_are = is ∙ sym (rows_at rows row);
    versions_are =
        ap (map (version_at rows)) is ∙ versions_used rows row
        ∙ ap (map there) (sym (versions_at rows row.key (Some row)));
    is_empty = empty;
  }

-- ---- the keys

-- There are as many newest rows as keys, and at most as many as rows.
pub key_within : (rows : List Row) (newest_rows : List ℕ)
    → newest_rows ≡ map (newest_at rows) (keys_of rows)
    → (length newest_rows ≡ length (keys_of rows)) × (length newest_rows ≤ length rows)
key_within rows newest_rows are =
    let many : length newest_rows ≡ length (keys_of rows) = ap length are
    ∙ length-map (keys_of rows) (newest_at rows) in
    (many, omega (arith, many, keys_short [] rows))
