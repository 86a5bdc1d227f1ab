-- Rows that are found by their indexes, or by their entries: there they are, and what is spelled of
-- them one after another.
use Rattle.std.proofs.Common.{◌≡◌, ◌∙◌, ℕ, zero, suc, ◌<◌, List, [], ◌∷◌, ◌++◌, length, map, drop}
use Rattle.std.proofs.Common.{Option, Some, slice_get, refl, sym, ap, arith}
use Rattle.std.specs.List.{AllByRecursion, Contains, cons_option, filter_map, flat_map}
use Rattle.std.proofs.lemmas.List.{length-map}
use Rattle.std.proofs.lemmas.Option.{slice_get_within, get_or_from_slice_get, same_Some}
use Rattle.lc_base.specs.declared.row.Row.{Row}
use Rattle.lc_base.specs.History.{IsLawful}
use Rattle.entry_store.specs.declared.entry.EntryId.{EntryId}
use Rattle.prov_query.specs.lineage_index.OnPath.{version_of_entry, version_in, AreEntriesIn}
use Rattle.lc_base.specs.declared.row.Dep.{Dep}
use Rattle.prov_entry.specs.declared.entry.Header.{Header}
use Rattle.prov_entry.specs.Spelling.{header_fields}
use Rattle.root_laws.specs.Naming.{header_of}
use Rattle.proof_codec.specs.Spelling.{fields_if_any}
use Rattle.proof_checks.specs.Making.{header_in}
use Rattle.proof_checks.proofs.MadeWalks.{header_found}
use Rattle.answer_proof.proofs.Walks.{row_in}
use Rattle.range_proof.specs.Finding.{AreRowsAt}
use Rattle.range_proof.specs.Parts.{fields_at, header_fields_at}

first_same : {A : Type 0} (x y : A) (xs ys : List A) → x ∷ xs ≡ y ∷ ys → x ≡ y
first_same x y xs ys e = cc

rest_same : {A : Type 0} (x y : A) (xs ys : List A) → x ∷ xs ≡ y ∷ ys → xs ≡ ys
rest_same x y xs ys e = cc

pub row_there : (rows : List Row) (index : ℕ) → index < length rows
    → (row : Row) × (slice_get rows index ≡ Some row)
row_there [] index low = absurd (omega (arith, low))
row_there (row ∷ rows) zero low = (row, refl)
row_there (row ∷ rows) (suc index) low = row_there rows index (omega (arith, low))

-- ---- by their indexes

-- An index below the number of rows.
abbrev pub Below : List Row → ℕ → Type 0
Below rows index = index < length rows

module _ (rows : List Row) where
  at_first : (index : ℕ) (indexes : List ℕ) (row : Row) (found : List Row)
      → AreRowsAt rows (index ∷ indexes) (row ∷ found) → slice_get rows index ≡ Some row
  at_first index indexes row found are =
      first_same (slice_get rows index) (Some row) (map (slice_get rows) indexes) (map Some found)
      are

  at_rest : (index : ℕ) (indexes : List ℕ) (row : Row) (found : List Row)
      → AreRowsAt rows (index ∷ indexes) (row ∷ found) → AreRowsAt rows indexes found
  at_rest index indexes row found are =
      rest_same (slice_get rows index) (Some row) (map (slice_get rows) indexes) (map Some found)
      are

  pub are_within : (indexes : List ℕ) (found : List Row) → AreRowsAt rows indexes found
      → AllByRecursion (Below rows) indexes
  are_within [] found are = tt
  are_within (index ∷ indexes) [] are = absurd cc
  are_within (index ∷ indexes) (row ∷ found) are = (
    slice_get_within rows index row (at_first index indexes row found are),
    are_within indexes found (at_rest index indexes row found are),
  )

  pub as_many : (indexes : List ℕ) (found : List Row) → AreRowsAt rows indexes found
      → length indexes ≡ length found
  as_many indexes found are =
      sym (length-map indexes (slice_get rows)) ∙ ap length are ∙ length-map found Some

  pub but_first : (indexes : List ℕ) (found : List Row) → AreRowsAt rows indexes found
      → AreRowsAt rows (drop 1 indexes) (drop 1 found)
  but_first [] [] are = refl
  but_first [] (row ∷ found) are = absurd cc
  but_first (index ∷ indexes) [] are = absurd cc
  but_first (index ∷ indexes) (row ∷ found) are = at_rest index indexes row found are

  pub fields_are : (fields : Row → List (List ℕ)) (indexes : List ℕ) (found : List Row)
      → AreRowsAt rows indexes found
      → flat_map (fields_at fields rows) indexes ≡ flat_map fields found
  fields_are fields [] [] are = refl
  fields_are fields [] (row ∷ found) are = absurd cc
  fields_are fields (index ∷ indexes) [] are = absurd cc
  fields_are fields (index ∷ indexes) (row ∷ found) are =
      ap (λ (o : Option Row). fields_if_any fields o ++ flat_map (fields_at fields rows) indexes)
      (at_first index indexes row found are)
      ∙ ap (λ (fs : List (List ℕ)). fields row ++ fs)
      (fields_are fields indexes found (at_rest index indexes row found are))

-- The fields of what is made of each item.
pub fields_of_each : {A B : Type 0} (fields : B → List (List ℕ)) (f : A → B) (xs : List A)
    → flat_map (λ (x : A). fields (f x)) xs ≡ flat_map fields (map f xs)
fields_of_each fields f [] = refl
fields_of_each fields f (x ∷ xs) =
    ap (λ (fs : List (List ℕ)). fields (f x) ++ fs) (fields_of_each fields f xs)

-- ---- by their entries

-- The entries of versions on a path: each is a row's, and their headers are those on the path.
pub record AreOnPath (rows : List Row) (key blocks : List ℕ) (ids : List EntryId) : Type 0 where
  pub within : AllByRecursion (λ (id : EntryId). id.0 < length rows) ids
  pub fields : flat_map (λ (id : EntryId). header_fields_at rows id.0) ids
      ≡ flat_map header_fields (filter_map (header_in rows key) blocks)
  pub long : length ids ≡ length (filter_map (header_in rows key) blocks)

abbrev some_version : List ℕ → ℕ → Option Dep
some_version key block = Some (version_in key block)

pub are_on_path : (rows : List Row) (key blocks : List ℕ) (ids : List EntryId) → IsLawful rows
    → AreEntriesIn rows key blocks ids → AreOnPath rows key blocks ids
are_on_path rows key [] [] lawful are = record { within = tt; fields = refl; long = refl }
are_on_path rows key (block ∷ blocks) [] lawful are = absurd cc
are_on_path rows key [] (id ∷ ids) lawful are = absurd cc
are_on_path rows key (block ∷ blocks) (id ∷ ids) lawful are =
    let found = row_in rows key (block ∷ blocks) (id ∷ ids) 0 id are refl in
    let row = found.0 in
    let low = slice_get_within rows id.0 row found.2 in
    let has : Contains rows row = (id.0, low, get_or_from_slice_get rows id.0 row row found.2) in
    let same : row.block ≡ block = found.4 ∙ sym (same_Some block found.1 found.5) in
    let there : header_in rows key block ≡ Some (header_of rows row) =
    ap (header_in rows key) (sym same) ∙ header_found rows key row lawful has found.3 in
    let rest = are_on_path rows key blocks ids lawful
    (rest_same (version_of_entry rows id) (some_version key block) (map (version_of_entry rows) ids)
    (map (some_version key) blocks) are) in
    let others = filter_map (header_in rows key) blocks in
    record {
      within = (low, rest.within);
      fields =
          ap (λ (o : Option Row).
          fields_if_any (λ (r : Row). header_fields (header_of rows r)) o
          ++ flat_map (λ (i : EntryId). header_fields_at rows i.0) ids) found.2
          ∙ ap (λ (fs : List (List ℕ)). header_fields (header_of rows row) ++ fs) rest.fields
          ∙ sym (ap (λ (o : Option Header). flat_map header_fields (cons_option o others)) there);
      long =
          ap suc rest.long
          ∙ sym (ap (λ (o : Option Header). length (cons_option o others)) there);
    }
