-- The entries on the path of a lookup have the headers that the proof needs, in order.
use Rattle.std.proofs.Common.{◌≡◌, ◌∙◌, ℕ, ◌+◌, List, [], ◌∷◌, ◌++◌, length, get_or, take, Option, Some, None, refl, sym, ap}
use Rattle.std.specs.Prelude.{slice_get}
use Rattle.std.specs.List.{cons_option, filter_map, Contains}
use Rattle.std.specs.Option.{option_map}
use Rattle.std.proofs.lemmas.List.{length-map, take_more}
use Rattle.std.proofs.lemmas.Option.{slice_get-map, slice_get_within, get_or_from_slice_get, none-some, same_Some}
use Rattle.lc_base.specs.declared.row.Dep.{Dep}
use Rattle.lc_base.specs.declared.row.Row.{Row}
use Rattle.lc_base.specs.History.{IsLawful, version_of}
use Rattle.prov_entry.specs.declared.entry.Header.{Header}
use Rattle.root_laws.specs.Naming.{header_of}
use Rattle.entry_store.specs.declared.entry.EntryId.{EntryId}
use Rattle.merkle_dag.specs.lineage_index.OnPath.{version_in, version_of_entry, AreEntriesIn}
use Rattle.proof_checks.specs.Making.{header_in}
use Rattle.proof_checks.proofs.MadeWalks.{header_found}

abbrev some_version : List ℕ → ℕ → Option Dep
some_version key block = Some (version_in key block)

pub as_long : (rows : List Row) (key blocks : List ℕ) (ids : List EntryId) → AreEntriesIn rows key blocks ids → length ids ≡ length blocks
as_long rows key blocks ids are = sym (length-map ids (version_of_entry rows)) ∙ ap length are ∙ length-map blocks (some_version key)

-- The row of an entry is the version of the key in the entry's block.
pub row_in : (rows : List Row) (key blocks : List ℕ) (ids : List EntryId) (i : ℕ) (id : EntryId) → AreEntriesIn rows key blocks ids → slice_get ids i ≡ Some id
    → (row : Row) × (block : ℕ) × (slice_get rows id.0 ≡ Some row) × (row.key ≡ key) × (row.block ≡ block) × (slice_get blocks i ≡ Some block)
row_in rows key blocks ids i id are at =
    by_block (slice_get blocks i) refl
    (ap (option_map (version_of_entry rows)) (sym at) ∙ sym (slice_get-map (version_of_entry rows) ids i) ∙ ap (λ (vs : List (Option Dep)). slice_get vs i) are ∙ slice_get-map (some_version key) blocks i)
  where
    by_row : (o : Option Row) (block : ℕ) → slice_get rows id.0 ≡ o → option_map version_of o ≡ Some (version_in key block) → slice_get blocks i ≡ Some block
        → (row : Row) × (block : ℕ) × (slice_get rows id.0 ≡ Some row) × (row.key ≡ key) × (row.block ≡ block) × (slice_get blocks i ≡ Some block)
    by_row None block is same there = absurd (none-some (version_in key block) same)
    by_row (Some row) block is same there =
        let version : version_of row ≡ version_in key block = same_Some (version_of row) (version_in key block) same in
        (row, block, is, ap (λ (d : Dep). d.key) version, ap (λ (d : Dep). d.block) version, there)

    by_block : (o : Option ℕ) → slice_get blocks i ≡ o → Some (version_of_entry rows id) ≡ option_map (some_version key) o
        → (row : Row) × (block : ℕ) × (slice_get rows id.0 ≡ Some row) × (row.key ≡ key) × (row.block ≡ block) × (slice_get blocks i ≡ Some block)
    by_block None is same = absurd (none-some (version_of_entry rows id) (sym same))
    by_block (Some block) is same = by_row (slice_get rows id.0) block refl (same_Some (version_of_entry rows id) (some_version key block) same) is

filter_more : {X Y : Type 0} (f : X → Option Y) (xs : List X) (x : X) (y : Y) → f x ≡ Some y → filter_map f (xs ++ x ∷ []) ≡ filter_map f xs ++ y ∷ []
filter_more f [] x y is = rw is refl
filter_more {Y = Y} f (first ∷ xs) x y is = go (f first) (filter_more f xs x y is)
  where
    go : (o : Option Y) → filter_map f (xs ++ x ∷ []) ≡ filter_map f xs ++ y ∷ [] → cons_option o (filter_map f (xs ++ x ∷ [])) ≡ cons_option o (filter_map f xs) ++ y ∷ []
    go None rest = rest
    go (Some z) rest = ap (λ (others : List Y). z ∷ others) rest

pub header_more : (rows : List Row) (key blocks : List ℕ) (ids : List EntryId) (i : ℕ) (id : EntryId) (header : Header) (headers : List Header) → IsLawful rows → AreEntriesIn rows key blocks ids
    → slice_get ids i ≡ Some id → ((row : Row) → slice_get rows id.0 ≡ Some row → header ≡ header_of rows row) → headers ≡ filter_map (header_in rows key) (take i blocks)
    → headers ++ header ∷ [] ≡ filter_map (header_in rows key) (take (i + 1) blocks)
header_more rows key blocks ids i id header headers lawful are at is before =
    let found = row_in rows key blocks ids i id are at in
    let row = found.0 in
    let block = found.1 in
    let has : Contains rows row = (id.0, slice_get_within rows id.0 row found.2, get_or_from_slice_get rows id.0 row row found.2) in
    let there : header_in rows key block ≡ Some header = ap (header_in rows key) (sym found.4) ∙ header_found rows key row lawful has found.3 ∙ ap (λ (h : Header). Some h) (sym (is row found.2)) in
    let here : get_or blocks i block ≡ block = get_or_from_slice_get blocks i block block found.5 in
    ap (λ (hs : List Header). hs ++ header ∷ []) before ∙ sym (filter_more (header_in rows key) (take i blocks) block header there)
    ∙ ap (λ (bs : List ℕ). filter_map (header_in rows key) bs) (ap (λ (b : ℕ). take i blocks ++ b ∷ []) (sym here) ∙ sym (take_more blocks i block (slice_get_within blocks i block found.5)))
