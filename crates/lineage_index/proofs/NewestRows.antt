-- The newest row of a key.
use Rattle.std.proofs.Common.{◌≡◌, ◌∙◌, ℕ, zero, suc, ◌<◌, false, List, [], ◌∷◌, length, get_or, Option, Some, None, refl, sym, ap, arith}
use Rattle.std.specs.Prelude.{slice_get, MatchOption}
use Rattle.std.specs.Option.{option_map}
use Rattle.std.proofs.lemmas.Option.{get_or_from_slice_get, none-some, same_Some}
use Rattle.lc_base.specs.declared.row.Row.{Row}
use Rattle.skip_links.specs.Versions.{newest_index}
use Rattle.entry_views.specs.prov_entry.declared.entry.Leaf.{Leaf}
use Rattle.plain_rows.specs.root_laws.Root.{is_among, keys_of}
use Rattle.skip_links.proofs.Threads.{newest_below}
use Rattle.plain_rows.specs.Places.{IsRowAt}
use Rattle.skip_list.specs.entry_store.declared.entry.EntryId.{EntryId}
use Rattle.skip_list.specs.entry_store.Entries.{Entry as StoreEntry}
use Rattle.skip_list.specs.declared.lookup.Found.{Found}
use Rattle.lineage_index.specs.Versions.{newest_entry}
use Rattle.lineage_index.specs.Entries.{IsNewestOf}
use Rattle.lineage_index.proofs.Versions.{newest_is_index}
use Rattle.lineage_index.specs.Heads.{newest_at}
use Rattle.lineage_index.specs.Settling.{IsStoreOf}
use Rattle.lineage_index.specs.NewestRows.{AreNewest}
use Rattle.lineage_index.proofs.KeyLists.{value_at}
use Rattle.lineage_index.proofs.KeptStates.{index_among}
use Rattle.lineage_index.proofs.Settled.{index_there, index_nowhere}

pub newest_known : (rows : List Row) (tree : List Leaf) (newest_rows : List ℕ) (key : List ℕ) (i at : ℕ) → AreNewest rows tree newest_rows
    → slice_get (keys_of rows) i ≡ Some key → slice_get newest_rows i ≡ Some at → Some at ≡ newest_index rows key
newest_known rows tree newest_rows key i at a place read =
    let is : at ≡ newest_at rows key = sym (get_or_from_slice_get newest_rows i at at read) ∙ ap (λ (is : List ℕ). get_or is i at) a.newest_are ∙ (value_at (newest_at rows) (keys_of rows) key i at place).1 in
    ap (λ (x : ℕ). Some x) is ∙ sym (index_there rows key (index_among (keys_of rows) key i place))

pub newest_unknown : (rows : List Row) (key : List ℕ) → is_among (keys_of rows) key ≡ false → None ≡ newest_index rows key
newest_unknown rows key none = sym (index_nowhere rows key none)

pub newest_within : (rows : List Row) (tree : List Leaf) (newest_rows : List ℕ) (key : List ℕ) (i : ℕ) → AreNewest rows tree newest_rows → slice_get (keys_of rows) i ≡ Some key → i < length newest_rows
newest_within rows tree newest_rows key i a place = rw a.newest_are (value_at (newest_at rows) (keys_of rows) key i 0 place).0

-- the newest row of a key that has a leaf is one of the rows
pub newest_low : (rows : List Row) (key : List ℕ) (at : ℕ) → Some at ≡ newest_index rows key
    → at < length rows
newest_low rows key at is = let low = newest_below rows key in rw (← is) at low

-- ---- its entry

entry_of_index : (id : Option EntryId) (index : Option ℕ) → option_map (λ (i : EntryId). i.0) id ≡ index → (o : ℕ) → index ≡ Some o → Some (record { 0 = o }) ≡ id
entry_of_index None index is o some = absurd (none-some o (is ∙ some))
entry_of_index (Some id) index is o some = ap (λ (i : ℕ). let e : EntryId = record { 0 = i } in Some e) (sym (same_Some id.0 o (is ∙ some)))

no_entry : (id : Option EntryId) → option_map (λ (i : EntryId). i.0) id ≡ None → None ≡ id
no_entry None is = refl
no_entry (Some id) is = absurd (none-some id.0 (sym is))

pub entry_known : (rows : List Row) (key : List ℕ) (index : ℕ) → newest_index rows key ≡ Some index → Some (record { 0 = index }) ≡ newest_entry rows key
entry_known rows key index is = entry_of_index (newest_entry rows key) (newest_index rows key) (newest_is_index rows key) index is

pub entry_unknown : (rows : List Row) (key : List ℕ) → newest_index rows key ≡ None → None ≡ newest_entry rows key
entry_unknown rows key none = no_entry (newest_entry rows key) (newest_is_index rows key ∙ none)

-- ---- lookups

pub newest_of : (rows : List Row) (key : List ℕ) (newest : Option EntryId) (entries : List StoreEntry) → IsStoreOf rows entries → newest ≡ newest_entry rows key → IsNewestOf rows key newest entries
newest_of rows key newest entries store is = record { lawful = store.lawful; entries_are = store.entries_are; newest_is = is }

pub row_at : (rows : List Row) (index : ℕ) → index < length rows → (row : Row) × (slice_get rows index ≡ Some row)
row_at [] index l = absurd (omega (arith, l))
row_at (row ∷ rows) zero l = (row, refl)
row_at (row ∷ rows) (suc index) l = row_at rows index (omega (arith, l))

pub row_found : (rows : List Row) (found : Option Row) (index : ℕ) → (index < length rows) × (slice_get rows index ≡ found) → IsRowAt rows (Some index) found
row_found rows found index is = let at = row_at rows index is.0 in (at.0, sym is.1 ∙ at.1, at.1)

-- What a lookup found is at the index that its entry has.
pub found_at : (rows : List Row) (row : Option Row) (found : Option Found)
    → MatchOption found (row ≡ None)
    (λ (f : Found). (f.id.0 < length rows) × (slice_get rows f.id.0 ≡ row))
    → IsRowAt rows (option_map (λ (f : Found). f.id.0) found) row
found_at rows row None is = is
found_at rows row (Some f) is = row_found rows row f.id.0 is
