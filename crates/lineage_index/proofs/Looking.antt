-- Lookups over the entries of a history find the last row of a key up to a block, and read its
-- path.
use Rattle.std.proofs.Common.{◌≡◌, ◌∙◌, ℕ, ◌^◌, ◌<◌, List, [], length, Option, Some, None, sym, ap, subst, arith}
use Rattle.std.specs.Prelude.{slice_get, MatchOption, IfSome}
use Rattle.std.specs.Option.{option_map}
use Rattle.lc_base.specs.declared.row.Row.{Row}
use Rattle.lc_base.specs.History.{latest}
use Rattle.skip_links.specs.Paths.{path, path_over}
use Rattle.skip_links.proofs.Walks.{over_none}
use Rattle.skip_list.specs.entry_store.declared.entry.EntryId.{EntryId}
use Rattle.skip_list.specs.entry_store.declared.entry.Hop.{Hop}
use Rattle.skip_list.specs.entry_store.Entries.{Entry}
use Rattle.skip_list.specs.entry_store.Steps.{raised_count}
use Rattle.skip_list.specs.Towered.{blocks_of, IsTowered, AreVersions}
use Rattle.skip_list.specs.Lookups.{latest_version}
use Rattle.skip_list.specs.declared.lookup.Found.{Found}
use Rattle.skip_list.proofs.Turns.{within}
use Rattle.lineage_index.specs.Versions.{versions_of_key}
use Rattle.lineage_index.specs.Entries.{IsNewestOf}
use Rattle.lineage_index.proofs.Versions.{path_of_versions, lookup_latest}
use Rattle.lineage_index.proofs.StoreEntries.{all_towered, as_many}

pub versions_are : (rows : List Row) (key : List ℕ) (newest : Option EntryId) (entries : List Entry) → IsNewestOf rows key newest entries → AreVersions entries newest (versions_of_key rows key)
versions_are rows key newest entries is = rw (is.newest_is, is.entries_are) (all_towered rows rows key is.lawful)

pub newest_towered : (rows : List Row) (key : List ℕ) (newest : Option EntryId) (id : EntryId) (entries : List Entry) → IsNewestOf rows key newest entries → newest ≡ Some id
    → IsTowered entries id (versions_of_key rows key)
newest_towered rows key newest id entries is some = rw some at (versions_are rows key newest entries is)

pub found_latest : (rows : List Row) (key : List ℕ) (at : ℕ) (found : Option Found)
    → option_map (λ (f : Found). f.id) found ≡ latest_version at (versions_of_key rows key)
    → MatchOption found (latest rows key at ≡ None)
    (λ (f : Found). slice_get rows f.id.0 ≡ latest rows key at)
found_latest rows key at found is =
    on found
    (subst (λ (o : Option EntryId). MatchOption o (latest rows key at ≡ None)
    (λ (id : EntryId). slice_get rows id.0 ≡ latest rows key at)) (sym is)
    (lookup_latest rows key at))
  where
    on : (found : Option Found)
        → MatchOption (option_map (λ (f : Found). f.id) found) (latest rows key at ≡ None)
        (λ (id : EntryId). slice_get rows id.0 ≡ latest rows key at)
        → MatchOption found (latest rows key at ≡ None)
        (λ (f : Found). slice_get rows f.id.0 ≡ latest rows key at)
    on None is = is
    on (Some f) is = is

pub path_steps : (rows : List Row) (key : List ℕ) (at : ℕ) (newest : Option EntryId) (entries : List Entry) → IsNewestOf rows key newest entries
    → length (path_over (blocks_of (versions_of_key rows key)) at) ≡ length (path rows key at)
path_steps rows key at newest entries is = ap length (sym (path_of_versions rows key at is.lawful))

-- The entry that is found is one of those of the rows.
pub found_within : (rows : List Row) (key : List ℕ) (at : ℕ) (newest : Option EntryId) (entries : List Entry) (found : Option Found) → IsNewestOf rows key newest entries
    → IfSome found (λ (f : Found). (versions : List Hop) × IsTowered entries f.id versions)
    → MatchOption found (latest rows key at ≡ None) (λ (f : Found). slice_get rows f.id.0 ≡ latest rows key at)
    → MatchOption found (latest rows key at ≡ None) (λ (f : Found). (f.id.0 < length rows) × (slice_get rows f.id.0 ≡ latest rows key at))
found_within rows key at newest entries None is towered there = there
found_within rows key at newest entries (Some f) is towered there =
    let many : length entries ≡ length rows = ap length is.entries_are ∙ as_many rows [] rows in
    (omega (arith, many, within entries f.id towered.0 towered.1), there)

-- A key without versions has no row up to any block.
pub none_found : (rows : List Row) (key : List ℕ) (at : ℕ) (newest : Option EntryId) (entries : List Entry) → IsNewestOf rows key newest entries → newest ≡ None → latest rows key at ≡ None
none_found rows key at newest entries is none =
    let empty : versions_of_key rows key ≡ [] = rw none at (versions_are rows key newest entries is) in
    found_latest rows key at None (sym (ap (latest_version at) empty))

pub no_steps : (rows : List Row) (key : List ℕ) (at count : ℕ) (newest : Option EntryId) (entries : List Entry) → IsNewestOf rows key newest entries → newest ≡ None → count < 2 ^ 64
    → count ≡ raised_count count (length (path rows key at))
no_steps rows key at count newest entries is none few =
    let empty : versions_of_key rows key ≡ [] = rw none at (versions_are rows key newest entries is) in
    let length_is : length (path rows key at) ≡ 0 =
    sym (path_steps rows key at newest entries is) ∙ ap (λ (vs : List Hop). length (path_over (blocks_of vs) at)) empty ∙ ap length (over_none at) in
    omega (arith, length_is, few)
