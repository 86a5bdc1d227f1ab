-- The store of a history has the versions of its first rows, and a lookup up to a block finds them.
use Rattle.std.proofs.Common.{◌≡◌, ◌∙◌, ℕ, ◌<◌, ◌≤◌, ◌==◌, List, [], ◌∷◌, ◌++◌, reverse, Option, Some, None, refl, sym, ap, subst, inl, inr}
use Rattle.std.specs.Prelude.{slice_get}
use Rattle.std.specs.List.{All, AllByRecursion}
use Rattle.std.specs.Option.{option_map}
use Rattle.std.specs.Cmp.Lexicographic.{pointwise}
use Rattle.std.proofs.lemmas.Bool.{cases_Bool, le-leb}
use Rattle.std.proofs.lemmas.List.{append-nil, append_assoc, reverse-append}
use Rattle.std.proofs.lemmas.List.Elements.{recursion_from_All}
use Rattle.skip_links.proofs.Bound.{late}
use Rattle.lc_base.specs.declared.row.Row.{Row}
use Rattle.lc_base.specs.History.{IsLawful}
use Rattle.plain_rows.proofs.root_laws.Lists.{all_reverse}
use Rattle.skip_list.specs.entry_store.declared.entry.EntryId.{EntryId}
use Rattle.skip_list.specs.entry_store.declared.entry.Hop.{Hop}
use Rattle.skip_list.specs.entry_store.Entries.{Entry}
use Rattle.skip_list.specs.Towered.{AreVersions}
use Rattle.skip_list.specs.Lookups.{latest_version}
use Rattle.skip_list.proofs.Pushing.{stays_towered}
use Rattle.lineage_index.specs.Versions.{versions_in_reverse, versions_of_key, newest_entry}
use Rattle.lineage_index.specs.Entries.{entry_for, entries_after, entries_of}
use Rattle.lineage_index.proofs.StoreEntries.{all_towered}

-- ---- the store is towered at their newest versions

entries_append : (all start rows more : List Row) → entries_after all start (rows ++ more) ≡ entries_after all start rows ++ entries_after all (start ++ rows) more
unfolding entries_after
entries_append all start [] more = ap (λ (rows : List Row). entries_after all rows more) (sym (append-nil start))
entries_append all start (row ∷ rows) more =
    ap (λ (entries : List Entry). entry_for all start row ∷ entries)
    (entries_append all (start ++ row ∷ []) rows more
    ∙ ap (λ (others : List Row). entries_after all (start ++ row ∷ []) rows ++ entries_after all others more) (append_assoc start (row ∷ []) rows))

versions_stay : (entries more : List Entry) (newest : Option EntryId) (versions : List Hop) → AreVersions entries newest versions → AreVersions (entries ++ more) newest versions
versions_stay entries more None versions none = none
versions_stay entries more (Some id) versions towered = stays_towered entries more id versions towered

pub first_towered : (rows more : List Row) (key : List ℕ) → IsLawful rows → AreVersions (entries_of (rows ++ more) (rows ++ more)) (newest_entry rows key) (versions_of_key rows key)
first_towered rows more key lawful =
    let all = rows ++ more in
    subst (λ (entries : List Entry). AreVersions entries (newest_entry rows key) (versions_of_key rows key)) (sym (entries_append all [] rows more))
    (versions_stay (entries_of all rows) (entries_after all rows more) (newest_entry rows key) (versions_of_key rows key) (all_towered all rows key lawful))

-- ---- a lookup finds these

passed_over : (rows more : List Row) (key : List ℕ) (at : ℕ) → AllByRecursion (λ (row : Row). at < row.block) more
    → latest_version at (versions_in_reverse (more ++ rows) key) ≡ latest_version at (versions_in_reverse rows key)
passed_over rows [] key at above = refl
passed_over rows (row ∷ more) key at above = elim (cases_Bool (pointwise ◌==◌ row.key key)) [
  | inl e ↦ rw (e, late row.block at above.0) (passed_over rows more key at above.1)
  | inr e ↦ rw e (passed_over rows more key at above.1)
]

first_found : (rows : List Row) (key : List ℕ) (at : ℕ) → AllByRecursion (λ (row : Row). row.block ≤ at) rows
    → latest_version at (versions_in_reverse rows key) ≡ option_map (λ (version : Hop). version.id) (slice_get (versions_in_reverse rows key) 0)
first_found [] key at low = refl
first_found (row ∷ rows) key at low = elim (cases_Bool (pointwise ◌==◌ row.key key)) [
  | inl e ↦ rw (e, le-leb row.block at low.0) refl
  | inr e ↦ rw e (first_found rows key at low.1)
]

pub finds_newest : (rows more : List Row) (key : List ℕ) (at : ℕ) → All (λ (row : Row). row.block ≤ at) rows → All (λ (row : Row). at < row.block) more
    → latest_version at (versions_of_key (rows ++ more) key) ≡ newest_entry rows key
unfolding versions_of_key
finds_newest rows more key at low above =
    ap (λ (all : List Row). latest_version at (versions_in_reverse all key)) (reverse-append rows more)
    ∙ passed_over (reverse rows) (reverse more) key at (all_reverse (λ (row : Row). at < row.block) more (recursion_from_All (λ (row : Row). at < row.block) more above))
    ∙ first_found (reverse rows) key at (all_reverse (λ (row : Row). row.block ≤ at) rows (recursion_from_All (λ (row : Row). row.block ≤ at) rows low))
