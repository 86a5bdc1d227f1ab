-- The entries that a lookup looks at are those of the versions on the path.
use Rattle.std.proofs.Common.{◌≡◌, ◌∙◌, ◌==◌, ℕ, zero, suc, Bool, true, false, List, [], ◌∷◌, ◌++◌, map, Option, Some, None, refl, sym, ap}
use Rattle.std.specs.Prelude.{slice_get, IsSomeAnd, Result, Ok, Err, IfOk}
use Rattle.std.specs.List.{AllByRecursion}
use Rattle.std.specs.Option.{option_map}
use Rattle.std.specs.Cmp.Lexicographic.{pointwise}
use Rattle.std.proofs.lemmas.Slice.Eq.{bytes_eq-Decides}
use Rattle.lc_base.specs.declared.memory.Memory.{Memory}
use Rattle.lc_base.specs.declared.row.Dep.{Dep}
use Rattle.lc_base.specs.declared.row.Row.{Row}
use Rattle.lc_base.specs.History.{version_of}
use Rattle.skip_links.specs.Paths.{path, path_over}
use Rattle.skip_links.proofs.Walks.{over_none}
use Rattle.skip_list.specs.entry_store.declared.entry.EntryId.{EntryId}
use Rattle.skip_list.specs.entry_store.declared.entry.Hop.{Hop}
use Rattle.skip_list.specs.entry_store.Entries.{Entry}
use Rattle.skip_list.specs.Towered.{blocks_of}
use Rattle.skip_list.specs.LookedAt.{entry_block}
use Rattle.lineage_index.specs.Versions.{versions_of_key}
use Rattle.lineage_index.specs.Entries.{entries_after, entries_of, IsNewestOf}
use Rattle.lineage_index.specs.OnPath.{version_in, version_of_entry, AreEntriesIn}
use Rattle.lineage_index.proofs.Hops.{HasRow}
use Rattle.lineage_index.proofs.Versions.{path_of_versions}
use Rattle.lineage_index.proofs.Looking.{versions_are}

both_ok : {X E : Type 0} (r : Result X E) (P Q R : X → Type 0) → ((x : X) → P x → Q x → R x) → IfOk r P → IfOk r Q → IfOk r R
both_ok (Ok x) P Q R f p q = f x p q
both_ok (Err e) P Q R f p q = tt

-- ---- entries of the key

abbrev is_of : List ℕ → Option Row → Bool
is_of key None = false
is_of key (Some row) = pointwise ◌==◌ row.key key

-- Whether an entry is that of a row of the key.
abbrev pub is_of_key : List Row → List ℕ → EntryId → Bool
is_of_key rows key id = is_of key (slice_get rows id.0)

pub versions_of : (rows : List Row) (key : List ℕ) (versions : List Hop) → AllByRecursion (HasRow rows key) versions → AllByRecursion (λ (version : Hop). is_of_key rows key version.id ≡ true) versions
versions_of rows key [] have = tt
versions_of rows key (version ∷ versions) have = (on (slice_get rows version.id.0) have.0, versions_of rows key versions have.1)
  where
    on : (o : Option Row) → IsSomeAnd o (λ (row : Row). (row.key ≡ key) × (row.block ≡ version.block)) → is_of key o ≡ true
    on None is = absurd is
    on (Some row) is = (bytes_eq-Decides row.key key).1 is.0

-- ---- their blocks

block_at : (all before rows : List Row) (index : ℕ) → option_map (λ (entry : Entry). entry.links.block) (slice_get (entries_after all before rows) index) ≡ option_map (λ (row : Row). row.block) (slice_get rows index)
unfolding entries_after
block_at all before [] index = refl
block_at all before (row ∷ rows) zero = refl
block_at all before (row ∷ rows) (suc index) = block_at all (before ++ row ∷ []) rows index

version_is : (key : List ℕ) (o : Option Row) → is_of key o ≡ true → option_map version_of o ≡ option_map (version_in key) (option_map (λ (row : Row). row.block) o)
version_is key None is = refl
version_is key (Some row) is = ap (λ (k : List ℕ). Some (version_in k row.block)) ((bytes_eq-Decides row.key key).0 is)

each_is : (rows : List Row) (key : List ℕ) (ids : List EntryId) → AllByRecursion (λ (id : EntryId). is_of_key rows key id ≡ true) ids
    → map (version_of_entry rows) ids ≡ map (option_map (version_in key)) (map (entry_block (entries_of rows rows)) ids)
each_is rows key [] are = refl
each_is rows key (id ∷ ids) are =
    ap (λ (first : Option Dep). first ∷ map (version_of_entry rows) ids)
    (version_is key (slice_get rows id.0) are.0 ∙ ap (option_map (version_in key)) (sym (block_at rows [] rows id.0)))
    ∙ ap (λ (rest : List (Option Dep)). option_map (version_in key) (entry_block (entries_of rows rows) id) ∷ rest) (each_is rows key ids are.1)

some_blocks : (key : List ℕ) (blocks : List ℕ) → map (option_map (version_in key)) (map Some blocks) ≡ map (λ (block : ℕ). Some (version_in key block)) blocks
some_blocks key [] = refl
some_blocks key (block ∷ blocks) = ap (λ (rest : List (Option Dep)). Some (version_in key block) ∷ rest) (some_blocks key blocks)

pub on_path : (rows : List Row) (key : List ℕ) (at : ℕ) (newest : Option EntryId) (entries : List Entry) (ids : List EntryId) → IsNewestOf rows key newest entries
    → map (entry_block entries) ids ≡ map Some (path_over (blocks_of (versions_of_key rows key)) at) → AllByRecursion (λ (id : EntryId). is_of_key rows key id ≡ true) ids
    → AreEntriesIn rows key (path rows key at) ids
on_path rows key at newest entries ids is blocks are =
    each_is rows key ids are
    ∙ ap (λ (es : List Entry). map (option_map (version_in key)) (map (entry_block es) ids)) (sym is.entries_are)
    ∙ ap (map (option_map (version_in key))) blocks ∙ some_blocks key (path_over (blocks_of (versions_of_key rows key)) at)
    ∙ ap (map (λ (block : ℕ). Some (version_in key block))) (sym (path_of_versions rows key at is.lawful))

pub all_on_path : (rows : List Row) (key : List ℕ) (at : ℕ) (newest : Option EntryId) (entries : List Entry) (found : Result (List EntryId) Memory) → IsNewestOf rows key newest entries
    → IfOk found (λ (ids : List EntryId). map (entry_block entries) ids ≡ map Some (path_over (blocks_of (versions_of_key rows key)) at))
    → IfOk found (λ (ids : List EntryId). AllByRecursion (λ (id : EntryId). is_of_key rows key id ≡ true) ids)
    → IfOk found (AreEntriesIn rows key (path rows key at))
all_on_path rows key at newest entries found is blocks are =
    both_ok found (λ (ids : List EntryId). map (entry_block entries) ids ≡ map Some (path_over (blocks_of (versions_of_key rows key)) at))
    (λ (ids : List EntryId). AllByRecursion (λ (id : EntryId). is_of_key rows key id ≡ true) ids) (AreEntriesIn rows key (path rows key at))
    (λ ids b a. on_path rows key at newest entries ids is b a) blocks are

-- A key without versions has an empty path, and no entries on it.
pub no_path : (rows : List Row) (key : List ℕ) (at : ℕ) (newest : Option EntryId) (entries : List Entry) → IsNewestOf rows key newest entries → newest ≡ None → AreEntriesIn rows key (path rows key at) []
no_path rows key at newest entries is none =
    let empty : versions_of_key rows key ≡ [] = rw none at (versions_are rows key newest entries is) in
    let nothing : path rows key at ≡ [] = path_of_versions rows key at is.lawful ∙ ap (λ (vs : List Hop). path_over (blocks_of vs) at) empty ∙ over_none at in
    ap (map (λ (block : ℕ). Some (version_in key block))) (sym nothing)
