-- The versions of one key in a store.
use Rattle.std.specs.Prelude.{◌≡◌, ℕ, ◌<◌, List, Option, Some, None, slice_get, IsSomeAnd}
use Rattle.std.specs.List.{AllByRecursion}
use Rattle.std.specs.Option.{option_map}
use Rattle.entry_store.specs.declared.entry.Hop.{Hop}
use Rattle.entry_store.specs.Entries.{Entry}
use Rattle.skip_list.specs.Towered.{AreVersions}

-- A version is of the key and of its hop's block.
abbrev pub IsOfKey : List Entry → List ℕ → Hop → Type 0
IsOfKey entries key version = IsSomeAnd (slice_get entries version.id.0) (λ (entry : Entry). (entry.facts.key ≡ key) × (entry.links.block ≡ version.block))

-- A block is above that of the newest version, if there is one.
abbrev pub IsAbove : Option Hop → ℕ → Type 0
IsAbove None block = Unit {0}
IsAbove (Some version) block = version.block < block

-- The store is towered at the newest version of the key.
pub record HasVersions (entries : List Entry) (key : List ℕ) (newest : Option Hop) : Type 0 where
  pub versions : List Hop
  pub newest_is : newest ≡ slice_get versions 0
  pub are : AreVersions entries (option_map (λ (version : Hop). version.id) newest) versions
  pub keyed : AllByRecursion (IsOfKey entries key) versions
