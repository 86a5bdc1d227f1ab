-- With one more version, the store still has the versions of the key.
use Rattle.std.proofs.Common.{◌≡◌, ◌∙◌, ℕ, ◌<◌, List, [], ◌∷◌, ◌++◌, length, Option, Some, None, refl, sym, ap, subst}
use Rattle.std.specs.Prelude.{slice_get}
use Rattle.std.specs.List.{All, AllByRecursion}
use Rattle.std.specs.Option.{option_map}
use Rattle.std.proofs.lemmas.List.Elements.{All-from_recursion}
use Rattle.skip_links.specs.Falling.{IsFalling}
use Rattle.skip_links.proofs.Falls.{all_lower}
use Rattle.skip_links.proofs.PathTowers.{tower_holds}
use Rattle.entry_store.specs.declared.entry.EntryId.{EntryId}
use Rattle.entry_store.specs.declared.entry.Hop.{Hop}
use Rattle.entry_store.specs.Entries.{Entry, LeadsBack}
use Rattle.entry_store.proofs.Entries.{get_last}
use Rattle.skip_list.specs.Towered.{block_of, blocks_of, links_over, HaveTowers, IsTowered, AreVersions, AreOlder}
use Rattle.skip_list.proofs.Pushing.{new_towered, read_front}
use Rattle.ledger_tests.specs.Versions.{IsOfKey, IsAbove, HasVersions}

-- ---- the versions before

falls : (entries : List Entry) (newest : Option EntryId) (versions : List Hop) → AreVersions entries newest versions → IsFalling (blocks_of versions)
falls entries None versions are = rw are tt
falls entries (Some id) versions are = are.falling

towers : (entries : List Entry) (newest : Option EntryId) (versions : List Hop) → AreVersions entries newest versions → HaveTowers entries versions
unfolding HaveTowers
towers entries None versions are = rw are tt
towers entries (Some id) versions are = are.towers

older : (block : ℕ) (versions : List Hop) → IsAbove (slice_get versions 0) block → IsFalling (blocks_of versions) → AreOlder block versions
older block [] above falling = tt
older block (version ∷ versions) above falling = (above, falling)

pub are_older : (entries : List Entry) (key : List ℕ) (newest : Option Hop) (block : ℕ) (has : HasVersions entries key newest) → IsAbove newest block → AreOlder block has.versions
are_older entries key newest block has above =
    older block has.versions (subst (λ (first : Option Hop). IsAbove first block) has.newest_is above) (falls entries (option_map (λ (v : Hop). v.id) newest) has.versions has.are)

lead_back : (entries : List Entry) (key : List ℕ) (block : ℕ) (versions : List Hop) → AllByRecursion (λ (b : ℕ). b < block) (blocks_of versions) → AllByRecursion (IsOfKey entries key) versions
    → AllByRecursion (LeadsBack entries key block) versions
lead_back entries key block [] low keyed = tt
lead_back entries key block (version ∷ versions) low keyed = ((low.0, keyed.0), lead_back entries key block versions low.1 keyed.1)

pub links_lead_back : (entries : List Entry) (key : List ℕ) (newest : Option Hop) (block : ℕ) (hops : List Hop) (has : HasVersions entries key newest) → IsAbove newest block
    → hops ≡ links_over block has.versions → All (LeadsBack entries key block) hops
links_lead_back entries key newest block hops has above are =
    rw are (All-from_recursion (LeadsBack entries key block) (links_over block has.versions)
    (tower_holds block_of (LeadsBack entries key block) block has.versions
    (lead_back entries key block has.versions (all_lower block (blocks_of has.versions) (are_older entries key newest block has above)) has.keyed)))

-- ---- with the new one

keyed_still : (entries more : List Entry) (key : List ℕ) (versions : List Hop) → AllByRecursion (IsOfKey entries key) versions → AllByRecursion (IsOfKey (entries ++ more) key) versions
keyed_still entries more key [] keyed = tt
keyed_still entries more key (version ∷ versions) keyed = (
  read_front (λ (entry : Entry). (entry.facts.key ≡ key) × (entry.links.block ≡ version.block)) entries more version.id.0 keyed.0,
  keyed_still entries more key versions keyed.1,
)

pub with_version : (entries : List Entry) (key : List ℕ) (newest : Option Hop) (block : ℕ) (entry : Entry) (has : HasVersions entries key newest) → IsAbove newest block
    → entry.links.block ≡ block → entry.links.hops ≡ links_over block has.versions → entry.facts.key ≡ key
    → HasVersions (entries ++ entry ∷ []) key (Some (record { block = block; id = record { 0 = length entries } }))
with_version entries key newest block entry has above at links of = record {
  versions = record { block = block; id = record { 0 = length entries } } ∷ has.versions;
  newest_is = refl;
  are = subst (λ (b : ℕ). IsTowered (entries ++ entry ∷ []) (record { 0 = length entries }) (record { block = b; id = record { 0 = length entries } } ∷ has.versions)) at
      (new_towered entries entry has.versions (towers entries (option_map (λ (v : Hop). v.id) newest) has.versions has.are)
      (rw at (are_older entries key newest block has above)) (links ∙ ap (λ (b : ℕ). links_over b has.versions) (sym at)));
  keyed = (rw (get_last entries entry) (of, at), keyed_still entries (entry ∷ []) key has.versions has.keyed);
}
