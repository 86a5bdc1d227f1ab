-- The links of a new version lead to entries at which the store is towered.
use Rattle.std.proofs.Common.{ℕ, List, [], ◌∷◌, refl}
use Rattle.std.specs.List.{All, AllByRecursion}
use Rattle.std.proofs.lemmas.List.Elements.{All-from_recursion}
use Rattle.skip_links.specs.Falling.{IsFalling}
use Rattle.skip_links.proofs.Falls.{rest_falls}
use Rattle.skip_links.proofs.PathTowers.{tower_holds}
use Rattle.entry_store.specs.declared.entry.EntryId.{EntryId}
use Rattle.entry_store.specs.declared.entry.Hop.{Hop}
use Rattle.entry_store.specs.Entries.{Entry}
use Rattle.skip_list.specs.Towered.{block_of, blocks_of, links_over, HaveTowers, IsTowered, LeadsToTowered}

all_towered : (entries : List Entry) (versions : List Hop) → IsFalling (blocks_of versions) → HaveTowers entries versions → AllByRecursion (LeadsToTowered entries) versions
unfolding HaveTowers
all_towered entries [] falling towers = tt
all_towered entries (version ∷ older) falling towers = (
  (older, record { newest = refl; falling = falling; towers = towers }),
  all_towered entries older (rest_falls version.block (blocks_of older) falling) towers.1,
)

pub links_towered : (entries : List Entry) (id : EntryId) (block : ℕ) (versions : List Hop) → IsTowered entries id versions → All (LeadsToTowered entries) (links_over block versions)
links_towered entries id block versions towered =
    All-from_recursion (LeadsToTowered entries) (links_over block versions)
    (tower_holds block_of (LeadsToTowered entries) block versions (all_towered entries versions towered.falling towered.towers))
