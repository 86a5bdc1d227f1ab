-- A store stays towered when entries are added, and is towered at a new one with the links over the
-- versions before it.
use Rattle.std.proofs.Common.{◌≡◌, ℕ, zero, suc, List, [], ◌∷◌, ◌++◌, length, refl, ap}
use Rattle.std.specs.Prelude.{slice_get, IsSomeAnd}
use Rattle.entry_store.specs.declared.entry.EntryId.{EntryId}
use Rattle.entry_store.specs.declared.entry.Hop.{Hop}
use Rattle.entry_store.specs.declared.entry.Links.{Links}
use Rattle.entry_store.specs.Entries.{Entry}
use Rattle.entry_store.proofs.Entries.{get_last}
use Rattle.skip_list.specs.Towered.{links_over, HaveTowers, IsTowered, AreOlder}

pub read_front : {A : Type 0} (P : A → Type 0) (xs more : List A) (i : ℕ) → IsSomeAnd (slice_get xs i) P → IsSomeAnd (slice_get (xs ++ more) i) P
read_front P [] more i there = absurd there
read_front P (x ∷ xs) more zero there = there
read_front P (x ∷ xs) more (suc i) there = read_front P xs more i there

towers_stay : (entries more : List Entry) (versions : List Hop) → HaveTowers entries versions → HaveTowers (entries ++ more) versions
unfolding HaveTowers
towers_stay entries more [] towers = tt
towers_stay entries more (version ∷ older) towers = (
  read_front (λ (entry : Entry). entry.links ≡ record { block = version.block; hops = links_over version.block older }) entries more version.id.0 towers.0,
  towers_stay entries more older towers.1,
)

pub stays_towered : (entries more : List Entry) (id : EntryId) (versions : List Hop) → IsTowered entries id versions → IsTowered (entries ++ more) id versions
stays_towered entries more id versions towered = record {
  newest = towered.newest;
  falling = towered.falling;
  towers = towers_stay entries more versions towered.towers;
}

pub new_towered : (entries : List Entry) (entry : Entry) (older : List Hop) → HaveTowers entries older → AreOlder entry.links.block older
    → entry.links.hops ≡ links_over entry.links.block older
    → IsTowered (entries ++ entry ∷ []) (record { 0 = length entries }) (record { block = entry.links.block; id = record { 0 = length entries } } ∷ older)
unfolding HaveTowers
new_towered entries entry older towers before links = record {
  newest = refl;
  falling = before;
  towers = (rw (get_last entries entry) (ap (λ (hops : List Hop). let l : Links = record { block = entry.links.block; hops = hops } in l) links), towers_stay entries (entry ∷ []) older towers);
}
