-- The leaves as they are kept: what is kept of each key, in the order in which keys were added.
use Rattle.std.specs.Prelude.{◌==◌, ◌≤◌, ◌<◌, ◌-◌, ℕ, if◌then◌else◌, List, [], ◌∷◌, length, map}
use Rattle.std.specs.Prelude.{replicate, slice_get, slice_index_or, Option, Some, None}
use Rattle.std.specs.List.{All}
use Rattle.std.specs.Map.{keys_of}
use Rattle.root_laws.specs.merkle_tree.declared.limits.TheConstants.{MAX_LEAVES}
use Rattle.root_laws.specs.prov_entry.declared.entry.Leaf.{Leaf}
use Rattle.root_laws.specs.Naming.{digest_of_uses}
use Rattle.root_laws.specs.Root.{sentinel}
use Rattle.state_tree.specs.declared.states.LeafState.{LeafState}
use Rattle.state_tree.specs.declared.threaded.LeafEntry.{LeafEntry}

-- A key, with what is kept of its leaf.
abbrev pub KeyEntry : Type 0
KeyEntry = List ℕ × LeafEntry

-- The key of the leaf at an index, by the keys of the leaves after the sentinel, which has none.
abbrev pub key_at : List (List ℕ) → ℕ → Option (List ℕ)
key_at keys index = if index == 0 then None else slice_get keys (index - 1)

-- The entry of a key that has no version yet.
abbrev pub fresh_entry : ℕ → LeafEntry
fresh_entry next = record {
  next = next;
  newest_block = 0;
  newest = record { 0 = replicate 32 0 };
  open_count = 0;
  open_digest = digest_of_uses [];
}

-- The index of the leaf that follows the one at an index in the order of keys; 0 if none does.
abbrev pub next_at : ℕ → List KeyEntry → ℕ → ℕ
next_at first entries index = if index == 0 then first else
    (slice_index_or entries (index - 1) ([], fresh_entry 0)).1.next

-- The leaf of an entry.
abbrev pub leaf_of_entry : List (List ℕ) → KeyEntry → Leaf
leaf_of_entry keys entry = record {
  key = Some entry.0;
  next = key_at keys entry.1.next;
  newest_block = entry.1.newest_block;
  newest = entry.1.newest;
  open_count = entry.1.open_count;
  open_digest = entry.1.open_digest;
}

-- The sentinel, which names the key of the leaf at this index.
abbrev pub first_leaf : List (List ℕ) → ℕ → Leaf
first_leaf keys first = record (sentinel []) { next = key_at keys first }

-- The leaves of some entries, after the sentinel.
abbrev pub leaves_of : ℕ → List KeyEntry → List Leaf
leaves_of first entries = first_leaf (keys_of entries) first ∷ map
    (leaf_of_entry (keys_of entries)) entries

-- The entry of a leaf that says this of the versions of its key.
abbrev pub entry_with_state : LeafEntry → LeafState → LeafEntry
entry_with_state entry state = record entry {
  newest_block = state.newest_block;
  newest = state.newest;
  open_count = state.open_count;
  open_digest = state.open_digest;
}

-- Each index that is kept for a next leaf is that of a leaf, or 0.
pub record AreThreaded (first : ℕ) (entries : List KeyEntry) : Type 0 where
  pub first_within : first ≤ length entries
  pub nexts_within : All (λ (entry : KeyEntry). entry.1.next ≤ length entries) entries
  pub few : length entries < MAX_LEAVES
