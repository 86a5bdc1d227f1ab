-- The leaves of the keys that a block touches, and the state that each of them has by the history.
use Rattle.std.specs.Prelude.{◌≡◌, ℕ, ◌-◌, ◌<◌, ◌≤◌, List, [], length, map, slice_index_or}
use Rattle.std.specs.List.{filter_map, Contains}
use Rattle.lc_base.specs.declared.row.Row.{Row}
use Rattle.entry_views.specs.prov_entry.declared.entry.Leaf.{Leaf}
use Rattle.skip_list.specs.entry_store.Entries.{Entry as StoreEntry}
use Rattle.plain_rows.specs.root_laws.Root.{keys_of}
use Rattle.state_tree.specs.declared.states.LeafState.{LeafState}
use Rattle.state_tree.specs.Leaves.{index_of, state_of_leaf}
use Rattle.forward_links.specs.declared.kept_list.KeptList.{KeptList}
use Rattle.forward_links.specs.Lists.{kept_of}
use Rattle.lineage_index.specs.Growth.{Entry, leaf_with, entry_of}
use Rattle.lineage_index.specs.Heads.{newest_at, open_list}
use Rattle.lineage_index.specs.Settling.{IsStoreOf}

-- The indexes of the leaves of some keys, one after another; a key without a leaf has none.
abbrev pub leaf_indexes : List Leaf → List (List ℕ) → List ℕ
leaf_indexes tree keys = filter_map (index_of tree) keys

-- Each of these lists has the items of the other; neither order nor repetitions matter.
pub record HaveSameItems (one other : List ℕ) : Type 0 where
  pub there : (item : ℕ) → Contains one item → Contains other item
  pub back : (item : ℕ) → Contains other item → Contains one item

-- The index is that of the leaf of one of these keys; 0 is that of the sentinel.
abbrev pub IsLeafIndex : List (List ℕ) → ℕ → Type 0
IsLeafIndex keys index = (0 < index) × (index ≤ length keys)

-- The key whose leaf has this index.
abbrev pub key_at : List (List ℕ) → ℕ → List ℕ
key_at keys index = slice_index_or keys (index - 1) []

-- The state of the leaf at an index, whose key has this entry.
abbrev pub state_of_entry : List (List ℕ) → ℕ → Entry → LeafState
state_of_entry keys index entry = state_of_leaf (leaf_with keys (key_at keys index) entry) index

-- The state of the leaf at an index, by the history.
abbrev pub state_of : List Row → ℕ → LeafState
state_of rows index = state_of_entry (keys_of rows) index (entry_of rows (key_at (keys_of rows) index))

-- The entries of the rows of a history, and what is kept of its keys beside the leaves.
pub record AreBesideLeaves (rows : List Row) (lists : List KeptList) (newest : List ℕ)
    (entries : List StoreEntry) : Type 0 where
  pub store : IsStoreOf rows entries
  pub lists_are : lists ≡ map kept_of (map (open_list rows) (keys_of rows))
  pub newest_are : newest ≡ map (newest_at rows) (keys_of rows)
