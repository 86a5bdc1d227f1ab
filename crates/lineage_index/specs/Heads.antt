-- What is kept of the newest version of each key. Leaves, lists and indexes are in one order of
-- keys.
use Rattle.std.specs.Prelude.{◌≡◌, ◌≢◌, ℕ, List, [], ◌∷◌, ◌++◌, map, replicate, slice_get, false}
use Rattle.std.specs.Prelude.{if◌then◌else◌, Option, Some, None}
use Rattle.std.specs.List.{AllPairs}
use Rattle.lc_base.specs.declared.row.Row.{Row}
use Rattle.lc_base.specs.History.{newest}
use Rattle.skip_links.specs.Versions.{newest_index}
use Rattle.entry_views.specs.prov_entry.declared.entry.Leaf.{Leaf}
use Rattle.plain_rows.specs.root_laws.Naming.{digest_of_uses}
use Rattle.plain_rows.specs.root_laws.Root.{sentinel, is_among, keys_of}
use Rattle.forward_links.specs.declared.kept_list.KeptList.{KeptList}
use Rattle.forward_links.specs.Lists.{Use, kept_of}
use Rattle.lineage_index.specs.Growth.{Entry, leaf_with, entry_of, changed_at, uses_at}

-- The leaves of some keys, with an entry for each, and the sentinel before them.
abbrev pub leaves_with : List (List ℕ) → (List ℕ → Entry) → List Leaf
leaves_with keys entry = sentinel keys ∷ map (λ (key : List ℕ). leaf_with keys key (entry key)) keys

-- The entry of a key without versions.
abbrev pub fresh_entry : Entry
fresh_entry = record { newest_block = 0; newest = record { 0 = replicate 32 0 }; open_count = 0; open_digest = digest_of_uses [] }

-- An index, or 0 if there is none.
abbrev pub index_or_zero : Option ℕ → ℕ
index_or_zero None = 0
index_or_zero (Some index) = index

-- The index of the newest row of a key, or 0 if the key has none.
abbrev pub newest_at : List Row → List ℕ → ℕ
newest_at rows key = index_or_zero (newest_index rows key)

-- The forward list of the newest version of a key, which is open.
abbrev pub open_list : List Row → List ℕ → List Use
open_list rows key = uses_at rows key (newest rows key)

-- The index of a key among these keys; `None` if it is not among them.
abbrev pub IsKeyIndex : List (List ℕ) → List ℕ → Option ℕ → Type 0
IsKeyIndex keys key None = is_among keys key ≡ false
IsKeyIndex keys key (Some index) = slice_get keys index ≡ Some key

-- What is kept of the lists of some keys, each key once, in the order of their leaves.
pub record AreLists (tree : List Leaf) (lists : List KeptList) (keys : List (List ℕ))
    (list : List ℕ → List Use) : Type 0 where
  pub apart : AllPairs ◌≢◌ keys
  pub entry : List ℕ → Entry
  pub leaves_are : tree ≡ leaves_with keys entry
  pub lists_are : lists ≡ map kept_of (map list keys)

-- ---- all that is kept of keys

-- Some keys, and of each its entry, its open list, and the index of its newest row.
pub record KeyStates : Type 0 where
  pub keys : List (List ℕ)
  pub entry : List ℕ → Entry
  pub list : List ℕ → List Use
  pub index : List ℕ → ℕ

-- Leaves, lists and indexes are those of some keys, each key once.
pub record AreHeads (tree : List Leaf) (lists : List KeptList) (newest : List ℕ)
    (states : KeyStates) : Type 0 where
  pub apart : AllPairs ◌≢◌ states.keys
  pub leaves_are : tree ≡ leaves_with states.keys states.entry
  pub lists_are : lists ≡ map kept_of (map states.list states.keys)
  pub newest_are : newest ≡ map states.index states.keys

-- The states with one key more, which has an empty list, and whose newest row is the one at this
-- index.
abbrev pub with_key_more : KeyStates → List ℕ → ℕ → KeyStates
with_key_more states key row = record {
  keys = states.keys ++ key ∷ [];
  entry = changed_at states.entry key fresh_entry;
  list = changed_at states.list key [];
  index = changed_at states.index key row;
}

-- The states with a new version of a key that was there before; its leaf stays.
abbrev pub with_version_more : KeyStates → List ℕ → ℕ → KeyStates
with_version_more states key row = record {
  keys = states.keys;
  entry = states.entry;
  list = changed_at states.list key [];
  index = changed_at states.index key row;
}

-- The states after a new version of a key, whose row is the one at this index.
abbrev pub with_version : KeyStates → List ℕ → ℕ → KeyStates
with_version states key row = if is_among states.keys key then with_version_more states key row else with_key_more states key row

-- The states of the keys of a history.
abbrev pub states_of : List Row → KeyStates
states_of rows = record { keys = keys_of rows; entry = entry_of rows; list = open_list rows; index = newest_at rows }
