-- What is kept while the entries of a block's rows are made: the leaves and indexes are those of
-- the rows before, and the lists have the uses of all rows of the block.
use Rattle.std.specs.Prelude.{◌≡◌, ℕ, if◌then◌else◌, List, [], ◌∷◌, ◌++◌, length, map, replicate, slice_index_or, Option, Some, None}
use Rattle.std.specs.List.{concat}
use Rattle.lc_base.specs.declared.digest.Digest.{Digest}
use Rattle.lc_base.specs.declared.row.Row.{Row}
use Rattle.lc_base.specs.declared.row.Dep.{Dep}
use Rattle.entry_views.specs.prov_entry.declared.entry.Leaf.{Leaf}
use Rattle.entry_views.specs.prov_entry.declared.entry.BodyDep.{BodyDep}
use Rattle.entry_views.specs.prov_entry.declared.entry.Body.{Body}
use Rattle.entry_views.specs.prov_entry.Spelling.{body_fields}
use Rattle.plain_rows.specs.root_laws.Naming.{digest_of_uses}
use Rattle.plain_rows.specs.root_laws.Root.{is_among, keys_of, sentinel}
use Rattle.state_tree.specs.Leaves.{index_of}
use Rattle.forward_links.specs.declared.kept_list.KeptList.{KeptList}
use Rattle.forward_links.specs.Lists.{Use}
use Rattle.skip_list.specs.entry_store.Entries.{Entry as StoreEntry}
use Rattle.lineage_index.specs.Entries.{entries_of}
use Rattle.lineage_index.specs.declared.growing.NewVersion.{NewVersion}
use Rattle.lineage_index.specs.Growth.{Grows, Entry, entry_of, open_uses}
use Rattle.lineage_index.specs.Heads.{KeyStates, AreHeads, newest_at}

-- The states of the keys of a history, whose lists have the uses of these later rows too.
abbrev pub states_with_uses : List Row → List Row → KeyStates
states_with_uses rows new = record { keys = keys_of rows; entry = entry_of rows; list = open_uses rows new; index = newest_at rows }

-- The parts of an index are those of a history, whose lists have the uses of these rows of block
-- `n` too.
pub record AreUsing (rows new : List Row) (n : ℕ) (tree : List Leaf) (lists : List KeptList)
    (newest : List ℕ) : Type 0 where
  pub grows : Grows rows new n
  pub heads : AreHeads tree lists newest (states_with_uses rows new)

-- The entries are those of all rows before a block, and of its rows `done`; this row comes next.
-- They say what the history with the whole block says.
pub record IsNextRow (rows new done : List Row) (row : Row) (entries : List StoreEntry) : Type 0 where
  pub after : List Row
  pub first : new ≡ done ++ row ∷ after
  pub entries_are : entries ≡ entries_of (rows ++ new) (rows ++ done)

-- A dependency with the digest in the entry of its key.
abbrev pub dep_with : (List ℕ → Entry) → Dep → BodyDep
dep_with entry dep = record { key = dep.key; block = dep.block; digest = (entry dep.key).newest }

-- The list of a key, or an empty list if the key is not among these.
abbrev pub list_if_among : List (List ℕ) → (List ℕ → List Use) → List ℕ → List Use
list_if_among keys list key = if is_among keys key then list key else []

-- The body of a row, with the digests of its dependencies from the entries of their keys.
abbrev pub body_with : (List ℕ → Entry) → Row → Body
body_with entry row = record { value = row.value; deps = map (dep_with entry) row.deps }

-- The digest of the header of the newest version of a key, from the leaf at this index; zeros if
-- there is no index.
abbrev pub newest_of_leaf : List Leaf → Option ℕ → Digest
newest_of_leaf tree None = record { 0 = replicate 32 0 }
newest_of_leaf tree (Some index) = (slice_index_or tree index (sentinel [])).newest

-- The digest of the newest version of a key, as the leaf of the key has it.
abbrev pub newest_in : List Leaf → List ℕ → Digest
newest_in tree key = newest_of_leaf tree (index_of tree key)

-- A dependency with the digest of a header.
abbrev pub dep_with_digest : Dep → Digest → BodyDep
dep_with_digest dep digest = record { key = dep.key; block = dep.block; digest = digest }

-- A dependency with the digest in the leaf of its key.
abbrev pub dep_in : List Leaf → Dep → BodyDep
dep_in tree dep = dep_with_digest dep (newest_in tree dep.key)

-- The body of a row, with the digests of its dependencies from the leaves of their keys.
abbrev pub body_in : List Leaf → Row → Body
body_in tree row = record { value = row.value; deps = map (dep_in tree) row.deps }

-- The bytes of the fields of that body.
abbrev pub bytes_in : List Leaf → Row → List ℕ
bytes_in tree row = concat (body_fields (body_in tree row))

-- A version of a row, which closes this list.
pub record IsVersionOf (list : List Dep) (row : Row) (version : NewVersion) : Type 0 where
  pub key_is : version.key ≡ row.key
  pub block_is : version.block ≡ row.block
  pub tx_is : version.tx ≡ row.tx
  pub closed_is : version.closed ≡ length list
  pub closed_digest_is : version.closed_digest ≡ digest_of_uses list
