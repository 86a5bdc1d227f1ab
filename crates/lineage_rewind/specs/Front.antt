-- What holds between the steps that make an index of the first entries of a store.
use Rattle.std.specs.Prelude.{◌≡◌, ℕ, ◌<◌, ◌≤◌, List, [], length, map, take, drop, Some, slice_get}
use Rattle.std.specs.List.{All}
use Rattle.lc_base.specs.declared.row.Row.{Row}
use Rattle.lc_base.specs.History.{newest}
use Rattle.lineage_index.specs.plain_rows.Users.{AreVersionsAt}
use Rattle.lineage_index.specs.root_laws.Root.{keys_of}
use Rattle.lineage_index.specs.entry_store.Entries.{Entry}
use Rattle.lineage_index.specs.declared.index.LineageIndex.{LineageIndex}
use Rattle.lineage_index.specs.prov_entry.declared.entry.Leaf.{Leaf}
use Rattle.lineage_index.specs.forward_links.declared.kept_list.KeptList.{KeptList}
use Rattle.lineage_index.specs.forward_links.Lists.{Use, kept_of, rows_of, versions_of}
use Rattle.lineage_index.specs.Growth.{uses_at}
use Rattle.lineage_index.specs.Heads.{AreHeads, KeyStates, newest_at}
use Rattle.lineage_index.specs.Closed.{AreClosed}
use Rattle.lineage_index.specs.Settling.{IsStoreOf, entry_or_fresh}
use Rattle.lineage_index.specs.Index.{IsIndexOf}

-- The first `count` rows are of the blocks up to this one, and the others are of later blocks.
pub record AreUpTo (rows : List Row) (at count : ℕ) : Type 0 where
  pub within : count ≤ length rows
  pub first : All (λ (row : Row). row.block ≤ at) (take count rows)
  pub later : All (λ (row : Row). at < row.block) (drop count rows)

-- The entries are those of the first rows of a history, and this is the index over all its rows.
pub record AreFirst (all rows : List Row) (n : ℕ) (whole : LineageIndex) (entries : List Entry) :
    Type 0 where
  pub whole_is : IsIndexOf all n whole
  pub first : rows ≡ take (length rows) all
  pub store : IsStoreOf rows entries

-- The states of the keys of the first rows, `done`, of a history: each list has the uses of the
-- key's newest version among all rows of the history. No leaf is set.
abbrev pub filled_states : List Row → List Row → KeyStates
filled_states rows done = record {
  keys = keys_of done;
  entry = entry_or_fresh [];
  list = λ key. uses_at rows key (newest done key);
  index = newest_at done;
}

-- What is kept after the rows `done`, the first of a history, became the newest versions of their
-- keys in turn, each with its uses among all rows of the history.
pub record AreFilling (rows done : List Row) (tree : List Leaf) (lists : List KeptList)
    (newest : List ℕ) (closed : List (List ℕ)) : Type 0 where
  pub heads : AreHeads tree lists newest (filled_states rows done)
  pub closed_are : AreClosed rows done closed

-- The list at an index is empty.
pub record IsEmpty (all : List (List Use)) (list : ℕ) (lists : List KeptList) : Type 0 where
  pub lists_are : lists ≡ map kept_of all
  pub empty : slice_get all list ≡ Some []

-- The users are the rows of these uses, which can be added to an empty list.
pub record CanFill (rows : List Row) (uses : List Use) (all : List (List Use)) (list : ℕ)
    (lists : List KeptList) (entries : List Entry) (users : List ℕ) : Type 0 where
  pub store : IsStoreOf rows entries
  pub users_are : users ≡ rows_of uses
  pub versions_are : AreVersionsAt rows users (versions_of uses)
  pub is_empty : IsEmpty all list lists
