-- The leaves of a history as they were at an older block.
use Rattle.std.specs.Prelude.{◌≡◌, ℕ, Bool, nat_le, if◌then◌else◌, List, length, filter, Option}
use Rattle.lc_base.specs.declared.row.Dep.{Dep}
use Rattle.lc_base.specs.declared.row.Row.{Row}
use Rattle.lc_base.specs.History.{up_to}
use Rattle.lineage_index.specs.prov_entry.declared.entry.Leaf.{Leaf}
use Rattle.lineage_index.specs.forward_links.declared.open_list.OpenList.{OpenList}
use Rattle.lineage_index.specs.root_laws.Naming.{digest_of_uses}
use Rattle.lineage_index.specs.root_laws.Root.{is_below, leaves, lesser}
use Rattle.lineage_index.specs.declared.index.LineageIndex.{LineageIndex}
use Rattle.lineage_index.specs.Index.{IsIndexOf}

-- ---- the next key

-- The least of some keys that are greater than `after`, with one key more: `next` is that of the
-- others.
abbrev pub next_with : List ℕ → Option (List ℕ) → List ℕ → Option (List ℕ)
next_with after next key = if is_below after key then lesser key next else next

-- ---- the uses of a version

-- Whether a version is of a block up to this one.
abbrev pub is_up_to : ℕ → Dep → Bool
is_up_to at version = nat_le version.block at

-- The versions of blocks up to this one.
abbrev pub versions_up_to : ℕ → List Dep → List Dep
versions_up_to at versions = filter (is_up_to at) versions

-- What a leaf says of these uses: their number and their digest.
abbrev pub told_of : List Dep → OpenList
told_of uses = record { count = length uses; digest = digest_of_uses uses }

-- ---- the leaves

-- This is the index over some history, and these are the leaves of the rows of its blocks up to
-- `at`, as many as `count`.
pub record AreLeavesAt (index : LineageIndex) (at count : ℕ) (list : List Leaf) : Type 0 where
  pub rows : List Row
  pub block_count : ℕ
  pub index_is : IsIndexOf rows block_count index
  pub leaves_are : list ≡ leaves (up_to rows at)
  pub count_is : count ≡ length list
