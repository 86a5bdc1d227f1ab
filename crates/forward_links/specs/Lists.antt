-- Open lists, side by side, one for each key, and what is kept of them.
use Rattle.std.specs.Prelude.{ℕ, List, [], ◌∷◌, ◌++◌, length, map, slice_index_or, slice_set}
use Rattle.lc_base.specs.declared.row.Dep.{Dep}
use Rattle.prov_entry.specs.ForwardLists.{uses_digest, with_use}
use Rattle.forward_links.specs.declared.open_list.OpenList.{OpenList}
use Rattle.forward_links.specs.declared.kept_list.KeptList.{KeptList}
use Rattle.forward_links.specs.declared.kept_list.Closed.{Closed}

-- A use of a version: the version that was derived from it, and the index of its row.
pub record Use : Type 0 where
  pub version : Dep
  pub row : ℕ

-- ---- a list of uses

-- The versions of uses, in order.
abbrev pub versions_of : List Use → List Dep
versions_of uses = map (λ (use_ : Use). use_.version) uses

-- The indexes of the rows of uses, in order.
abbrev pub rows_of : List Use → List ℕ
rows_of uses = map (λ (use_ : Use). use_.row) uses

-- What is hashed of a list: its number and its digest.
abbrev pub open_of : List Use → OpenList
open_of uses = record {
  count = length uses;
  digest = record { 0 = uses_digest (versions_of uses) };
}

-- What is kept of a list: the indexes of its rows, and its digest.
abbrev pub kept_of : List Use → KeptList
kept_of uses = record {
  rows = rows_of uses;
  digest = record { 0 = uses_digest (versions_of uses) };
}

-- What is handed out of a list: its number, its digest, and the indexes of its rows.
abbrev pub closed_of : List Use → Closed
closed_of uses = record {
  count = length uses;
  digest = record { 0 = uses_digest (versions_of uses) };
  rows = rows_of uses;
}

-- ---- the same by what is kept

-- What is hashed of a list, by what is kept.
abbrev pub open_list : KeptList → OpenList
open_list kept = record { count = length kept.rows; digest = kept.digest }

-- What is handed out of a list, by what is kept.
abbrev pub closed_list : KeptList → Closed
closed_list kept = record { count = length kept.rows; digest = kept.digest; rows = kept.rows }

-- What is kept of a list with one use more, by what was kept before.
abbrev pub with_one : KeptList → Dep → ℕ → KeptList
with_one kept version row = record {
  rows = kept.rows ++ row ∷ [];
  digest = record { 0 = with_use kept.digest.0 version };
}

-- ---- lists, side by side

-- What is kept of the list at an index.
abbrev pub kept_at : List KeptList → ℕ → KeptList
kept_at kept index = slice_index_or kept index (kept_of [])

-- What is kept after the list at an index got one use more.
abbrev pub with_one_at : List KeptList → ℕ → Dep → ℕ → List KeptList
with_one_at kept index version row =
    slice_set kept index (with_one (kept_at kept index) version row)

-- The lists after the one at an index got one use more at its end.
abbrev pub with_use_at : List (List Use) → ℕ → Use → List (List Use)
with_use_at lists index use_ = slice_set lists index (slice_index_or lists index [] ++ use_ ∷ [])

-- What is kept after the list at an index was emptied.
abbrev pub emptied_at : List KeptList → ℕ → List KeptList
emptied_at kept index = slice_set kept index (kept_of [])
