-- How what is kept of the keys of a history grows with a block. `rows` are those of the blocks
-- before, and `more` rows of the block.
use Rattle.std.specs.Prelude.{◌≡◌, ◌≢◌, ℕ, suc, ◌<◌, ◌==◌, Bool, if◌then◌else◌, List, [], ◌∷◌, ◌++◌}
use Rattle.std.specs.Prelude.{length, map, Option, None, Some}
use Rattle.std.specs.List.{list_any, flat_map, All, AllPairs}
use Rattle.std.specs.Option.{IsSomeAnd}
use Rattle.std.specs.Cmp.Lexicographic.{pointwise}
use Rattle.lc_base.specs.declared.digest.Digest.{Digest}
use Rattle.lc_base.specs.declared.row.Row.{Row}
use Rattle.lc_base.specs.declared.row.Dep.{Dep}
use Rattle.lc_base.specs.History.{IsLawful, depends_on, newest, uses, version_of}
use Rattle.entry_views.specs.prov_entry.declared.entry.Leaf.{Leaf}
use Rattle.plain_rows.specs.Places.{marks_of}
use Rattle.forward_links.specs.Lists.{Use}
use Rattle.plain_rows.specs.root_laws.Naming.{digest_of_uses, header_digest}
use Rattle.plain_rows.specs.root_laws.Root.{block_of, is_among, next_key}

-- ---- what holds of a block

-- Lawful rows of blocks before n, and rows of block n after them, lawful together.
pub record Grows (rows new : List Row) (n : ℕ) : Type 0 where
  pub lawful_before : IsLawful rows
  pub before : All (λ (row : Row). row.block < n) rows
  pub now : All (λ (row : Row). row.block ≡ n) new
  pub lawful : IsLawful (rows ++ new)

-- ---- one value for each key

-- A function of keys, changed at one key.
abbrev pub changed_at : {A : Type 0} → (List ℕ → A) → List ℕ → A → List ℕ → A
changed_at f key x other = if pointwise ◌==◌ key other then x else f other

-- ---- forward lists

-- A row as a use of what it depends on: its version, and its index.
abbrev pub use_of : ℕ → Row → Use
use_of n row = record { version = version_of row; row = n }

-- The uses of a version of a key among these rows; none if there is no version.
abbrev pub uses_at : List Row → List ℕ → Option Row → List Use
uses_at rows key None = []
uses_at rows key (Some version) = marks_of use_of (depends_on key version.block) 0 rows

-- The uses, among `rows` and `more`, of the version that is the newest of a key in `rows`; empty if
-- the key has no version there.
abbrev pub open_uses : List Row → List Row → List ℕ → List Use
open_uses rows more key = uses_at (rows ++ more) key (newest rows key)

-- A dependency is on the newest version of its key.
abbrev pub IsOnNewest : List Row → Dep → Type 0
IsOnNewest rows dep = IsSomeAnd (newest rows dep.key) (λ (version : Row). version.block ≡ dep.block)

-- Whether a dependency is on a version of the key.
abbrev pub is_on_key : List ℕ → Dep → Bool
is_on_key key dep = pointwise ◌==◌ dep.key key

-- The list of a key after this use was added to the lists of the keys of these dependencies.
abbrev pub list_with_uses : (List ℕ → List Use) → Use → List Dep → List ℕ → List Use
list_with_uses list user deps key = if list_any (is_on_key key) deps then list key ++ user ∷ [] else list key

-- The list of a key after a row, which has this index, was added to the lists of the keys that it
-- depends on.
abbrev pub used_by_row : (List ℕ → List Use) → ℕ → Row → List ℕ → List Use
used_by_row list n row = list_with_uses list (use_of n row) row.deps

-- The list of a key after these rows were added, one after another; the first has this index.
abbrev pub used_by : (List ℕ → List Use) → ℕ → List Row → List ℕ → List Use
used_by list n [] = list
used_by list n (row ∷ rows) = used_by (used_by_row list n row) (suc n) rows

-- No two of a row's dependencies are on one key.
abbrev pub HaveDistinctKeys : List Dep → Type 0
HaveDistinctKeys deps = AllPairs (λ (a b : Dep). a.key ≢ b.key) deps

-- Whether a row is a version of the key.
abbrev pub is_of_key : List ℕ → Row → Bool
is_of_key key row = pointwise ◌==◌ row.key key

-- The list of a key after these rows closed the lists of their keys.
abbrev pub list_after_rows : (List ℕ → List Use) → List Row → List ℕ → List Use
list_after_rows list done key = if list_any (is_of_key key) done then [] else list key

-- ---- leaves

-- What a leaf has of a key, except for the next key.
pub record Entry : Type 0 where
  pub newest_block : ℕ
  pub newest : Digest
  pub open_count : ℕ
  pub open_digest : Digest

-- The entry of a key of a history.
abbrev pub entry_of : List Row → List ℕ → Entry
entry_of rows key = record {
  newest_block = block_of (newest rows key);
  newest = header_digest rows key (block_of (newest rows key));
  open_count = length (uses rows key (block_of (newest rows key)));
  open_digest = digest_of_uses (uses rows key (block_of (newest rows key)));
}

-- The leaf of a key, among these keys, with this entry.
abbrev pub leaf_with : List (List ℕ) → List ℕ → Entry → Leaf
leaf_with keys key entry = record {
  key = Some key;
  next = next_key keys key;
  newest_block = entry.newest_block;
  newest = entry.newest;
  open_count = entry.open_count;
  open_digest = entry.open_digest;
}

-- The keys that a row depends on.
abbrev pub keys_of_deps : Row → List (List ℕ)
keys_of_deps row = map (λ (dep : Dep). dep.key) row.deps

-- The keys that the rows of a block depend on, one after another.
abbrev pub deps_touched : List Row → List (List ℕ)
deps_touched new = flat_map keys_of_deps new

-- The keys whose entries a block changes: those that its rows depend on, and their own.
abbrev pub keys_touched : List Row → List (List ℕ)
keys_touched new = deps_touched new ++ map (λ (row : Row). row.key) new

-- The entry of a key after the entries of these keys were replaced by new ones.
abbrev pub entry_after : (List ℕ → Entry) → (List ℕ → Entry) → List (List ℕ) → List ℕ → Entry
entry_after old new done key = if is_among done key then new key else old key
