-- What the tree keeps beside its leaves.
use Rattle.std.specs.Prelude.{◌≡◌, ◌<◌, ◌≤◌, false, ℕ, List, [], length, Option, Some, None, IsSome}
use Rattle.std.specs.Prelude.{slice_get, slice_index_or}
use Rattle.std.specs.List.{All, Contains}
use Rattle.std.specs.Ordering.{nat_cmp}
use Rattle.std.specs.Cmp.Lexicographic.{slice_cmp}
use Rattle.std.specs.BTreeMap.{BTreeMap, get}
use Rattle.lc_base.specs.declared.digest.Digest.{Digest}
use Rattle.root_laws.specs.merkle_tree.declared.setting_all.HashAt.{HashAt}
use Rattle.root_laws.specs.merkle_tree.Levels.{digest_of}
use Rattle.root_laws.specs.prov_entry.declared.entry.Leaf.{Leaf}
use Rattle.root_laws.specs.Root.{is_below}
use Rattle.state_tree.specs.Leaves.{index_of, thread_leaves, leaf_keys, leaf_hashes, AreApart}
use Rattle.root_laws.specs.merkle_tree.declared.limits.TheConstants.{MAX_LEAVES}
use Rattle.state_tree.specs.Stale.{Indexes}

-- The index that is kept for a key.
abbrev pub kept_for : BTreeMap (List ℕ) ℕ → List ℕ → Option ℕ
kept_for order key = get (slice_cmp nat_cmp) order key

-- No key that is not above this one is kept.
abbrev pub NoneUpTo : BTreeMap (List ℕ) ℕ → List ℕ → Type 0
NoneUpTo order key = (other : List ℕ) → is_below key other ≡ false → kept_for order other ≡ None

-- This index is kept for the greatest key that is not above this one.
pub record IsLastUpTo (order : BTreeMap (List ℕ) ℕ) (key : List ℕ) (index : ℕ) : Type 0 where
  pub last : List ℕ
  pub kept : kept_for order last ≡ Some index
  pub not_above : is_below key last ≡ false
  pub greatest : (other : List ℕ) → is_below key other ≡ false → IsSome (kept_for order other)
      → is_below last other ≡ false

-- The leaves begin with the sentinel, are threaded, and have no key twice; the indexes that are kept
-- are theirs.
pub record AreInOrder (leaves : List Leaf) (order : BTreeMap (List ℕ) ℕ) : Type 0 where
  pub sentinel : Leaf
  pub first : slice_get leaves 0 ≡ Some sentinel
  pub keyless : sentinel.key ≡ None
  pub apart : AreApart (leaf_keys leaves)
  pub threads : leaves ≡ thread_leaves leaves
  pub indexes : (key : List ℕ) → kept_for order key ≡ index_of leaves key
  pub few : length leaves ≤ MAX_LEAVES

-- What is taken for a hash past the end.
abbrev pub no_hash : Digest
no_hash = digest_of []

-- The hash of the leaf at an index, with the index.
abbrev pub hash_at : List Leaf → ℕ → HashAt
hash_at leaves index = record { index = index; hash = slice_index_or (leaf_hashes leaves) index no_hash }

-- The hashes are those of the leaves, except for the leaves at some indexes: the hash of such a
-- leaf is an old one, or missing.
pub record AreHashedBut (leaves : List Leaf) (hashes : List Digest) (stale : List ℕ) : Type 0 where
  pub fewer : length hashes ≤ length leaves
  pub within : All (λ (index : ℕ). index < length leaves) stale
  pub others : (index : ℕ) → index < length leaves → (Contains stale index → ⊥)
      → (index < length hashes) × (slice_index_or hashes index no_hash ≡ slice_index_or (leaf_hashes leaves) index no_hash)

-- The leaves, with the order of their keys, and the hashes of the leaves, but for some that are
-- stale. There is room for the indexes of all leaves.
pub record IsTree (leaves : List Leaf) (order : BTreeMap (List ℕ) ℕ) (hashes : List Digest) (stale : Indexes) : Type 0 where
  pub in_order : AreInOrder leaves order
  pub hashed : AreHashedBut leaves hashes stale.list
  pub room : length leaves ≤ stale.count
