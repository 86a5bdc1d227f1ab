-- Leaves that are threaded: each names the next greater key.
use Rattle.std.specs.Prelude.{◌≡◌, ◌==◌, ◌<◌, ℕ, Bool, false, List, [], ◌∷◌, ◌++◌, length, map}
use Rattle.std.specs.Prelude.{replicate, position, slice_index_or, slice_set, Option, Some, None}
use Rattle.std.specs.List.{fold}
use Rattle.std.specs.Cmp.Lexicographic.{pointwise}
use Rattle.lc_base.specs.declared.digest.Digest.{Digest}
use Rattle.root_laws.specs.merkle_tree.Tree.{leaf_text}
use Rattle.root_laws.specs.merkle_tree.Levels.{digest_of}
use Rattle.root_laws.specs.prov_entry.declared.entry.Leaf.{Leaf}
use Rattle.root_laws.specs.prov_entry.Spelling.{key_or_empty, leaf_bytes}
use Rattle.root_laws.specs.Naming.{digest_of_uses}
use Rattle.root_laws.specs.Root.{next_key, sentinel}
use Rattle.state_tree.specs.declared.states.LeafState.{LeafState}

-- The key of a leaf. The sentinel's is the empty string, which is smaller than every key.
abbrev pub leaf_key : Leaf → List ℕ
leaf_key leaf = key_or_empty leaf.key

-- The keys of some leaves, in the order of the leaves.
abbrev pub leaf_keys : List Leaf → List (List ℕ)
leaf_keys leaves = map leaf_key leaves

-- Whether there is a key, and it is this one.
abbrev pub is_this : List ℕ → Option (List ℕ) → Bool
is_this key None = false
is_this key (Some other) = pointwise ◌==◌ key other

-- The index of the leaf of a key, from 0; `None` if no leaf has it.
abbrev pub index_of : List Leaf → List ℕ → Option ℕ
index_of leaves key = position (is_this key) (map (λ (leaf : Leaf). leaf.key) leaves)

-- A leaf with the next greater of these keys.
abbrev pub with_next : List (List ℕ) → Leaf → Leaf
with_next keys leaf = record leaf { next = next_key keys (leaf_key leaf) }

-- Leaves, each with the next greater key among theirs.
abbrev pub thread_leaves : List Leaf → List Leaf
thread_leaves leaves = map (with_next (leaf_keys leaves)) leaves

-- The leaf of a key that has no version yet.
abbrev pub fresh_leaf : List ℕ → Leaf
fresh_leaf key = record {
  key = Some key;
  next = None;
  newest_block = 0;
  newest = record { 0 = replicate 32 0 };
  open_count = 0;
  open_digest = digest_of_uses [];
}

-- Leaves with one more for a key, at the end.
abbrev pub with_leaf_of : List Leaf → List ℕ → List Leaf
with_leaf_of leaves key = thread_leaves (leaves ++ fresh_leaf key ∷ [])

-- Leaves with one more for a key, at the end, if the leaf at `cover` is the one before it in the
-- order of keys: only the next key of that one changes.
abbrev pub with_leaf_after : List Leaf → List ℕ → ℕ → Leaf → List Leaf
with_leaf_after leaves key cover before =
    slice_set (leaves ++ record (fresh_leaf key) { next = before.next } ∷ []) cover (record before { next = Some key })

-- A leaf with this state.
abbrev pub leaf_with_state : Leaf → LeafState → Leaf
leaf_with_state leaf state = record leaf {
  newest_block = state.newest_block;
  newest = state.newest;
  open_count = state.open_count;
  open_digest = state.open_digest;
}

-- The state of a leaf, with the index of the leaf.
abbrev pub state_of_leaf : Leaf → ℕ → LeafState
state_of_leaf leaf index = record {
  index = index;
  newest_block = leaf.newest_block;
  newest = leaf.newest;
  open_count = leaf.open_count;
  open_digest = leaf.open_digest;
}

-- Leaves, of which the one at the index of the state has this state.
abbrev pub with_state : List Leaf → LeafState → List Leaf
with_state leaves state = slice_set leaves state.index (leaf_with_state (slice_index_or leaves state.index (sentinel [])) state)

-- Leaves after these states were set, one after another.
abbrev pub with_states : List Leaf → List LeafState → List Leaf
with_states leaves states = fold with_state leaves states

-- The texts of some leaves, which are hashed.
abbrev pub leaf_texts : List Leaf → List (List ℕ)
leaf_texts leaves = map (λ (leaf : Leaf). leaf_text (leaf_bytes leaf)) leaves

-- The hashes of some leaves.
abbrev pub leaf_hashes : List Leaf → List Digest
leaf_hashes leaves = map digest_of (leaf_texts leaves)

-- No two of these keys are equal.
abbrev pub AreApart : List (List ℕ) → Type 0
AreApart keys = (i j : ℕ) → i < length keys → j < length keys → slice_index_or keys i [] ≡ slice_index_or keys j [] → i ≡ j
