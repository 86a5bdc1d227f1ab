-- The leaves of a history, one for each key, and the root of the tree over them.
use Rattle.std.specs.Prelude.{ℕ, ◌==◌, Bool, if◌then◌else◌, List, [], ◌∷◌, ◌++◌, length, map, filter, replicate, slice_index_or, Option, Some, None}
use Rattle.std.specs.List.{list_any, fold}
use Rattle.std.specs.Ordering.{nat_cmp, is_lt}
use Rattle.std.specs.Cmp.Lexicographic.{pointwise, slice_cmp}
use Rattle.sha2.specs.Sha256.{sha256}
use Rattle.prov_entry.specs.merkle_tree.Tree.{leaf_text, tree_hash}
use Rattle.lc_base.specs.declared.digest.Digest.{Digest}
use Rattle.lc_base.specs.declared.row.Row.{Row}
use Rattle.lc_base.specs.History.{up_to, newest, uses}
use Rattle.prov_entry.specs.declared.entry.Leaf.{Leaf}
use Rattle.prov_entry.specs.Spelling.{leaf_bytes, text_of_root}
use Rattle.root_laws.specs.Naming.{digest_of_uses, header_digest}

-- ---- keys

-- Whether a key is among these.
abbrev pub is_among : List (List ℕ) → List ℕ → Bool
is_among keys key = list_any (λ other. pointwise ◌==◌ other key) keys

-- The keys, and after them this row's key if it is not among them.
abbrev pub with_key : List (List ℕ) → Row → List (List ℕ)
with_key keys row = if is_among keys row.key then keys else keys ++ row.key ∷ []

-- The keys of the rows, each once, in the order of their first rows.
abbrev pub keys_of : List Row → List (List ℕ)
keys_of rows = fold with_key [] rows

-- Whether a key is smaller than another, in byte order.
abbrev pub is_below : List ℕ → List ℕ → Bool
is_below key other = is_lt (slice_cmp nat_cmp key other)

-- The lesser of a key and another, if there is one.
abbrev pub lesser : List ℕ → Option (List ℕ) → Option (List ℕ)
lesser key None = Some key
lesser key (Some other) = if is_below other key then Some other else Some key

-- The least of the keys; `None` if there is no key.
abbrev pub least : List (List ℕ) → Option (List ℕ)
least [] = None
least (key ∷ keys) = lesser key (least keys)

-- The least of the keys that are greater than this one; `None` if no key is. The empty string is
-- less than every key.
abbrev pub next_key : List (List ℕ) → List ℕ → Option (List ℕ)
next_key keys key = least (filter (is_below key) keys)

-- ---- leaves

-- The leaf that comes before those of the keys.
abbrev pub sentinel : List (List ℕ) → Leaf
sentinel keys = record {
  key = None;
  next = next_key keys [];
  newest_block = 0;
  newest = record { 0 = replicate 32 0 };
  open_count = 0;
  open_digest = digest_of_uses [];
}

-- The leaf of a key whose newest version is in this block.
abbrev pub leaf_at : List Row → List (List ℕ) → List ℕ → ℕ → Leaf
leaf_at rows keys key block = record {
  key = Some key;
  next = next_key keys key;
  newest_block = block;
  newest = header_digest rows key block;
  open_count = length (uses rows key block);
  open_digest = digest_of_uses (uses rows key block);
}

-- The block of a version; 0 if there is none.
abbrev pub block_of : Option Row → ℕ
block_of None = 0
block_of (Some row) = row.block

-- The leaf of a key of the rows.
abbrev pub leaf_of : List Row → List ℕ → Leaf
leaf_of rows key = leaf_at rows (keys_of rows) key (block_of (newest rows key))

-- The leaves of a history: the sentinel, and then one for each key.
abbrev pub leaves : List Row → List Leaf
leaves rows = sentinel (keys_of rows) ∷ map (leaf_of rows) (keys_of rows)

-- ---- the root

-- The tree hash of some leaves.
abbrev pub leaves_hash : List Leaf → List ℕ
leaves_hash leaves = tree_hash (map (λ (leaf : Leaf). leaf_text (leaf_bytes leaf)) leaves)

-- The text of the root of a block over some leaves.
abbrev pub root_text : ℕ → List ℕ → List Leaf → List ℕ
root_text block digest leaves = text_of_root block digest (length leaves) (leaves_hash leaves)

-- The digest of a block, among those of all blocks.
abbrev pub digest_at : List Digest → ℕ → List ℕ
digest_at digests block = (slice_index_or digests block (record { 0 = [] })).0

-- The root of a history and its blocks' digests at a block: over the rows up to that block.
unfoldable pub root_of : List Row → List Digest → ℕ → List ℕ
root_of rows digests block = sha256 (root_text block (digest_at digests block) (leaves (up_to rows block)))
