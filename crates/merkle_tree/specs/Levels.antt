-- The levels of a tree, each the pairs of the one below; a last hash without a partner goes up as
-- it is.
use Rattle.std.specs.Prelude.{◌≡◌, ◌==◌, ◌<◌, ◌≤◌, ℕ, zero, suc, ◌-◌, ◌/◌, Bool, false, List, [], ◌∷◌, ◌++◌, length, map, replicate, slice_set, slice_index_or, Vec, vec_len, vec_capacity}
use Rattle.std.specs.List.{fold, list_any, All}
use Rattle.std.specs.Global.{Global}
use Rattle.sha2.specs.Sha256.{sha256}
use Rattle.lc_base.specs.declared.digest.Digest.{Digest}
use Rattle.merkle_tree.specs.Tree.{node_hash}
use Rattle.merkle_tree.specs.declared.limits.TheConstants.{MAX_HEIGHT, MAX_LEAVES}
use Rattle.merkle_tree.specs.declared.setting_all.TheConstants.{NO_HASH}
use Rattle.merkle_tree.specs.declared.setting_all.HashAt.{HashAt}

-- ---- what they are

-- The SHA-256 digest of a text.
abbrev pub digest_of : List ℕ → Digest
digest_of text = record { 0 = sha256 text }

-- The digest of a node.
abbrev pub join : Digest → Digest → Digest
join left right = record { 0 = node_hash left.0 right.0 }

-- A level, from the one below.
abbrev pub pair_up : List Digest → List Digest
pair_up [] = []
pair_up (x ∷ []) = x ∷ []
pair_up (x ∷ y ∷ level) = join x y ∷ pair_up level

-- The hashes of leaves, and j levels above them.
unfoldable pub levels_over : ℕ → List Digest → List (List Digest)
levels_over zero hashes = hashes ∷ []
levels_over (suc j) hashes = hashes ∷ levels_over j (pair_up hashes)

-- The lowest level: the hashes of the leaves.
abbrev pub leaf_level : List (List Digest) → List Digest
leaf_level [] = []
leaf_level (level ∷ above) = level

-- The hashes in some vectors.
abbrev pub hashes_in : List (Vec Digest Global) → List (List Digest)
hashes_in levels = map (λ (level : Vec Digest Global). level.items) levels

-- These are all levels over their lowest one, and that is no longer than MAX_LEAVES.
pub record AreLevels (levels : List (List Digest)) : Type 0 where
  pub pairs : levels ≡ levels_over MAX_HEIGHT (leaf_level levels)
  pub few : length (leaf_level levels) ≤ MAX_LEAVES

-- ---- how they change

-- The hash over place m of a level; `none` if there is none.
abbrev pub hash_over : List Digest → ℕ → Digest → Digest
hash_over level m none = slice_index_or (pair_up level) (m / 2) none

-- A level after some hashes were set, one after another.
abbrev pub set_each : List Digest → List HashAt → List Digest
set_each level hashes = fold (λ (level : List Digest) (one : HashAt). slice_set level one.index one.hash) level hashes

-- The hash over one in a level, and its place in the level above.
abbrev pub over_one : List Digest → HashAt → HashAt
over_one level one = record { index = one.index / 2; hash = hash_over level one.index NO_HASH }

-- The hashes over some in a level, and their places in the level above.
abbrev pub over_each : List Digest → List HashAt → List HashAt
over_each level hashes = map (over_one level) hashes

-- The hash is the one over its place.
abbrev pub StandsOver : List Digest → HashAt → Type 0
StandsOver level one = one.hash ≡ slice_index_or (pair_up level) one.index NO_HASH

-- Whether one of these hashes has this place.
abbrev pub is_set : List HashAt → ℕ → Bool
is_set hashes place = list_any (λ (one : HashAt). one.index == place) hashes

-- The hash is the one at its place.
abbrev pub IsOwn : List Digest → HashAt → Type 0
IsOwn level one = (one.index < length level) × (slice_index_or level one.index NO_HASH ≡ one.hash)

-- The list after has each of these hashes at its place, and every other place as before. It is no
-- shorter than before, and each new place is among those of these hashes.
pub record Renews (before after : List Digest) (hashes : List HashAt) : Type 0 where
  pub fewer : length before ≤ length after
  pub own : All (IsOwn after) hashes
  pub others : (place : ℕ) → place < length after → is_set hashes place ≡ false → (place < length before) × (slice_index_or before place NO_HASH ≡ slice_index_or after place NO_HASH)

-- The number of hashes in the level above `count` hashes.
abbrev pub count_above : ℕ → ℕ
count_above count = count - count / 2

-- A level that is made at least `count` places long; new places have NO_HASH.
abbrev pub level_of_length : List Digest → ℕ → List Digest
level_of_length level count = level ++ replicate (count - length level) NO_HASH

-- Levels after the lowest was made at least `count` places long and some hashes were set in it, one
-- after another, and so in each level above with the hashes over these.
unfoldable pub renew_through : ℕ → List HashAt → List (List Digest) → List (List Digest)
renew_through count hashes [] = []
renew_through count hashes (level ∷ above) =
    set_each (level_of_length level count) hashes ∷ renew_through (count_above count) (over_each (set_each (level_of_length level count) hashes) hashes) above

-- Room for `count` hashes in the lowest of these levels, and for those over them in the others.
abbrev pub HaveRoom : ℕ → List (Vec Digest Global) → Type 0
HaveRoom count [] = Unit {0}
HaveRoom count (level ∷ above) = (count ≤ vec_capacity level) × HaveRoom (count_above count) above

-- A level with a hash put in place of the one at place m, or at the end if there is none.
abbrev pub put : List Digest → ℕ → Digest → List Digest
put [] m hash = hash ∷ []
put (x ∷ level) zero hash = hash ∷ level
put (x ∷ level) (suc m) hash = x ∷ put level m hash

-- Levels after a hash was put at place m of the lowest, and the hashes over it in the others.
unfoldable pub put_through : ℕ → Digest → List (List Digest) → List (List Digest)
put_through m hash [] = []
put_through m hash (level ∷ above) = put level m hash ∷ put_through (m / 2) (hash_over (put level m hash) m hash) above

-- Room for one more hash.
abbrev pub HasRoom : Vec Digest Global → Type 0
HasRoom level = vec_len level < vec_capacity level

-- ---- what is read from them

-- The hash beside place m, or none if that has no partner.
abbrev pub sibling : List Digest → ℕ → List Digest
sibling [] m = []
sibling (x ∷ []) m = []
sibling (x ∷ y ∷ level) zero = y ∷ []
sibling (x ∷ y ∷ level) (suc zero) = x ∷ []
sibling (x ∷ y ∷ level) (suc (suc m)) = sibling level m

-- The hashes beside the way up from place m, from the lowest level upward.
unfoldable pub siblings_up : ℕ → List (List Digest) → List Digest
siblings_up m [] = []
siblings_up m (level ∷ above) = sibling level m ++ siblings_up (m / 2) above
