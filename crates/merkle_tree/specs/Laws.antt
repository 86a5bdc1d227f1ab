-- Laws of the tree hash, of audit paths, and of texts with equal digests.
use Rattle.std.specs.Prelude.{◌≡◌, ◌<◌, ◌≤◌, ◌+◌, ◌-◌, ◌*◌, ◌^◌, ◌⊎◌, ℕ, List, [], ◌∷◌, ◌++◌, length, take, drop, slice_index_or, Option, Some}
use Rattle.sha2.specs.Sha256.{sha256}
use Rattle.merkle_tree.specs.Tree.{node_hash, tree_hash, node_texts, audit_path, audit_length, Climb, climb_to, climb_texts_to}
use Rattle.merkle_tree.specs.Climbing.{top_of}
use Rattle.merkle_tree.specs.Clash.{Clash, Agree}
use Rattle.merkle_tree.specs.Chains.{chain_digest, chain_texts, AreToldApart, Expected, Walks, IsOfPlace, AreLinked, AreOfPlaces}
use Rattle.merkle_tree.specs.declared.limits.TheConstants.{MAX_HEIGHT}

-- ---- the rules of RFC 6962, section 2.1

-- The largest power of two below n is k.
pub record IsSplit (k n : ℕ) : Type 0 where
  pub exponent : ℕ
  pub power : k ≡ 2 ^ exponent
  pub below : k < n
  pub largest : n ≤ 2 * k

-- A tree has at most 2 ^ MAX_HEIGHT leaves.
abbrev pub AreFew : List (List ℕ) → Type 0
AreFew texts = length texts ≤ 2 ^ MAX_HEIGHT

-- The hash of more than one leaf is that of the first k and that of the rest, under one node.
abbrev pub TreesAreSplit : Type 0
TreesAreSplit =
    (k : ℕ) (texts : List (List ℕ)) → AreFew texts → IsSplit k (length texts)
    → tree_hash texts ≡ node_hash (tree_hash (take k texts)) (tree_hash (drop k texts))

-- The audit path of one of the first k leaves is its path in their tree, and then the hash of the
-- rest (section 2.1.1).
abbrev pub PathsInTheFirstPart : Type 0
PathsInTheFirstPart =
    (k m : ℕ) (texts : List (List ℕ)) → AreFew texts → IsSplit k (length texts) → m < k
    → audit_path m texts ≡ audit_path m (take k texts) ++ tree_hash (drop k texts) ∷ []

-- The audit path of one of the rest is its path in their tree, and then the hash of the first k.
abbrev pub PathsInTheRest : Type 0
PathsInTheRest =
    (k m : ℕ) (texts : List (List ℕ)) → AreFew texts → IsSplit k (length texts) → k ≤ m
    → audit_path m texts ≡ audit_path (m - k) (drop k texts) ++ tree_hash (take k texts) ∷ []

-- The audit length of one of the first k leaves is one more than in their tree.
abbrev pub LengthsInTheFirstPart : Type 0
LengthsInTheFirstPart =
    (k m n : ℕ) → n ≤ 2 ^ MAX_HEIGHT → IsSplit k n → m < k → audit_length m n ≡ audit_length m k + 1

-- The audit length of one of the rest is one more than in their tree.
abbrev pub LengthsInTheRest : Type 0
LengthsInTheRest =
    (k m n : ℕ) → n ≤ 2 ^ MAX_HEIGHT → IsSplit k n → k ≤ m → audit_length m n ≡ audit_length (m - k) (n - k) + 1

-- ---- audit paths

-- The text of a leaf.
abbrev pub text_at : List (List ℕ) → ℕ → List ℕ
text_at texts m = slice_index_or texts m []

-- An audit path has the audit length.
abbrev pub PathsHaveTheirLength : Type 0
PathsHaveTheirLength =
    (m : ℕ) (texts : List (List ℕ)) → AreFew texts → m < length texts
    → length (audit_path m texts) ≡ audit_length m (length texts)

-- The hash of a leaf and its audit path lead to the tree hash, and no hash of the path is left.
abbrev pub PathsAreComplete : Type 0
PathsAreComplete =
    (m : ℕ) (texts : List (List ℕ)) → AreFew texts → m < length texts
    → climb_to MAX_HEIGHT m (length texts) (record { hash = sha256 (text_at texts m); left = audit_path m texts })
    ≡ record { hash = tree_hash texts; left = [] }

-- If the texts of the way up agree with those of a tree's nodes, and the way ends at the tree hash,
-- it began at the hash of that leaf, whatever hashes were taken.
abbrev pub PathsAreSound : Type 0
PathsAreSound =
    (m : ℕ) (climb : Climb) (texts : List (List ℕ)) → AreFew texts → m < length texts → length climb.hash ≡ 32
    → Agree (climb_texts_to MAX_HEIGHT m (length texts) climb) (node_texts texts)
    → top_of m (length texts) climb ≡ tree_hash texts
    → climb.hash ≡ sha256 (text_at texts m)

-- Whether the texts agree or not, a way that ends at the tree hash began at the hash of that leaf,
-- or a text of the way and a text of the tree differ and have one digest.
abbrev pub PathsAreSoundOrClash : Type 0
PathsAreSoundOrClash =
    (m : ℕ) (climb : Climb) (texts : List (List ℕ)) → AreFew texts → m < length texts → length climb.hash ≡ 32
    → top_of m (length texts) climb ≡ tree_hash texts
    → (climb.hash ≡ sha256 (text_at texts m)) ⊎ Clash (climb_texts_to MAX_HEIGHT m (length texts) climb) (node_texts texts)

-- ---- texts with equal digests

-- Any two lists of texts agree, or have two texts that differ and have one digest.
abbrev pub TextsAgreeOrClash : Type 0
TextsAgreeOrClash = (given own : List (List ℕ)) → Agree given own ⊎ Clash given own

-- No two lists of texts both agree and clash.
abbrev pub NeverBoth : Type 0
NeverBoth = (given own : List (List ℕ)) → Agree given own → Clash given own → ⊥

-- Lists of one length with one digest are equal, and began from one digest, if their texts agree.
abbrev pub ListsAreSound : Type 0 → Type 0
ListsAreSound A =
    (text : List ℕ → A → List ℕ) (d e : List ℕ) (xs ys : List A) → AreToldApart text xs ys
    → length xs ≡ length ys → length d ≡ 32 → length e ≡ 32
    → Agree (chain_texts text d xs) (chain_texts text e ys) → chain_digest text d xs ≡ chain_digest text e ys
    → (d ≡ e) × (xs ≡ ys)

-- A walk that begins at the digest of a text at a place goes through the texts at the places that
-- it names, if its texts agree with these.
abbrev pub WalksAreSound : Type 0
WalksAreSound =
    (next : List ℕ → Option Expected) (text_at : ℕ → Option (List ℕ)) (given own : List (List ℕ)) (first : Option Expected)
    → AreLinked next text_at own
    → ((expected : Expected) → first ≡ Some expected → IsOfPlace text_at expected)
    → Agree given own → Walks next first given → AreOfPlaces next text_at first given
