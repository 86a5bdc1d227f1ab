-- The tree hash of RFC 6962, section 2.1, over the texts of leaves.
use Rattle.std.specs.Prelude.{ℕ, zero, suc, ◌+◌, ◌-◌, ◌^◌, List, [], ◌∷◌, ◌++◌, length, take, drop, slice_index_or, nat_lt, if◌then◌else◌}
use Rattle.sha2.specs.Sha256.{sha256}
use Rattle.merkle_tree.specs.declared.limits.TheConstants.{LEAF, NODE, MAX_HEIGHT}

-- ---- what is hashed

-- The text of a leaf.
abbrev pub leaf_text : List ℕ → List ℕ
leaf_text leaf = LEAF ∷ leaf

-- The text of a node: the hash of its left part, and that of its right part.
abbrev pub node_text : List ℕ → List ℕ → List ℕ
node_text left right = NODE ∷ left ++ right

-- The hash of a node.
abbrev pub node_hash : List ℕ → List ℕ → List ℕ
node_hash left right = sha256 (node_text left right)

-- The first of some texts, or the empty one.
abbrev pub first_text : List (List ℕ) → List ℕ
first_text texts = slice_index_or texts 0 []

-- ---- the tree

-- The hash of at most 2 ^ j leaves, given by their texts. If there are more than 2 ^ (j - 1), the
-- first 2 ^ (j - 1) are the left part.
unfoldable pub hash_to : ℕ → List (List ℕ) → List ℕ
hash_to zero texts = sha256 (first_text texts)
hash_to (suc j) texts = if nat_lt (2 ^ j) (length texts) then node_hash (hash_to j (take (2 ^ j) texts)) (hash_to j (drop (2 ^ j) texts)) else hash_to j texts

-- The hash of a tree, given by the texts of its leaves.
abbrev pub tree_hash : List (List ℕ) → List ℕ
tree_hash texts = hash_to MAX_HEIGHT texts

-- The texts of the nodes of at most 2 ^ j leaves: those of the left part, those of the right part,
-- and then that of the node over both.
unfoldable pub node_texts_to : ℕ → List (List ℕ) → List (List ℕ)
node_texts_to zero texts = []
node_texts_to (suc j) texts =
    if nat_lt (2 ^ j) (length texts)
    then node_texts_to j (take (2 ^ j) texts) ++ node_texts_to j (drop (2 ^ j) texts) ++ node_text (hash_to j (take (2 ^ j) texts)) (hash_to j (drop (2 ^ j) texts)) ∷ []
    else node_texts_to j texts

-- The texts of the nodes of a tree.
abbrev pub node_texts : List (List ℕ) → List (List ℕ)
node_texts texts = node_texts_to MAX_HEIGHT texts

-- ---- audit paths

-- The hashes of the parts beside leaf m of at most 2 ^ j, from the leaf upward.
unfoldable pub audit_to : ℕ → ℕ → List (List ℕ) → List (List ℕ)
audit_to zero m texts = []
audit_to (suc j) m texts =
    if nat_lt (2 ^ j) (length texts)
    then (if nat_lt m (2 ^ j)
    then audit_to j m (take (2 ^ j) texts) ++ hash_to j (drop (2 ^ j) texts) ∷ []
    else audit_to j (m - 2 ^ j) (drop (2 ^ j) texts) ++ hash_to j (take (2 ^ j) texts) ∷ [])
    else audit_to j m texts

-- The audit path of leaf m of a tree.
abbrev pub audit_path : ℕ → List (List ℕ) → List (List ℕ)
audit_path m texts = audit_to MAX_HEIGHT m texts

-- The number of hashes in the audit path of leaf m of n, for n of at most 2 ^ j.
unfoldable pub audit_length_to : ℕ → ℕ → ℕ → ℕ
audit_length_to zero m n = 0
audit_length_to (suc j) m n =
    if nat_lt (2 ^ j) n
    then (if nat_lt m (2 ^ j) then audit_length_to j m (2 ^ j) + 1 else audit_length_to j (m - 2 ^ j) (n - 2 ^ j) + 1)
    else audit_length_to j m n

-- The number of hashes in the audit path of leaf m of n.
abbrev pub audit_length : ℕ → ℕ → ℕ
audit_length m n = audit_length_to MAX_HEIGHT m n

-- A hash on the way up from a leaf, and the hashes of the audit path that are still to be taken.
pub record Climb : Type 0 where
  pub hash : List ℕ
  pub left : List (List ℕ)

-- The text of a node whose left part has this hash, and whose right part the next one of the path.
abbrev pub text_on_left : Climb → List ℕ
text_on_left climb = node_text climb.hash (first_text climb.left)

-- The text of a node whose right part has this hash, and whose left part the next one of the path.
abbrev pub text_on_right : Climb → List ℕ
text_on_right climb = node_text (first_text climb.left) climb.hash

-- The climb one node higher, at the node with this text.
abbrev pub one_higher : Climb → List ℕ → Climb
one_higher climb text = record { hash = sha256 text; left = drop 1 climb.left }

-- The climb at the top, from leaf m of n, for n of at most 2 ^ j.
unfoldable pub climb_to : ℕ → ℕ → ℕ → Climb → Climb
climb_to zero m n climb = climb
climb_to (suc j) m n climb =
    if nat_lt (2 ^ j) n
    then (if nat_lt m (2 ^ j)
    then (let part = climb_to j m (2 ^ j) climb in one_higher part (text_on_left part))
    else (let part = climb_to j (m - 2 ^ j) (n - 2 ^ j) climb in one_higher part (text_on_right part)))
    else climb_to j m n climb

-- The texts of the nodes on the way, from the leaf upward.
unfoldable pub climb_texts_to : ℕ → ℕ → ℕ → Climb → List (List ℕ)
climb_texts_to zero m n climb = []
climb_texts_to (suc j) m n climb =
    if nat_lt (2 ^ j) n
    then (if nat_lt m (2 ^ j)
    then climb_texts_to j m (2 ^ j) climb ++ text_on_left (climb_to j m (2 ^ j) climb) ∷ []
    else climb_texts_to j (m - 2 ^ j) (n - 2 ^ j) climb ++ text_on_right (climb_to j (m - 2 ^ j) (n - 2 ^ j) climb) ∷ [])
    else climb_texts_to j m n climb
