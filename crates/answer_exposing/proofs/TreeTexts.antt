-- The texts of a tree, for a height that is counted down from the top, and those of a ledger.
use Rattle.std.proofs.Common.{◌≡◌, ℕ, zero, suc, ◌-◌, ◌^◌, ◌<◌, ◌≤◌, List, [], ◌∷◌, ◌++◌, length}
use Rattle.std.proofs.Common.{take, drop, map, refl, sym, ap, subst, ◌∙◌, arith, append-nil}
use Rattle.std.proofs.Common.{append_assoc}
use Rattle.std.specs.List.{flat_map}
use Rattle.std.proofs.lemmas.List.{take-map, length-map, drop-map}
use Rattle.lc_base.specs.declared.row.Row.{Row}
use Rattle.merkle_tree.specs.Tree.{hash_to, node_texts_to, node_texts, node_text, leaf_text}
use Rattle.merkle_tree.specs.declared.limits.TheConstants.{MAX_HEIGHT}
use Rattle.merkle_tree.proofs.Sound.{texts-split, texts-low}
use Rattle.prov_entry.specs.declared.entry.Leaf.{Leaf}
use Rattle.prov_entry.specs.Spelling.{leaf_bytes, text_of_root}
use Rattle.prov_entry.specs.ForwardLists.{start_text}
use Rattle.root_laws.specs.Root.{leaves, root_text}
use Rattle.root_laws.proofs.Lists.{map_map}
use Rattle.proof_checks.specs.ProofTexts.{joined_texts}
use Rattle.proof_checks.specs.LedgerTexts.{history_parts, texts_of_leaves, texts_of_row}
use Rattle.proof_checks.specs.LedgerTexts.{texts_of_row_uses}
use Rattle.text_clashes.specs.Search.{Search}
use Rattle.text_clashes.specs.Searching.{Searches}
use Rattle.text_clashes.proofs.Searched.{searches_both}

abbrev Texts : Type 0
Texts = List (List ℕ)

pub nodes_none : {A : Type 0} (f : A → List ℕ) (j : ℕ) (xs : List A) → j ≡ 0
    → node_texts_to j (map f xs) ≡ []
unfolding node_texts_to
nodes_none f j xs z = rw z refl

pub nodes_two : {A : Type 0} (f : A → List ℕ) (j half : ℕ) (xs : List A) → 0 < j
    → half ≡ 2 ^ (j - 1) → half < length xs
    → node_texts_to j (map f xs) ≡ node_texts_to (j - 1) (map f (take half xs)) ++ node_texts_to
    (j - 1) (map f (drop half xs)) ++ node_text (hash_to (j - 1) (map f (take half xs)))
    (hash_to (j - 1) (map f (drop half xs))) ∷ []
nodes_two f zero half xs pos is big = absurd (omega arith)
nodes_two f (suc j) half xs pos is big =
    let down : suc j - 1 ≡ j = omega arith in
    let is' : half ≡ 2 ^ j = is ∙ ap (λ (k : ℕ). 2 ^ k) down in
    let more : 2 ^ j < length (map f xs) = omega (arith, length-map xs f) in
    rw (down, is') (texts-split j (map f xs) more
    ∙ rw (take-map f (2 ^ j) xs, drop-map f (2 ^ j) xs) refl)

pub nodes_low : {A : Type 0} (f : A → List ℕ) (j half : ℕ) (xs : List A) → 0 < j
    → half ≡ 2 ^ (j - 1) → length xs ≤ half
    → node_texts_to j (map f xs) ≡ node_texts_to (j - 1) (map f xs)
nodes_low f zero half xs pos is small = absurd (omega arith)
nodes_low f (suc j) half xs pos is small =
    let down : suc j - 1 ≡ j = omega arith in
    let is' : half ≡ 2 ^ j = is ∙ ap (λ (k : ℕ). 2 ^ k) down in
    rw down (texts-low j (map f xs) (omega (arith, length-map xs f)))

pub ruleset nodes_upward = (nodes_none, nodes_two, nodes_low)

-- ---- both sides, and the node over them

-- The texts of both sides come, then that of the node over them.
module _ (j half : ℕ) (xs front back : Texts) (left right : List ℕ) (pos : 0 < j)
    (is : half ≡ 2 ^ (j - 1)) (big : half < length xs) (front_is : front ≡ take half xs)
    (back_is : back ≡ drop half xs)
    (left_is : left ≡ hash_to (j - 1) (map leaf_text front))
    (right_is : right ≡ hash_to (j - 1) (map leaf_text back)) where
  abbrev texts_of : Texts → Texts
  texts_of leaves = node_texts_to (j - 1) (map leaf_text leaves)

  abbrev hash_of : Texts → List ℕ
  hash_of leaves = hash_to (j - 1) (map leaf_text leaves)

  parts_are : texts_of front ++ texts_of back ++ node_text left right ∷ [] ≡ node_texts_to j
      (map leaf_text xs)
  parts_are =
      ap (λ (hash : List ℕ). texts_of front ++ texts_of back ++ node_text hash right ∷ []) left_is
      ∙ ap (λ (hash : List ℕ). texts_of front ++ texts_of back ++ node_text (hash_of front) hash ∷
      []) right_is
      ∙ ap (λ (leaves : Texts). texts_of leaves ++ texts_of back ++ node_text (hash_of leaves)
      (hash_of back) ∷ []) front_is
      ∙ ap (λ (leaves : Texts). texts_of (take half xs) ++ texts_of leaves ++ node_text
      (hash_of (take half xs)) (hash_of leaves) ∷ []) back_is
      ∙ sym (nodes_two leaf_text j half xs pos is big)

  pub parts_added : (old one two done : Search) → Searches (texts_of front) old one
      → Searches (texts_of back) one two → Searches (node_text left right ∷ []) two done
      → Searches (node_texts_to j (map leaf_text xs)) old done
  parts_added old one two done o t d =
      let sides = searches_both (texts_of front) (texts_of back) old one two o t in
      subst (λ (texts : Texts). Searches texts old done) parts_are
      (searches_both (texts_of front ++ texts_of back) (node_text left right ∷ []) old two done
      sides d)

-- ---- the whole tree, and the root

pub tree_added : (tree : List Leaf) (block count : ℕ) (digest top root : List ℕ)
    (given again : Texts) (old one two done : Search) → given ≡ map leaf_bytes tree
    → again ≡ map leaf_bytes tree → count ≡ length tree
    → top ≡ hash_to MAX_HEIGHT (map leaf_text again)
    → root ≡ text_of_root block digest count top
    → Searches (map leaf_text given) old one
    → Searches (node_texts_to MAX_HEIGHT (map leaf_text again)) one two
    → Searches (root ∷ []) two done
    → Searches (texts_of_leaves tree ++
    (node_texts (texts_of_leaves tree) ++ root_text block digest tree ∷ [])) old done
tree_added tree block count digest top root given again old one two done given_is again_is count_is
    top_is root_is o t d =
    let leaves : Texts = texts_of_leaves tree in
    let nodes : Texts = node_texts leaves in
    let first : map leaf_text given ≡ leaves = ap (λ (list : Texts). map leaf_text list) given_is
    ∙ map_map leaf_text leaf_bytes tree in
    let second : map leaf_text again ≡ leaves = ap (λ (list : Texts). map leaf_text list) again_is
    ∙ map_map leaf_text leaf_bytes tree in
    let hash : top ≡ hash_to MAX_HEIGHT leaves = top_is
    ∙ ap (λ (list : Texts). hash_to MAX_HEIGHT list) second in
    let last : root ≡ root_text block digest tree = root_is
    ∙ ap (λ (n : ℕ). text_of_root block digest n top) count_is
    ∙ ap (λ (h : List ℕ). text_of_root block digest (length tree) h) hash in
    let upper : Searches (nodes ++ root_text block digest tree ∷ []) one done =
    searches_both nodes (root_text block digest tree ∷ []) one two done
    (subst (λ (list : Texts). Searches (node_texts_to MAX_HEIGHT list) one two) second t)
    (subst (λ (text : List ℕ). Searches (text ∷ []) two done) last d) in
    searches_both leaves (nodes ++ root_text block digest tree ∷ []) old one done
    (subst (λ (list : Texts). Searches list old one) first o) upper

-- ---- the whole ledger

parts_joined : (leaves nodes rows uses : Texts) (root start : List ℕ)
    → (leaves ++ (nodes ++ root ∷ [])) ++ (rows ++ (start ∷ uses))
    ≡ joined_texts (leaves ∷ nodes ∷ (root ∷ []) ∷ rows ∷ (start ∷ []) ∷ uses ∷ [])
parts_joined leaves nodes rows uses root start =
    append_assoc leaves (nodes ++ root ∷ []) (rows ++ (start ∷ uses))
    ∙ ap (λ (texts : Texts). leaves ++ texts)
    (append_assoc nodes (root ∷ []) (rows ++ (start ∷ uses)))
    ∙ ap (λ (texts : Texts). leaves ++ (nodes ++ (root ∷ (rows ++ (start ∷ texts)))))
    (sym (append-nil uses))

-- The texts of the tree came, then those of the rows, then those of the forward lists.
pub ledger_added : (rows again : List Row) (tree : List Leaf) (block : ℕ) (digest : List ℕ)
    (old one two done : Search) → tree ≡ leaves rows → again ≡ rows
    → Searches (texts_of_leaves tree ++
    (node_texts (texts_of_leaves tree) ++ root_text block digest tree ∷ [])) old one
    → Searches (flat_map (texts_of_row rows) rows) one two
    → Searches (start_text ∷ flat_map (texts_of_row_uses again) again) two done
    → Searches (joined_texts (history_parts rows block digest)) old done
ledger_added rows again tree block digest old one two done tree_is same t r l =
    let own : Texts = texts_of_leaves (leaves rows) in
    let root : List ℕ = root_text block digest (leaves rows) in
    let upper : Texts = own ++ (node_texts own ++ root ∷ []) in
    let headers : Texts = flat_map (texts_of_row rows) rows in
    let uses : Texts = flat_map (texts_of_row_uses rows) rows in
    let first : Searches upper old one = subst (λ (list : List Leaf). Searches (texts_of_leaves list
    ++ (node_texts (texts_of_leaves list) ++ root_text block digest list ∷ [])) old one) tree_is t
    in
    let last : Searches (start_text ∷ uses) two done = subst (λ (list : List Row). Searches
    (start_text ∷ flat_map (texts_of_row_uses list) list) two done) same l in
    subst (λ (texts : Texts). Searches texts old done)
    (parts_joined own (node_texts own) headers uses root start_text)
    (searches_both upper (headers ++ (start_text ∷ uses)) old one done first
    (searches_both headers (start_text ∷ uses) one two done r last))
