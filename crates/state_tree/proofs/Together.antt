-- The states of leaves, and the hashes that are stale.
use Rattle.std.proofs.Common.{◌≡◌, ℕ, zero, suc, ◌+◌, ◌<◌, ◌≢◌, Bool, true, false, ◌==◌, List, []}
use Rattle.std.proofs.Common.{◌∷◌, ◌++◌, length, get_or, take, map, Some, refl, sym, ap, ap₂, subst}
use Rattle.std.proofs.Common.{◌∙◌, arith}
use Rattle.std.proofs.Math.ListN.{set}
use Rattle.std.specs.Prelude.{slice_get, IsPermutation}
use Rattle.std.specs.List.{Contains}
use Rattle.std.specs.BTreeMap.{BTreeMap}
use Rattle.std.proofs.lemmas.Bool.{eq-eqb}
use Rattle.std.proofs.lemmas.List.{map-append, take_more, length-set, length-append, length-map}
use Rattle.std.proofs.lemmas.List.{get_or-map, get_or_append_left, get_or-set_other, get_or_default}
use Rattle.std.proofs.lemmas.List.Folds.{list_any_at}
use Rattle.std.proofs.lemmas.List.Sorted.{All-permutation, Contains-permutation}
use Rattle.std.proofs.lemmas.List.Sums.{fold_push}
use Rattle.std.proofs.lemmas.List.Elements.{All-nil, All-map, All-weaker}
use Rattle.std.proofs.lemmas.Option.{slice_get-get_or, slice_get_within, get_or_from_slice_get}
use Rattle.lc_base.specs.declared.digest.Digest.{Digest}
use Rattle.root_laws.specs.merkle_tree.Tree.{leaf_text}
use Rattle.root_laws.specs.merkle_tree.Levels.{digest_of, is_set, IsOwn, Renews}
use Rattle.root_laws.specs.merkle_tree.declared.setting_all.HashAt.{HashAt}
use Rattle.root_laws.specs.prov_entry.declared.entry.Leaf.{Leaf}
use Rattle.root_laws.specs.prov_entry.Spelling.{leaf_bytes}
use Rattle.root_laws.specs.Root.{sentinel}
use Rattle.state_tree.specs.declared.states.LeafState.{LeafState}
use Rattle.state_tree.specs.Leaves.{fresh_leaf, leaf_with_state, with_leaf_after, with_state}
use Rattle.state_tree.specs.Leaves.{with_states, leaf_texts, leaf_hashes}
use Rattle.state_tree.specs.Order.{AreHashedBut, IsTree, no_hash, hash_at}
use Rattle.state_tree.specs.Stale.{Indexes, with_index}
use Rattle.state_tree.proofs.Marks.{with_index_has, with_index_keeps, with_index_all}
use Rattle.state_tree.proofs.Threads.{same_items, map_map, order_set}

-- ---- the hashes of leaves

abbrev pub leaf_digest : Leaf → Digest
leaf_digest leaf = digest_of (leaf_text (leaf_bytes leaf))

digests_of : (leaves : List Leaf) → leaf_hashes leaves ≡ map leaf_digest leaves
digests_of leaves = map_map digest_of (λ (leaf : Leaf). leaf_text (leaf_bytes leaf)) leaves

pub hash_count : (leaves : List Leaf) → length (leaf_hashes leaves) ≡ length leaves
hash_count leaves = ap length (digests_of leaves) ∙ length-map leaves leaf_digest

pub hash_there : (leaves : List Leaf) (i : ℕ) (d : Leaf) → i < length leaves
    → get_or (leaf_hashes leaves) i no_hash ≡ leaf_digest (get_or leaves i d)
hash_there leaves i d below = ap (λ (hashes : List Digest). get_or hashes i no_hash) (digests_of leaves) ∙ get_or-map leaf_digest leaves i d no_hash below

-- The hashes of the first leaves, with that of the next one.
pub hashes_more : (leaves : List Leaf) (i : ℕ) (leaf : Leaf) (hash : Digest) (hashes hashes' : List Digest) → hashes ≡ leaf_hashes (take i leaves) → slice_get leaves i ≡ Some leaf → hash ≡ leaf_digest leaf
    → hashes' ≡ hashes ++ hash ∷ [] → hashes' ≡ leaf_hashes (take (i + 1) leaves)
hashes_more leaves i leaf hash hashes hashes' are held hash_is more =
    more ∙ ap₂ (λ (hs : List Digest) (h : Digest). hs ++ h ∷ []) (are ∙ digests_of (take i leaves)) hash_is
    ∙ sym (digests_of (take (i + 1) leaves) ∙ ap (map leaf_digest) (take_more leaves i leaf (slice_get_within leaves i leaf held) ∙ ap (λ (l : Leaf). take i leaves ++ l ∷ []) (get_or_from_slice_get leaves i leaf leaf held))
    ∙ map-append leaf_digest (take i leaves) (leaf ∷ []))

-- The hash of a leaf is that of the same leaf elsewhere.
hash_alike : (leaves last : List Leaf) (i : ℕ) → i < length leaves → i < length last
    → get_or leaves i (sentinel []) ≡ get_or last i (sentinel [])
    → get_or (leaf_hashes leaves) i no_hash ≡ get_or (leaf_hashes last) i no_hash
hash_alike leaves last i below below' same = hash_there leaves i (sentinel []) below ∙ ap leaf_digest same ∙ sym (hash_there last i (sentinel []) below')

-- ---- hashes that are stale

pub none_stale : (leaves : List Leaf) (hashes : List Digest) → hashes ≡ leaf_hashes leaves
    → AreHashedBut leaves hashes []
none_stale leaves hashes is = record {
  fewer = omega (arith, ap length is, hash_count leaves);
  within = All-nil (λ (index : ℕ). index < length leaves);
  others = λ i below apart. (omega (arith, ap length is, hash_count leaves, below), ap (λ (hs : List Digest). get_or hs i no_hash) is);
}

-- If none is stale, the hashes are those of the leaves.
pub all_hashed : (leaves : List Leaf) (hashes : List Digest) (stale : List ℕ)
    → AreHashedBut leaves hashes stale → stale ≡ [] → hashes ≡ leaf_hashes leaves
all_hashed leaves hashes stale but none =
    same_items hashes (leaf_hashes leaves) many (λ i d below. let is = but.others i (omega (arith, below, many, hash_count leaves)) apart in by i d is.0 is.1 below)
  where
    apart : {i : ℕ} → Contains stale i → ⊥
    apart {i = i} there = let few : length stale ≡ 0 = ap length none in omega (arith, few, there.1)

    many : length hashes ≡ length (leaf_hashes leaves)
    many = go (length leaves) refl
      where
        go : (n : ℕ) → length leaves ≡ n → length hashes ≡ length (leaf_hashes leaves)
        go zero e = omega (arith, e, but.fewer, hash_count leaves)
        go (suc n) e = omega (arith, e, but.fewer, hash_count leaves, (but.others n (omega (arith, e)) apart).0)

    by : (i : ℕ) (d : Digest) → i < length hashes
        → get_or hashes i no_hash ≡ get_or (leaf_hashes leaves) i no_hash → i < length hashes
        → get_or hashes i d ≡ get_or (leaf_hashes leaves) i d
    by i d below same below' = get_or_default hashes i d no_hash below ∙ same ∙ get_or_default (leaf_hashes leaves) i no_hash d (omega (arith, below, many))

-- With one more leaf, its hash is stale, and so is that of the leaf that names its key.
pub stale_grown : (leaves leaves' : List Leaf) (hashes : List Digest) (stale stale' : List ℕ) (key : List ℕ) (cover : ℕ) (before : Leaf) → AreHashedBut leaves hashes stale → cover < length leaves
    → leaves' ≡ with_leaf_after leaves key cover before
    → stale' ≡ with_index (with_index stale cover) (length leaves)
    → AreHashedBut leaves' hashes stale'
stale_grown leaves leaves' hashes stale stale' key cover before but inside leaves_are stale_is =
    subst (λ (ls : List Leaf). AreHashedBut ls hashes stale') (sym leaves_are)
    (subst (λ (indexes : List ℕ). AreHashedBut (set (leaves ++ fresh ∷ []) cover after) hashes indexes) (sym stale_is) (record {
      fewer = omega (arith, long, but.fewer);
      within = with_index_all (λ (index : ℕ). index < length grown) (with_index stale cover) (length leaves)
          (with_index_all (λ (index : ℕ). index < length grown) stale cover
          (All-weaker (λ (index : ℕ). index < length leaves) (λ (index : ℕ). index < length grown) (λ index h. omega (arith, h, long)) stale but.within) (omega (arith, inside, long)))
          (omega (arith, long));
      others = others;
    }))
  where
    fresh : Leaf
    fresh = record (fresh_leaf key) { next = before.next }

    after : Leaf
    after = record before { next = Some key }

    grown : List Leaf
    grown = set (leaves ++ fresh ∷ []) cover after

    long : length grown ≡ length leaves + 1
    long = length-set (leaves ++ fresh ∷ []) cover after ∙ length-append leaves (fresh ∷ [])

    others : (i : ℕ) → i < length grown
        → (Contains (with_index (with_index stale cover) (length leaves)) i → ⊥)
        → (i < length hashes) × (get_or hashes i no_hash ≡ get_or (leaf_hashes grown) i no_hash)
    others i below apart =
        let not_cover : i ≢ cover = λ e. apart (with_index_keeps (with_index stale cover) (length leaves) i (subst (Contains (with_index stale cover)) (sym e) (with_index_has stale cover))) in
        let not_last : i ≢ length leaves = λ e. apart (subst (Contains (with_index (with_index stale cover) (length leaves))) (sym e) (with_index_has (with_index stale cover) (length leaves))) in
        let old : i < length leaves = omega (arith, below, long, not_last) in
        let is = but.others i old (λ there. apart (with_index_keeps (with_index stale cover) (length leaves) i (with_index_keeps stale cover i there))) in
        (is.0, is.1 ∙ hash_alike leaves grown i old below (sym (get_or-set_other (leaves ++ fresh ∷ []) cover i after (sentinel []) not_cover ∙ get_or_append_left leaves (fresh ∷ []) (sentinel []) i old)))

-- The order of the indexes doesn't matter.
pub stale_sorted : (leaves : List Leaf) (hashes : List Digest) (stale sorted : List ℕ)
    → AreHashedBut leaves hashes stale → IsPermutation stale sorted
    → AreHashedBut leaves hashes sorted
stale_sorted leaves hashes stale sorted but same = record {
  fewer = but.fewer;
  within = All-permutation (λ (index : ℕ). index < length leaves) stale sorted same but.within;
  others = λ i below apart. but.others i below (λ there. apart (Contains-permutation stale sorted i same there));
}

-- To renew hashes, those of all leaves that are stale are set.
pub renews : (leaves : List Leaf) (hashes : List Digest) (indexes : List ℕ)
    → AreHashedBut leaves hashes indexes
    → Renews hashes (leaf_hashes leaves) (map (hash_at leaves) indexes)
renews leaves hashes indexes but = record {
  fewer = omega (arith, but.fewer, hash_count leaves);
  own = All-map (IsOwn (leaf_hashes leaves)) (hash_at leaves) indexes
      (All-weaker (λ (index : ℕ). index < length leaves) (λ (index : ℕ). IsOwn (leaf_hashes leaves) (hash_at leaves index))
      (λ index h. let within : index < length (leaf_hashes leaves) = omega (arith, h, hash_count leaves) in (within, get_or_default (leaf_hashes leaves) index _ no_hash within)) indexes but.within);
  others = λ place below off.
      let is = but.others place (omega (arith, below, hash_count leaves)) (λ there. clash (is_set (map (hash_at leaves) indexes) place) (set_there place there) off) in
      (is.0, get_or_default hashes place _ no_hash is.0 ∙ is.1 ∙ get_or_default (leaf_hashes leaves) place no_hash _ below);
}
  where
    clash : (b : Bool) → b ≡ true → b ≡ false → ⊥
    clash b t f = cc

    set_there : (place : ℕ) → Contains indexes place
        → is_set (map (hash_at leaves) indexes) place ≡ true
    set_there place (k, below, is) =
        list_any_at (λ (one : HashAt). one.index == place) (map (hash_at leaves) indexes) k (hash_at leaves place) (omega (arith, below, length-map indexes (hash_at leaves)))
        (eq-eqb (get_or (map (hash_at leaves) indexes) k (hash_at leaves place)).index place (ap (λ (one : HashAt). one.index) (get_or-map (hash_at leaves) indexes k place (hash_at leaves place) below) ∙ is))

-- ---- leaves that get states

pub states_long : (leaves : List Leaf) (states : List LeafState)
    → length (with_states leaves states) ≡ length leaves
states_long leaves [] = refl
states_long leaves (state ∷ states) = states_long (with_state leaves state) states ∙ length-set leaves state.index (leaf_with_state (get_or leaves state.index (sentinel [])) state)

-- One more state is set after the others.
pub states_more : (leaves last : List Leaf) (states : List LeafState) (one : LeafState)
    → last ≡ with_states leaves states
    → with_state last one ≡ with_states leaves (states ++ one ∷ [])
states_more leaves last states one is = ap (λ (ls : List Leaf). with_state ls one) is ∙ sym (fold_push with_state leaves states one)

-- The leaf that got a state is stale.
stale_state : (leaves : List Leaf) (hashes : List Digest) (stale : List ℕ) (state : LeafState)
    → AreHashedBut leaves hashes stale → state.index < length leaves
    → AreHashedBut (with_state leaves state) hashes (with_index stale state.index)
stale_state leaves hashes stale state but inside = record {
  fewer = omega (arith, but.fewer, long);
  within = with_index_all (λ (index : ℕ). index < length after) stale state.index
      (All-weaker (λ (index : ℕ). index < length leaves) (λ (index : ℕ). index < length after) (λ index h. omega (arith, h, long)) stale but.within) (omega (arith, inside, long));
  others = λ i below apart.
      let old : i < length leaves = omega (arith, below, long) in
      let is = but.others i old (λ there. apart (with_index_keeps stale state.index i there)) in
      let other : i ≢ state.index = λ e. apart (subst (Contains (with_index stale state.index)) (sym e) (with_index_has stale state.index)) in
      (is.0, is.1 ∙ hash_alike leaves after i old below (sym (get_or-set_other leaves state.index i said (sentinel []) other)));
}
  where
    said : Leaf
    said = leaf_with_state (get_or leaves state.index (sentinel [])) state

    after : List Leaf
    after = with_state leaves state

    long : length after ≡ length leaves
    long = length-set leaves state.index said

-- The tree after a leaf was set.
pub tree_set : (leaves last : List Leaf) (order : BTreeMap (List ℕ) ℕ) (hashes : List Digest) (stale stale' : Indexes) (state : LeafState) → IsTree leaves order hashes stale
    → 0 < state.index → state.index < length leaves → last ≡ with_state leaves state
    → stale'.count ≡ stale.count → stale'.list ≡ with_index stale.list state.index
    → IsTree last order hashes stale'
tree_set leaves last order hashes stale stale' state tree own below is count_is list_is =
    let before = get_or leaves state.index (sentinel []) in
    let long = length-set leaves state.index (leaf_with_state before state) in
    subst (λ (ls : List Leaf). IsTree ls order hashes stale') (sym is) (record {
      in_order = order_set leaves order state.index before (leaf_with_state before state) tree.in_order (slice_get-get_or leaves state.index (sentinel []) below) own refl refl;
      hashed = subst (AreHashedBut (with_state leaves state) hashes) (sym list_is) (stale_state leaves hashes stale.list state tree.hashed below);
      room = omega (arith, tree.room, long, count_is);
    })

pub stale_same : (leaves leaves' : List Leaf) (hashes : List Digest) (stale stale' : List ℕ)
    → AreHashedBut leaves hashes stale → leaves' ≡ leaves → stale' ≡ stale
    → AreHashedBut leaves' hashes stale'
stale_same leaves leaves' hashes stale stale' but same same' = rw (same, same') but

pub texts_hashed : (leaves view : List Leaf) (hashes : List Digest) (stale : List ℕ)
    → AreHashedBut leaves hashes stale → length stale ≡ 0 → leaves ≡ view
    → map digest_of (leaf_texts view) ≡ hashes
texts_hashed leaves view hashes stale but none is = ap leaf_hashes (sym is) ∙ sym (all_hashed leaves hashes stale but (no_items stale none))
  where
    no_items : (xs : List ℕ) → length xs ≡ 0 → xs ≡ []
    no_items [] e = refl
    no_items (x ∷ xs) e = absurd (omega arith)
