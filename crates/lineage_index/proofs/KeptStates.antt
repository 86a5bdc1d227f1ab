-- What is kept of keys, with one key or one version more.
use Rattle.std.proofs.Common.{◌≡◌, ◌≢◌, ◌∙◌, ℕ, ◌+◌, true, false, ◌==◌, List, [], ◌∷◌, ◌++◌, length, map, get_or, Option, Some, None, refl, sym, ap, arith}
use Rattle.std.specs.Prelude.{slice_get, slice_set}
use Rattle.std.specs.Cmp.Lexicographic.{pointwise}
use Rattle.std.proofs.lemmas.List.{length-map, map-append, map-set}
use Rattle.std.proofs.lemmas.List.Folds.{list_any_at}
use Rattle.std.proofs.lemmas.List.Quantifiers.{all_pairs_push}
use Rattle.std.proofs.lemmas.Option.{slice_get_within, get_or_from_slice_get}
use Rattle.entry_views.specs.prov_entry.declared.entry.Leaf.{Leaf}
use Rattle.plain_rows.specs.root_laws.Root.{is_among}
use Rattle.plain_rows.proofs.root_laws.Lists.{not_both}
use Rattle.plain_rows.proofs.root_laws.Keys.{key_is_key}
use Rattle.state_tree.specs.Leaves.{index_of, with_leaf_of}
use Rattle.forward_links.specs.declared.kept_list.KeptList.{KeptList}
use Rattle.forward_links.specs.Lists.{Use, kept_at, kept_of, emptied_at, rows_of}
use Rattle.plain_rows.proofs.Marked.{get_here}
use Rattle.lineage_index.specs.Growth.{Entry, leaf_with}
use Rattle.lineage_index.specs.Heads.{leaves_with, KeyStates, AreHeads, AreLists, with_key_more, with_version_more, with_version}
use Rattle.lineage_index.proofs.ByKey.{push_key}
use Rattle.lineage_index.proofs.KeyLeaves.{IsPlace, leaf_place, leaf_added}
use Rattle.lineage_index.specs.Closed.{closed_with}
use Rattle.lineage_index.proofs.KeyLists.{kept_of_key, value_at, value_set}

-- a key at an index is among the keys
pub index_among : (keys : List (List ℕ)) (key : List ℕ) (i : ℕ) → slice_get keys i ≡ Some key → is_among keys key ≡ true
index_among keys key i at =
    let here : get_or keys i key ≡ key = get_or_from_slice_get keys i key key at in
    list_any_at (λ (other : List ℕ). pointwise ◌==◌ other key) keys i key (slice_get_within keys i key at) (rw here (key_is_key key))

-- a key that is not among the keys has no leaf
pub no_leaf : (tree : List Leaf) (keys : List (List ℕ)) (entry : List ℕ → Entry) (key : List ℕ) → tree ≡ leaves_with keys entry → is_among keys key ≡ false → index_of tree key ≡ None
no_leaf tree keys entry key is none = ap (λ (leaves : List Leaf). index_of leaves key) is ∙ go (index_of (leaves_with keys entry) key) (leaf_place keys entry key)
  where
    go : (o : Option ℕ) → IsPlace keys key 1 o → o ≡ None
    go None h = refl
    go (Some index) h = absurd (not_both (is_among keys key) (list_any_at (λ (other : List ℕ). pointwise ◌==◌ other key) keys h.0 key h.2 (let here = h.3 key in rw here (key_is_key key))) none)

pub lists_of_heads : (tree : List Leaf) (lists : List KeptList) (newest : List ℕ)
    (states : KeyStates) → AreHeads tree lists newest states
    → AreLists tree lists states.keys states.list
lists_of_heads tree lists newest states a = record { apart = a.apart; entry = states.entry; leaves_are = a.leaves_are; lists_are = a.lists_are }

pub heads_with_lists : (tree : List Leaf) (lists more : List KeptList) (newest : List ℕ)
    (states : KeyStates) (list : List ℕ → List Use) → AreHeads tree lists newest states
    → AreLists tree more states.keys list
    → AreHeads tree more newest (record states { list = list })
heads_with_lists tree lists more newest states list a b = record { apart = a.apart; leaves_are = a.leaves_are; lists_are = b.lists_are; newest_are = a.newest_are }

-- there are as many indexes as keys, and as many lists
pub as_many : (tree : List Leaf) (lists : List KeptList) (newest : List ℕ) (states : KeyStates)
    → AreHeads tree lists newest states → (length lists ≡ length newest)
    × (length states.keys ≡ length newest) × (length tree ≡ 1 + length newest)
as_many tree lists newest states a =
    let n : length newest ≡ length states.keys = ap length a.newest_are ∙ length-map states.keys states.index in
    let l : length lists ≡ length states.keys = ap length a.lists_are ∙ length-map
    (map states.list states.keys) kept_of ∙ length-map states.keys states.list in
    let t : length tree ≡ length (leaves_with states.keys states.entry) = ap length a.leaves_are in
    (l ∙ sym n, sym n, t ∙ omega (arith, n, length-map states.keys (λ (key : List ℕ). leaf_with states.keys key (states.entry key))))

pub heads_added : (tree : List Leaf) (lists : List KeptList) (newest : List ℕ) (states : KeyStates)
    (key : List ℕ) (row : ℕ) → AreHeads tree lists newest states → is_among states.keys key ≡ false
    → AreHeads (with_leaf_of tree key) (lists ++ kept_of [] ∷ []) (newest ++ row ∷ [])
    (with_key_more states key row)
heads_added tree lists newest states key row a none = record {
  apart = all_pairs_push ◌≢◌ states.keys key a.apart (λ k d l e. not_both (is_among states.keys key) (list_any_at (λ (other : List ℕ). pointwise ◌==◌ other key) states.keys k d l (rw e (key_is_key key))) none);
  leaves_are = ap (λ (leaves : List Leaf). with_leaf_of leaves key) a.leaves_are ∙ leaf_added states.keys states.entry key none;
  lists_are = ap (λ (ls : List KeptList). ls ++ kept_of [] ∷ []) a.lists_are
      ∙ sym (map-append kept_of (map states.list states.keys) ([] ∷ [])) ∙ ap (map kept_of)
      (push_key states.list states.keys key [] none);
  newest_are = ap (λ (is : List ℕ). is ++ row ∷ []) a.newest_are ∙ push_key states.index states.keys key row none;
}

pub heads_replaced : (tree : List Leaf) (lists : List KeptList) (newest : List ℕ)
    (states : KeyStates) (key : List ℕ) (i row : ℕ) → AreHeads tree lists newest states
    → slice_get states.keys i ≡ Some key
    → AreHeads tree (emptied_at lists i) (slice_set newest i row) (with_version_more states key row)
heads_replaced tree lists newest states key i row a at = record {
  apart = a.apart;
  leaves_are = a.leaves_are;
  lists_are = ap (λ (ls : List KeptList). emptied_at ls i) a.lists_are ∙ sym (map-set kept_of
      (map states.list states.keys) i []) ∙ ap (map kept_of) (value_set states.list states.keys key
      i [] a.apart at);
  newest_are = ap (λ (is : List ℕ). slice_set is i row) a.newest_are ∙ value_set states.index states.keys key i row a.apart at;
}

pub version_new : (states : KeyStates) (key : List ℕ) (row : ℕ) → is_among states.keys key ≡ false → with_version states key row ≡ with_key_more states key row
version_new states key row none = rw none refl

pub version_old : (states : KeyStates) (key : List ℕ) (row : ℕ) → is_among states.keys key ≡ true → with_version states key row ≡ with_version_more states key row
version_old states key row there = rw there refl

-- ---- the closed lists, and the index of the key

pub closed_added : (states : KeyStates) (key : List ℕ) (closed : List (List ℕ))
    → is_among states.keys key ≡ false
    → closed ++ [] ∷ [] ≡ closed_with states key closed
closed_added states key closed none = rw none refl

-- The row whose list is closed is the newest of its key.
pub closed_place : (tree : List Leaf) (lists : List KeptList) (newest : List ℕ)
    (states : KeyStates) (key : List ℕ) (i : ℕ) → AreHeads tree lists newest states
    → slice_get states.keys i ≡ Some key
    → get_or newest i 0 ≡ states.index key
closed_place tree lists newest states key i a at = ap (λ (is : List ℕ). get_or is i 0) a.newest_are
    ∙ (value_at states.index states.keys key i 0 at).1

pub closed_filled : (tree : List Leaf) (lists : List KeptList) (newest : List ℕ)
    (states : KeyStates) (key : List ℕ) (i : ℕ) (closed : List (List ℕ))
    → AreHeads tree lists newest states → slice_get states.keys i ≡ Some key
    → slice_set (closed ++ [] ∷ []) (get_or newest i 0) (kept_at lists i).rows ≡ closed_with states
    key closed
closed_filled tree lists newest states key i closed a at =
    let known : is_among states.keys key ≡ true = index_among states.keys key i at in
    let list : kept_at lists i ≡ kept_of (states.list key) = kept_of_key tree lists states.keys
    states.list key i (lists_of_heads tree lists newest states a) at in
    ap (λ (k : ℕ). slice_set (closed ++ [] ∷ []) k (kept_at lists i).rows) (closed_place tree lists
    newest states key i a at)
    ∙ ap (λ (one : KeptList). slice_set (closed ++ [] ∷ []) (states.index key) one.rows) list
    ∙ old known
  where
    old : is_among states.keys key ≡ true → slice_set (closed ++ [] ∷ []) (states.index key)
        (rows_of (states.list key)) ≡ closed_with states key closed
    old known = rw known refl

pub key_last : (tree : List Leaf) (lists : List KeptList) (newest : List ℕ) (states : KeyStates)
    (key : List ℕ) (row index : ℕ) → AreHeads tree lists newest states
    → is_among states.keys key ≡ false → index ≡ length lists
    → slice_get (with_version states key row).keys index ≡ Some key
key_last tree lists newest states key row index a none at =
    let many = as_many tree lists newest states a in
    let end : index ≡ length states.keys = at ∙ many.0 ∙ sym many.1 in
    rw none (ap (slice_get (states.keys ++ key ∷ [])) end ∙ get_here states.keys key [])

pub key_stays : (states : KeyStates) (key : List ℕ) (row index : ℕ)
    → slice_get states.keys index ≡ Some key
    → slice_get (with_version states key row).keys index ≡ Some key
key_stays states key row index at = rw (index_among states.keys key index at) at
