-- The leaves of all keys, set to the entries of their keys, are those of the history.
use Rattle.std.proofs.Common.{◌≡◌, ◌≢◌, ◌∙◌, ℕ, ◌+◌, ◌-◌, ◌==◌, true, List, [], length, get_or, map}
use Rattle.std.proofs.Common.{refl, ap, arith}
use Rattle.std.specs.List.{All, AllPairs, AllByRecursion, range_with_len}
use Rattle.std.specs.Cmp.Lexicographic.{pointwise}
use Rattle.std.proofs.lemmas.List.{get_or_default}
use Rattle.std.proofs.lemmas.List.Elements.{recursion_from_All}
use Rattle.std.proofs.lemmas.List.Folds.{list_any_at}
use Rattle.std.proofs.lemmas.List.FromFn.{length-range_with_len, get_or-range_with_len}
use Rattle.std.proofs.lemmas.List.FromFn.{length-map-range_with_len, get_or-map-range_with_len}
use Rattle.lc_base.specs.declared.row.Row.{Row}
use Rattle.lineage_index.specs.prov_entry.declared.entry.Leaf.{Leaf}
use Rattle.lineage_index.specs.root_laws.Root.{is_among, keys_of}
use Rattle.lineage_index.proofs.root_laws.Keys.{key_is_key}
use Rattle.lineage_index.proofs.root_laws.Lists.{all_weaker}
use Rattle.lineage_index.specs.state_tree.Leaves.{with_states}
use Rattle.lineage_index.specs.Growth.{Entry, entry_of, entry_after}
use Rattle.lineage_index.specs.Heads.{leaves_with}
use Rattle.lineage_index.specs.Leaves.{IsLeafIndex, key_at, state_of}
use Rattle.lineage_index.proofs.KeyLeaves.{leaves_on}
use Rattle.lineage_index.proofs.LeafStates.{leaves_told}

-- The indexes from 1 to the number of keys are those of leaves of keys.
all_within : (keys : List (List ℕ)) → All (IsLeafIndex keys) (range_with_len 1 (length keys))
all_within keys k d l =
    let is : get_or (range_with_len 1 (length keys)) k d ≡ 1 + k = get_or-range_with_len 1
    (length keys) k d (omega (arith, l, length-range_with_len 1 (length keys))) in
    (omega (arith, is), omega (arith, is, l, length-range_with_len 1 (length keys)))

-- Each key is that of one of these leaves.
all_there : (keys : List (List ℕ))
    → All (λ (key : List ℕ). is_among (map (key_at keys) (range_with_len 1 (length keys))) key ≡
    true) keys
all_there keys j d l =
    let key = get_or keys j d in
    let n = length keys in
    let next : 1 + j - 1 ≡ j = omega arith in
    let here : get_or (map (key_at keys) (range_with_len 1 n)) j key ≡ key =
    get_or-map-range_with_len (key_at keys) 1 n j (1 + j) key l refl
    ∙ ap (λ (i : ℕ). get_or keys i []) next ∙ get_or_default keys j [] d l in
    list_any_at (λ (other : List ℕ). pointwise ◌==◌ other key)
    (map (key_at keys) (range_with_len 1 n)) j key
    (omega (arith, l, length-map-range_with_len (key_at keys) 1 n)) (rw here (key_is_key key))

pub leaves_made : (rows : List Row) (entry : List ℕ → Entry) (tree : List Leaf)
    → AllPairs ◌≢◌ (keys_of rows)
    → tree ≡ leaves_with (keys_of rows) (entry_after entry (entry_of rows) [])
    → with_states tree (map (state_of rows) (range_with_len 1 (length (keys_of rows)))) ≡
    leaves_with (keys_of rows) (entry_of rows)
leaves_made rows entry tree apart is =
    let keys = keys_of rows in
    let indexes = range_with_len 1 (length keys) in
    let all : AllByRecursion (λ (key : List ℕ). is_among (map (key_at keys) indexes) key ≡ true)
    keys =
    recursion_from_All (λ (key : List ℕ). is_among (map (key_at keys) indexes) key ≡ true) keys
    (all_there keys) in
    ap (λ (leaves : List Leaf). with_states leaves (map (state_of rows) indexes)) is
    ∙ leaves_told keys entry (entry_of rows) [] indexes apart
    (recursion_from_All (IsLeafIndex keys) indexes (all_within keys))
    ∙ leaves_on keys (entry_after entry (entry_of rows) (map (key_at keys) indexes)) (entry_of rows)
    (all_weaker (λ (key : List ℕ). is_among (map (key_at keys) indexes) key ≡ true)
    (λ (key : List ℕ). entry_after entry (entry_of rows) (map (key_at keys) indexes) key ≡ entry_of
    rows key) (λ key t. new key t) keys all)
  where
    new : (key : List ℕ) → is_among
        (map (key_at (keys_of rows)) (range_with_len 1 (length (keys_of rows)))) key ≡ true
        → entry_after entry (entry_of rows)
        (map (key_at (keys_of rows)) (range_with_len 1 (length (keys_of rows)))) key ≡ entry_of rows
        key
    new key t = rw t refl
