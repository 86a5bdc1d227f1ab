-- Leaves may be set to the entries of their keys in any order, and more than once.
use Rattle.std.proofs.Common.{◌≡◌, ◌≢◌, ◌∙◌, ℕ, suc, ◌+◌, ◌-◌, ◌<◌, Bool, true, false, ◌==◌, ◌||◌, if◌then◌else◌, List, [], ◌∷◌, ◌++◌, length, get_or, map, Some, None, refl, sym, ap, subst, arith, inl, inr}
use Rattle.std.specs.Prelude.{slice_set}
use Rattle.std.specs.List.{All, AllPairs, AllByRecursion, Contains, list_any}
use Rattle.std.proofs.lemmas.Bool.{cases_Bool}
use Rattle.std.proofs.lemmas.List.Folds.{list_any_at}
use Rattle.std.specs.Cmp.Lexicographic.{pointwise}
use Rattle.std.proofs.lemmas.List.{append-nil, append_assoc, length-map, get_or-map}
use Rattle.std.proofs.lemmas.List.Elements.{All-from_recursion, recursion_from_All, All-contains, Contains-get_or}
use Rattle.std.proofs.lemmas.Option.{get_or_from_slice_get}
use Rattle.lc_base.specs.declared.row.Row.{Row}
use Rattle.entry_views.specs.prov_entry.declared.entry.Leaf.{Leaf}
use Rattle.plain_rows.specs.root_laws.Root.{is_among, keys_of, sentinel}
use Rattle.plain_rows.proofs.root_laws.Lists.{all_weaker, all_filter_map, not_both}
use Rattle.plain_rows.proofs.root_laws.Lists.{option_cases}
use Rattle.plain_rows.proofs.root_laws.Keys.{all_among}
use Rattle.state_tree.specs.Leaves.{index_of, with_state, with_states}
use Rattle.forward_links.specs.declared.kept_list.KeptList.{KeptList}
use Rattle.skip_list.specs.entry_store.Entries.{Entry as StoreEntry}
use Rattle.lineage_index.specs.Growth.{Entry, entry_of, leaf_with, changed_at, entry_after}
use Rattle.lineage_index.specs.Heads.{leaves_with}
use Rattle.lineage_index.specs.Settling.{renewed_states, AreRenewing}
use Rattle.lineage_index.specs.Leaves.{leaf_indexes, HaveSameItems, IsLeafIndex, key_at, state_of_entry, state_of, AreBesideLeaves}
use Rattle.lineage_index.proofs.ByKey.{differ}
use Rattle.lineage_index.proofs.KeyLeaves.{IsPlace, leaf_place, leaf_at, leaf_set, leaves_same, leaves_on}
use Rattle.lineage_index.proofs.KeptStates.{as_many}
use Rattle.lineage_index.proofs.Entries.{one_more_renewed}

-- ---- the indexes of keys

-- The index of a key is that of its leaf.
index_says : (keys : List (List ℕ)) (entry : List ℕ → Entry) (key : List ℕ) (index : ℕ) → index_of (leaves_with keys entry) key ≡ Some index → IsLeafIndex keys index × (key_at keys index ≡ key)
index_says keys entry key index is =
    let place = subst (IsPlace keys key 1) is (leaf_place keys entry key) in
    let before : index - 1 ≡ place.0 = omega (arith, place.1) in
    ((omega (arith, place.1), omega (arith, place.1, place.2)), ap (λ (i : ℕ). get_or keys i []) before ∙ place.3 [])

-- A key without an index is not among the keys.
index_missing : (keys : List (List ℕ)) (entry : List ℕ → Entry) (key : List ℕ) → index_of (leaves_with keys entry) key ≡ None → is_among keys key ≡ false
index_missing keys entry key is = subst (IsPlace keys key 1) is (leaf_place keys entry key)

indexes_within : (keys : List (List ℕ)) (entry : List ℕ → Entry) (touched : List (List ℕ)) → All (IsLeafIndex keys) (leaf_indexes (leaves_with keys entry) touched)
indexes_within keys entry touched =
    All-from_recursion (IsLeafIndex keys) (leaf_indexes (leaves_with keys entry) touched)
    (all_filter_map (IsLeafIndex keys) (index_of (leaves_with keys entry)) touched (λ key index is. (index_says keys entry key index is).0))

-- A key that has a leaf is touched exactly if the index of its leaf is there.
touched_there : (keys : List (List ℕ)) (entry : List ℕ → Entry) (touched : List (List ℕ)) (key : List ℕ) → is_among keys key ≡ true
    → is_among (map (key_at keys) (leaf_indexes (leaves_with keys entry) touched)) key ≡ is_among touched key
touched_there keys entry [] key there = refl
touched_there keys entry (first ∷ touched) key there = elim (option_cases (index_of (leaves_with keys entry) first)) [
  | inl none ↦
      let off : pointwise ◌==◌ first key ≡ false = differ first key (λ e. not_both (is_among keys key) there (ap (is_among keys) (sym e) ∙ index_missing keys entry first none)) in
      rw (none, off) (touched_there keys entry touched key there)
  | inr s ↦
      let says = index_says keys entry first s.0 s.1 in
      rw (s.1, says.1) (ap (λ (b : Bool). pointwise ◌==◌ first key || b) (touched_there keys entry touched key there))
]

-- ---- lists of the same items

any_there : (test : List ℕ → Bool) (f : ℕ → List ℕ) (one other : List ℕ) → ((item : ℕ) → Contains one item → Contains other item) → list_any test (map f one) ≡ true → list_any test (map f other) ≡ true
any_there test f [] other there t = absurd (not_both false t refl)
any_there test f (x ∷ one) other there t = elim (cases_Bool (test (f x))) [
  | inl here ↦
      let at = there x (0, omega arith, refl) in
      list_any_at test (map f other) at.0 (f x) (omega (arith, at.1, length-map other f)) (rw (get_or-map f other at.0 x (f x) at.1, at.2) here)
  | inr off ↦ any_there test f one other (λ item among. there item (suc among.0, omega (arith, among.1), among.2)) (rw off at t)
]

any_alike : (test : List ℕ → Bool) (f : ℕ → List ℕ) (one other : List ℕ) → HaveSameItems one other → list_any test (map f one) ≡ list_any test (map f other)
any_alike test f one other same = elim (cases_Bool (list_any test (map f one))) [
  | inl t ↦ t ∙ sym (any_there test f one other same.there t)
  | inr off ↦ off ∙ elim (cases_Bool (list_any test (map f other))) [
    | inl t ↦ absurd (not_both (list_any test (map f one)) (any_there test f other one same.back t) off)
    | inr also ↦ sym also
  ]
]

all_alike : (P : ℕ → Type 0) (one other : List ℕ) → HaveSameItems one other → All P one → All P other
all_alike P one other same all i d below = All-contains P one (get_or other i d) all (same.back (get_or other i d) (Contains-get_or other i d below))

-- Neither the order of the indexes matters, nor how often an index occurs.
entries_alike : (keys : List (List ℕ)) (entry old new : List ℕ → Entry) (touched : List (List ℕ)) (indexes : List ℕ) → HaveSameItems (leaf_indexes (leaves_with keys entry) touched) indexes
    → leaves_with keys (entry_after old new (map (key_at keys) indexes)) ≡ leaves_with keys (entry_after old new touched)
entries_alike keys entry old new touched indexes same = leaves_on keys (entry_after old new (map (key_at keys) indexes)) (entry_after old new touched)
    (all_weaker (λ (key : List ℕ). is_among keys key ≡ true) (λ (key : List ℕ). entry_after old new (map (key_at keys) indexes) key ≡ entry_after old new touched key) (λ key there. alike key there) keys (all_among keys))
  where
    among : (key : List ℕ) → is_among keys key ≡ true → is_among (map (key_at keys) indexes) key ≡ is_among touched key
    among key there =
        sym (any_alike (λ (other : List ℕ). pointwise ◌==◌ other key) (key_at keys) (leaf_indexes (leaves_with keys entry) touched) indexes same)
        ∙ touched_there keys entry touched key there

    alike : (key : List ℕ) → is_among keys key ≡ true → entry_after old new (map (key_at keys) indexes) key ≡ entry_after old new touched key
    alike key there = ap (λ (b : Bool). if b then new key else old key) (among key there)

-- ---- leaves that are set to entries

leaf_told : (keys : List (List ℕ)) (entry : List ℕ → Entry) (index : ℕ) (new : Entry) → AllPairs ◌≢◌ keys → IsLeafIndex keys index
    → with_state (leaves_with keys entry) (state_of_entry keys index new) ≡ leaves_with keys (changed_at entry (key_at keys index) new)
leaf_told keys entry index new apart within =
    let j = index - 1 in
    let l : j < length keys = omega (arith, within) in
    let next : index ≡ 1 + j = omega (arith, within) in
    let at = get_or_from_slice_get (leaves_with keys entry) (1 + j) (leaf_with keys (key_at keys index) (entry (key_at keys index))) (sentinel []) (leaf_at keys entry j [] l) in
    ap (λ (i : ℕ). with_state (leaves_with keys entry) (state_of_entry keys i new)) next
    ∙ ap (λ (leaf : Leaf). slice_set (leaves_with keys entry) (1 + j) (record leaf { newest_block = new.newest_block; newest = new.newest; open_count = new.open_count; open_digest = new.open_digest })) at
    ∙ leaf_set keys entry (key_at keys index) j new [] apart l refl

pub leaves_told : (keys : List (List ℕ)) (old new : List ℕ → Entry) (done : List (List ℕ)) (indexes : List ℕ) → AllPairs ◌≢◌ keys → AllByRecursion (IsLeafIndex keys) indexes
    → with_states (leaves_with keys (entry_after old new done)) (map (λ (index : ℕ). state_of_entry keys index (new (key_at keys index))) indexes) ≡ leaves_with keys (entry_after old new (done ++ map (key_at keys) indexes))
leaves_told keys old new done [] apart within = ap (λ (ks : List (List ℕ)). leaves_with keys (entry_after old new ks)) (sym (append-nil done))
leaves_told keys old new done (index ∷ indexes) apart within =
    let key = key_at keys index in
    ap (λ (leaves : List Leaf). with_states leaves (map (λ (index : ℕ). state_of_entry keys index (new (key_at keys index))) indexes))
    (leaf_told keys (entry_after old new done) index (new key) apart within.0
    ∙ leaves_same keys (changed_at (entry_after old new done) key (new key)) (entry_after old new (done ++ key ∷ [])) (λ k. one_more_renewed old new done key k))
    ∙ leaves_told keys old new (done ++ key ∷ []) indexes apart within.1
    ∙ ap (λ (ks : List (List ℕ)). leaves_with keys (entry_after old new ks)) (append_assoc done (key ∷ []) (map (key_at keys) indexes))

-- ---- the keys that a block touches

pub beside_leaves : (rows : List Row) (entry : List ℕ → Entry) (done : List (List ℕ))
    (tree : List Leaf) (lists : List KeptList) (newest : List ℕ) (entries : List StoreEntry)
    → AreRenewing rows entry done tree lists newest entries → AreBesideLeaves rows lists newest entries
beside_leaves rows entry done tree lists newest entries a = record { store = a.store; lists_are = a.heads.lists_are; newest_are = a.heads.newest_are }

pub touched_within : (rows : List Row) (entry : List ℕ → Entry) (tree : List Leaf)
    (lists : List KeptList) (newest : List ℕ) (entries : List StoreEntry) (touched : List (List ℕ))
    (indexes : List ℕ)
    → AreRenewing rows entry [] tree lists newest entries → HaveSameItems (leaf_indexes tree touched) indexes → All (IsLeafIndex (keys_of rows)) indexes
touched_within rows entry tree lists newest entries touched indexes a same =
    let there = subst (λ (leaves : List Leaf). HaveSameItems (leaf_indexes leaves touched) indexes) a.heads.leaves_are same in
    all_alike (IsLeafIndex (keys_of rows)) (leaf_indexes (leaves_with (keys_of rows) (entry_after entry (entry_of rows) [])) touched) indexes there (indexes_within (keys_of rows) (entry_after entry (entry_of rows) []) touched)

-- The tree has a leaf for each key, after the sentinel.
pub keys_within : (rows : List Row) (entry : List ℕ → Entry) (tree : List Leaf)
    (lists : List KeptList) (newest : List ℕ) (entries : List StoreEntry)
    → AreRenewing rows entry [] tree lists newest entries → length (keys_of rows) < length tree
keys_within rows entry tree lists newest entries a =
    let many = as_many tree lists newest (renewed_states rows entry []) a.heads in omega (arith, many.1, many.2)

-- Once their states in a history are set, the leaves of the touched keys are those of the history.
pub leaves_renewed : (rows : List Row) (entry : List ℕ → Entry) (tree after : List Leaf)
    (lists : List KeptList) (newest : List ℕ) (entries : List StoreEntry) (touched : List (List ℕ))
    (indexes : List ℕ)
    → AreRenewing rows entry [] tree lists newest entries → HaveSameItems (leaf_indexes tree touched) indexes → after ≡ with_states tree (map (state_of rows) indexes)
    → AreRenewing rows entry touched after lists newest entries
leaves_renewed rows entry tree after lists newest entries touched indexes a same is =
    let keys = keys_of rows in
    let within = recursion_from_All (IsLeafIndex keys) indexes (touched_within rows entry tree lists newest entries touched indexes a same) in
    let there = subst (λ (leaves : List Leaf). HaveSameItems (leaf_indexes leaves touched) indexes) a.heads.leaves_are same in
    record {
      store = a.store;
      heads = record {
        apart = a.heads.apart;
        leaves_are =
            is ∙ ap (λ (leaves : List Leaf). with_states leaves (map (state_of rows) indexes)) a.heads.leaves_are
            ∙ leaves_told keys entry (entry_of rows) [] indexes a.heads.apart within
            ∙ entries_alike keys (entry_after entry (entry_of rows) []) entry (entry_of rows) touched indexes there;
        lists_are = a.heads.lists_are;
        newest_are = a.heads.newest_are;
      };
    }
