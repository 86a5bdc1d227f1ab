-- The keys that a block touches, one after another, and the indexes of their leaves.
use Rattle.std.proofs.Common.{◌≡◌, ◌∙◌, ◌==◌, ℕ, ◌+◌, ◌<◌, true, false, true≢false, List, [], ◌∷◌}
use Rattle.std.proofs.Common.{◌++◌}
use Rattle.std.proofs.Common.{length, get_or, take, map, Option, refl, sym, ap, inl, inr}
use Rattle.std.specs.List.{AllByRecursion, cons_option, fold, position_from}
use Rattle.std.specs.Cmp.Lexicographic.{pointwise}
use Rattle.std.proofs.lemmas.Bool.{cases_Bool}
use Rattle.std.proofs.lemmas.List.{append-nil, append_assoc, map-append, take_more}
use Rattle.std.proofs.lemmas.List.Elements.{filter_map-append}
use Rattle.std.proofs.lemmas.Grind.{flat_map-append}
use Rattle.lc_base.specs.declared.row.Row.{Row}
use Rattle.entry_views.specs.prov_entry.declared.entry.Leaf.{Leaf}
use Rattle.plain_rows.specs.root_laws.Root.{is_among, keys_of, with_key}
use Rattle.plain_rows.proofs.root_laws.Lists.{all_weaker, not_both}
use Rattle.plain_rows.proofs.root_laws.Keys.{key_is_key, keys_append}
use Rattle.state_tree.specs.Leaves.{index_of, is_this}
use Rattle.lineage_index.specs.Growth.{Entry, deps_touched, keys_of_deps}
use Rattle.lineage_index.specs.Heads.{leaves_with}
use Rattle.lineage_index.specs.Leaves.{leaf_indexes}
use Rattle.lineage_index.proofs.ByKey.{differ}
use Rattle.lineage_index.proofs.KeyLeaves.{index_is, own_key}

-- The indexes of some keys, followed by those of more keys.
pub indexes_more : (tree : List Leaf) (before : List ℕ) (keys more : List (List ℕ)) → (before ++ leaf_indexes tree keys) ++ leaf_indexes tree more ≡ before ++ leaf_indexes tree (keys ++ more)
indexes_more tree before keys more =
    append_assoc before (leaf_indexes tree keys) (leaf_indexes tree more) ∙ ap (λ (indexes : List ℕ). before ++ indexes) (sym (filter_map-append (index_of tree) keys more))

pub one_key_touched : {A : Type 0} (key_of : A → List ℕ) (items : List A) (i : ℕ) (item : A)
    → i < length items → item ≡ get_or items i item
    → map key_of (take i items) ++ key_of item ∷ [] ≡ map key_of (take (i + 1) items)
one_key_touched {A = A} key_of items i item l is =
    ap (λ (a : A). map key_of (take i items) ++ key_of a ∷ []) is
    ∙ sym (map-append key_of (take i items) (get_or items i item ∷ []))
    ∙ ap (map key_of) (sym (take_more items i item l))

pub one_row_touched : (new : List Row) (i : ℕ) (row : Row) → i < length new
    → row ≡ get_or new i row
    → deps_touched (take i new) ++ keys_of_deps row ≡ deps_touched (take (i + 1) new)
one_row_touched new i row l is =
    ap (λ (r : Row). deps_touched (take i new) ++ keys_of_deps r) is
    ∙ ap (λ (keys : List (List ℕ)). deps_touched (take i new) ++ keys)
    (sym (append-nil (keys_of_deps (get_or new i row))))
    ∙ sym (flat_map-append keys_of_deps (take i new) (get_or new i row ∷ []))
    ∙ ap deps_touched (sym (take_more new i row l))

-- one key more, by the index of its leaf
pub key_added : (tree : List Leaf) (before after : List ℕ) (key : List ℕ) (leaf : Option ℕ)
    → after ≡ before ++ cons_option leaf [] → leaf ≡ index_of tree key
    → after ≡ before ++ leaf_indexes tree (key ∷ [])
key_added tree before after key leaf is found =
    is ∙ ap (λ (o : Option ℕ). before ++ cons_option o []) found

-- ---- leaves stay where they are as keys are added

found_first : (keys more : List (List ℕ)) (key : List ℕ) (n : ℕ) → is_among keys key ≡ true
    → position_from (is_this key) n (map own_key (keys ++ more))
    ≡ position_from (is_this key) n (map own_key keys)
found_first [] more key n there = absurd (true≢false (sym there))
found_first (first ∷ keys) more key n there = elim (cases_Bool (pointwise ◌==◌ key first)) [
  | inl t ↦ rw t refl
  | inr f ↦
      let off : pointwise ◌==◌ first key ≡ false = differ first key
      (λ e. not_both (pointwise ◌==◌ key first) (rw e (key_is_key key)) f) in
      let rest : is_among keys key ≡ true = rw off at there in
      rw f (found_first keys more key (n + 1) rest)
]

pub leaf_stays : (keys more : List (List ℕ)) (f g : List ℕ → Entry) (key : List ℕ)
    → is_among keys key ≡ true
    → index_of (leaves_with keys f) key ≡ index_of (leaves_with (keys ++ more) g) key
leaf_stays keys more f g key there =
    index_is keys f key ∙ sym (found_first keys more key 1 there)
    ∙ sym (index_is (keys ++ more) g key)

indexes_on : (one other : List Leaf) (keys : List (List ℕ))
    → AllByRecursion (λ (key : List ℕ). index_of one key ≡ index_of other key) keys
    → leaf_indexes one keys ≡ leaf_indexes other keys
indexes_on one other [] same = refl
indexes_on one other (key ∷ keys) same =
    ap (λ (o : Option ℕ). cons_option o (leaf_indexes one keys)) same.0
    ∙ ap (cons_option (index_of other key)) (indexes_on one other keys same.1)

with_keys_more : (keys : List (List ℕ)) (new : List Row) → (more : List (List ℕ))
    × (fold with_key keys new ≡ keys ++ more)
with_keys_more keys [] = ([], sym (append-nil keys))
with_keys_more keys (row ∷ new) = elim (cases_Bool (is_among keys row.key)) [
  | inl t ↦
      let rest = with_keys_more keys new in
      (rest.0, ap (λ (ks : List (List ℕ)). fold with_key ks new) (known keys row t) ∙ rest.1)
  | inr f ↦
      let rest = with_keys_more (keys ++ row.key ∷ []) new in (
        row.key ∷ rest.0,
        ap (λ (ks : List (List ℕ)). fold with_key ks new) (unknown keys row f) ∙ rest.1
            ∙ append_assoc keys (row.key ∷ []) rest.0,
      )
]
  where
    known : (keys : List (List ℕ)) (row : Row) → is_among keys row.key ≡ true
        → with_key keys row ≡ keys
    known keys row t = rw t refl

    unknown : (keys : List (List ℕ)) (row : Row) → is_among keys row.key ≡ false
        → with_key keys row ≡ keys ++ row.key ∷ []
    unknown keys row f = rw f refl

-- The leaves of keys of a history keep their indexes as rows are added to it.
pub indexes_stay : (rows new : List Row) (f g : List ℕ → Entry) (keys : List (List ℕ))
    → AllByRecursion (λ (key : List ℕ). is_among (keys_of rows) key ≡ true) keys
    → leaf_indexes (leaves_with (keys_of rows) f) keys
    ≡ leaf_indexes (leaves_with (keys_of (rows ++ new)) g) keys
indexes_stay rows new f g keys there =
    let more = with_keys_more (keys_of rows) new in
    indexes_on (leaves_with (keys_of rows) f) (leaves_with (keys_of rows ++ more.0) g) keys
    (all_weaker (λ (key : List ℕ). is_among (keys_of rows) key ≡ true)
    (λ (key : List ℕ). index_of (leaves_with (keys_of rows) f) key
    ≡ index_of (leaves_with (keys_of rows ++ more.0) g) key)
    (λ key t. leaf_stays (keys_of rows) more.0 f g key t) keys there)
    ∙ ap (λ (all : List (List ℕ)). leaf_indexes (leaves_with all g) keys)
    (sym (keys_append rows new ∙ more.1))
