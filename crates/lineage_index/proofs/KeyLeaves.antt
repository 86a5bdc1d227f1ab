-- The leaves of some keys: where a key's leaf is, a leaf that is set, and one more key.
use Rattle.std.proofs.Common.{◌≡◌, ◌≢◌, ◌∙◌, ℕ, suc, ◌+◌, ◌-◌, ◌<◌, false, ◌==◌, List, [], ◌∷◌}
use Rattle.std.proofs.Common.{◌++◌, length, get_or, map, Option, Some, None, refl, sym, ap, arith}
use Rattle.std.proofs.Common.{inl, inr}
use Rattle.std.specs.Prelude.{slice_get, position, slice_set}
use Rattle.std.specs.List.{AllPairs, AllByRecursion, position_from}
use Rattle.std.specs.Option.{option_map}
use Rattle.std.specs.Cmp.Lexicographic.{pointwise}
use Rattle.std.proofs.lemmas.Bool.{cases_Bool}
use Rattle.std.proofs.lemmas.List.{map-append, length-map, get_or-map}
use Rattle.std.proofs.lemmas.Option.{slice_get-get_or}
use Rattle.std.proofs.lemmas.Iterator.Adapters.{position_from-zero}
use Rattle.entry_views.specs.prov_entry.declared.entry.Leaf.{Leaf}
use Rattle.plain_rows.specs.root_laws.Root.{is_among, sentinel, next_key}
use Rattle.plain_rows.proofs.root_laws.Lists.{map_map, map_on, not_both}
use Rattle.plain_rows.proofs.root_laws.Keys.{same_key, key_is_key}
use Rattle.state_tree.specs.Leaves.{index_of, is_this, leaf_key, leaf_keys, with_next, fresh_leaf}
use Rattle.state_tree.specs.Leaves.{with_leaf_of}
use Rattle.state_tree.proofs.Keys.{none_below}
use Rattle.lineage_index.specs.Growth.{Entry, leaf_with, changed_at}
use Rattle.lineage_index.specs.Heads.{leaves_with, fresh_entry, IsKeyIndex}
use Rattle.lineage_index.proofs.ByKey.{set_at_key, push_key, differ, changed_here, changed_there}

-- ---- where a key's leaf is

keys_in : (keys : List (List ℕ)) (entry : List ℕ → Entry) → map (λ (leaf : Leaf). leaf.key) (leaves_with keys entry) ≡ None ∷ map (λ (key : List ℕ). let own : Option (List ℕ) = Some key in own) keys
keys_in keys entry = ap (λ (own : List (Option (List ℕ))). None ∷ own) (map_map (λ (leaf : Leaf). leaf.key) (λ (key : List ℕ). leaf_with keys key (entry key)) keys)

-- What an index says: `None` if the key is not among these, else the place of the key, counted from
-- `n`.
abbrev pub IsPlace : List (List ℕ) → List ℕ → ℕ → Option ℕ → Type 0
IsPlace keys key n None = is_among keys key ≡ false
IsPlace keys key n (Some index) = (j : ℕ) × (index ≡ n + j) × (j < length keys) × ((d : List ℕ) → get_or keys j d ≡ key)

place_later : (first : List ℕ) (keys : List (List ℕ)) (key : List ℕ) (n : ℕ) (o : Option ℕ) → pointwise ◌==◌ first key ≡ false → IsPlace keys key (n + 1) o → IsPlace (first ∷ keys) key n o
place_later first keys key n None off h = rw off h
place_later first keys key n (Some index) off h = (suc h.0, omega (arith, h.1), omega (arith, h.2), h.3)

place_of : (keys : List (List ℕ)) (key : List ℕ) (n : ℕ) → IsPlace keys key n (position_from (is_this key) n (map (λ (other : List ℕ). let own : Option (List ℕ) = Some other in own) keys))
place_of [] key n = refl
place_of (first ∷ keys) key n = elim (cases_Bool (pointwise ◌==◌ key first)) [
  | inl t ↦ let same : first ≡ key = sym (same_key key first t) in rw t (0, omega arith, omega arith, λ d. same)
  | inr f ↦
      let off : pointwise ◌==◌ first key ≡ false = differ first key (λ e. not_both (pointwise ◌==◌ key first) (rw e (key_is_key key)) f) in
      rw f (place_later first keys key n (position_from (is_this key) (n + 1) (map (λ (other : List ℕ). let own : Option (List ℕ) = Some other in own) keys)) off (place_of keys key (n + 1)))
]

-- The key of a leaf that has one.
abbrev pub own_key : List ℕ → Option (List ℕ)
own_key key = Some key

pub index_is : (keys : List (List ℕ)) (entry : List ℕ → Entry) (key : List ℕ)
    → index_of (leaves_with keys entry) key ≡ position_from (is_this key) 1 (map own_key keys)
index_is keys entry key = ap (position (is_this key)) (keys_in keys entry)
    ∙ position_from-zero (is_this key) (None ∷ map own_key keys)

pub leaf_place : (keys : List (List ℕ)) (entry : List ℕ → Entry) (key : List ℕ) → IsPlace keys key 1 (index_of (leaves_with keys entry) key)
leaf_place keys entry key = rw (index_is keys entry key) (place_of keys key 1)

-- ---- a leaf that is set

pub leaf_at : (keys : List (List ℕ)) (entry : List ℕ → Entry) (j : ℕ) (d : List ℕ) → j < length keys → slice_get (leaves_with keys entry) (1 + j) ≡ Some (leaf_with keys (get_or keys j d) (entry (get_or keys j d)))
leaf_at keys entry j d l =
    let f : List ℕ → Leaf = λ (key : List ℕ). leaf_with keys key (entry key) in
    let e : 1 + j ≡ suc j = omega arith in
    rw e (slice_get-get_or (map f keys) j (f d) (omega (arith, l, length-map keys f)) ∙ ap (λ (leaf : Leaf). Some leaf) (get_or-map f keys j d (f d) l))

pub leaf_set : (keys : List (List ℕ)) (entry : List ℕ → Entry) (key : List ℕ) (j : ℕ) (x : Entry) (d : List ℕ) → AllPairs ◌≢◌ keys → j < length keys → get_or keys j d ≡ key
    → slice_set (leaves_with keys entry) (1 + j) (leaf_with keys key x) ≡ leaves_with keys (changed_at entry key x)
leaf_set keys entry key j x d apart l at =
    let f : List ℕ → Leaf = λ (k : List ℕ). leaf_with keys k (entry k) in
    let e : 1 + j ≡ suc j = omega arith in
    rw e (ap (λ (leaves : List Leaf). sentinel keys ∷ leaves) (set_at_key f keys key j (leaf_with keys key x) d apart l at ∙ map_on (changed_at f key (leaf_with keys key x)) (λ (k : List ℕ). leaf_with keys k (changed_at entry key x k)) keys (each keys)))
  where
    each : (ks : List (List ℕ)) → AllByRecursion (λ (k : List ℕ). changed_at (λ (k : List ℕ). leaf_with keys k (entry k)) key (leaf_with keys key x) k ≡ leaf_with keys k (changed_at entry key x k)) ks
    each [] = tt
    each (k ∷ ks) = (
      elim (cases_Bool (pointwise ◌==◌ key k)) [
        | inl t ↦ let same : key ≡ k = same_key key k t in rw t (ap (λ (y : List ℕ). leaf_with keys y x) same)
        | inr f ↦ rw f refl
      ],
      each ks,
    )

-- ---- one key more

next_past_empty : (keys : List (List ℕ)) (key : List ℕ) → next_key ([] ∷ keys) key ≡ next_key keys key
next_past_empty keys key = rw (none_below key) refl

next_leaf : (keys more : List (List ℕ)) (key : List ℕ) (entry : Entry) → with_next ([] ∷ more) (leaf_with keys key entry) ≡ leaf_with more key entry
next_leaf keys more key entry = ap (λ (next : Option (List ℕ)). record (leaf_with more key entry) { next = next }) (next_past_empty more key)

next_fresh : (more : List (List ℕ)) (key : List ℕ) → with_next ([] ∷ more) (fresh_leaf key) ≡ leaf_with more key fresh_entry
next_fresh more key = ap (λ (next : Option (List ℕ)). record (leaf_with more key fresh_entry) { next = next }) (next_past_empty more key)

pub leaf_added : (keys : List (List ℕ)) (entry : List ℕ → Entry) (key : List ℕ) → is_among keys key ≡ false
    → with_leaf_of (leaves_with keys entry) key ≡ leaves_with (keys ++ key ∷ []) (changed_at entry key fresh_entry)
leaf_added keys entry key none =
    let f : List ℕ → Leaf = λ (k : List ℕ). leaf_with keys k (entry k) in
    let more : List (List ℕ) = keys ++ key ∷ [] in
    let g : List ℕ → Leaf = λ (k : List ℕ). leaf_with more k (changed_at entry key fresh_entry k) in
    let own : leaf_keys (leaves_with keys entry ++ fresh_leaf key ∷ []) ≡ [] ∷ more =
    ap (λ (ks : List (List ℕ)). [] ∷ ks) (map-append leaf_key (map f keys) (fresh_leaf key ∷ []) ∙ ap (λ (ks : List (List ℕ)). ks ++ key ∷ []) (map_map leaf_key f keys ∙ map_same keys)) in
    let pushed : map f keys ++ fresh_leaf key ∷ [] ≡ map (changed_at f key (fresh_leaf key)) more = push_key f keys key (fresh_leaf key) none in
    ap (λ (ks : List (List ℕ)). map (with_next ks) (leaves_with keys entry ++ fresh_leaf key ∷ [])) own
    ∙ ap (λ (rest : List Leaf). map (with_next ([] ∷ more)) (sentinel keys ∷ rest)) pushed
    ∙ threads (map_map (with_next ([] ∷ more)) (changed_at f key (fresh_leaf key)) more ∙ map_on (λ (k : List ℕ). with_next ([] ∷ more) (changed_at f key (fresh_leaf key) k)) g more (each more))
  where
    map_same : (ks : List (List ℕ)) → map (λ (k : List ℕ). k) ks ≡ ks
    map_same [] = refl
    map_same (k ∷ ks) = ap (λ (rest : List (List ℕ)). k ∷ rest) (map_same ks)

    each : (ks : List (List ℕ)) → AllByRecursion (λ (k : List ℕ). with_next ([] ∷ keys ++ key ∷ []) (changed_at (λ (k : List ℕ). leaf_with keys k (entry k)) key (fresh_leaf key) k) ≡ leaf_with (keys ++ key ∷ []) k (changed_at entry key fresh_entry k)) ks
    each [] = tt
    each (k ∷ ks) = (
      elim (cases_Bool (pointwise ◌==◌ key k)) [
        | inl t ↦ let same : key ≡ k = same_key key k t in
            ap (with_next ([] ∷ keys ++ key ∷ [])) (changed_here (λ (k : List ℕ). leaf_with keys k (entry k)) key k (fresh_leaf key) t) ∙ next_fresh (keys ++ key ∷ []) key
            ∙ ap (λ (y : List ℕ). leaf_with (keys ++ key ∷ []) y fresh_entry) same ∙ ap (leaf_with (keys ++ key ∷ []) k) (sym (changed_here entry key k fresh_entry t))
        | inr f ↦
            ap (with_next ([] ∷ keys ++ key ∷ [])) (changed_there (λ (k : List ℕ). leaf_with keys k (entry k)) key k (fresh_leaf key) f) ∙ next_leaf keys (keys ++ key ∷ []) k (entry k)
            ∙ ap (leaf_with (keys ++ key ∷ []) k) (sym (changed_there entry key k fresh_entry f))
      ],
      each ks,
    )

    threads : map (with_next ([] ∷ keys ++ key ∷ [])) (map (changed_at (λ (k : List ℕ). leaf_with keys k (entry k)) key (fresh_leaf key)) (keys ++ key ∷ [])) ≡ map (λ (k : List ℕ). leaf_with (keys ++ key ∷ []) k (changed_at entry key fresh_entry k)) (keys ++ key ∷ [])
        → map (with_next ([] ∷ keys ++ key ∷ [])) (sentinel keys ∷ map (changed_at (λ (k : List ℕ). leaf_with keys k (entry k)) key (fresh_leaf key)) (keys ++ key ∷ [])) ≡ leaves_with (keys ++ key ∷ []) (changed_at entry key fresh_entry)
    threads e =
        ap (λ (next : Option (List ℕ)). record (sentinel keys) { next = next } ∷ map (with_next ([] ∷ keys ++ key ∷ [])) (map (changed_at (λ (k : List ℕ). leaf_with keys k (entry k)) key (fresh_leaf key)) (keys ++ key ∷ []))) (next_past_empty (keys ++ key ∷ []) [])
        ∙ ap (λ (leaves : List Leaf). sentinel (keys ++ key ∷ []) ∷ leaves) e

-- ---- the index of a key

pub place_is_index : (keys : List (List ℕ)) (key : List ℕ) (o : Option ℕ) → IsPlace keys key 1 o → IsKeyIndex keys key (option_map (λ (index : ℕ). index - 1) o)
place_is_index keys key None h = h
place_is_index keys key (Some index) h =
    let e : index - 1 ≡ h.0 = omega (arith, h.1) in
    rw e (slice_get-get_or keys h.0 key h.2 ∙ ap (λ (k : List ℕ). Some k) (h.3 key))

pub place_found : (tree : List Leaf) (keys : List (List ℕ)) (entry : List ℕ → Entry) (key : List ℕ) (o : Option ℕ) → tree ≡ leaves_with keys entry → o ≡ index_of tree key → IsPlace keys key 1 o
place_found tree keys entry key o is found =
    let e : index_of (leaves_with keys entry) key ≡ o = ap (λ (leaves : List Leaf). index_of leaves key) (sym is) ∙ sym found in
    rw (← e) (leaf_place keys entry key)

-- entries that are equal at the keys
pub leaves_on : (keys : List (List ℕ)) (f g : List ℕ → Entry) → AllByRecursion (λ (key : List ℕ). f key ≡ g key) keys → leaves_with keys f ≡ leaves_with keys g
leaves_on keys f g same = ap (λ (leaves : List Leaf). sentinel keys ∷ leaves) (go keys same)
  where
    go : (ks : List (List ℕ)) → AllByRecursion (λ (key : List ℕ). f key ≡ g key) ks → map (λ (key : List ℕ). leaf_with keys key (f key)) ks ≡ map (λ (key : List ℕ). leaf_with keys key (g key)) ks
    go [] h = refl
    go (key ∷ ks) h = let rest = go ks h.1 in rw (h.0, rest) refl

pub leaves_same : (keys : List (List ℕ)) (f g : List ℕ → Entry) → ((key : List ℕ) → f key ≡ g key) → leaves_with keys f ≡ leaves_with keys g
leaves_same keys f g same = ap (λ (leaves : List Leaf). sentinel keys ∷ leaves) (go keys)
  where
    go : (ks : List (List ℕ)) → map (λ (k : List ℕ). leaf_with keys k (f k)) ks ≡ map (λ (k : List ℕ). leaf_with keys k (g k)) ks
    go [] = refl
    go (k ∷ ks) = let rest = go ks in rw (same k, rest) refl
