-- One more leaf, threaded between the others, and a leaf that is set.
use Rattle.std.proofs.Common.{◌≡◌, ◌≢◌, ℕ, suc, ◌+◌, ◌<◌, ◌≤◌, true, List, [], ◌∷◌, ◌++◌, length, get_or, map, Option, Some, None, refl, sym, ap, ap₂, subst, ◌∙◌, arith, inl, inr, ◌⊎◌}
use Rattle.std.proofs.Math.ListN.{set}
use Rattle.std.proofs.Math.Seq.{get_or-append_seam, map-set_same}
use Rattle.std.specs.Prelude.{slice_get, position}
use Rattle.std.specs.List.{Contains}
use Rattle.std.specs.BTreeMap.{BTreeMap}
use Rattle.std.proofs.lemmas.Bool.{cases_lt}
use Rattle.std.proofs.lemmas.List.{map-append, map-set, length-map, length-set, length-append, get_or-map, get_or_append_left, get_or-set_same, get_or-set_other, get_or_default}
use Rattle.std.proofs.lemmas.Option.{slice_get-get_or}
use Rattle.root_laws.specs.prov_entry.declared.entry.Leaf.{Leaf}
use Rattle.root_laws.specs.prov_entry.Spelling.{key_or_empty}
use Rattle.root_laws.specs.Root.{is_below, next_key, sentinel}
use Rattle.state_tree.specs.Leaves.{leaf_key, leaf_keys, is_this, index_of, with_next, thread_leaves, fresh_leaf, with_leaf_of, with_leaf_after, AreApart}
use Rattle.state_tree.specs.Covering.{Covers}
use Rattle.state_tree.specs.Order.{kept_for, AreInOrder}
use Rattle.root_laws.specs.merkle_tree.declared.limits.TheConstants.{MAX_LEAVES}
use Rattle.root_laws.proofs.Lists.{not_both}
use Rattle.root_laws.proofs.NextKeys.{order}
use Rattle.state_tree.proofs.Keys.{IsCovering, next_of_cover, next_of_new, next_stays}
use Rattle.state_tree.proofs.Positions.{none_found, index_other, index_this, equal_or_not}
use Rattle.state_tree.proofs.Covered.{stands}

-- ---- lists

-- Lists of one length with equal items are equal.
pub same_items : {X : Type 0} (xs ys : List X) → length xs ≡ length ys → ((i : ℕ) (d : X) → i < length xs → get_or xs i d ≡ get_or ys i d) → xs ≡ ys
same_items [] [] len each = refl
same_items [] (y ∷ ys) len each = absurd (omega arith)
same_items (x ∷ xs) [] len each = absurd (omega arith)
same_items (x ∷ xs) (y ∷ ys) len each = ap₂ (λ z zs. z ∷ zs) (each 0 x (omega arith)) (same_items xs ys (omega arith) (λ i d below. each (suc i) d (omega arith)))

pub map_map : {X Y Z : Type 0} (f : Y → Z) (g : X → Y) (xs : List X) → map f (map g xs) ≡ map (λ x. f (g x)) xs
map_map f g [] = refl
map_map f g (x ∷ xs) = ap (λ (zs : List _). f (g x) ∷ zs) (map_map f g xs)

at_or : (n i : ℕ) → i < n + 1 → (i < n) ⊎ (i ≡ n)
at_or n i below = elim (cases_lt i n) [
  | inl l ↦ inl l
  | inr r ↦ inr (omega arith)
]

same_or : (i j : ℕ) → (i ≡ j) ⊎ (i ≢ j)
same_or i j = elim (cases_lt i j) [
  | inl l ↦ inr (λ e. absurd (omega arith))
  | inr r ↦ elim (cases_lt j i) [
    | inl l ↦ inr (λ e. absurd (omega arith))
    | inr s ↦ inl (omega arith)
  ]
]

-- ---- keys of leaves

-- Next keys don't change the keys.
keys_threaded : (keys : List (List ℕ)) (leaves : List Leaf) → leaf_keys (map (with_next keys) leaves) ≡ leaf_keys leaves
keys_threaded keys leaves = map_map leaf_key (with_next keys) leaves

owns_threaded : (keys : List (List ℕ)) (leaves : List Leaf) → map (λ (leaf : Leaf). leaf.key) (map (with_next keys) leaves) ≡ map (λ (leaf : Leaf). leaf.key) leaves
owns_threaded keys leaves = map_map (λ (leaf : Leaf). leaf.key) (with_next keys) leaves

same_next : (keys other : List (List ℕ)) (leaf : Leaf) → next_key keys (leaf_key leaf) ≡ next_key other (leaf_key leaf) → with_next keys leaf ≡ with_next other leaf
same_next keys other leaf e = ap (λ (next : Option (List ℕ)). record leaf { next = next }) e

-- Leaves that are threaded stay so.
threads_again : (leaves : List Leaf) → thread_leaves leaves ≡ thread_leaves (thread_leaves leaves)
threads_again leaves =
    sym (map_map (with_next (leaf_keys leaves)) (with_next (leaf_keys leaves)) leaves)
    ∙ ap (λ (keys : List (List ℕ)). map (with_next keys) (thread_leaves leaves)) (sym (keys_threaded (leaf_keys leaves) leaves))

threads_at : (leaves : List Leaf) (i : ℕ) (d : Leaf) → leaves ≡ thread_leaves leaves → i < length leaves → get_or leaves i d ≡ with_next (leaf_keys leaves) (get_or leaves i d)
threads_at leaves i d threads below = ap (λ (ls : List Leaf). get_or ls i d) threads ∙ get_or-map (with_next (leaf_keys leaves)) leaves i d d below

key_at : (leaves : List Leaf) (i : ℕ) (d : Leaf) → i < length leaves → get_or (leaf_keys leaves) i [] ≡ leaf_key (get_or leaves i d)
key_at leaves i d below = get_or-map leaf_key leaves i d [] below

-- ---- one more leaf

-- The key is not empty, and no leaf has it.
pub record IsNew (leaves : List Leaf) (key : List ℕ) : Type 0 where
  pub some : 0 < length key
  pub absent : index_of leaves key ≡ None

other_key : (leaves : List Leaf) (key : List ℕ) (leaf : Leaf) → IsNew leaves key → Contains leaves leaf → leaf_key leaf ≡ key → ⊥
other_key leaves key leaf new among is = by leaf.key refl
  where
    by : (o : Option (List ℕ)) → leaf.key ≡ o → ⊥
    by None e = absurd (let none : [] ≡ key = sym (ap key_or_empty e) ∙ is in omega (arith, new.some, ap length none))
    by (Some k) e = none_found leaves key leaf new.absent among (e ∙ ap (λ (b : List ℕ). Some b) (sym (ap key_or_empty e) ∙ is))

covering_key : (leaves : List Leaf) (key : List ℕ) (cover : ℕ) (c : Covers leaves key cover) → IsNew leaves key → IsCovering (leaf_keys leaves) (leaf_key c.leaf) key
covering_key leaves key cover c new =
    let at = stands leaves cover c.leaf c.held in
    record {
      among = (cover, omega (arith, at.0, length-map leaves leaf_key), get_or-map leaf_key leaves cover c.leaf (leaf_key c.leaf) at.0 ∙ ap leaf_key at.1);
      smaller = elim (order (leaf_key c.leaf) key) [
        | inl t ↦ t
        | inr (inl e) ↦ absurd (other_key leaves key c.leaf new (cover, at.0, at.1) e)
        | inr (inr t) ↦ absurd (not_both (is_below key (leaf_key c.leaf)) t c.not_above)
      ];
      greatest = λ other among above. greatest other among above;
    }
  where
    greatest : (other : List ℕ) → Contains (leaf_keys leaves) other → is_below (leaf_key c.leaf) other ≡ true → is_below key other ≡ true
    greatest other (k, below, is) above =
        let inside : k < length leaves = omega (arith, below, length-map leaves leaf_key) in
        let leaf = get_or leaves k c.leaf in
        let own : leaf_key leaf ≡ other = sym (get_or-map leaf_key leaves k c.leaf other inside) ∙ is in
        ap (is_below key) (sym own) ∙ c.greatest leaf (k, inside, get_or_default leaves k leaf c.leaf inside) (ap (is_below (leaf_key c.leaf)) own ∙ above)

-- The leaves with the new one, as the code has them: only the covering leaf has another next key.
pub grown : List Leaf → List ℕ → ℕ → Leaf → List Leaf
grown leaves key cover before = set (leaves ++ record (fresh_leaf key) { next = before.next } ∷ []) cover (record before { next = Some key })

keys_with : (leaves : List Leaf) (key : List ℕ) → leaf_keys (leaves ++ fresh_leaf key ∷ []) ≡ leaf_keys leaves ++ key ∷ []
keys_with leaves key = map-append leaf_key leaves (fresh_leaf key ∷ [])

pub grown_is : (leaves : List Leaf) (key : List ℕ) (cover : ℕ) (c : Covers leaves key cover) → leaves ≡ thread_leaves leaves → AreApart (leaf_keys leaves) → IsNew leaves key
    → grown leaves key cover c.leaf ≡ with_leaf_of leaves key
unfolding grown
grown_is leaves key cover c threads apart new =
    same_items (set wide cover after) (map (with_next (leaf_keys (leaves ++ fresh_leaf key ∷ []))) (leaves ++ fresh_leaf key ∷ []))
    (length-set wide cover after ∙ wide_length ∙ sym (length-map (leaves ++ fresh_leaf key ∷ []) (with_next (leaf_keys (leaves ++ fresh_leaf key ∷ []))) ∙ plain_length)) each
  where
    fresh : Leaf
    fresh = record (fresh_leaf key) { next = c.leaf.next }

    after : Leaf
    after = record c.leaf { next = Some key }

    wide : List Leaf
    wide = leaves ++ fresh ∷ []

    wide_length : length wide ≡ length leaves + 1
    wide_length = length-append leaves (fresh ∷ [])

    plain_length : length (leaves ++ fresh_leaf key ∷ []) ≡ length leaves + 1
    plain_length = length-append leaves (fresh_leaf key ∷ [])

    inside : cover < length leaves
    inside = (stands leaves cover c.leaf c.held).0

    at_cover : get_or leaves cover c.leaf ≡ c.leaf
    at_cover = (stands leaves cover c.leaf c.held).1

    covering : IsCovering (leaf_keys leaves) (leaf_key c.leaf) key
    covering = covering_key leaves key cover c new

    -- What the definition has at an index.
    wanted : (i : ℕ) (d : Leaf) → i < length leaves + 1
        → get_or (map (with_next (leaf_keys (leaves ++ fresh_leaf key ∷ []))) (leaves ++ fresh_leaf key ∷ [])) i d ≡ with_next (leaf_keys leaves ++ key ∷ []) (get_or (leaves ++ fresh_leaf key ∷ []) i d)
    wanted i d below =
        get_or-map (with_next (leaf_keys (leaves ++ fresh_leaf key ∷ []))) (leaves ++ fresh_leaf key ∷ []) i d d (omega (arith, plain_length))
        ∙ ap (λ (keys : List (List ℕ)). with_next keys (get_or (leaves ++ fresh_leaf key ∷ []) i d)) (keys_with leaves key)

    next_before : c.leaf.next ≡ next_key (leaf_keys leaves) (leaf_key c.leaf)
    next_before =
        let there = threads_at leaves cover c.leaf threads inside in
        sym (ap (λ (l : Leaf). l.next) at_cover) ∙ ap (λ (l : Leaf). l.next) there ∙ ap (λ (l : Leaf). next_key (leaf_keys leaves) (leaf_key l)) at_cover

    others : (i : ℕ) (d : Leaf) → i < length leaves → (i ≡ cover → ⊥) → get_or leaves i d ≡ with_next (leaf_keys leaves ++ key ∷ []) (get_or leaves i d)
    others i d below other =
        let leaf = get_or leaves i d in
        let among : Contains (leaf_keys leaves) (leaf_key leaf) = (i, omega (arith, below, length-map leaves leaf_key), get_or-map leaf_key leaves i d (leaf_key leaf) below) in
        let differ : leaf_key leaf ≡ leaf_key c.leaf → ⊥ = λ e. other (apart i cover (omega (arith, below, length-map leaves leaf_key)) (omega (arith, inside, length-map leaves leaf_key))
        (key_at leaves i d below ∙ e ∙ sym (key_at leaves cover c.leaf inside ∙ ap leaf_key at_cover))) in
        threads_at leaves i d threads below
        ∙ same_next (leaf_keys leaves) (leaf_keys leaves ++ key ∷ []) leaf (sym (next_stays (leaf_keys leaves) (leaf_key c.leaf) key (leaf_key leaf) covering among differ))

    each : (i : ℕ) (d : Leaf) → i < length (set wide cover after)
        → get_or (set wide cover after) i d ≡ get_or (map (with_next (leaf_keys (leaves ++ fresh_leaf key ∷ []))) (leaves ++ fresh_leaf key ∷ [])) i d
    each i d below = elim (at_or (length leaves) i (omega (arith, length-set wide cover after, wide_length))) [
      | inr e ↦
          get_or-set_other wide cover i after d (λ same. absurd (omega (arith, inside)))
          ∙ ap (λ (k : ℕ). get_or wide k d) e ∙ get_or-append_seam leaves fresh [] d
          ∙ ap (λ (next : Option (List ℕ)). record (fresh_leaf key) { next = next }) (next_before ∙ sym (next_of_new (leaf_keys leaves) (leaf_key c.leaf) key covering))
          ∙ sym (wanted i d (omega arith) ∙ ap (λ (k : ℕ). with_next (leaf_keys leaves ++ key ∷ []) (get_or (leaves ++ fresh_leaf key ∷ []) k d)) e
          ∙ ap (with_next (leaf_keys leaves ++ key ∷ [])) (get_or-append_seam leaves (fresh_leaf key) [] d))
      | inl l ↦ elim (same_or i cover) [
        | inl e ↦
            ap (λ (k : ℕ). get_or (set wide cover after) k d) e ∙ get_or-set_same wide cover after d (omega (arith, inside, wide_length))
            ∙ ap (λ (next : Option (List ℕ)). record c.leaf { next = next }) (sym (next_of_cover (leaf_keys leaves) (leaf_key c.leaf) key covering))
            ∙ sym (wanted i d (omega arith) ∙ ap (λ (k : ℕ). with_next (leaf_keys leaves ++ key ∷ []) (get_or (leaves ++ fresh_leaf key ∷ []) k d)) e
            ∙ ap (with_next (leaf_keys leaves ++ key ∷ [])) (get_or_append_left leaves (fresh_leaf key ∷ []) d cover inside ∙ get_or_default leaves cover d c.leaf inside ∙ at_cover))
        | inr n ↦
            get_or-set_other wide cover i after d n ∙ get_or_append_left leaves (fresh ∷ []) d i l ∙ others i d l n
            ∙ sym (wanted i d (omega arith) ∙ ap (with_next (leaf_keys leaves ++ key ∷ [])) (get_or_append_left leaves (fresh_leaf key ∷ []) d i l))
      ]
    ]

-- ---- the tree with one more leaf

apart_more : (keys : List (List ℕ)) (key : List ℕ) → AreApart keys → ((i : ℕ) → i < length keys → get_or keys i [] ≡ key → ⊥) → AreApart (keys ++ key ∷ [])
apart_more keys key apart new i j below below' e = elim (at_or (length keys) i (omega (arith, below, length-append keys (key ∷ [])))) [
  | inl l ↦ elim (at_or (length keys) j (omega (arith, below', length-append keys (key ∷ [])))) [
    | inl k ↦ apart i j l k (sym (get_or_append_left keys (key ∷ []) [] i l) ∙ e ∙ get_or_append_left keys (key ∷ []) [] j k)
    | inr last ↦ absurd (new i l (sym (get_or_append_left keys (key ∷ []) [] i l) ∙ e ∙ ap (λ (n : ℕ). get_or (keys ++ key ∷ []) n []) last ∙ get_or-append_seam keys key [] []))
  ]
  | inr last ↦ elim (at_or (length keys) j (omega (arith, below', length-append keys (key ∷ [])))) [
    | inl k ↦ absurd (new j k (sym (get_or_append_left keys (key ∷ []) [] j k) ∙ sym e ∙ ap (λ (n : ℕ). get_or (keys ++ key ∷ []) n []) last ∙ get_or-append_seam keys key [] []))
    | inr also ↦ last ∙ sym also
  ]
]

-- The index that is kept for each key, if one is added for a new key.
kept_more : (leaves : List Leaf) (key : List ℕ) (order order' : BTreeMap (List ℕ) ℕ) → ((q : List ℕ) → kept_for order q ≡ index_of leaves q) → index_of leaves key ≡ None
    → kept_for order' key ≡ Some (length leaves) → ((other : List ℕ) → key ≢ other → kept_for order' other ≡ kept_for order other)
    → (q : List ℕ) → kept_for order' q ≡ index_of (leaves ++ fresh_leaf key ∷ []) q
kept_more leaves key order order' indexes absent kept others q =
    let own = map (λ (leaf : Leaf). leaf.key) leaves in
    let wide : map (λ (leaf : Leaf). leaf.key) (leaves ++ fresh_leaf key ∷ []) ≡ own ++ Some key ∷ [] = map-append (λ (leaf : Leaf). leaf.key) leaves (fresh_leaf key ∷ []) in
    elim (equal_or_not key q) [
      | inl e ↦
          ap (kept_for order') (sym e) ∙ kept ∙ ap (λ (n : ℕ). Some n) (sym (length-map leaves (λ (leaf : Leaf). leaf.key)))
          ∙ sym (index_this own key absent) ∙ ap (λ (keys : List (Option (List ℕ))). position (is_this key) keys) (sym wide) ∙ ap (index_of (leaves ++ fresh_leaf key ∷ [])) e
      | inr n ↦
          others q n ∙ indexes q ∙ sym (index_other own key q n) ∙ ap (λ (keys : List (Option (List ℕ))). position (is_this q) keys) (sym wide)
    ]

-- The index that is kept for each key, if none is added.
kept_same : (leaves : List Leaf) (key : List ℕ) (order order' : BTreeMap (List ℕ) ℕ) → ((q : List ℕ) → kept_for order q ≡ index_of leaves q) → index_of leaves key ≡ None
    → kept_for order' key ≡ None → ((other : List ℕ) → key ≢ other → kept_for order' other ≡ kept_for order other) → (q : List ℕ) → kept_for order' q ≡ index_of leaves q
kept_same leaves key order order' indexes absent kept others q = elim (equal_or_not key q) [
  | inl e ↦ ap (kept_for order') (sym e) ∙ kept ∙ sym absent ∙ ap (index_of leaves) e
  | inr n ↦ others q n ∙ indexes q
]

-- Out of memory, the tree is still in order.
pub order_same : (leaves leaves' : List Leaf) (order order' : BTreeMap (List ℕ) ℕ) (key : List ℕ) → AreInOrder leaves order → index_of leaves key ≡ None
    → leaves' ≡ leaves → kept_for order' key ≡ None → ((other : List ℕ) → key ≢ other → kept_for order' other ≡ kept_for order other) → AreInOrder leaves' order'
order_same leaves leaves' order order' key tree absent same kept others =
    subst (λ (ls : List Leaf). AreInOrder ls order') (sym same) (record {
      sentinel = tree.sentinel;
      first = tree.first;
      keyless = tree.keyless;
      apart = tree.apart;
      threads = tree.threads;
      indexes = kept_same leaves key order order' tree.indexes absent kept others;
      few = tree.few;
    })

-- With one more leaf, the tree is in order.
pub order_grown : (leaves : List Leaf) (order order' : BTreeMap (List ℕ) ℕ) (key : List ℕ) (cover : ℕ) → AreInOrder leaves order → (c : Covers leaves key cover)
    → IsNew leaves key → length leaves < MAX_LEAVES → kept_for order' key ≡ Some (length leaves) → ((other : List ℕ) → key ≢ other → kept_for order' other ≡ kept_for order other)
    → AreInOrder (grown leaves key cover c.leaf) order'
unfolding grown
order_grown leaves order order' key cover tree c new room kept others = record {
  sentinel = with_next (leaf_keys wide) (get_or wide 0 tree.sentinel);
  first = ap (λ (ls : List Leaf). slice_get ls 0) is ∙ slice_get-get_or (with_leaf_of leaves key) 0 tree.sentinel (omega (arith, grown_length)) ∙ ap (λ (leaf : Leaf). Some leaf) (get_or-map (with_next (leaf_keys wide)) wide 0 tree.sentinel tree.sentinel (omega (arith, wide_length)));
  keyless = ap (λ (leaf : Leaf). leaf.key) (get_or_append_left leaves (fresh_leaf key ∷ []) tree.sentinel 0 at_first.0 ∙ at_first.1) ∙ tree.keyless;
  apart = subst AreApart (sym (ap leaf_keys is ∙ keys_threaded (leaf_keys wide) wide ∙ keys_with leaves key)) (apart_more (leaf_keys leaves) key tree.apart not_among);
  threads = is ∙ threads_again wide ∙ ap thread_leaves (sym is);
  indexes = λ q. kept_more leaves key order order' tree.indexes new.absent kept others q
      ∙ ap (λ (keys : List (Option (List ℕ))). position (is_this q) keys) (sym (ap (map (λ (leaf : Leaf). leaf.key)) is ∙ owns_threaded (leaf_keys wide) wide));
  few = ap_few (ap length is ∙ grown_length);
}
  where
    wide : List Leaf
    wide = leaves ++ fresh_leaf key ∷ []

    wide_length : length wide ≡ length leaves + 1
    wide_length = length-append leaves (fresh_leaf key ∷ [])

    is : set (leaves ++ record (fresh_leaf key) { next = c.leaf.next } ∷ []) cover (record c.leaf { next = Some key }) ≡ with_leaf_of leaves key
    is = grown_is leaves key cover c tree.threads tree.apart new

    grown_length : length (with_leaf_of leaves key) ≡ length leaves + 1
    grown_length = length-map wide (with_next (leaf_keys wide)) ∙ wide_length

    at_first : (0 < length leaves) × (get_or leaves 0 tree.sentinel ≡ tree.sentinel)
    at_first = stands leaves 0 tree.sentinel tree.first

    not_among : (i : ℕ) → i < length (leaf_keys leaves) → get_or (leaf_keys leaves) i [] ≡ key → ⊥
    not_among i below e =
        let inside : i < length leaves = omega (arith, below, length-map leaves leaf_key) in
        other_key leaves key (get_or leaves i tree.sentinel) new (i, inside, get_or_default leaves i (get_or leaves i tree.sentinel) tree.sentinel inside) (sym (key_at leaves i tree.sentinel inside) ∙ e)

    ap_few : length (set (leaves ++ record (fresh_leaf key) { next = c.leaf.next } ∷ []) cover (record c.leaf { next = Some key })) ≡ length leaves + 1 → length (set (leaves ++ record (fresh_leaf key) { next = c.leaf.next } ∷ []) cover (record c.leaf { next = Some key })) ≤ MAX_LEAVES
    ap_few e = omega (arith, e, room)

-- The same, with the leaves that the code has.
pub added : (leaves leaves' : List Leaf) (order order' : BTreeMap (List ℕ) ℕ) (key : List ℕ) (cover : ℕ) (before : Leaf) → AreInOrder leaves order
    → Covers leaves key cover → slice_get leaves cover ≡ Some before → IsNew leaves key → length leaves < MAX_LEAVES → kept_for order' key ≡ Some (length leaves)
    → ((other : List ℕ) → key ≢ other → kept_for order' other ≡ kept_for order other) → leaves' ≡ with_leaf_after leaves key cover before
    → AreInOrder leaves' order' × (leaves' ≡ with_leaf_of leaves key)
unfolding grown
added leaves leaves' order order' key cover before tree covers held new room kept others leaves_are =
    let same : before ≡ covers.leaf = some_same before covers.leaf (sym held ∙ covers.held) in
    let c : Covers leaves key cover = record {
      leaf = before;
      held = held;
      not_above = rw same covers.not_above;
      greatest = λ other among above. covers.greatest other among (rw same at above);
    } in
    let now : leaves' ≡ grown leaves key cover before = leaves_are in (
      subst (λ (ls : List Leaf). AreInOrder ls order') (sym now) (order_grown leaves order order' key cover tree c new room kept others),
      now ∙ grown_is leaves key cover c tree.threads tree.apart new,
    )
  where
    some_same : (x y : Leaf) → Some x ≡ Some y → x ≡ y
    some_same x y e = cc

-- ---- a leaf that is set

-- With a leaf replaced by one of the same key and next key, the tree is in order.
pub order_set : (leaves : List Leaf) (order : BTreeMap (List ℕ) ℕ) (i : ℕ) (before after : Leaf) → AreInOrder leaves order → slice_get leaves i ≡ Some before → 0 < i
    → after.key ≡ before.key → after.next ≡ before.next → AreInOrder (set leaves i after) order
order_set leaves order i before after tree held own same_key same_next = record {
  sentinel = tree.sentinel;
  first = slice_get-get_or (set leaves i after) 0 tree.sentinel (omega (arith, at_first.0, length-set leaves i after))
      ∙ ap (λ (leaf : Leaf). Some leaf) (get_or-set_other leaves i 0 after tree.sentinel (λ e. absurd (omega arith)) ∙ at_first.1);
  keyless = tree.keyless;
  apart = subst AreApart (sym keys) tree.apart;
  threads = sym (ap (λ (ks : List (List ℕ)). map (with_next ks) (set leaves i after)) keys ∙ map-set (with_next (leaf_keys leaves)) leaves i after
      ∙ ap₂ (λ (ls : List Leaf) (leaf : Leaf). set ls i leaf) (sym tree.threads) stays);
  indexes = λ q. tree.indexes q ∙ ap (λ (ks : List (Option (List ℕ))). position (is_this q) ks) (sym owns);
  few = ap_few;
}
  where
    at_first : (0 < length leaves) × (get_or leaves 0 tree.sentinel ≡ tree.sentinel)
    at_first = stands leaves 0 tree.sentinel tree.first

    at : (i < length leaves) × (get_or leaves i before ≡ before)
    at = stands leaves i before held

    keys : leaf_keys (set leaves i after) ≡ leaf_keys leaves
    keys = map-set_same leaf_key leaves i after before (ap key_or_empty (same_key ∙ ap (λ (leaf : Leaf). leaf.key) (sym at.1)))

    owns : map (λ (leaf : Leaf). leaf.key) (set leaves i after) ≡ map (λ (leaf : Leaf). leaf.key) leaves
    owns = map-set_same (λ (leaf : Leaf). leaf.key) leaves i after before (same_key ∙ ap (λ (leaf : Leaf). leaf.key) (sym at.1))

    next_is : next_key (leaf_keys leaves) (leaf_key after) ≡ after.next
    next_is =
        ap (λ (key : Option (List ℕ)). next_key (leaf_keys leaves) (key_or_empty key)) (same_key ∙ ap (λ (leaf : Leaf). leaf.key) (sym at.1))
        ∙ sym (ap (λ (leaf : Leaf). leaf.next) (threads_at leaves i before tree.threads at.0)) ∙ ap (λ (leaf : Leaf). leaf.next) at.1 ∙ sym same_next

    stays : with_next (leaf_keys leaves) after ≡ after
    stays = ap (λ (next : Option (List ℕ)). record after { next = next }) next_is

    ap_few : length (set leaves i after) ≤ MAX_LEAVES
    ap_few = rw (length-set leaves i after) tree.few

-- ---- the first tree

pub order_new : (leaves : List Leaf) (order : BTreeMap (List ℕ) ℕ) → leaves ≡ sentinel [] ∷ [] → order.entries ≡ [] → AreInOrder leaves order
order_new leaves order leaves_are empty = subst (λ (ls : List Leaf). AreInOrder ls order) (sym leaves_are) (record {
  sentinel = sentinel [];
  first = refl;
  keyless = refl;
  apart = λ i j below below' e. omega arith;
  threads = refl;
  indexes = λ q. rw empty refl;
  few = omega arith;
})
