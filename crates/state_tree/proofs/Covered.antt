-- Which leaf covers a key.
use Rattle.std.proofs.Common.{◌≡◌, ℕ, ◌<◌, true, List, [], length, get_or, Option, Some, None, refl, sym, ap, ◌∙◌, arith, inl, inr, ◌⊎◌}
use Rattle.std.specs.Prelude.{slice_get, IsSome, MatchOption, unwrap_or}
use Rattle.std.specs.List.{Contains}
use Rattle.std.specs.BTreeMap.{BTreeMap}
use Rattle.std.proofs.lemmas.Bool.{cases_Bool}
use Rattle.std.proofs.lemmas.List.{get_or-map, length-map}
use Rattle.std.proofs.lemmas.Option.{slice_get_cases, get_or_from_slice_get}
use Rattle.root_laws.specs.prov_entry.declared.entry.Leaf.{Leaf}
use Rattle.root_laws.specs.prov_entry.Spelling.{key_or_empty}
use Rattle.root_laws.specs.Root.{is_below}
use Rattle.root_laws.proofs.Lists.{not_both}
use Rattle.root_laws.proofs.NextKeys.{order}
use Rattle.state_tree.specs.Leaves.{leaf_key, index_of}
use Rattle.state_tree.specs.Covering.{Covers}
use Rattle.state_tree.specs.Order.{NoneUpTo, IsLastUpTo, AreInOrder}
use Rattle.state_tree.specs.Laws.{CoveringsAreUnique}
use Rattle.state_tree.proofs.Keys.{none_below}
use Rattle.state_tree.proofs.Positions.{index_found, none_found}

-- A leaf is the sentinel, whose key is above nothing, or has an index.
indexed : (leaves : List Leaf) (leaf : Leaf) → Contains leaves leaf → (leaf_key leaf ≡ []) ⊎ ((key : List ℕ) × (leaf.key ≡ Some key) × (leaf_key leaf ≡ key) × IsSome (index_of leaves key))
indexed leaves leaf among = by leaf.key refl
  where
    some_or : (key : List ℕ) (o : Option ℕ) → index_of leaves key ≡ o → leaf.key ≡ Some key → IsSome (index_of leaves key)
    some_or key None e has = absurd (none_found leaves key leaf e among has)
    some_or key (Some i) e has = rw e refl

    by : (o : Option (List ℕ)) → leaf.key ≡ o → (leaf_key leaf ≡ []) ⊎ ((key : List ℕ) × (leaf.key ≡ Some key) × (leaf_key leaf ≡ key) × IsSome (index_of leaves key))
    by None e = inl (ap key_or_empty e)
    by (Some key) e = inr (key, e, ap key_or_empty e, some_or key (index_of leaves key) refl e)

-- The leaf of the greatest key that is not above covers the key.
pub covers_last : (leaves : List Leaf) (order : BTreeMap (List ℕ) ℕ) (key : List ℕ) (index : ℕ) → AreInOrder leaves order → IsLastUpTo order key index → Covers leaves key index
covers_last leaves order key index tree last =
    let found = index_found leaves last.last index tree.sentinel (sym (tree.indexes last.last) ∙ last.kept) in
    let leaf = get_or leaves index tree.sentinel in
    let own : leaf_key leaf ≡ last.last = ap key_or_empty found.1 in
    record { leaf = leaf; held = found.0; not_above = rw own last.not_above; greatest = λ other among above. greatest other among (rw own at above) }
  where
    greatest : (other : Leaf) → Contains leaves other → is_below last.last (leaf_key other) ≡ true → is_below key (leaf_key other) ≡ true
    greatest other among above = elim (cases_Bool (is_below key (leaf_key other))) [
      | inl t ↦ t
      | inr f ↦ elim (indexed leaves other among) [
        | inl e ↦ absurd (not_both (is_below last.last (leaf_key other)) above (ap (is_below last.last) e ∙ none_below last.last))
        | inr (k, has, own, there) ↦
            absurd (not_both (is_below last.last (leaf_key other)) above (ap (is_below last.last) own ∙ last.greatest k (rw own at f) (rw (tree.indexes k) there)))
      ]
    ]

-- The sentinel covers the key if each key of the map is above it.
pub covers_first : (leaves : List Leaf) (order : BTreeMap (List ℕ) ℕ) (key : List ℕ) → AreInOrder leaves order → NoneUpTo order key → Covers leaves key 0
covers_first leaves order key tree none =
    let own : leaf_key tree.sentinel ≡ [] = ap key_or_empty tree.keyless in
    record { leaf = tree.sentinel; held = tree.first; not_above = rw own (none_below key); greatest = λ other among above. greatest other among (rw own at above) }
  where
    nothing : (o : Option ℕ) → o ≡ None → IsSome o → ⊥
    nothing None e s = cc
    nothing (Some i) e s = cc

    greatest : (other : Leaf) → Contains leaves other → is_below [] (leaf_key other) ≡ true → is_below key (leaf_key other) ≡ true
    greatest other among above = elim (cases_Bool (is_below key (leaf_key other))) [
      | inl t ↦ t
      | inr f ↦ elim (indexed leaves other among) [
        | inl e ↦ absurd (not_both (is_below [] (leaf_key other)) above (ap (is_below []) e ∙ none_below []))
        | inr (k, has, own, there) ↦ absurd (nothing (index_of leaves k) (sym (tree.indexes k) ∙ none k (rw own at f)) there)
      ]
    ]

-- The leaf that covers a key, by what is kept of the order.
pub covers : (leaves : List Leaf) (order : BTreeMap (List ℕ) ℕ) (key : List ℕ) (found : Option ℕ) → AreInOrder leaves order
    → MatchOption found (NoneUpTo order key) (λ index. IsLastUpTo order key index) → Covers leaves key (unwrap_or found 0)
covers leaves order key None tree up_to = covers_first leaves order key tree up_to
covers leaves order key (Some index) tree up_to = covers_last leaves order key index tree up_to

-- The item at an index.
pub stands : {X : Type 0} (xs : List X) (i : ℕ) (x : X) → slice_get xs i ≡ Some x → (i < length xs) × (get_or xs i x ≡ x)
stands xs i x held = elim ((slice_get_cases xs i).1) [
  | inl (y, below, is, at) ↦ (below, get_or_from_slice_get xs i x x held)
  | inr (past, none) ↦ absurd (nothing (sym held ∙ none))
]
  where
    nothing : Some x ≡ None → ⊥
    nothing e = cc

pub coverings_are_unique : CoveringsAreUnique
coverings_are_unique leaves key i j apart one other =
    let at = stands leaves i one.leaf one.held in
    let at' = stands leaves j other.leaf other.held in
    elim (order (leaf_key one.leaf) (leaf_key other.leaf)) [
      | inl below ↦ absurd (not_both (is_below key (leaf_key other.leaf)) (one.greatest other.leaf (j, at'.0, at'.1) below) other.not_above)
      | inr (inr above) ↦ absurd (not_both (is_below key (leaf_key one.leaf)) (other.greatest one.leaf (i, at.0, at.1) above) one.not_above)
      | inr (inl same) ↦ apart i j (omega (arith, at.0, length-map leaves leaf_key)) (omega (arith, at'.0, length-map leaves leaf_key))
          (get_or-map leaf_key leaves i one.leaf [] at.0 ∙ ap leaf_key at.1 ∙ same ∙ sym (get_or-map leaf_key leaves j other.leaf [] at'.0 ∙ ap leaf_key at'.1))
    ]
