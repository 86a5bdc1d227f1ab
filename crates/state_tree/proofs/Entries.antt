-- The leaves of entries: what is at an index, and what a change of an entry, or one more, does.
use Rattle.std.proofs.Common.{◌≡◌, ◌==◌, ℕ, zero, suc, ◌+◌, ◌-◌, ◌<◌, ◌≤◌, List, [], ◌∷◌, ◌++◌, length, get_or, map, Bool, cond, Option, Some, None, refl, sym, ap, ap₂, subst, ◌∙◌, arith, inl, inr}
use Rattle.std.proofs.Math.Dec.{eqb-suc-zero}
use Rattle.std.proofs.Math.ListN.{set}
use Rattle.std.specs.Prelude.{slice_get, position}
use Rattle.std.specs.List.{All, position_from}
use Rattle.std.specs.Map.{keys_of, values_of, lookup}
use Rattle.std.specs.Option.{option_map}
use Rattle.std.specs.Cmp.Lexicographic.{pointwise}
use Rattle.std.proofs.lemmas.Bool.{cases_Bool}
use Rattle.std.proofs.lemmas.List.{length-map, length-append, map-append}
use Rattle.std.proofs.lemmas.List.Elements.{All-nil, All-cons, All-head, All-tail, All-append, All-weaker, All-get_or}
use Rattle.std.proofs.lemmas.Option.{slice_get-map, slice_get_within, slice_get-get_or, get_or_from_slice_get}
use Rattle.indexmap.specs.IndexMap.{set_value_at}
use Rattle.root_laws.specs.prov_entry.declared.entry.Leaf.{Leaf}
use Rattle.root_laws.specs.Root.{sentinel}
use Rattle.root_laws.specs.merkle_tree.declared.limits.TheConstants.{MAX_LEAVES}
use Rattle.state_tree.specs.declared.states.LeafState.{LeafState}
use Rattle.state_tree.specs.declared.threaded.LeafEntry.{LeafEntry}
use Rattle.state_tree.specs.Leaves.{is_this, index_of, fresh_leaf, leaf_with_state, with_state, with_leaf_after}
use Rattle.state_tree.specs.Entries.{KeyEntry, key_at, next_at, fresh_entry, entry_with_state, first_leaf, leaf_of_entry, leaves_of, AreThreaded}
use Rattle.state_tree.proofs.Positions.{position_is}
use Rattle.state_tree.proofs.Threads.{map_map}

-- ---- what is at an index

pub leaves_length : (first : ℕ) (entries : List KeyEntry)
    → length (leaves_of first entries) ≡ length entries + 1
leaves_length first entries = omega (arith, length-map entries (leaf_of_entry (keys_of entries)))

key_suc : (keys : List (List ℕ)) (i : ℕ) → key_at keys (suc i) ≡ slice_get keys i
key_suc keys i =
    let same : suc i - 1 ≡ i = omega arith in
    ap (λ b. cond b None (slice_get keys (suc i - 1))) (eqb-suc-zero i) ∙ ap (slice_get keys) same

next_suc : (first : ℕ) (entries : List KeyEntry) (i : ℕ)
    → next_at first entries (suc i) ≡ (get_or entries i ([], fresh_entry 0)).1.next
next_suc first entries i =
    let same : suc i - 1 ≡ i = omega arith in
    ap (λ b. cond b first (get_or entries (suc i - 1) ([], fresh_entry 0)).1.next) (eqb-suc-zero i)
    ∙ ap (λ (k : ℕ). (get_or entries k ([], fresh_entry 0)).1.next) same

pub key_past : (entries : List KeyEntry) (i : ℕ) → 0 < i
    → key_at (keys_of entries) i ≡ option_map (λ (entry : KeyEntry). entry.0)
    (slice_get entries (i - 1))
key_past entries zero past = absurd (omega arith)
key_past entries (suc i) past =
    let same : i ≡ suc i - 1 = omega arith in
    key_suc (keys_of entries) i ∙ slice_get-map (λ (entry : KeyEntry). entry.0) entries i
    ∙ ap (λ (k : ℕ). option_map (λ (entry : KeyEntry). entry.0) (slice_get entries k)) same

pub next_past : (first : ℕ) (entries : List KeyEntry) (i : ℕ) → 0 < i
    → next_at first entries i ≡ (get_or entries (i - 1) ([], fresh_entry 0)).1.next
next_past first entries zero past = absurd (omega arith)
next_past first entries (suc i) past =
    let same : i ≡ suc i - 1 = omega arith in
    next_suc first entries i ∙ ap (λ (k : ℕ). (get_or entries k ([], fresh_entry 0)).1.next) same

pub leaf_past : (first : ℕ) (entries : List KeyEntry) (i : ℕ) (entry : KeyEntry)
    → 0 < i → slice_get entries (i - 1) ≡ Some entry
    → slice_get (leaves_of first entries) i ≡ Some (leaf_of_entry (keys_of entries) entry)
leaf_past first entries zero entry past held = absurd (omega arith)
leaf_past first entries (suc i) entry past held =
    let same : i ≡ suc i - 1 = omega arith in
    slice_get-map (leaf_of_entry (keys_of entries)) entries i
    ∙ ap (option_map (leaf_of_entry (keys_of entries))) (ap (slice_get entries) same ∙ held)

-- A leaf names the key of the leaf that follows it.
pub next_named : (first : ℕ) (entries : List KeyEntry) (i : ℕ) (leaf : Leaf)
    → slice_get (leaves_of first entries) i ≡ Some leaf
    → leaf.next ≡ key_at (keys_of entries) (next_at first entries i)
next_named first entries zero leaf held = ap (λ (one : Leaf). one.next)
    (same_some leaf (first_leaf (keys_of entries) first) (sym held))
  where
    same_some : (x y : Leaf) → Some x ≡ Some y → x ≡ y
    same_some x y e = cc
next_named first entries (suc i) leaf held =
    let below : i < length entries = omega (arith, slice_get_within (leaves_of first entries) (suc i) leaf held, leaves_length first entries) in
    let at = slice_get-get_or entries i ([], fresh_entry 0) below in
    ap (λ (one : Leaf). one.next)
    (same_some leaf (leaf_of_entry (keys_of entries) (get_or entries i ([], fresh_entry 0)))
    (sym held ∙ slice_get-map (leaf_of_entry (keys_of entries)) entries i
    ∙ ap (option_map (leaf_of_entry (keys_of entries))) at))
    ∙ ap (key_at (keys_of entries)) (sym (next_suc first entries i))
  where
    same_some : (x y : Leaf) → Some x ≡ Some y → x ≡ y
    same_some x y e = cc

-- ---- where the leaf of a key is

found_past : (key : List ℕ) (entries : List KeyEntry) (i : ℕ)
    → position_from (is_this key) (i + 1)
    (map (λ (entry : KeyEntry). Some entry.0) entries) ≡ option_map (λ (n : ℕ). n + 1)
    (position_from (pointwise ◌==◌ key) i (keys_of entries))
found_past key [] i = refl
found_past key (entry ∷ entries) i = elim (cases_Bool (pointwise ◌==◌ key entry.0)) [
  | inl t ↦ rw t refl
  | inr f ↦ rw f (found_past key entries (i + 1))
]

pub index_past : (first : ℕ) (entries : List KeyEntry) (key : List ℕ)
    → index_of (leaves_of first entries) key ≡ option_map (λ (n : ℕ). n + 1)
    (position (pointwise ◌==◌ key) (keys_of entries))
index_past first entries key =
    ap (λ (owns : List (Option (List ℕ))). position (is_this key) (None ∷ owns))
    (map_map (λ (leaf : Leaf). leaf.key) (leaf_of_entry (keys_of entries)) entries)
    ∙ position_is (is_this key) (None ∷ map (λ (entry : KeyEntry). Some entry.0) entries)
    ∙ found_past key entries 0
    ∙ ap (option_map (λ (n : ℕ). n + 1)) (sym (position_is (pointwise ◌==◌ key) (keys_of entries)))

none_held : (test : List ℕ → Bool) (entries : List KeyEntry) (i : ℕ)
    → position_from test i (keys_of entries) ≡ None → lookup test entries ≡ None
none_held test [] i none = refl
none_held test (entry ∷ entries) i none = elim (cases_Bool (test entry.0)) [
  | inl t ↦ absurd (some_is_none i (rw t at none))
  | inr f ↦ rw f (none_held test entries (i + 1) (rw f at none))
]
  where
    some_is_none : (n : ℕ) → Some n ≡ None → ⊥
    some_is_none n e = cc

-- A key without a leaf has no entry.
pub none_kept : (first : ℕ) (entries : List KeyEntry) (key : List ℕ)
    → index_of (leaves_of first entries) key ≡ None → lookup (pointwise ◌==◌ key) entries ≡ None
none_kept first entries key none =
    none_held (pointwise ◌==◌ key) entries 0
    (sym (position_is (pointwise ◌==◌ key) (keys_of entries))
    ∙ unmapped (position (pointwise ◌==◌ key) (keys_of entries))
    (sym (index_past first entries key) ∙ none))
  where
    unmapped : (o : Option ℕ) → option_map (λ (n : ℕ). n + 1) o ≡ None → o ≡ None
    unmapped None e = refl
    unmapped (Some n) e = cc

-- ---- an entry that is changed

keys_set : (entries : List KeyEntry) (i : ℕ) (new : LeafEntry)
    → keys_of (set_value_at entries i new) ≡ keys_of entries
keys_set [] i new = refl
keys_set (entry ∷ entries) zero new = refl
keys_set (entry ∷ entries) (suc i) new = ap (λ (keys : List (List ℕ)). entry.0 ∷ keys)
    (keys_set entries i new)

length_set : (entries : List KeyEntry) (i : ℕ) (new : LeafEntry)
    → length (set_value_at entries i new) ≡ length entries
length_set [] i new = refl
length_set (entry ∷ entries) zero new = refl
length_set (entry ∷ entries) (suc i) new = ap suc (length_set entries i new)

leaves_set : (keys : List (List ℕ)) (entries : List KeyEntry) (i : ℕ) (entry : KeyEntry)
    (new : LeafEntry)
    → slice_get entries i ≡ Some entry
    → map (leaf_of_entry keys) (set_value_at entries i new) ≡ set
    (map (leaf_of_entry keys) entries) i (leaf_of_entry keys (entry.0, new))
leaves_set keys [] i entry new held = refl
leaves_set keys (one ∷ entries) zero entry new held =
    ap (λ (key : List ℕ). leaf_of_entry keys (key, new) ∷ map (leaf_of_entry keys) entries)
    (ap (λ (e : KeyEntry). e.0) (same_some one entry held))
  where
    same_some : (x y : KeyEntry) → Some x ≡ Some y → x ≡ y
    same_some x y e = cc
leaves_set keys (one ∷ entries) (suc i) entry new held = ap
    (λ (leaves : List Leaf). leaf_of_entry keys one ∷ leaves)
    (leaves_set keys entries i entry new held)

pub entry_set : (first : ℕ) (entries : List KeyEntry) (i : ℕ) (entry : KeyEntry) (new : LeafEntry)
    → 0 < i → slice_get entries (i - 1) ≡ Some entry
    → leaves_of first (set_value_at entries (i - 1) new) ≡ set (leaves_of first entries) i
    (leaf_of_entry (keys_of entries) (entry.0, new))
entry_set first entries zero entry new past held = absurd (omega arith)
entry_set first entries (suc i) entry new past held =
    let same : suc i - 1 ≡ i = omega arith in
    ap (λ (k : ℕ). leaves_of first (set_value_at entries k new)) same
    ∙ ap (λ (keys : List (List ℕ)). first_leaf keys first ∷ map (leaf_of_entry keys)
    (set_value_at entries i new)) (keys_set entries i new)
    ∙ ap (λ (leaves : List Leaf). first_leaf (keys_of entries) first ∷ leaves)
    (leaves_set (keys_of entries) entries i entry new (ap (slice_get entries) (sym same) ∙ held))

nexts_set : (bound : ℕ) (entries : List KeyEntry) (i : ℕ) (new : LeafEntry)
    → All (λ (entry : KeyEntry). entry.1.next ≤ bound) entries → new.next ≤ bound
    → All (λ (entry : KeyEntry). entry.1.next ≤ bound) (set_value_at entries i new)
nexts_set bound [] i new all within = all
nexts_set bound (entry ∷ entries) zero new all within =
    let Within = λ (one : KeyEntry). one.1.next ≤ bound in
    All-cons Within (entry.0, new) entries within (All-tail Within entry entries all)
nexts_set bound (entry ∷ entries) (suc i) new all within =
    let Within = λ (one : KeyEntry). one.1.next ≤ bound in
    All-cons Within entry (set_value_at entries i new) (All-head Within entry entries all)
    (nexts_set bound entries i new (All-tail Within entry entries all) within)

pub threaded_set : (first : ℕ) (entries : List KeyEntry) (i : ℕ) (new : LeafEntry)
    → AreThreaded first entries → new.next ≤ length entries
    → AreThreaded first (set_value_at entries i new)
threaded_set first entries i new threaded within = record {
  first_within = omega (arith, threaded.first_within, length_set entries i new);
  nexts_within = subst (λ (bound : ℕ). All (λ (entry : KeyEntry). entry.1.next ≤ bound)
      (set_value_at entries i new)) (sym (length_set entries i new))
      (nexts_set (length entries) entries i new threaded.nexts_within within);
  few = omega (arith, threaded.few, length_set entries i new);
}

-- The index of the leaf that follows one is that of a leaf, or 0.
pub next_within : (first : ℕ) (entries : List KeyEntry) (i : ℕ)
    → AreThreaded first entries → i ≤ length entries → next_at first entries i ≤ length entries
next_within first entries zero threaded within = threaded.first_within
next_within first entries (suc i) threaded within = rw (next_suc first entries i)
    (All-get_or (λ (entry : KeyEntry). entry.1.next ≤ length entries) entries i ([], fresh_entry 0)
    (omega (arith, within)) threaded.nexts_within)

-- ---- an entry that is read by its index

-- The entry whose value this is.
value_at : (entries : List KeyEntry) (i : ℕ) (value : LeafEntry)
    → slice_get (values_of entries) i ≡ Some value
    → (entry : KeyEntry) × (slice_get entries i ≡ Some entry) × (entry.1 ≡ value)
value_at entries i value held =
    let below : i < length entries = omega (arith, slice_get_within (values_of entries) i value held, length-map entries (λ (entry : KeyEntry). entry.1)) in
    let entry = get_or entries i ([], fresh_entry 0) in
    let at = slice_get-get_or entries i ([], fresh_entry 0) below in (
      entry,
      at,
      same_some entry.1 value (sym (slice_get-map (λ (one : KeyEntry). one.1) entries i
          ∙ ap (option_map (λ (one : KeyEntry). one.1)) at) ∙ held),
    )
  where
    same_some : (x y : LeafEntry) → Some x ≡ Some y → x ≡ y
    same_some x y e = cc

pub next_of_value : (first : ℕ) (entries : List KeyEntry) (i : ℕ) (value : LeafEntry)
    → 0 < i → slice_get (values_of entries) (i - 1) ≡ Some value
    → value.next ≡ next_at first entries i
next_of_value first entries i value past held =
    let (entry, at, is) = value_at entries (i - 1) value held in
    ap (λ (one : LeafEntry). one.next) (sym is)
    ∙ ap (λ (one : KeyEntry). one.1.next)
    (sym (get_or_from_slice_get entries (i - 1) entry ([], fresh_entry 0) at))
    ∙ sym (next_past first entries i past)

-- What a leaf says is set; its next leaf stays.
pub state_set : (first : ℕ) (entries : List KeyEntry) (state : LeafState) (value new : LeafEntry)
    → 0 < state.index → slice_get (values_of entries) (state.index - 1) ≡ Some value
    → new ≡ entry_with_state value state
    → leaves_of first (set_value_at entries (state.index - 1) new) ≡ with_state
    (leaves_of first entries) state
state_set first entries state value new past held new_is =
    let (entry, at, is) = value_at entries (state.index - 1) value held in
    let leaf = leaf_of_entry (keys_of entries) entry in
    let there : get_or (leaves_of first entries) state.index (sentinel []) ≡ leaf = get_or_from_slice_get (leaves_of first entries) state.index leaf (sentinel []) (leaf_past first entries state.index entry past at) in
    ap (λ (one : LeafEntry). leaves_of first (set_value_at entries (state.index - 1) one)) (new_is
    ∙ ap (λ (one : LeafEntry). entry_with_state one state) (sym is))
    ∙ entry_set first entries state.index entry (entry_with_state entry.1 state) past at
    ∙ ap (λ (one : Leaf). set (leaves_of first entries) state.index (leaf_with_state one state))
    (sym there)

pub state_threaded : (first : ℕ) (entries : List KeyEntry) (state : LeafState)
    (value new : LeafEntry)
    → AreThreaded first entries → 0 < state.index
    → slice_get (values_of entries) (state.index - 1) ≡ Some value
    → new ≡ entry_with_state value state
    → AreThreaded first (set_value_at entries (state.index - 1) new)
state_threaded first entries state value new threaded past held new_is =
    let below : state.index - 1 < length entries = omega (arith, slice_get_within (values_of entries) (state.index - 1) value held, length-map entries (λ (entry : KeyEntry). entry.1)) in
    let next = ap (λ (one : LeafEntry). one.next) new_is
    ∙ next_of_value first entries state.index value past held in
    threaded_set first entries (state.index - 1) new threaded
    (omega (
      arith,
      next,
      next_within first entries state.index threaded
          (omega (arith, below, past)),
    ))

-- Another leaf is made the next one.
pub next_set : (first : ℕ) (entries : List KeyEntry) (i : ℕ) (value : LeafEntry) (next : ℕ)
    (leaf : Leaf)
    → 0 < i → slice_get (values_of entries) (i - 1) ≡ Some value
    → slice_get (leaves_of first entries) i ≡ Some leaf
    → leaves_of first (set_value_at entries (i - 1) (record value { next = next })) ≡ set
    (leaves_of first entries) i (record leaf { next = key_at (keys_of entries) next })
next_set first entries i value next leaf past held leaf_held =
    let (entry, at, is) = value_at entries (i - 1) value held in
    let found = same_some (leaf_of_entry (keys_of entries) entry) leaf (sym (leaf_past first entries i entry past at) ∙ leaf_held) in
    ap (λ (one : LeafEntry). leaves_of first
    (set_value_at entries (i - 1) (record one { next = next }))) (sym is)
    ∙ entry_set first entries i entry (record entry.1 { next = next }) past at
    ∙ ap (λ (one : Leaf). set (leaves_of first entries) i
    (record one { next = key_at (keys_of entries) next })) found
  where
    same_some : (x y : Leaf) → Some x ≡ Some y → x ≡ y
    same_some x y e = cc

-- ---- one more entry

get_more : (keys more : List (List ℕ)) (i : ℕ) → i < length keys
    → slice_get (keys ++ more) i ≡ slice_get keys i
get_more [] more i below = absurd (omega (arith, below))
get_more (key ∷ keys) more zero below = refl
get_more (key ∷ keys) more (suc i) below = get_more keys more i (omega (arith, below))

get_last : (keys : List (List ℕ)) (key : List ℕ) (i : ℕ) → i ≡ length keys
    → slice_get (keys ++ key ∷ []) i ≡ Some key
get_last [] key zero is = refl
get_last [] key (suc i) is = absurd (omega (arith, is))
get_last (one ∷ keys) key zero is = absurd (omega (arith, is))
get_last (one ∷ keys) key (suc i) is = get_last keys key i (omega (arith, is))

key_more : (keys : List (List ℕ)) (key : List ℕ) (i : ℕ) → i ≤ length keys
    → key_at (keys ++ key ∷ []) i ≡ key_at keys i
key_more keys key zero within = refl
key_more keys key (suc i) within = key_suc (keys ++ key ∷ []) i
    ∙ get_more keys (key ∷ []) i (omega (arith, within)) ∙ sym (key_suc keys i)

key_last : (keys : List (List ℕ)) (key : List ℕ) (i : ℕ) → i ≡ length keys + 1
    → key_at (keys ++ key ∷ []) i ≡ Some key
key_last keys key zero is = absurd (omega (arith, is))
key_last keys key (suc i) is = key_suc (keys ++ key ∷ []) i
    ∙ get_last keys key i (omega (arith, is))

keys_length : (entries : List KeyEntry) → length (keys_of entries) ≡ length entries
keys_length entries = length-map entries (λ (entry : KeyEntry). entry.0)

leaves_more : (keys : List (List ℕ)) (key : List ℕ) (entries : List KeyEntry)
    → All (λ (entry : KeyEntry). entry.1.next ≤ length keys) entries
    → map (leaf_of_entry (keys ++ key ∷ [])) entries ≡ map (leaf_of_entry keys) entries
leaves_more keys key [] within = refl
leaves_more keys key (entry ∷ entries) within =
    let Within = λ (one : KeyEntry). one.1.next ≤ length keys in
    ap₂ (λ (next : Option (List ℕ)) (leaves : List Leaf). record
    (leaf_of_entry keys entry) { next = next } ∷ leaves)
    (key_more keys key entry.1.next (All-head Within entry entries within))
    (leaves_more keys key entries (All-tail Within entry entries within))

-- The leaves with one more, before it is threaded.
pub entry_more : (first : ℕ) (entries : List KeyEntry) (key : List ℕ) (next : ℕ)
    → AreThreaded first entries → next ≤ length entries
    → leaves_of first (entries ++ (key, fresh_entry next) ∷ []) ≡ leaves_of first entries ++ record
    (fresh_leaf key) { next = key_at (keys_of entries) next } ∷ []
entry_more first entries key next threaded within =
    let keys = keys_of entries in
    let new : KeyEntry = (key, fresh_entry next) in
    let long = keys_length entries in
    ap (λ (ks : List (List ℕ)). first_leaf ks first ∷ map (leaf_of_entry ks) (entries ++ new ∷ []))
    (map-append (λ (entry : KeyEntry). entry.0) entries (new ∷ []))
    ∙ ap₂ (λ (named : Option (List ℕ)) (leaves : List Leaf). record
    (sentinel []) { next = named } ∷ leaves)
    (key_more keys key first (omega (arith, threaded.first_within, long)))
    (map-append (leaf_of_entry (keys ++ key ∷ [])) entries (new ∷ [])
    ∙ ap₂ (λ (leaves : List Leaf) (named : Option (List ℕ)). leaves ++ record
    (fresh_leaf key) { next = named } ∷ [])
    (leaves_more keys key entries (rw long threaded.nexts_within))
    (key_more keys key next (omega (arith, within, long))))

pub threaded_more : (first : ℕ) (entries : List KeyEntry) (key : List ℕ) (next : ℕ)
    → AreThreaded first entries → next ≤ length entries → length entries + 1 < MAX_LEAVES
    → AreThreaded first (entries ++ (key, fresh_entry next) ∷ [])
threaded_more first entries key next threaded within room =
    let new : KeyEntry = (key, fresh_entry next) in
    let Old = λ (entry : KeyEntry). entry.1.next ≤ length entries in
    let New = λ (entry : KeyEntry). entry.1.next ≤ length (entries ++ new ∷ []) in
    record {
      first_within = omega (arith, threaded.first_within, grown new);
      nexts_within = All-append New entries (new ∷ [])
          (All-weaker Old New (λ entry h. omega
          (arith, h, grown new)) entries threaded.nexts_within)
          (All-cons New new [] (omega (arith, within, grown new)) (All-nil New));
      few = omega (arith, room, grown new);
    }
  where
    grown : (new : KeyEntry) → length (entries ++ new ∷ []) ≡ length entries + 1
    grown new = length-append entries (new ∷ [])

-- The leaves once the new one is threaded.
pub entry_threaded : (first : ℕ) (entries : List KeyEntry) (key : List ℕ) (cover index : ℕ)
    (before : Leaf) (leaves : List Leaf)
    → AreThreaded first entries
    → slice_get (leaves_of first entries) cover ≡ Some before
    → index ≡ length (leaves_of first entries)
    → ((leaf : Leaf) → slice_get
    (leaves_of first (entries ++
    (key, fresh_entry (next_at first entries cover)) ∷ [])) cover ≡ Some leaf
    → leaves ≡ set (leaves_of first
    (entries ++ (key, fresh_entry (next_at first entries cover)) ∷ [])) cover
    (record leaf {
      next = key_at
          (keys_of (entries ++ (key, fresh_entry (next_at first entries cover)) ∷ [])) index;
    }))
    → leaves ≡ with_leaf_after (leaves_of first entries) key cover before
entry_threaded first entries key cover index before leaves threaded held index_is set_is =
    let next = next_at first entries cover in
    let new : KeyEntry = (key, fresh_entry next) in
    let below = slice_get_within (leaves_of first entries) cover before held in
    let within = next_within first entries cover threaded (omega (arith, below, leaves_length first entries)) in
    let more = entry_more first entries key next threaded within
    ∙ ap (λ (named : Option (List ℕ)). leaves_of first entries ++ record
    (fresh_leaf key) { next = named } ∷ []) (sym (next_named first entries cover before held)) in
    let still = ap (λ (ls : List Leaf). slice_get ls cover) more
    ∙ get_past (leaves_of first entries)
    (record (fresh_leaf key) { next = before.next } ∷ []) cover below
    ∙ held in
    let named : key_at (keys_of (entries ++ new ∷ [])) index ≡ Some key =
    ap (λ (ks : List (List ℕ)). key_at ks index)
    (map-append (λ (entry : KeyEntry). entry.0) entries (new ∷ []))
    ∙ key_last (keys_of entries) key index
    (omega (arith, index_is, leaves_length first entries, keys_length entries)) in
    set_is before still
    ∙ ap₂ (λ (ls : List Leaf) (name : Option (List ℕ)). set ls cover
    (record before { next = name })) more named
  where
    get_past : (xs more : List Leaf) (i : ℕ) → i < length xs
        → slice_get (xs ++ more) i ≡ slice_get xs i
    get_past [] more i below = absurd (omega (arith, below))
    get_past (x ∷ xs) more zero below = refl
    get_past (x ∷ xs) more (suc i) below = get_past xs more i (omega (arith, below))
