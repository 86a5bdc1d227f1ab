-- The keys of the rows up to a block are the first keys of all rows.
use Rattle.std.proofs.Common.{◌≡◌, ◌∙◌, ℕ, suc, ◌+◌, ◌-◌, ◌<◌, ◌≤◌, true, false, nat_le, ◌==◌}
use Rattle.std.proofs.Common.{Bool, ◌&&◌, List, [], ◌∷◌, ◌++◌, length, get_or, take, drop, filter}
use Rattle.std.proofs.Common.{Option, Some, None, refl, sym, ap, arith, inl, inr}
use Rattle.std.specs.Prelude.{slice_get, reverse}
use Rattle.std.specs.List.{find, fold}
use Rattle.std.specs.Option.{is_some, option_map}
use Rattle.std.specs.Cmp.Lexicographic.{pointwise}
use Rattle.std.proofs.lemmas.Bool.{cases_Bool, cases_lt}
use Rattle.std.proofs.lemmas.List.{append-nil, append_assoc, length-append, length-map}
use Rattle.std.proofs.lemmas.List.{get_or_append_left, take-append-drop, take-append-le, take_all}
use Rattle.std.proofs.lemmas.List.{take_more}
use Rattle.std.proofs.lemmas.Option.{same_Some, slice_get-get_or, slice_get-map, slice_get_within}
use Rattle.std.proofs.lemmas.Option.{get_or_from_slice_get, none-some}
use Rattle.lc_base.specs.declared.row.Row.{Row}
use Rattle.lc_base.specs.History.{IsLawful, latest, newest, up_to}
use Rattle.lineage_index.specs.prov_entry.declared.entry.Leaf.{Leaf}
use Rattle.lineage_index.specs.plain_rows.Places.{IsRowAt}
use Rattle.lineage_index.specs.root_laws.Root.{is_among, keys_of, leaf_of, leaves, next_key}
use Rattle.lineage_index.specs.root_laws.Root.{with_key}
use Rattle.lineage_index.proofs.root_laws.Keys.{among_is_some, keys_append, keys_distinct, same_key}
use Rattle.lineage_index.proofs.root_laws.Lists.{filter_reverse, not_both}
use Rattle.lineage_index.proofs.root_laws.NextKeys.{next_with as next_key_with}
use Rattle.lineage_index.specs.Leaves.{IsLeafIndex, key_at}
use Rattle.lineage_index.proofs.KeptStates.{index_among}
use Rattle.lineage_rewind.specs.LeavesAt.{next_with}
use Rattle.lineage_rewind.proofs.Cut.{up_to_first}

-- ---- the newest row up to a block

find_both : (p q : Row → Bool) (rows : List Row)
    → find (λ (row : Row). q row && p row) rows ≡ find q (filter p rows)
find_both p q [] = refl
find_both p q (row ∷ rows) =
    let rest = find_both p q rows in
    elim (cases_Bool (p row)) [
      | inl t ↦ elim (cases_Bool (q row)) [
        | inl u ↦ rw (t, u) refl
        | inr u ↦ rw (t, u) rest
      ]
      | inr t ↦ elim (cases_Bool (q row)) [
        | inl u ↦ rw (t, u) rest
        | inr u ↦ rw (t, u) rest
      ]
    ]

-- The last row of a key up to a block is the newest one among the rows up to it.
pub latest_is_newest : (rows : List Row) (key : List ℕ) (at : ℕ)
    → latest rows key at ≡ newest (up_to rows at) key
latest_is_newest rows key at =
    let p : Row → Bool = λ (row : Row). nat_le row.block at in
    let q : Row → Bool = λ (row : Row). pointwise ◌==◌ row.key key in
    find_both p q (reverse rows) ∙ ap (find q) (sym (filter_reverse p rows))

-- ---- the first keys

more_keys : (keys : List (List ℕ)) (rows : List Row) → (more : List (List ℕ))
    × (fold with_key keys rows ≡ keys ++ more)
more_keys keys [] = ([], sym (append-nil keys))
more_keys keys (row ∷ rows) = elim (cases_Bool (is_among keys row.key)) [
  | inl t ↦ rw t (more_keys keys rows)
  | inr f ↦
      let rest = more_keys (keys ++ row.key ∷ []) rows in
      rw f (row.key ∷ rest.0, rest.1 ∙ append_assoc keys (row.key ∷ []) rest.0)
]

-- The rows up to a block, and the others after them.
pub rows_cut : (rows : List Row) (at : ℕ) → IsLawful rows
    → rows ≡ up_to rows at ++ drop (length (up_to rows at)) rows
rows_cut rows at lawful =
    let k = length (up_to rows at) in
    sym (take-append-drop k rows)
    ∙ ap (λ (first : List Row). first ++ drop k rows) (up_to_first rows at lawful)

first_keys : (rows : List Row) (at : ℕ) → IsLawful rows → (more : List (List ℕ))
    × (keys_of rows ≡ keys_of (up_to rows at) ++ more)
first_keys rows at lawful =
    let later = drop (length (up_to rows at)) rows in
    let more = more_keys (keys_of (up_to rows at)) later in
    (more.0, ap keys_of (rows_cut rows at lawful) ∙ keys_append (up_to rows at) later ∙ more.1)

found_at : (keys : List (List ℕ)) (key d : List ℕ) → is_among keys key ≡ true → (j : ℕ)
    × (j < length keys) × (get_or keys j d ≡ key)
found_at [] key d t = absurd (not_both false t refl)
found_at (first ∷ keys) key d t = elim (cases_Bool (pointwise ◌==◌ first key)) [
  | inl here ↦ (0, omega arith, same_key first key here)
  | inr off ↦
      let rest = found_at keys key d (rw off at t) in
      (suc rest.0, omega (arith, rest.1), rest.2)
]

module _ (rows : List Row) (at : ℕ) (lawful : IsLawful rows) where
  pub fewer_keys : length (keys_of (up_to rows at)) ≤ length (keys_of rows)
  fewer_keys =
      let first = first_keys rows at lawful in
      omega (arith, ap length first.1, length-append (keys_of (up_to rows at)) first.0)

  pub keys_taken : take (length (keys_of (up_to rows at))) (keys_of rows) ≡ keys_of (up_to rows at)
  keys_taken =
      let first = first_keys rows at lawful in
      let own = keys_of (up_to rows at) in
      ap (take (length own)) first.1 ∙ take-append-le (length own) own first.0 (omega arith)
      ∙ take_all (length own) own (omega arith)

  pub key_kept : (j : ℕ) (d : List ℕ) → j < length (keys_of (up_to rows at))
      → get_or (keys_of rows) j d ≡ get_or (keys_of (up_to rows at)) j d
  key_kept j d within =
      let first = first_keys rows at lawful in
      ap (λ (keys : List (List ℕ)). get_or keys j d) first.1
      ∙ get_or_append_left (keys_of (up_to rows at)) first.0 d j within

  -- A key at an index among those of the rows up to the block is there.
  pub key_place : (j : ℕ) (key : List ℕ) → slice_get (keys_of rows) j ≡ Some key
      → j < length (keys_of (up_to rows at)) → slice_get (keys_of (up_to rows at)) j ≡ Some key
  key_place j key there within =
      slice_get-get_or (keys_of (up_to rows at)) j key within
      ∙ ap (λ (k : List ℕ). Some k) (sym (key_kept j key within)
      ∙ get_or_from_slice_get (keys_of rows) j key key there)

  -- It has a row up to the block.
  pub key_has_row : (j : ℕ) (key : List ℕ) → slice_get (keys_of rows) j ≡ Some key
      → j < length (keys_of (up_to rows at)) → is_some (latest rows key at) ≡ true
  key_has_row j key there within =
      ap (λ (o : Option Row). is_some o) (latest_is_newest rows key at)
      ∙ sym (among_is_some (up_to rows at) key)
      ∙ index_among (keys_of (up_to rows at)) key j (key_place j key there within)

  -- No other key has one.
  pub key_is_first : (j : ℕ) (key : List ℕ) → slice_get (keys_of rows) j ≡ Some key
      → is_some (latest rows key at) ≡ true → j < length (keys_of (up_to rows at))
  key_is_first j key there found =
      let own = keys_of (up_to rows at) in
      let among : is_among own key ≡ true = among_is_some (up_to rows at) key
      ∙ ap (λ (o : Option Row). is_some o) (sym (latest_is_newest rows key at)) ∙ found in
      let place = found_at own key key among in
      elim (cases_lt j (length own)) [
        | inl within ↦ within
        | inr past ↦ absurd (keys_distinct rows place.0 j key (omega (arith, place.1, past))
            (slice_get_within (keys_of rows) j key there)
            (key_kept place.0 key place.1 ∙ place.2
            ∙ sym (get_or_from_slice_get (keys_of rows) j key key there)))
      ]

  pub key_is_later : (j : ℕ) (key : List ℕ) → slice_get (keys_of rows) j ≡ Some key
      → is_some (latest rows key at) ≡ false → length (keys_of (up_to rows at)) ≤ j
  key_is_later j key there none = elim (cases_lt j (length (keys_of (up_to rows at)))) [
    | inl within ↦ absurd (not_both (is_some (latest rows key at)) (key_has_row j key there within)
        none)
    | inr past ↦ past
  ]

-- The index of the last row of a key is there exactly if the row is.
pub row_is_some : (rows : List Row) (index : Option ℕ) (found : Option Row)
    → IsRowAt rows index found → is_some index ≡ is_some found
row_is_some rows None found at = sym (ap (λ (o : Option Row). is_some o) at)
row_is_some rows (Some index) found at = sym (ap (λ (o : Option Row). is_some o) at.1)

-- ---- leaves

-- The leaf of the key at an index.
pub leaf_there : (rows : List Row) (leaf : ℕ) (key : List ℕ) → 0 < leaf
    → slice_get (keys_of rows) (leaf - 1) ≡ Some key
    → slice_get (leaves rows) leaf ≡ Some (leaf_of rows key)
leaf_there rows leaf key pos there =
    let next : leaf ≡ suc (leaf - 1) = omega (arith, pos) in
    ap (slice_get (leaves rows)) next ∙ slice_get-map (leaf_of rows) (keys_of rows) (leaf - 1)
    ∙ ap (option_map (leaf_of rows)) there

pub key_index : (rows : List Row) (leaf : ℕ) → IsLeafIndex (keys_of rows) leaf
    → slice_get (keys_of rows) (leaf - 1) ≡ Some (key_at (keys_of rows) leaf)
key_index rows leaf within = slice_get-get_or (keys_of rows) (leaf - 1) []
    (omega (arith, within.0, within.1))

pub as_many_leaves : (rows : List Row) → length (leaves rows) ≡ length (keys_of rows) + 1
as_many_leaves rows = omega (arith, length-map (keys_of rows) (leaf_of rows))

-- A leaf that isn't the sentinel is that of a key, which has an index among the keys.
module _ (rows : List Row) (tree : List Leaf) (leaf : ℕ) (found : Leaf) (is : tree ≡ leaves rows)
    (pos : 0 < leaf) (held : slice_get tree leaf ≡ Some found) where
  leaf_within : IsLeafIndex (keys_of rows) leaf
  leaf_within = (
    pos,
    omega (arith, slice_get_within tree leaf found held, ap length is, as_many_leaves rows),
  )

  pub leaf_key : found.key ≡ Some (key_at (keys_of rows) leaf)
  leaf_key =
      let key = key_at (keys_of rows) leaf in
      let same : leaf_of rows key ≡ found = same_Some (leaf_of rows key) found
      (sym (leaf_there rows leaf key pos (key_index rows leaf leaf_within))
      ∙ ap (λ (ls : List Leaf). slice_get ls leaf) (sym is) ∙ held) in
      ap (λ (l : Leaf). l.key) (sym same)

  pub key_read : (key : List ℕ) → found.key ≡ Some key
      → slice_get (keys_of rows) (leaf - 1) ≡ Some key
  key_read key key_is = key_index rows leaf leaf_within ∙ sym leaf_key ∙ key_is

  pub keyless : found.key ≡ None → ⊥
  keyless none = none-some (key_at (keys_of rows) leaf) (sym none ∙ leaf_key)

-- ---- the next key

pub next_more : (keys : List (List ℕ)) (after key : List ℕ) (next : Option (List ℕ)) (leaf : ℕ)
    → 0 < leaf → slice_get keys (leaf - 1) ≡ Some key
    → next ≡ next_key (take (leaf - 1) keys) after
    → next_with after next key ≡ next_key (take (leaf + 1 - 1) keys) after
next_more keys after key next leaf pos there is =
    let i = leaf - 1 in
    let more : leaf + 1 - 1 ≡ i + 1 = omega (arith, pos) in
    ap (λ (o : Option (List ℕ)). next_with after o key) is
    ∙ sym (next_key_with (take i keys) key after)
    ∙ ap (λ (k : List ℕ). next_key (take i keys ++ k ∷ []) after)
    (sym (get_or_from_slice_get keys i key key there))
    ∙ ap (λ (ks : List (List ℕ)). next_key ks after)
    (sym (take_more keys i key (slice_get_within keys i key there)))
    ∙ ap (λ (n : ℕ). next_key (take n keys) after) (sym more)
