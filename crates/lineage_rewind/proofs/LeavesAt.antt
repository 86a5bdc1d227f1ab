-- A leaf as it was at an older block, by what the index over all rows has of its key.
use Rattle.std.proofs.Common.{◌≡◌, ◌∙◌, ℕ, suc, ◌+◌, ◌-◌, ◌<◌, ◌≤◌, true, false, nat_le, ◌==◌, List}
use Rattle.std.proofs.Common.{[], ◌∷◌, length, take, drop, replicate, Option, Some, None, refl, sym}
use Rattle.std.proofs.Common.{ap, ap₂, subst, arith, inl, inr}
use Rattle.std.specs.Prelude.{reverse, slice_get}
use Rattle.std.specs.List.{AllByRecursion}
use Rattle.std.specs.List.Sorted.{IsNonDecreasingBy}
use Rattle.std.specs.Option.{is_some}
use Rattle.std.specs.Cmp.Lexicographic.{pointwise}
use Rattle.std.proofs.lemmas.Bool.{and_parts, cases_lt, le-leb, leb-true, lt-leb}
use Rattle.std.proofs.lemmas.List.Elements.{All-from_recursion, recursion_from_All}
use Rattle.lc_base.specs.declared.digest.Digest.{Digest}
use Rattle.lc_base.specs.declared.row.Row.{Row}
use Rattle.lc_base.specs.History.{IsLawful, is_version, latest, newest, up_to, uses}
use Rattle.lineage_index.specs.prov_entry.declared.entry.Leaf.{Leaf}
use Rattle.lineage_index.specs.prov_entry.ForwardLists.{no_uses}
use Rattle.lineage_index.specs.forward_links.declared.open_list.OpenList.{OpenList}
use Rattle.lineage_index.specs.entry_store.declared.entry.Facts.{Facts}
use Rattle.lineage_index.specs.entry_store.Entries.{facts_of}
use Rattle.lineage_index.specs.root_laws.Naming.{header_digest, header_of}
use Rattle.lineage_index.specs.root_laws.NamingLaws.{digest_of_row}
use Rattle.lineage_index.specs.root_laws.Root.{block_of, keys_of, leaf_at, leaf_of, leaves}
use Rattle.lineage_index.specs.root_laws.Root.{next_key}
use Rattle.lineage_index.proofs.root_laws.Growing.{earlier_headers_stay}
use Rattle.lineage_index.proofs.root_laws.Headers.{leaf_is_named, newest_is_key}
use Rattle.lineage_index.proofs.root_laws.Lists.{all_weaker, found_passes, keep_none, not_both}
use Rattle.lineage_index.proofs.root_laws.Lists.{option_cases}
use Rattle.lineage_index.proofs.root_laws.Parts.{lawful_up_to}
use Rattle.lineage_index.proofs.plain_rows.Later.{blocks_rise}
use Rattle.lineage_index.specs.declared.index.LineageIndex.{LineageIndex}
use Rattle.lineage_index.specs.Index.{IsIndexOf}
use Rattle.lineage_index.specs.Leaves.{IsLeafIndex}
use Rattle.lineage_rewind.specs.LeavesAt.{AreLeavesAt, told_of}
use Rattle.lineage_rewind.proofs.KeysAt.{as_many_leaves, fewer_keys, key_has_row, key_place}
use Rattle.lineage_rewind.proofs.KeysAt.{keys_taken, latest_is_newest, leaf_there, rows_cut}

-- ---- the header of a row stays

later_rise : (rows : List Row) (at : ℕ) → IsNonDecreasingBy (λ (row : Row). row.block) rows
    → AllByRecursion (λ (row : Row). at < row.block) (drop (length (up_to rows at)) rows)
later_rise [] at rises = tt
later_rise (row ∷ rows) at rises = elim (cases_lt at row.block) [
  | inl above ↦
      let rise : AllByRecursion (λ (r : Row). row.block ≤ r.block) (row ∷ rows) =
      recursion_from_All (λ (r : Row). row.block ≤ r.block) (row ∷ rows)
      (λ k d l. rises 0 k d (omega arith) l) in
      let high : AllByRecursion (λ (r : Row). nat_le r.block at ≡ false) (row ∷ rows) =
      all_weaker (λ (r : Row). row.block ≤ r.block) (λ (r : Row). nat_le r.block at ≡ false)
      (λ r h. lt-leb r.block at (omega (arith, h, above))) (row ∷ rows) rise in
      let none : up_to (row ∷ rows) at ≡ [] = keep_none (λ (r : Row). nat_le r.block at)
      (row ∷ rows) high in
      subst (λ (rs : List Row). AllByRecursion (λ (r : Row). at < r.block)
      (drop (length rs) (row ∷ rows))) (sym none)
      (all_weaker (λ (r : Row). row.block ≤ r.block) (λ (r : Row). at < r.block)
      (λ r h. omega (arith, h, above)) (row ∷ rows) rise)
  | inr low ↦
      let rest = later_rise rows at
      (λ i j d l k. rises (suc i) (suc j) d (omega (arith, l)) (omega (arith, k))) in
      let now : nat_le row.block at ≡ true = le-leb row.block at low in
      rw now rest
]

-- A row up to a block has the header that it has among the rows up to the block.
pub header_stays : (rows : List Row) (at : ℕ) (row : Row) → IsLawful rows → row.block ≤ at
    → header_of rows row ≡ header_of (up_to rows at) row
header_stays rows at row lawful low =
    let more = drop (length (up_to rows at)) rows in
    let later = later_rise rows at (blocks_rise rows lawful) in
    ap (λ (all : List Row). header_of all row) (rows_cut rows at lawful)
    ∙ (earlier_headers_stay (up_to rows at) more row
    (All-from_recursion (λ (r : Row). suc row.block ≤ r.block) more
    (all_weaker (λ (r : Row). at < r.block) (λ (r : Row). suc row.block ≤ r.block)
    (λ r h. omega (arith, h, low)) more later))).0

-- ---- the leaf of a key

parts : (key : List ℕ) (a b : Option (List ℕ)) (c d : ℕ) (e f : Digest) (g h : OpenList) → a ≡ b
    → c ≡ d → e ≡ f → g ≡ h
    → (let leaf : Leaf = record {
      key = Some key;
      next = a;
      newest_block = c;
      newest = e;
      open_count = g.count;
      open_digest = g.digest;
    } in leaf)
    ≡ record {
      key = Some key;
      next = b;
      newest_block = d;
      newest = f;
      open_count = h.count;
      open_digest = h.digest;
    }
parts key a b c d e f g h p q r s = λ i. record {
  key = Some key;
  next = p i;
  newest_block = q i;
  newest = r i;
  open_count = (s i).count;
  open_digest = (s i).digest;
}

-- The newest row of a key among those up to a block, by all rows.
module _ (rows : List Row) (at : ℕ) (lawful : IsLawful rows) (key : List ℕ) (row : Row)
    (found : latest rows key at ≡ Some row) where
  newest_there : newest (up_to rows at) key ≡ Some row
  newest_there = sym (latest_is_newest rows key at) ∙ found

  low : row.block ≤ at
  low =
      let passes : is_version key at row ≡ true = found_passes (is_version key at) (reverse rows)
      row found in
      leb-true row.block at (and_parts (pointwise ◌==◌ row.key key) (nat_le row.block at) passes).1

  pub key_of_latest : row.key ≡ key
  key_of_latest = newest_is_key (up_to rows at) key row newest_there

  digest_there : (facts_of (header_of rows row)).digest ≡ (leaf_of (up_to rows at) key).newest
  digest_there =
      let named = leaf_is_named (up_to rows at) key row (lawful_up_to rows at lawful)
      newest_there in
      let kept : digest_of_row rows row ≡ digest_of_row (up_to rows at) row =
      ap (λ header. (facts_of header).digest) (header_stays rows at row lawful low) in
      kept ∙ sym named.1

  -- The leaf that is made of the facts of this row and of its uses up to the block.
  pub leaf_made : (facts : Facts) (told : OpenList) (next : Option (List ℕ))
      → facts ≡ facts_of (header_of rows row)
      → told ≡ told_of (uses (up_to rows at) row.key row.block)
      → next ≡ next_key (keys_of (up_to rows at)) key
      → record {
        key = Some key;
        next = next;
        newest_block = facts.block;
        newest = facts.digest;
        open_count = told.count;
        open_digest = told.digest;
      } ≡ leaf_of (up_to rows at) key
  leaf_made facts told next facts_are told_is next_is =
      let own = up_to rows at in
      let told_here : told ≡ told_of (uses own key row.block) = told_is
      ∙ ap (λ (k : List ℕ). told_of (uses own k row.block)) key_of_latest in
      let here : leaf_of own key ≡ leaf_at own (keys_of own) key row.block =
      ap (λ (o : Option Row). leaf_at own (keys_of own) key (block_of o)) newest_there in
      let digest : facts.digest ≡ header_digest own key row.block = ap (λ (f : Facts). f.digest)
      facts_are ∙ digest_there ∙ ap (λ (l : Leaf). l.newest) here in
      let block : facts.block ≡ row.block = ap (λ (f : Facts). f.block) facts_are in
      parts key next (next_key (keys_of own) key) facts.block row.block facts.digest
      (header_digest own key row.block) told (told_of (uses own key row.block)) next_is block digest
      told_here ∙ sym here

-- ---- by the index over all rows

module _ (index : LineageIndex) (at count : ℕ) (list : List Leaf)
    (a : AreLeavesAt index at count list) where
  lawful_all : IsLawful a.rows
  lawful_all = a.index_is.store.lawful

  pub as_many : count ≡ length (keys_of (up_to a.rows at)) + 1
  as_many = a.count_is ∙ ap length a.leaves_are ∙ as_many_leaves (up_to a.rows at)

  pub count_within : count ≤ length (leaves a.rows)
  count_within = omega (arith, as_many, fewer_keys a.rows at lawful_all, as_many_leaves a.rows)

  pub is_leaf_index : (leaf : ℕ) → 0 < leaf → leaf < length list
      → IsLeafIndex (keys_of a.rows) leaf
  is_leaf_index leaf pos within = (
    pos,
    omega (arith, within, a.count_is, as_many, fewer_keys a.rows at lawful_all),
  )

  -- A key of a leaf that isn't the sentinel has a row up to the block.
  pub has_latest : (leaf : ℕ) (key : List ℕ) → 0 < leaf → leaf < length list
      → slice_get (keys_of a.rows) (leaf - 1) ≡ Some key → (row : Row)
      × (latest a.rows key at ≡ Some row)
  has_latest leaf key pos within there =
      let has = key_has_row a.rows at lawful_all (leaf - 1) key there
      (omega (arith, pos, within, a.count_is, as_many)) in
      elim (option_cases (latest a.rows key at)) [
        | inl none ↦ absurd (not_both (is_some (latest a.rows key at)) has
            (ap (λ (o : Option Row). is_some o) none))
        | inr s ↦ s
      ]

  -- The next key is that among the keys of the leaves.
  pub next_cut : (next : Option (List ℕ)) (after : List ℕ)
      → next ≡ next_key (take (count - 1) (keys_of a.rows)) after
      → next ≡ next_key (keys_of (up_to a.rows at)) after
  next_cut next after is =
      let own : count - 1 ≡ length (keys_of (up_to a.rows at)) = omega (arith, as_many) in
      is ∙ ap (λ (n : ℕ). next_key (take n (keys_of a.rows)) after) own
      ∙ ap (λ (keys : List (List ℕ)). next_key keys after) (keys_taken a.rows at lawful_all)

  pub sentinel_made : (next : Option (List ℕ)) (digest : Digest)
      → next ≡ next_key (take (count - 1) (keys_of a.rows)) [] → digest.0 ≡ no_uses
      → slice_get list 0 ≡ Some (record {
        key = None;
        next = next;
        newest_block = 0;
        newest = record { 0 = replicate 32 0 };
        open_count = 0;
        open_digest = digest;
      })
  sentinel_made next digest next_is digest_is =
      ap (λ (ls : List Leaf). slice_get ls 0) a.leaves_are
      ∙ sym (ap₂ (λ (n : Option (List ℕ)) (d : List ℕ). let leaf : Leaf = record {
        key = None;
        next = n;
        newest_block = 0;
        newest = record { 0 = replicate 32 0 };
        open_count = 0;
        open_digest = record { 0 = d };
      } in let some : Option Leaf = Some leaf in some) (next_cut next [] next_is) digest_is)

  -- The leaf that is made of the row at an index, which is the last one of its key up to the block.
  pub leaf_read : (leaf : ℕ) (key : List ℕ) (row : Row) (facts : Facts) (told : OpenList)
      (next : Option (List ℕ)) → 0 < leaf → leaf < length list
      → slice_get (keys_of a.rows) (leaf - 1) ≡ Some key → latest a.rows key at ≡ Some row
      → facts ≡ facts_of (header_of a.rows row)
      → told ≡ told_of (uses (up_to a.rows at) row.key row.block)
      → next ≡ next_key (take (count - 1) (keys_of a.rows)) key
      → slice_get list leaf ≡ Some (record {
        key = Some key;
        next = next;
        newest_block = facts.block;
        newest = facts.digest;
        open_count = told.count;
        open_digest = told.digest;
      })
  leaf_read leaf key row facts told next pos within there found facts_are told_is next_is =
      let place = key_place a.rows at lawful_all (leaf - 1) key there
      (omega (arith, pos, within, a.count_is, as_many)) in
      ap (λ (ls : List Leaf). slice_get ls leaf) a.leaves_are
      ∙ leaf_there (up_to a.rows at) leaf key pos place
      ∙ ap (λ (l : Leaf). Some l) (sym (leaf_made a.rows at lawful_all key row found facts told next
      facts_are told_is (next_cut next key next_is)))

-- The leaves of the rows up to a block.
pub are_leaves_at : (rows : List Row) (n : ℕ) (index : LineageIndex) (at count : ℕ)
    → IsIndexOf rows n index → count ≡ length (leaves (up_to rows at))
    → AreLeavesAt index at count (leaves (up_to rows at))
are_leaves_at rows n index at count is count_is = record {
  rows = rows;
  block_count = n;
  index_is = is;
  leaves_are = refl;
  count_is = count_is;
}
