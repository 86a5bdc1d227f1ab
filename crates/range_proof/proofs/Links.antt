-- The lowest link of a version leads to the version of its key before it.
use Rattle.std.proofs.Common.{◌≡◌, ◌∙◌, ℕ, zero, suc, true, false, ◌<◌, ◌==◌, nat_lt, nat_le}
use Rattle.std.proofs.Common.{List, [], ◌∷◌, ◌++◌, length, take, drop, get_or, slice_get}
use Rattle.std.proofs.Common.{Option, Some, None, IfSome, IsSomeAnd, refl, sym, ap, subst, arith}
use Rattle.std.proofs.Common.{inl, inr}
use Rattle.std.specs.List.{All, AllByRecursion, Contains}
use Rattle.std.specs.Option.{option_map}
use Rattle.std.specs.Cmp.Lexicographic.{pointwise}
use Rattle.std.proofs.lemmas.Bool.{cases_Bool, and_from, eq-eqb}
use Rattle.std.proofs.lemmas.List.{append-nil, append_assoc}
use Rattle.std.proofs.lemmas.Option.{none-some, same_Some, slice_get-map, slice_get_within}
use Rattle.std.proofs.lemmas.Option.{get_or_from_slice_get}
use Rattle.lc_base.specs.declared.row.Row.{Row}
use Rattle.lc_base.specs.History.{IsLawful, below, newest}
use Rattle.skip_links.specs.Links.{links}
use Rattle.skip_links.proofs.LinkLaws.{first_link}
use Rattle.skip_links.proofs.PathTowers.{tower_holds}
use Rattle.entry_store.specs.declared.entry.Hop.{Hop}
use Rattle.entry_store.specs.declared.entry.Links.{Links}
use Rattle.entry_store.specs.Entries.{Entry}
use Rattle.entry_store.proofs.Entries.{get_front}
use Rattle.skip_list.specs.Towered.{block_of, links_over}
use Rattle.prov_query.specs.lineage_index.Versions.{versions_of_key, links_after}
use Rattle.prov_query.specs.lineage_index.Entries.{entries_of}
use Rattle.prov_query.proofs.lineage_index.StoreEntries.{have_links, as_many}
use Rattle.prov_query.proofs.lineage_index.Hops.{HasRow, have_rows}
use Rattle.prov_query.proofs.lineage_index.Links.{all_links_after}
use Rattle.prov_query.proofs.lineage_index.Versions.{links_of_row}
use Rattle.root_laws.specs.WalkLaws.{is_version_in}
use Rattle.root_laws.proofs.Headers.{only_row, newest_is_key, newest_has, kept_rows}
use Rattle.root_laws.proofs.Keys.{key_is_key}
use Rattle.plain_rows.specs.Places.{IsRowAt}
use Rattle.range_proof.specs.Finding.{unless_before, index_unless_before}

-- ---- the entry of a row

split_at : (rows : List Row) (i : ℕ) (row : Row) → slice_get rows i ≡ Some row
    → rows ≡ take i rows ++ row ∷ drop (suc i) rows
split_at [] i row at = absurd (none-some row at)
split_at (first ∷ rows) zero row at = ap (λ (r : Row). r ∷ rows) (same_Some first row at)
split_at (first ∷ rows) (suc i) row at =
    ap (λ (rest : List Row). first ∷ rest) (split_at rows i row at)

-- Each row has an entry.
pub entry_there : (rows : List Row) (entries : List Entry) (index : ℕ)
    → entries ≡ entries_of rows rows → index < length rows → index < length entries
entry_there rows entries index are within =
    let long : length entries ≡ length rows = ap length are ∙ as_many rows [] rows in
    omega (arith, long, within)

links_at : (before rows : List Row) (i : ℕ) (row : Row) → slice_get rows i ≡ Some row
    → slice_get (all_links_after before rows) i ≡ Some (links_after (before ++ take i rows) row)
links_at before [] i row at = absurd (none-some row at)
links_at before (first ∷ rows) zero row at =
    ap (λ (rs : List Row). Some (links_after rs first)) (sym (append-nil before))
    ∙ ap (λ (r : Row). Some (links_after (before ++ []) r)) (same_Some first row at)
links_at before (first ∷ rows) (suc i) row at =
    links_at (before ++ first ∷ []) rows i row at
    ∙ ap (λ (rs : List Row). Some (links_after rs row))
    (append_assoc before (first ∷ []) (take i rows))

-- What is read of the entry at the index of a row.
links_are : (rows : List Row) (entries : List Entry) (index : ℕ) (row : Row) (own : Links)
    → entries ≡ entries_of rows rows → slice_get rows index ≡ Some row
    → option_map (λ (entry : Entry). entry.links) (slice_get entries index) ≡ Some own
    → own ≡ links_after (take index rows) row
links_are rows entries index row own are at read =
    same_Some own (links_after (take index rows) row)
    (sym read
    ∙ ap (λ (es : List Entry). option_map (λ (entry : Entry). entry.links) (slice_get es index)) are
    ∙ sym (slice_get-map (λ (entry : Entry). entry.links) (entries_of rows rows) index)
    ∙ ap (λ (all : List Links). slice_get all index) (have_links rows rows).links
    ∙ links_at [] rows index row at)

-- ---- where it leads

first_holds : (P : Hop → Type 0) (hops : List Hop) (hop : Hop) → AllByRecursion P hops
    → slice_get hops 0 ≡ Some hop → P hop
first_holds P [] hop all at = absurd (none-some hop at)
first_holds P (first ∷ hops) hop all at = subst P (same_Some first hop at) all.0

-- The links of a row over the rows before it.
abbrev hops_after : List Row → Row → List Hop
hops_after before row = links_over row.block (versions_of_key before row.key)

-- The block that the lowest one leads to is that of the version before.
first_block : (rows : List Row) (index : ℕ) (row : Row) → IsLawful rows
    → slice_get rows index ≡ Some row
    → option_map block_of (slice_get (hops_after (take index rows) row) 0)
    ≡ option_map (λ (r : Row). r.block) (newest (below rows row.block) row.key)
first_block rows index row lawful at =
    let before = take index rows in
    let after = drop (suc index) rows in
    let split : rows ≡ before ++ row ∷ after = split_at rows index row at in
    sym (slice_get-map block_of (hops_after before row) 0)
    ∙ ap (λ (blocks : List ℕ). slice_get blocks 0)
    (links_of_row before after row (subst IsLawful split lawful)
    ∙ ap (λ (all : List Row). links all row.key row.block) (sym split))
    ∙ first_link rows row.key row.block lawful

-- It leads to a row of the key in that block.
there : (rows : List Row) (index : ℕ) (row : Row) (hop : Hop) → slice_get rows index ≡ Some row
    → slice_get (hops_after (take index rows) row) 0 ≡ Some hop
    → (older : Row) × (slice_get rows hop.id.0 ≡ Some older) × (older.key ≡ row.key)
    × (older.block ≡ hop.block)
there rows index row hop at first =
    on (slice_get (take index rows) hop.id.0) refl
    (first_holds (HasRow (take index rows) row.key) (hops_after (take index rows) row) hop
    (tower_holds block_of (HasRow (take index rows) row.key) row.block
    (versions_of_key (take index rows) row.key) (have_rows (take index rows) row.key)) first)
  where
    on : (o : Option Row) → slice_get (take index rows) hop.id.0 ≡ o
        → IsSomeAnd o (λ (r : Row). (r.key ≡ row.key) × (r.block ≡ hop.block))
        → (older : Row) × (slice_get rows hop.id.0 ≡ Some older) × (older.key ≡ row.key)
        × (older.block ≡ hop.block)
    on None e is = absurd is
    on (Some older) e is =
        let split = split_at rows index row at in
        let within = slice_get_within (take index rows) hop.id.0 older e in (
          older,
          ap (λ (all : List Row). slice_get all hop.id.0) split
              ∙ get_front (take index rows) (row ∷ drop (suc index) rows) hop.id.0 within ∙ e,
          is.0,
          is.1,
        )

-- A history has one row of a key and a block.
only : (rows : List Row) (older version : Row) (index : ℕ) → IsLawful rows
    → Contains rows version → slice_get rows index ≡ Some older → older.key ≡ version.key
    → older.block ≡ version.block → older ≡ version
only rows older version index lawful has at key block =
    let own : get_or rows index older ≡ older = get_or_from_slice_get rows index older older at in
    let key_is : pointwise ◌==◌ older.key version.key ≡ true =
    ap (λ (k : List ℕ). pointwise ◌==◌ k version.key) key ∙ key_is_key version.key in
    let both : is_version_in version.key version.block older ≡ true =
    and_from (pointwise ◌==◌ older.key version.key) (older.block == version.block) key_is
    (eq-eqb older.block version.block block) in
    sym own
    ∙ only_row rows version lawful has index older (slice_get_within rows index older at)
    (ap (is_version_in version.key version.block) own ∙ both)

-- A link leads to this row; there is no link if there is no row.
abbrev LeadsTo : List Row → Option Hop → Option Row → Type 0
LeadsTo rows None found = found ≡ None
LeadsTo rows (Some hop) found =
    (older : Row) × (found ≡ Some older) × (slice_get rows hop.id.0 ≡ Some older)
    × (older.block ≡ hop.block)

leads : (rows : List Row) (index : ℕ) (row : Row) → IsLawful rows
    → slice_get rows index ≡ Some row
    → LeadsTo rows (slice_get (hops_after (take index rows) row) 0)
    (newest (below rows row.block) row.key)
leads rows index row lawful at =
    go (slice_get (hops_after (take index rows) row) 0) (newest (below rows row.block) row.key)
    refl refl (first_block rows index row lawful at)
  where
    go : (o : Option Hop) (found : Option Row)
        → slice_get (hops_after (take index rows) row) 0 ≡ o
        → newest (below rows row.block) row.key ≡ found
        → option_map block_of o ≡ option_map (λ (r : Row). r.block) found → LeadsTo rows o found
    go None None first is same = refl
    go None (Some version) first is same = absurd (none-some version.block same)
    go (Some hop) None first is same = absurd (none-some hop.block (sym same))
    go (Some hop) (Some version) first is same =
        let found = there rows index row hop at first in
        let older = found.0 in
        let has : Contains rows version =
        newest_has (Contains rows) (below rows row.block) row.key version
        (kept_rows rows (λ (r : Row). nat_lt r.block row.block)) is in
        let block : older.block ≡ version.block =
        found.3 ∙ same_Some hop.block version.block same in
        let key : older.key ≡ version.key =
        found.2 ∙ sym (newest_is_key (below rows row.block) row.key version is) in
        let own : older ≡ version = only rows older version hop.id.0 lawful has found.1 key block in
        (older, ap (λ (r : Row). Some r) (sym own), found.1, found.3)

-- ---- unless it is of a block before the first one

row_told : (rows : List Row) (from : ℕ) (o : Option Hop) (found : Option Row)
    → LeadsTo rows o found → IsRowAt rows (index_unless_before from o) (unless_before from found)
row_told rows from None found none = ap (unless_before from) none
row_told rows from (Some hop) found (older, is, at, block) =
    elim (cases_Bool (nat_le from hop.block)) [
      | inl t ↦
          let kept : unless_before from (Some older) ≡ Some older =
          let t' : nat_le from older.block ≡ true = ap (nat_le from) block ∙ t in rw t' refl in
          rw t (older, ap (unless_before from) is ∙ kept, at)
      | inr f ↦
          let left : unless_before from (Some older) ≡ None =
          let f' : nat_le from older.block ≡ false = ap (nat_le from) block ∙ f in rw f' refl in
          rw f (ap (unless_before from) is ∙ left)
    ]

pub version_before : (rows : List Row) (entries : List Entry) (index from : ℕ) (own : Links)
    (row : Row) → IsLawful rows → entries ≡ entries_of rows rows
    → option_map (λ (entry : Entry). entry.links) (slice_get entries index) ≡ Some own
    → slice_get rows index ≡ Some row
    → IsRowAt rows (index_unless_before from (slice_get own.hops 0))
    (unless_before from (newest (below rows row.block) row.key))
version_before rows entries index from own row lawful are read at =
    row_told rows from (slice_get own.hops 0) (newest (below rows row.block) row.key)
    (subst (λ (l : Links). LeadsTo rows (slice_get l.hops 0)
    (newest (below rows row.block) row.key))
    (sym (links_are rows entries index row own are at read)) (leads rows index row lawful at))

-- The same, where only the lowest link is known.
pub link_before : (rows : List Row) (index from : ℕ) (previous : Option Hop) (row : Row)
    → IsLawful rows
    → option_map (λ (entry : Entry). slice_get entry.links.hops 0)
    (slice_get (entries_of rows rows) index) ≡ Some previous
    → slice_get rows index ≡ Some row
    → IsRowAt rows (index_unless_before from previous)
    (unless_before from (newest (below rows row.block) row.key))
link_before rows index from previous row lawful read at =
    on (slice_get (entries_of rows rows) index) refl read
  where
    on : (entry : Option Entry) → slice_get (entries_of rows rows) index ≡ entry
        → option_map (λ (e : Entry). slice_get e.links.hops 0) entry ≡ Some previous
        → IsRowAt rows (index_unless_before from previous)
        (unless_before from (newest (below rows row.block) row.key))
    on None is read = absurd (none-some previous read)
    on (Some entry) is read =
        subst (λ (link : Option Hop). IsRowAt rows (index_unless_before from link)
        (unless_before from (newest (below rows row.block) row.key)))
        (same_Some (slice_get entry.links.hops 0) previous read)
        (version_before rows (entries_of rows rows) index from entry.links row lawful refl
        (ap (option_map (λ (e : Entry). e.links)) is) at)

-- Links lead back.
pub leads_back : (hops : List Hop) (from bound : ℕ)
    → All (λ (hop : Hop). hop.id.0 < bound) hops
    → IfSome (index_unless_before from (slice_get hops 0)) (λ (older : ℕ). older < bound)
leads_back [] from bound back = tt
leads_back (hop ∷ hops) from bound back =
    let less : hop.id.0 < bound = back 0 hop (omega arith) in
    elim (cases_Bool (nat_le from hop.block)) [
      | inl t ↦ rw t less
      | inr f ↦ rw f tt
    ]
