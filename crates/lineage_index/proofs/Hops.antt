-- The links of a new row lead to entries of its key.
use Rattle.std.proofs.Common.{◌≡◌, ◌∙◌, ℕ, ◌<◌, ◌==◌, List, [], ◌∷◌, ◌++◌, length, reverse, Option, Some, None, refl, sym, ap, subst, inl, inr}
use Rattle.std.specs.Prelude.{slice_get, IsSomeAnd}
use Rattle.std.specs.List.{All, AllByRecursion, AllPairs}
use Rattle.std.specs.Option.{option_map}
use Rattle.std.specs.Cmp.Lexicographic.{pointwise}
use Rattle.std.proofs.lemmas.Bool.{cases_Bool}
use Rattle.std.proofs.lemmas.List.{append-nil, append_assoc, reverse-append, reverse-reverse, length-reverse}
use Rattle.std.proofs.lemmas.List.Elements.{All-from_recursion}
use Rattle.std.proofs.lemmas.Option.{same_Some, none-some, slice_get-map}
use Rattle.std.proofs.lemmas.Slice.Eq.{bytes_eq-Decides}
use Rattle.lc_base.specs.declared.row.Row.{Row}
use Rattle.lc_base.specs.History.{StandsBefore}
use Rattle.skip_links.specs.Falling.{IsFalling}
use Rattle.skip_links.proofs.Falls.{all_lower}
use Rattle.skip_links.proofs.Threads.{row_at}
use Rattle.skip_links.proofs.Towers.{ordered_fall}
use Rattle.skip_links.proofs.PathTowers.{tower_holds}
use Rattle.skip_list.specs.entry_store.declared.entry.Hop.{Hop}
use Rattle.skip_list.specs.entry_store.declared.entry.Links.{Links}
use Rattle.skip_list.specs.entry_store.Entries.{Entry, LeadsBack}
use Rattle.skip_list.specs.Towered.{block_of, blocks_of, links_over, HaveTowers, AreOlder}
use Rattle.lineage_index.specs.Versions.{versions_in_reverse, versions_of_key}
use Rattle.lineage_index.proofs.Versions.{blocks_are, older_are_before}
use Rattle.lineage_index.proofs.Links.{HaveLinksOf, have_towers}

-- ---- each version has a row of its key

abbrev pub HasRow : List Row → List ℕ → Hop → Type 0
HasRow rows key version = IsSomeAnd (slice_get rows version.id.0) (λ (row : Row). (row.key ≡ key) × (row.block ≡ version.block))

rows_in_reverse : (rows rest : List Row) (key : List ℕ) → AllByRecursion (HasRow (reverse rows ++ rest) key) (versions_in_reverse rows key)
rows_in_reverse [] rest key = tt
rows_in_reverse (row ∷ rows) rest key =
    let split : reverse (row ∷ rows) ++ rest ≡ reverse rows ++ row ∷ rest =
    ap (λ (all : List Row). all ++ rest) (reverse-append (row ∷ []) rows) ∙ append_assoc (reverse rows) (row ∷ []) rest in
    let deep = moved (reverse rows ++ row ∷ rest) (reverse (row ∷ rows) ++ rest) (versions_in_reverse rows key) (sym split) (rows_in_reverse rows (row ∷ rest) key) in
    elim (cases_Bool (pointwise ◌==◌ row.key key)) [
      | inr e ↦ rw e deep
      | inl e ↦
          let at : slice_get (reverse rows ++ row ∷ rest) (length rows) ≡ Some row = rw (length-reverse rows) at (row_at (reverse rows) row rest) in
          let here : slice_get (reverse (row ∷ rows) ++ rest) (length rows) ≡ Some row = ap (λ (all : List Row). slice_get all (length rows)) split ∙ at in
          rw e (found (slice_get (reverse (row ∷ rows) ++ rest) (length rows)) row.block row here ((bytes_eq-Decides row.key key).0 e) refl, deep)
    ]
  where
    moved : (all others : List Row) (versions : List Hop) → all ≡ others → AllByRecursion (HasRow all key) versions → AllByRecursion (HasRow others key) versions
    moved all others versions e each = rw (← e) each

    found : (o : Option Row) (block : ℕ) (r : Row) → o ≡ Some r → r.key ≡ key → r.block ≡ block → IsSomeAnd o (λ (r : Row). (r.key ≡ key) × (r.block ≡ block))
    found None block r e is at = absurd (none-some r e)
    found (Some other) block r e is at = let same = same_Some other r e in (ap (λ (x : Row). x.key) same ∙ is, ap (λ (x : Row). x.block) same ∙ at)

pub have_rows : (rows : List Row) (key : List ℕ) → AllByRecursion (HasRow rows key) (versions_of_key rows key)
unfolding versions_of_key
have_rows rows key = moved (reverse (reverse rows) ++ []) rows (append-nil (reverse (reverse rows)) ∙ reverse-reverse rows) (rows_in_reverse (reverse rows) [] key)
  where
    moved : (all others : List Row) → all ≡ others → AllByRecursion (HasRow all key) (versions_in_reverse (reverse rows) key) → AllByRecursion (HasRow others key) (versions_in_reverse (reverse rows) key)
    moved all others e each = rw (← e) each

-- ---- so it has an entry of its key

entry_key : (rows : List Row) (entries : List Entry) (key : List ℕ) (index block : ℕ) → HaveLinksOf rows entries
    → IsSomeAnd (slice_get rows index) (λ (row : Row). (row.key ≡ key) × (row.block ≡ block)) → IsSomeAnd (slice_get entries index) (λ (entry : Entry). entry.facts.key ≡ key)
entry_key rows entries key index block are row =
    on (slice_get entries index) (slice_get rows index)
    (sym (slice_get-map (λ (e : Entry). e.facts.key) entries index) ∙ ap (λ (keys : List (List ℕ)). slice_get keys index) are.keys ∙ slice_get-map (λ (r : Row). r.key) rows index) row
  where
    on : (entry : Option Entry) (row : Option Row) → option_map (λ (e : Entry). e.facts.key) entry ≡ option_map (λ (r : Row). r.key) row
        → IsSomeAnd row (λ (r : Row). (r.key ≡ key) × (r.block ≡ block)) → IsSomeAnd entry (λ (e : Entry). e.facts.key ≡ key)
    on entry None same is = absurd is
    on None (Some row) same is = absurd (none-some row.key same)
    on (Some entry) (Some row) same is = same_Some entry.facts.key row.key same ∙ is.0

both : (entries : List Entry) (key : List ℕ) (block : ℕ) (version : Hop) (older : List Hop) → version.block < block
    → IsSomeAnd (slice_get entries version.id.0) (λ (e : Entry). e.facts.key ≡ key)
    → IsSomeAnd (slice_get entries version.id.0) (λ (e : Entry). e.links ≡ record { block = version.block; hops = links_over version.block older })
    → LeadsBack entries key block version
both entries key block version older less has_key has_links = (less, on (slice_get entries version.id.0) has_key has_links)
  where
    on : (entry : Option Entry) → IsSomeAnd entry (λ (e : Entry). e.facts.key ≡ key) → IsSomeAnd entry (λ (e : Entry). e.links ≡ record { block = version.block; hops = links_over version.block older })
        → IsSomeAnd entry (λ (e : Entry). (e.facts.key ≡ key) × (e.links.block ≡ version.block))
    on None k l = absurd k
    on (Some entry) k l = (k, ap (λ (x : Links). x.block) l)

lead_back : (rows : List Row) (entries : List Entry) (key : List ℕ) (block : ℕ) (versions : List Hop) → HaveLinksOf rows entries → AllByRecursion (HasRow rows key) versions
    → HaveTowers entries versions → AllByRecursion (λ (b : ℕ). b < block) (blocks_of versions) → AllByRecursion (LeadsBack entries key block) versions
unfolding HaveTowers
lead_back rows entries key block [] are with_rows towers low = tt
lead_back rows entries key block (version ∷ older) are with_rows towers low = (
  both entries key block version older low.0 (entry_key rows entries key version.id.0 version.block are with_rows.0) towers.0,
  lead_back rows entries key block older are with_rows.1 towers.1 low.1,
)

-- ---- the rows before a row are of blocks before its own

pub are_before : (rows : List Row) (row : Row) → AllPairs StandsBefore (rows ++ row ∷ []) → AreOlder row.block (versions_of_key rows row.key)
are_before rows row ordered =
    subst (λ (blocks : List ℕ). IsFalling (row.block ∷ blocks)) (older_are_before rows row [] ordered ∙ sym (blocks_are rows row.key))
    (ordered_fall (rows ++ row ∷ []) row.key row.block ordered)

pub links_lead_back : (rows : List Row) (row : Row) (entries : List Entry) → AllPairs StandsBefore (rows ++ row ∷ []) → HaveLinksOf rows entries
    → All (LeadsBack entries row.key row.block) (links_over row.block (versions_of_key rows row.key))
links_lead_back rows row entries ordered are =
    let versions = versions_of_key rows row.key in
    let before = are_before rows row ordered in
    All-from_recursion (LeadsBack entries row.key row.block) (links_over row.block versions)
    (tower_holds block_of (LeadsBack entries row.key row.block) row.block versions
    (lead_back rows entries row.key row.block versions are (have_rows rows row.key) (have_towers rows entries row.key are) (all_lower row.block (blocks_of versions) before)))
