-- Entries with the links and the keys of the rows of a history: they are towered at each key's newest
-- version.
use Rattle.std.proofs.Common.{◌≡◌, ◌∙◌, ℕ, ◌==◌, List, [], ◌∷◌, ◌++◌, length, map, reverse, Option, Some, None, refl, sym, ap, subst, inl, inr}
use Rattle.std.specs.Prelude.{slice_get, IsSomeAnd}
use Rattle.std.specs.List.{AllPairs}
use Rattle.std.specs.Option.{option_map}
use Rattle.std.specs.Cmp.Lexicographic.{pointwise}
use Rattle.std.proofs.lemmas.Bool.{cases_Bool}
use Rattle.std.proofs.lemmas.List.{append-nil, append_assoc, reverse-append, reverse-reverse, length-reverse}
use Rattle.std.proofs.lemmas.Option.{same_Some, none-some, slice_get-map}
use Rattle.std.proofs.lemmas.Slice.Eq.{bytes_eq-Decides}
use Rattle.lc_base.specs.declared.row.Row.{Row}
use Rattle.lc_base.specs.History.{StandsBefore}
use Rattle.skip_links.specs.Falling.{IsFalling}
use Rattle.skip_links.proofs.OverRows.{key_falls}
use Rattle.skip_list.specs.entry_store.declared.entry.Hop.{Hop}
use Rattle.skip_list.specs.entry_store.declared.entry.Links.{Links}
use Rattle.skip_list.specs.entry_store.Entries.{Entry}
use Rattle.skip_list.specs.Towered.{blocks_of, links_over, HaveTowers, AreVersions}
use Rattle.lineage_index.specs.Versions.{versions_in_reverse, versions_of_key, newest_entry}
use Rattle.lineage_index.specs.Versions.{links_after}
use Rattle.lineage_index.proofs.Versions.{blocks_are}

-- The links of some rows, from the rows before them.
abbrev pub all_links_after : List Row → List Row → List Links
all_links_after before [] = []
all_links_after before (row ∷ rows) = links_after before row ∷ all_links_after (before ++ row ∷ []) rows

-- The links and the key of each entry are those of its row.
pub record HaveLinksOf (rows : List Row) (entries : List Entry) : Type 0 where
  pub links : map (λ (entry : Entry). entry.links) entries ≡ all_links_after [] rows
  pub keys : map (λ (entry : Entry). entry.facts.key) entries ≡ map (λ (row : Row). row.key) rows

-- ---- the entry of a row

links_at : (before front : List Row) (row : Row) (rest : List Row) → slice_get (all_links_after before (front ++ row ∷ rest)) (length front) ≡ Some (links_after (before ++ front) row)
links_at before [] row rest = ap (λ (rows : List Row). Some (links_after rows row)) (sym (append-nil before))
links_at before (first ∷ front) row rest =
    links_at (before ++ first ∷ []) front row rest ∙ ap (λ (rows : List Row). Some (links_after rows row)) (append_assoc before (first ∷ []) front)

has_links : (entries : List Entry) (index : ℕ) (links : Links) → slice_get (map (λ (entry : Entry). entry.links) entries) index ≡ Some links
    → IsSomeAnd (slice_get entries index) (λ (entry : Entry). entry.links ≡ links)
has_links entries index links e = on (slice_get entries index) (sym (slice_get-map (λ (entry : Entry). entry.links) entries index) ∙ e)
  where
    on : (entry : Option Entry) → option_map (λ (e : Entry). e.links) entry ≡ Some links → IsSomeAnd entry (λ (e : Entry). e.links ≡ links)
    on None e = absurd (none-some links e)
    on (Some entry) e = same_Some entry.links links e

-- ---- towers

towers_in_reverse : (entries : List Entry) (rows rest : List Row) (key : List ℕ) → map (λ (entry : Entry). entry.links) entries ≡ all_links_after [] (reverse rows ++ rest)
    → HaveTowers entries (versions_in_reverse rows key)
unfolding HaveTowers versions_of_key
towers_in_reverse entries [] rest key are = tt
towers_in_reverse entries (row ∷ rows) rest key are =
    let split : reverse (row ∷ rows) ++ rest ≡ reverse rows ++ row ∷ rest =
    ap (λ (all : List Row). all ++ rest) (reverse-append (row ∷ []) rows) ∙ append_assoc (reverse rows) (row ∷ []) rest in
    let deep = towers_in_reverse entries rows (row ∷ rest) key (are ∙ ap (all_links_after []) split) in
    elim (cases_Bool (pointwise ◌==◌ row.key key)) [
      | inr e ↦ rw e deep
      | inl e ↦
          let older : versions_of_key (reverse rows) row.key ≡ versions_in_reverse rows key =
          ap (λ (all : List Row). versions_in_reverse all row.key) (reverse-reverse rows) ∙ ap (versions_in_reverse rows) ((bytes_eq-Decides row.key key).0 e) in
          let links : links_after (reverse rows) row ≡ record { block = row.block; hops = links_over row.block (versions_in_reverse rows key) } =
          ap (λ (vs : List Hop). let l : Links = record { block = row.block; hops = links_over row.block vs } in l) older in
          let at : slice_get (map (λ (entry : Entry). entry.links) entries) (length rows) ≡ Some (record { block = row.block; hops = links_over row.block (versions_in_reverse rows key) }) =
          ap (λ (all : List Links). slice_get all (length rows)) (are ∙ ap (all_links_after []) split)
          ∙ ap (slice_get (all_links_after [] (reverse rows ++ row ∷ rest))) (sym (length-reverse rows))
          ∙ links_at [] (reverse rows) row rest ∙ ap Some links in
          rw e (has_links entries (length rows) (record { block = row.block; hops = links_over row.block (versions_in_reverse rows key) }) at, deep)
    ]

pub have_towers : (rows : List Row) (entries : List Entry) (key : List ℕ) → HaveLinksOf rows entries → HaveTowers entries (versions_of_key rows key)
unfolding versions_of_key
have_towers rows entries key are =
    towers_in_reverse entries (reverse rows) [] key (are.links ∙ ap (all_links_after []) (sym (append-nil (reverse (reverse rows)) ∙ reverse-reverse rows)))

pub versions_fall : (rows : List Row) (key : List ℕ) → AllPairs StandsBefore rows → IsFalling (blocks_of (versions_of_key rows key))
versions_fall rows key ordered = subst IsFalling (sym (blocks_are rows key)) (key_falls rows key ordered)

pub ordered_towered : (rows : List Row) (entries : List Entry) (key : List ℕ) → AllPairs StandsBefore rows → HaveLinksOf rows entries → AreVersions entries (newest_entry rows key) (versions_of_key rows key)
ordered_towered rows entries key ordered are = on (versions_of_key rows key) (versions_fall rows key ordered) (have_towers rows entries key are)
  where
    on : (versions : List Hop) → IsFalling (blocks_of versions) → HaveTowers entries versions → AreVersions entries (option_map (λ (version : Hop). version.id) (slice_get versions 0)) versions
    on [] falling towers = refl
    on (version ∷ older) falling towers = record { newest = refl; falling = falling; towers = towers }
