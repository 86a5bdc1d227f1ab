-- The versions of a key have the blocks, the links and the paths that are defined over the rows.
use Rattle.std.proofs.Common.{◌≡◌, ◌∙◌, ℕ, suc, ◌<◌, ◌≤◌, ◌==◌, List, [], ◌∷◌, ◌++◌, length, map, filter, reverse, Option, Some, None, refl, sym, ap, subst, arith, inl, inr}
use Rattle.std.specs.Prelude.{slice_get, nat_le, MatchOption}
use Rattle.std.specs.List.{find, All, AllByRecursion, AllPairs}
use Rattle.std.specs.Option.{option_map}
use Rattle.std.specs.Cmp.Lexicographic.{pointwise}
use Rattle.std.proofs.lemmas.Bool.{cases_Bool, lt-ltb, le-ltb}
use Rattle.std.proofs.lemmas.List.{append-nil, append_assoc, reverse-append, reverse-reverse, length-reverse, length-append, get_or_at}
use Rattle.std.proofs.lemmas.List.Elements.{filter-append, recursion_from_All}
use Rattle.std.proofs.lemmas.Slice.Eq.{bytes_eq-Decides}
use Rattle.lc_base.specs.declared.row.Row.{Row}
use Rattle.lc_base.specs.History.{IsLawful, StandsBefore, latest, is_version}
use Rattle.skip_links.specs.Links.{links, is_older}
use Rattle.skip_links.specs.Falling.{older_blocks}
use Rattle.skip_links.specs.Versions.{newest_index, index_in_reverse}
use Rattle.skip_links.proofs.Threads.{row_at}
use Rattle.skip_links.specs.Towers.{tower}
use Rattle.skip_links.specs.Paths.{path, path_over, blocks_of_key}
use Rattle.skip_links.proofs.PathTowers.{map_tower}
use Rattle.skip_links.proofs.OverRows.{links_tower, path_of_blocks}
use Rattle.skip_list.specs.entry_store.declared.entry.EntryId.{EntryId}
use Rattle.skip_list.specs.entry_store.declared.entry.Hop.{Hop}
use Rattle.skip_list.specs.Towered.{block_of, blocks_of, links_over}
use Rattle.skip_list.specs.Lookups.{latest_version}
use Rattle.lineage_index.specs.Versions.{versions_in_reverse, versions_of_key, newest_entry}

-- ---- blocks

blocks_in_reverse : (rows : List Row) (key : List ℕ) → blocks_of (versions_in_reverse rows key) ≡ map (λ (row : Row). row.block) (filter (λ (row : Row). pointwise ◌==◌ row.key key) rows)
blocks_in_reverse [] key = refl
blocks_in_reverse (row ∷ rows) key =
    let rest = blocks_in_reverse rows key in
    elim (cases_Bool (pointwise ◌==◌ row.key key)) [
      | inl e ↦ rw e (ap (λ (blocks : List ℕ). row.block ∷ blocks) rest)
      | inr e ↦ rw e rest
    ]

pub blocks_are : (rows : List Row) (key : List ℕ) → blocks_of (versions_of_key rows key) ≡ blocks_of_key rows key
unfolding versions_of_key
blocks_are rows key = blocks_in_reverse (reverse rows) key

pub path_of_versions : (rows : List Row) (key : List ℕ) (at : ℕ) → IsLawful rows → path rows key at ≡ path_over (blocks_of (versions_of_key rows key)) at
path_of_versions rows key at lawful = path_of_blocks rows key at lawful ∙ ap (λ (blocks : List ℕ). path_over blocks at) (sym (blocks_are rows key))

-- ---- the newest one

newest_in_reverse : (rows : List Row) (key : List ℕ)
    → option_map (λ (id : EntryId). id.0) (option_map (λ (version : Hop). version.id) (slice_get (versions_in_reverse rows key) 0)) ≡ index_in_reverse rows key
newest_in_reverse [] key = refl
newest_in_reverse (row ∷ rows) key = elim (cases_Bool (pointwise ◌==◌ row.key key)) [
  | inl e ↦ rw e refl
  | inr e ↦ rw e (newest_in_reverse rows key)
]

pub newest_is_index : (rows : List Row) (key : List ℕ) → option_map (λ (id : EntryId). id.0) (newest_entry rows key) ≡ newest_index rows key
unfolding versions_of_key newest_index
newest_is_index rows key = newest_in_reverse (reverse rows) key

-- ---- lookups

found_in_reverse : (rows rest : List Row) (key : List ℕ) (at : ℕ)
    → MatchOption (latest_version at (versions_in_reverse rows key)) (find (is_version key at) rows ≡ None)
    (λ (id : EntryId). slice_get (reverse rows ++ rest) id.0 ≡ find (is_version key at) rows)
found_in_reverse [] rest key at = refl
found_in_reverse (row ∷ rows) rest key at =
    let split : reverse (row ∷ rows) ++ rest ≡ reverse rows ++ row ∷ rest =
    ap (λ (all : List Row). all ++ rest) (reverse-append (row ∷ []) rows) ∙ append_assoc (reverse rows) (row ∷ []) rest in
    let deep = moved (reverse rows ++ row ∷ rest) (reverse (row ∷ rows) ++ rest) (latest_version at (versions_in_reverse rows key)) (find (is_version key at) rows) (sym split) (found_in_reverse rows (row ∷ rest) key at) in
    elim (cases_Bool (pointwise ◌==◌ row.key key)) [
      | inr e ↦ rw e deep
      | inl e ↦ elim (cases_Bool (nat_le row.block at)) [
        | inr f ↦ rw (e, f) deep
        | inl f ↦
            let here : slice_get (reverse rows ++ row ∷ rest) (length rows) ≡ Some row = rw (length-reverse rows) at (row_at (reverse rows) row rest) in
            rw (e, f) (ap (λ (all : List Row). slice_get all (length rows)) split ∙ here)
      ]
    ]
  where
    moved : (all others : List Row) (id : Option EntryId) (found : Option Row) → all ≡ others
        → MatchOption id (found ≡ None) (λ (i : EntryId). slice_get all i.0 ≡ found) → MatchOption id (found ≡ None) (λ (i : EntryId). slice_get others i.0 ≡ found)
    moved all others id found e h = rw (← e) h

pub lookup_latest : (rows : List Row) (key : List ℕ) (at : ℕ)
    → MatchOption (latest_version at (versions_of_key rows key)) (latest rows key at ≡ None) (λ (id : EntryId). slice_get rows id.0 ≡ latest rows key at)
unfolding versions_of_key
lookup_latest rows key at = moved (reverse (reverse rows) ++ []) rows (append-nil (reverse (reverse rows)) ∙ reverse-reverse rows) (found_in_reverse (reverse rows) [] key at)
  where
    moved : (all others : List Row) → all ≡ others
        → MatchOption (latest_version at (versions_in_reverse (reverse rows) key)) (latest rows key at ≡ None) (λ (i : EntryId). slice_get all i.0 ≡ latest rows key at)
        → MatchOption (latest_version at (versions_in_reverse (reverse rows) key)) (latest rows key at ≡ None) (λ (i : EntryId). slice_get others i.0 ≡ latest rows key at)
    moved all others e h = rw (← e) h

-- ---- the versions before a row are those of the rows before it

-- All rows before a row come before it, and it comes before all after it.
pub split_pairs : (before : List Row) (row : Row) (after : List Row) → AllPairs StandsBefore (before ++ row ∷ after)
    → AllByRecursion (λ (other : Row). StandsBefore other row) before × AllByRecursion (λ (other : Row). StandsBefore row other) after
split_pairs [] row after pairs = (tt, later after (λ j d l. pairs 0 (suc j) d (omega arith) (omega (arith, l))))
  where
    later : (others : List Row) → All (λ (other : Row). StandsBefore row other) others → AllByRecursion (λ (other : Row). StandsBefore row other) others
    later others all = recursion_from_All (λ (other : Row). StandsBefore row other) others all
split_pairs (first ∷ before) row after pairs =
    let deep = split_pairs before row after (λ i j d l k. pairs (suc i) (suc j) d (omega (arith, l)) (omega (arith, k))) in
    let one : StandsBefore first row =
    subst (StandsBefore first) (get_or_at before row after row (length before) refl) (pairs 0 (suc (length before)) row (omega arith) (omega (arith, length-append before (row ∷ after)))) in
    ((one, deep.0), deep.1)

older_before : (key : List ℕ) (row : Row) (rows : List Row) → row.key ≡ key → AllByRecursion (λ (other : Row). StandsBefore other row) rows
    → filter (is_older key row.block) rows ≡ filter (λ (other : Row). pointwise ◌==◌ other.key key) rows
older_before key row [] same all = refl
older_before key row (other ∷ rows) same all =
    let rest = older_before key row rows same all.1 in
    elim (cases_Bool (pointwise ◌==◌ other.key key)) [
      | inr e ↦ rw e rest
      | inl e ↦ rw (e, lt-ltb other.block row.block (lower all.0 ((bytes_eq-Decides other.key key).0 e))) (ap (λ (kept : List Row). other ∷ kept) rest)
    ]
  where
    lower : StandsBefore other row → other.key ≡ key → other.block < row.block
    lower (inl less) is = less
    lower (inr level) is = absurd (level.2 (is ∙ sym same))

none_after : (key : List ℕ) (row : Row) (rows : List Row) → AllByRecursion (λ (other : Row). StandsBefore row other) rows → filter (is_older key row.block) rows ≡ []
none_after key row [] all = refl
none_after key row (other ∷ rows) all =
    let rest = none_after key row rows all.1 in
    elim (cases_Bool (pointwise ◌==◌ other.key key)) [
      | inr e ↦ rw e rest
      | inl e ↦ rw (e, le-ltb other.block row.block (above all.0)) rest
    ]
  where
    above : StandsBefore row other → row.block ≤ other.block
    above (inl less) = omega (arith, less)
    above (inr level) = omega (arith, level.0)

all_reversed : (P : Row → Type 0) (rows : List Row) → AllByRecursion P rows → AllByRecursion P (reverse rows)
all_reversed P [] all = tt
all_reversed P (row ∷ rows) all = rw (reverse-append (row ∷ []) rows) (push (reverse rows) (all_reversed P rows all.1))
  where
    push : (others : List Row) → AllByRecursion P others → AllByRecursion P (others ++ row ∷ [])
    push [] each = (all.0, tt)
    push (other ∷ others) each = (each.0, push others each.1)

pub older_are_before : (before : List Row) (row : Row) (after : List Row) → AllPairs StandsBefore (before ++ row ∷ after)
    → older_blocks (before ++ row ∷ after) row.key row.block ≡ blocks_of_key before row.key
older_are_before before row after ordered =
    let pairs = split_pairs before row after ordered in
    let test = is_older row.key row.block in
    ap (map (λ (r : Row). r.block)) (
    ap (filter test) (reverse-append before (row ∷ after) ∙ ap (λ (rs : List Row). rs ++ reverse before) (reverse-append (row ∷ []) after))
    ∙ filter-append test (reverse after ++ row ∷ []) (reverse before)
    ∙ ap (λ (rs : List Row). rs ++ filter test (reverse before)) (filter-append test (reverse after) (row ∷ []) ∙ ap (λ (rs : List Row). rs ++ filter test (row ∷ [])) (none_after row.key row (reverse after) (all_reversed (λ (other : Row). StandsBefore row other) after pairs.1)) ∙ itself)
    ∙ older_before row.key row (reverse before) refl (all_reversed (λ (other : Row). StandsBefore other row) before pairs.0))
  where
    itself : filter (is_older row.key row.block) (row ∷ []) ≡ []
    itself = elim (cases_Bool (pointwise ◌==◌ row.key row.key)) [
      | inr e ↦ rw e refl
      | inl e ↦ rw (e, le-ltb row.block row.block (omega arith)) refl
    ]

pub links_of_row : (before after : List Row) (row : Row) → IsLawful (before ++ row ∷ after)
    → blocks_of (links_over row.block (versions_of_key before row.key)) ≡ links (before ++ row ∷ after) row.key row.block
links_of_row before after row lawful =
    map_tower block_of row.block (versions_of_key before row.key)
    ∙ ap (tower (λ (b : ℕ). b) row.block) (blocks_are before row.key ∙ sym (older_are_before before row after lawful.ordered))
    ∙ sym (links_tower (before ++ row ∷ after) row.key row.block lawful)
