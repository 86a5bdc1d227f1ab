-- The entries of a history: their links and keys, with one row more, the first of them, and after later
-- blocks.
use Rattle.std.proofs.Common.{◌≡◌, ◌∙◌, ℕ, zero, suc, ◌<◌, ◌≤◌, List, [], ◌∷◌, ◌++◌, length, map, take, Some, refl, sym, ap, arith}
use Rattle.std.specs.Prelude.{slice_get}
use Rattle.std.specs.List.{All, AllByRecursion, concat}
use Rattle.std.specs.Option.{option_map}
use Rattle.std.proofs.lemmas.List.{append-nil, append_assoc}
use Rattle.std.proofs.lemmas.List.Elements.{recursion_from_All, All-from_recursion}
use Rattle.std.proofs.lemmas.Option.{none-some, same_Some}
use Rattle.lc_base.specs.declared.digest.Digest.{Digest}
use Rattle.lc_base.specs.declared.row.Row.{Row}
use Rattle.lc_base.specs.History.{IsLawful}
use Rattle.entry_views.specs.prov_entry.declared.entry.Header.{Header}
use Rattle.entry_views.specs.prov_entry.declared.entry.Body.{Body}
use Rattle.entry_views.specs.prov_entry.Spelling.{body_fields}
use Rattle.plain_rows.specs.root_laws.Naming.{header_of, body_of}
use Rattle.plain_rows.specs.root_laws.NamingLaws.{digest_of_row}
use Rattle.plain_rows.specs.root_laws.GrowthLaws.{AreFrom}
use Rattle.plain_rows.proofs.root_laws.Growing.{earlier_headers_stay}
use Rattle.plain_rows.proofs.root_laws.Lists.{all_weaker}
use Rattle.skip_list.specs.entry_store.declared.entry.Facts.{Facts}
use Rattle.skip_list.specs.entry_store.declared.entry.Links.{Links}
use Rattle.skip_list.specs.entry_store.Entries.{Entry, entry_digest, facts_of}
use Rattle.skip_list.specs.Towered.{AreVersions}
use Rattle.lineage_index.specs.Versions.{versions_of_key, newest_entry, links_after}
use Rattle.lineage_index.specs.Entries.{entry_for, entries_after, entries_of}
use Rattle.lineage_index.proofs.Links.{HaveLinksOf, all_links_after, ordered_towered}

-- ---- links and keys

links_are : (all before rows : List Row) → map (λ (entry : Entry). entry.links) (entries_after all before rows) ≡ all_links_after before rows
unfolding entries_after
links_are all before [] = refl
links_are all before (row ∷ rows) = ap (λ (links : List Links). links_after before row ∷ links) (links_are all (before ++ row ∷ []) rows)

keys_are : (all before rows : List Row) → map (λ (entry : Entry). entry.facts.key) (entries_after all before rows) ≡ map (λ (row : Row). row.key) rows
unfolding entries_after
keys_are all before [] = refl
keys_are all before (row ∷ rows) = ap (λ (keys : List (List ℕ)). row.key ∷ keys) (keys_are all (before ++ row ∷ []) rows)

pub have_links : (all rows : List Row) → HaveLinksOf rows (entries_of all rows)
have_links all rows = record { links = links_are all [] rows; keys = keys_are all [] rows }

pub all_towered : (all rows : List Row) (key : List ℕ) → IsLawful rows → AreVersions (entries_of all rows) (newest_entry rows key) (versions_of_key rows key)
all_towered all rows key lawful = ordered_towered rows (entries_of all rows) key lawful.ordered (have_links all rows)

pub as_many : (all before rows : List Row) → length (entries_after all before rows) ≡ length rows
unfolding entries_after
as_many all before [] = refl
as_many all before (row ∷ rows) = ap suc (as_many all (before ++ row ∷ []) rows)

-- ---- digests

pub digest_at : (all before rows : List Row) (index : ℕ) (row : Row) → slice_get rows index ≡ Some row → entry_digest (slice_get (entries_after all before rows) index) ≡ digest_of_row all row
unfolding entries_after
digest_at all before [] index row at = absurd (none-some row at)
digest_at all before (first ∷ rows) zero row at = ap (digest_of_row all) (same_Some first row at)
digest_at all before (first ∷ rows) (suc index) row at = digest_at all (before ++ first ∷ []) rows index row at

pub facts_at : (all before rows : List Row) (index : ℕ) (row : Row) → slice_get rows index ≡ Some row
    → option_map (λ (entry : Entry). entry.facts) (slice_get (entries_after all before rows) index) ≡ Some (facts_of (header_of all row))
unfolding entries_after
facts_at all before [] index row at = absurd (none-some row at)
facts_at all before (first ∷ rows) zero row at = ap (λ (r : Row). Some (facts_of (header_of all r))) (same_Some first row at)
facts_at all before (first ∷ rows) (suc index) row at = facts_at all (before ++ first ∷ []) rows index row at

-- What is read of the entry at the index of a row is what its header says.
pub row_facts : (entries : List Entry) (rows : List Row) (index : ℕ) (row : Row) (facts : Facts) → entries ≡ entries_of rows rows → slice_get rows index ≡ Some row
    → option_map (λ (entry : Entry). entry.facts) (slice_get entries index) ≡ Some facts → facts ≡ facts_of (header_of rows row)
row_facts entries rows index row facts are at read =
    same_Some facts (facts_of (header_of rows row))
    (sym read ∙ ap (λ (es : List Entry). option_map (λ (entry : Entry). entry.facts) (slice_get es index)) are ∙ facts_at rows [] rows index row at)

pub digests_are : (all before rows : List Row) → map (λ (entry : Entry). entry.facts.digest) (entries_after all before rows) ≡ map (digest_of_row all) rows
unfolding entries_after
digests_are all before [] = refl
digests_are all before (row ∷ rows) = ap (λ (digests : List Digest). digest_of_row all row ∷ digests) (digests_are all (before ++ row ∷ []) rows)

-- ---- one row more

entries_more : (all before rows : List Row) (row : Row) → entries_after all before (rows ++ row ∷ []) ≡ entries_after all before rows ++ entry_for all (before ++ rows) row ∷ []
unfolding entries_after
entries_more all before [] row = ap (λ (rows : List Row). entry_for all rows row ∷ []) (sym (append-nil before))
entries_more all before (first ∷ rows) row =
    ap (λ (entries : List Entry). entry_for all before first ∷ entries)
    (entries_more all (before ++ first ∷ []) rows row
    ∙ ap (λ (others : List Row). entries_after all (before ++ first ∷ []) rows ++ entry_for all others row ∷ []) (append_assoc before (first ∷ []) rows))

pub with_row : (all rows : List Row) (row : Row) → entries_of all (rows ++ row ∷ []) ≡ entries_of all rows ++ entry_for all rows row ∷ []
with_row all rows row = entries_more all [] rows row

-- ---- the first entries

taken : (n : ℕ) (all before rows : List Row) → take n (entries_after all before rows) ≡ entries_after all before (take n rows)
unfolding entries_after
taken zero all before rows = refl
taken (suc n) all before [] = refl
taken (suc n) all before (row ∷ rows) = ap (λ (entries : List Entry). entry_for all before row ∷ entries) (taken n all (before ++ row ∷ []) rows)

pub front_entries : (all rows : List Row) (n : ℕ) → take n (entries_of all rows) ≡ entries_of all (take n rows)
front_entries all rows n = taken n all [] rows

-- ---- after later blocks

-- The entry of a row with this header and body.
abbrev entry_with : List Row → Row → Header → Body → Entry
entry_with before row header body = record {
  links = links_after before row;
  facts = facts_of header;
  body = concat (body_fields body);
}

entry_stays : (all more before : List Row) (row : Row) → AreFrom (suc row.block) more → entry_for (all ++ more) before row ≡ entry_for all before row
entry_stays all more before row from =
    let stay = earlier_headers_stay all more row from in
    ap (λ (header : Header). entry_with before row header (body_of (all ++ more) row)) stay.0
    ∙ ap (entry_with before row (header_of all row)) stay.1

later : (more : List Row) (n block : ℕ) → AreFrom n more → block < n → AreFrom (suc block) more
later more n block from less = All-from_recursion (λ (row : Row). suc block ≤ row.block) more
    (all_weaker (λ (row : Row). n ≤ row.block) (λ (row : Row). suc block ≤ row.block) (λ row high. omega (arith, high, less)) more (recursion_from_All (λ (row : Row). n ≤ row.block) more from))

all_stay : (all more before rows : List Row) (n : ℕ) → AllByRecursion (λ (row : Row). row.block < n) rows → AreFrom n more → entries_after (all ++ more) before rows ≡ entries_after all before rows
unfolding entries_after
all_stay all more before [] n low from = refl
all_stay all more before (row ∷ rows) n low from =
    ap (λ (entry : Entry). entry ∷ entries_after (all ++ more) (before ++ row ∷ []) rows) (entry_stays all more before row (later more n row.block from low.0))
    ∙ ap (λ (entries : List Entry). entry_for all before row ∷ entries) (all_stay all more (before ++ row ∷ []) rows n low.1 from)

pub entries_stay : (all more rows : List Row) (n : ℕ) → All (λ (row : Row). row.block < n) rows → AreFrom n more → entries_of (all ++ more) rows ≡ entries_of all rows
entries_stay all more rows n low from = all_stay all more [] rows n (recursion_from_All (λ (row : Row). row.block < n) rows low) from

take_front : {A : Type 0} (xs ys : List A) → take (length xs) (xs ++ ys) ≡ xs
take_front [] ys = refl
take_front {A = A} (x ∷ xs) ys = ap (λ (rest : List A). x ∷ rest) (take_front xs ys)

pub earlier_entries : (rows more : List Row) (n : ℕ) → All (λ (row : Row). row.block < n) rows → AreFrom n more → take (length rows) (entries_of (rows ++ more) (rows ++ more)) ≡ entries_of rows rows
earlier_entries rows more n low from =
    front_entries (rows ++ more) (rows ++ more) (length rows) ∙ ap (entries_of (rows ++ more)) (take_front rows more) ∙ entries_stay rows more rows n low from
