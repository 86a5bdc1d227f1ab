-- The header that is made again from an entry is that of its row.
use Rattle.std.proofs.Common.{◌≡◌, ◌∙◌, ℕ, zero, suc, List, [], ◌∷◌, ◌++◌, length, map, Option, Some, None, refl, sym, ap, subst}
use Rattle.std.specs.Prelude.{slice_get}
use Rattle.std.specs.Option.{option_map}
use Rattle.std.proofs.lemmas.List.{append_assoc, append-nil}
use Rattle.std.proofs.lemmas.Option.{none-some, same_Some, slice_get_within}
use Rattle.lc_base.specs.declared.row.Row.{Row}
use Rattle.lc_base.specs.History.{IsLawful}
use Rattle.entry_views.specs.prov_entry.declared.entry.Header.{Header}
use Rattle.entry_views.specs.prov_entry.declared.entry.Link.{Link}
use Rattle.plain_rows.specs.root_laws.Naming.{header_of}
use Rattle.skip_list.specs.entry_store.declared.entry.Facts.{Facts}
use Rattle.skip_list.specs.entry_store.declared.entry.Links.{Links}
use Rattle.skip_list.specs.entry_store.Entries.{Entry, named_link}
use Rattle.skip_list.proofs.entry_store.Entries.{get_front}
use Rattle.lineage_index.specs.Entries.{entry_for, entries_after, entries_of}
use Rattle.lineage_index.specs.Headers.{header_made}
use Rattle.lineage_index.proofs.NextEntries.{HasRowsOf, header_links}

-- ---- what is read

-- The header with these facts and links.
abbrev pub header_with : Facts → List Link → Header
header_with facts links = record {
  key = facts.key;
  block = facts.block;
  tx = facts.tx;
  body = facts.body;
  closed = facts.closed;
  closed_digest = facts.closed_digest;
  links = links;
}

pub made_is : (entries : List Entry) (entry : Option Entry) (facts : Facts) (links : Links) (named : List Link) → option_map (λ (e : Entry). e.facts) entry ≡ Some facts
    → option_map (λ (e : Entry). e.links) entry ≡ Some links → named ≡ map (named_link entries) links.hops → option_map (header_made entries) entry ≡ Some (header_with facts named)
made_is entries None facts links named read there are = absurd (none-some facts read)
made_is entries (Some entry) facts links named read there are =
    ap (λ (f : Facts). Some (header_with f (map (named_link entries) entry.links.hops))) (same_Some entry.facts facts read)
    ∙ ap (λ (l : Links). Some (header_with facts (map (named_link entries) l.hops))) (same_Some entry.links links there)
    ∙ ap (λ (ls : List Link). Some (header_with facts ls)) (sym are)

-- ---- in a history

split_at : {A : Type 0} (xs : List A) (i : ℕ) (x : A) → slice_get xs i ≡ Some x → (before : List A) × (after : List A) × (xs ≡ before ++ x ∷ after) × (length before ≡ i)
split_at [] i x at = absurd (none-some x at)
split_at {A = A} (y ∷ xs) zero x at = ([], xs, ap (λ (z : A). z ∷ xs) (same_Some y x at), refl)
split_at {A = A} (y ∷ xs) (suc i) x at =
    let deep = split_at xs i x at in
    (y ∷ deep.0, deep.1, ap (λ (rest : List A). y ∷ rest) deep.2, ap suc deep.3)

entry_at : (all start before : List Row) (row : Row) (after : List Row) → slice_get (entries_after all start (before ++ row ∷ after)) (length before) ≡ Some (entry_for all (start ++ before) row)
unfolding entries_after
entry_at all start [] row after = ap (λ (rows : List Row). Some (entry_for all rows row)) (sym (append-nil start))
entry_at all start (first ∷ before) row after =
    entry_at all (start ++ first ∷ []) before row after ∙ ap (λ (rows : List Row). Some (entry_for all rows row)) (append_assoc start (first ∷ []) before)

begins_with : (before more : List Row) → HasRowsOf (before ++ more) before
begins_with before more index row at = get_front before more index (slice_get_within before index row at) ∙ at

made_of : (before : List Row) (row : Row) (after : List Row) → IsLawful (before ++ row ∷ after)
    → header_made (entries_of (before ++ row ∷ after) (before ++ row ∷ after)) (entry_for (before ++ row ∷ after) before row) ≡ header_of (before ++ row ∷ after) row
made_of before row after lawful =
    let all = before ++ row ∷ after in
    rw (header_links all before row after all lawful refl (begins_with before (row ∷ after))) refl

pub made_again : (rows : List Row) (index : ℕ) (row : Row) → IsLawful rows → slice_get rows index ≡ Some row
    → option_map (header_made (entries_of rows rows)) (slice_get (entries_of rows rows) index) ≡ Some (header_of rows row)
made_again rows index row lawful at =
    let split = split_at rows index row at in
    let before = split.0 in
    let after = split.1 in
    let P : List Row → Type 0 = λ (all : List Row). IsLawful all → option_map (header_made (entries_of all all)) (slice_get (entries_of all all) (length before)) ≡ Some (header_of all row) in
    let there : P (before ++ row ∷ after) = λ lawful.
    ap (option_map (header_made (entries_of (before ++ row ∷ after) (before ++ row ∷ after)))) (entry_at (before ++ row ∷ after) [] before row after)
    ∙ ap Some (made_of before row after lawful) in
    rw (← split.3) (subst P (sym split.2) there lawful)

pub row_header : (entries : List Entry) (rows : List Row) (index : ℕ) (row : Row) (header : Header) → IsLawful rows → entries ≡ entries_of rows rows → slice_get rows index ≡ Some row
    → option_map (header_made entries) (slice_get entries index) ≡ Some header → header ≡ header_of rows row
row_header entries rows index row header lawful are at made =
    let same : option_map (header_made (entries_of rows rows)) (slice_get (entries_of rows rows) index) ≡ Some header =
    subst (λ (es : List Entry). option_map (header_made es) (slice_get es index) ≡ Some header) are made in
    same_Some header (header_of rows row) (sym same ∙ made_again rows index row lawful at)
