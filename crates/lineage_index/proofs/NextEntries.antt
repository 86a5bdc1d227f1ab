-- The entry that is pushed for the next row is the one that is defined over the history.
use Rattle.std.proofs.Common.{◌≡◌, ◌∙◌, ℕ, zero, suc, ◌<◌, List, [], ◌∷◌, ◌++◌, length, map, get_or, Option, Some, None, refl, sym, ap, subst, arith}
use Rattle.std.specs.Prelude.{slice_get, IsSomeAnd}
use Rattle.std.proofs.lemmas.List.{get_or_append_left, length-append, append_assoc}
use Rattle.std.proofs.lemmas.Option.{none-some, same_Some}
use Rattle.std.specs.List.{All, AllByRecursion, AllPairs, Contains, concat}
use Rattle.lc_base.specs.declared.digest.Digest.{Digest}
use Rattle.lc_base.specs.declared.limits.TheConstants.{MAX_ROWS}
use Rattle.lc_base.specs.declared.row.Row.{Row}
use Rattle.lc_base.specs.History.{IsLawful, StandsBefore, up_to}
use Rattle.skip_links.specs.Links.{links}
use Rattle.skip_links.proofs.Falls.{all_lower}
use Rattle.skip_links.proofs.Towers.{links_up_to}
use Rattle.skip_links.proofs.PathTowers.{tower_holds}
use Rattle.entry_views.specs.prov_entry.declared.entry.Header.{Header}
use Rattle.entry_views.specs.prov_entry.declared.entry.Link.{Link}
use Rattle.entry_views.specs.prov_entry.Spelling.{body_fields}
use Rattle.plain_rows.specs.root_laws.Naming.{closed_uses, digest_of_uses, digest_among, link_among}
use Rattle.plain_rows.specs.root_laws.Naming.{named_before, header_of, body_of}
use Rattle.plain_rows.specs.root_laws.NamingLaws.{digest_of_row}
use Rattle.plain_rows.proofs.root_laws.Headers.{row_is_named}
use Rattle.plain_rows.proofs.root_laws.Lists.{all_contained, all_front, all_both}
use Rattle.skip_list.specs.entry_store.declared.entry.EntryId.{EntryId}
use Rattle.skip_list.specs.entry_store.declared.entry.Hop.{Hop}
use Rattle.skip_list.specs.entry_store.Entries.{Entry, LeadsBack, entry_digest, facts_of, named_link, new_header, new_entry}
use Rattle.skip_list.specs.Towered.{block_of, blocks_of, links_over, AreVersions, AreOlder}
use Rattle.lineage_index.specs.declared.growing.NewVersion.{NewVersion}
use Rattle.lineage_index.specs.Versions.{versions_of_key, links_after}
use Rattle.lineage_index.specs.Entries.{entry_for, entries_of}
use Rattle.lineage_index.specs.Growing.{IsNextVersion}
use Rattle.lineage_index.proofs.Versions.{links_of_row}
use Rattle.lineage_index.proofs.Links.{ordered_towered}
use Rattle.lineage_index.proofs.Hops.{HasRow, have_rows, are_before, links_lead_back}
use Rattle.lineage_index.proofs.StoreEntries.{have_links, as_many, digest_at, with_row}

-- ---- the rows before are in order, too

front_ordered : (rows more : List Row) → AllPairs StandsBefore (rows ++ more) → AllPairs StandsBefore rows
front_ordered rows more ordered i j d less within =
    subst (λ (other : Row). StandsBefore (get_or rows i d) other) (get_or_append_left rows more d j within)
    (subst (λ (first : Row). StandsBefore first (get_or (rows ++ more) j d)) (get_or_append_left rows more d i (omega (arith, less, within)))
    (ordered i j d less (omega (arith, within, length-append rows more))))

ordered_with : (all rows : List Row) (row : Row) (after : List Row) → IsLawful all → all ≡ rows ++ row ∷ after → AllPairs StandsBefore (rows ++ row ∷ [])
ordered_with all rows row after lawful first =
    front_ordered (rows ++ row ∷ []) after (subst (AllPairs StandsBefore) (first ∙ sym (append_assoc rows (row ∷ []) after)) lawful.ordered)

ordered_before : (all rows : List Row) (row : Row) (after : List Row) → IsLawful all → all ≡ rows ++ row ∷ after → AllPairs StandsBefore rows
ordered_before all rows row after lawful first = front_ordered rows (row ∷ after) (subst (AllPairs StandsBefore) first lawful.ordered)

-- ---- the links of the header are those of the hops

at_holds : {A : Type 0} (P : A → Type 0) (xs : List A) (i : ℕ) (x : A) → AllByRecursion P xs → slice_get xs i ≡ Some x → P x
at_holds P [] i x holds at = absurd (none-some x at)
at_holds P (y ∷ xs) zero x holds at = subst P (same_Some y x at) holds.0
at_holds P (y ∷ xs) (suc i) x holds at = at_holds P xs i x holds.1 at

has_row : (rows : List Row) (key : List ℕ) (hop : Hop) → HasRow rows key hop → (row : Row) × (slice_get rows hop.id.0 ≡ Some row) × (row.key ≡ key) × (row.block ≡ hop.block)
has_row rows key hop has = on (slice_get rows hop.id.0) refl has
  where
    on : (o : Option Row) → slice_get rows hop.id.0 ≡ o → IsSomeAnd o (λ (row : Row). (row.key ≡ key) × (row.block ≡ hop.block))
        → (row : Row) × (slice_get rows hop.id.0 ≡ Some row) × (row.key ≡ key) × (row.block ≡ hop.block)
    on None at is = absurd is
    on (Some row) at is = (row, at, is.0, is.1)

-- These rows begin with those.
abbrev pub HasRowsOf : List Row → List Row → Type 0
HasRowsOf others rows = (index : ℕ) (row : Row) → slice_get rows index ≡ Some row → slice_get others index ≡ Some row

-- A hop leads to the digest by which later texts name its row.
hop_digest : (all rows : List Row) (row : Row) (after others : List Row) (hop : Hop) → IsLawful all → all ≡ rows ++ row ∷ after → HasRowsOf others rows → HasRow rows row.key hop → hop.block < row.block
    → named_link (entries_of all others) hop ≡ link_among (named_before all row.block) row.key hop.block
hop_digest all rows row after others hop lawful first have has less =
    let found = has_row rows row.key hop has in
    let older = found.0 in
    let inside : AllByRecursion (Contains all) rows = all_front (Contains all) rows (row ∷ after) (subst (λ (others : List Row). AllByRecursion (Contains all) others) first (all_contained all)) in
    let there : Contains all older = at_holds (Contains all) rows hop.id.0 older inside found.1 in
    let block : older.block ≡ hop.block = found.3 in
    let named : digest_among (named_before all row.block) older.key older.block ≡ digest_of_row all older = row_is_named all older row.block lawful there (omega (arith, less, block)) in
    let digest : entry_digest (slice_get (entries_of all others) hop.id.0) ≡ digest_among (named_before all row.block) row.key hop.block =
    digest_at all [] others hop.id.0 older (have hop.id.0 older found.1) ∙ sym named
    ∙ ap (λ (key : List ℕ). digest_among (named_before all row.block) key older.block) found.2
    ∙ ap (digest_among (named_before all row.block) row.key) block in
    ap (λ (d : Digest). let l : Link = record { block = hop.block; digest = d } in l) digest

abbrev Leads : List Row → Row → Hop → Type 0
Leads rows row hop = HasRow rows row.key hop × (hop.block < row.block)

lower_versions : (block : ℕ) (versions : List Hop) → AllByRecursion (λ (b : ℕ). b < block) (blocks_of versions) → AllByRecursion (λ (hop : Hop). hop.block < block) versions
lower_versions block [] low = tt
lower_versions block (version ∷ versions) low = (low.0, lower_versions block versions low.1)

all_named : (all rows : List Row) (row : Row) (after others : List Row) (hops : List Hop) → IsLawful all → all ≡ rows ++ row ∷ after → HasRowsOf others rows → AllByRecursion (Leads rows row) hops
    → map (named_link (entries_of all others)) hops ≡ map (link_among (named_before all row.block) row.key) (blocks_of hops)
all_named all rows row after others [] lawful first have leads = refl
all_named all rows row after others (hop ∷ hops) lawful first have leads =
    ap (λ (link : Link). link ∷ map (named_link (entries_of all others)) hops) (hop_digest all rows row after others hop lawful first have leads.0.0 leads.0.1)
    ∙ ap (λ (links : List Link). link_among (named_before all row.block) row.key hop.block ∷ links) (all_named all rows row after others hops lawful first have leads.1)

pub header_links : (all rows : List Row) (row : Row) (after others : List Row) → IsLawful all → all ≡ rows ++ row ∷ after → HasRowsOf others rows
    → map (named_link (entries_of all others)) (links_over row.block (versions_of_key rows row.key))
    ≡ map (link_among (named_before all row.block) row.key) (links (up_to all row.block) row.key row.block)
header_links all rows row after others lawful first have =
    let versions = versions_of_key rows row.key in
    let hops = links_over row.block versions in
    let before = are_before rows row (ordered_with all rows row after lawful first) in
    let leads : AllByRecursion (Leads rows row) versions =
    all_both (HasRow rows row.key) (λ (hop : Hop). hop.block < row.block) versions (have_rows rows row.key) (lower_versions row.block versions (all_lower row.block (blocks_of versions) before)) in
    let blocks : blocks_of hops ≡ links all row.key row.block =
    links_of_row rows after row (subst IsLawful first lawful) ∙ ap (λ (others : List Row). links others row.key row.block) (sym first) in
    all_named all rows row after others hops lawful first have (tower_holds block_of (Leads rows row) row.block versions leads)
    ∙ ap (map (link_among (named_before all row.block) row.key)) (blocks ∙ sym (links_up_to all row.key row.block))

-- ---- the new entry

pub next_towered : (all rows : List Row) (row : Row) (newest : Option EntryId) (entries : List Entry) (version : NewVersion) (body : List ℕ) → IsNextVersion all rows row newest entries version body
    → AreVersions entries newest (versions_of_key rows row.key)
next_towered all rows row newest entries version body next =
    rw (next.newest_is, next.entries_are) (ordered_towered rows (entries_of all rows) row.key (ordered_before all rows row next.after next.lawful next.first) (have_links all rows))

pub next_before : (all rows : List Row) (row : Row) (newest : Option EntryId) (entries : List Entry) (version : NewVersion) (body : List ℕ) → IsNextVersion all rows row newest entries version body
    → AreOlder version.block (versions_of_key rows row.key)
next_before all rows row newest entries version body next = rw next.block_is (are_before rows row (ordered_with all rows row next.after next.lawful next.first))

pub next_room : (all rows : List Row) (row : Row) (newest : Option EntryId) (entries : List Entry) (version : NewVersion) (body : List ℕ) → IsNextVersion all rows row newest entries version body
    → length entries < MAX_ROWS
next_room all rows row newest entries version body next =
    let many : length entries ≡ length rows = ap length next.entries_are ∙ as_many all [] rows in
    let long : length all ≡ length (rows ++ row ∷ next.after) = ap length next.first in
    omega (arith, many, long, length-append rows (row ∷ next.after), next.lawful.few)

-- The links of the next entry.
next_links : (all rows : List Row) (row : Row) (newest : Option EntryId) (entries : List Entry) (version : NewVersion) (body : List ℕ) (hops : List Hop) → IsNextVersion all rows row newest entries version body
    → hops ≡ links_over version.block (versions_of_key rows row.key) → hops ≡ links_over row.block (versions_of_key rows row.key)
next_links all rows row newest entries version body hops next are = are ∙ ap (λ (block : ℕ). links_over block (versions_of_key rows row.key)) next.block_is

pub next_back : (all rows : List Row) (row : Row) (newest : Option EntryId) (entries : List Entry) (version : NewVersion) (body : List ℕ) (hops : List Hop) → IsNextVersion all rows row newest entries version body
    → hops ≡ links_over version.block (versions_of_key rows row.key) → All (LeadsBack entries version.key version.block) hops
next_back all rows row newest entries version body hops next are =
    rw (next.entries_are, next.key_is, next.block_is, next_links all rows row newest entries version body hops next are)
    (links_lead_back rows row (entries_of all rows) (ordered_with all rows row next.after next.lawful next.first) (have_links all rows))

header_is : (all rows : List Row) (row : Row) (after : List Row) → IsLawful all → all ≡ rows ++ row ∷ after
    → new_header (entries_of all rows) row.key row.block row.tx (links_over row.block (versions_of_key rows row.key)) (length (closed_uses (up_to all row.block) row.key row.block))
    (digest_of_uses (closed_uses (up_to all row.block) row.key row.block)) (concat (body_fields (body_of all row)))
    ≡ header_of all row
header_is all rows row after lawful first = rw (header_links all rows row after rows lawful first (λ index older at. at)) refl

entry_is : (all rows : List Row) (row : Row) (after : List Row) → IsLawful all → all ≡ rows ++ row ∷ after
    → new_entry (entries_of all rows) row.key row.block row.tx (links_over row.block (versions_of_key rows row.key)) (length (closed_uses (up_to all row.block) row.key row.block))
    (digest_of_uses (closed_uses (up_to all row.block) row.key row.block)) (concat (body_fields (body_of all row)))
    ≡ entry_for all rows row
entry_is all rows row after lawful first =
    ap (λ (header : Header).
    let entry : Entry = record {
      links = links_after rows row;
      facts = facts_of header;
      body = concat (body_fields (body_of all row));
    } in
    entry)
    (header_is all rows row after lawful first)

new_is : (all rows : List Row) (row : Row) (newest : Option EntryId) (entries : List Entry) (version : NewVersion) (body : List ℕ) (hops : List Hop) → IsNextVersion all rows row newest entries version body
    → hops ≡ links_over version.block (versions_of_key rows row.key)
    → new_entry entries version.key version.block version.tx hops version.closed version.closed_digest body ≡ entry_for all rows row
new_is all rows row newest entries version body hops next are =
    let before = entries_of all rows in
    let versions = versions_of_key rows row.key in
    let uses = closed_uses (up_to all row.block) row.key row.block in
    ap (λ (es : List Entry). new_entry es version.key version.block version.tx hops version.closed version.closed_digest body) next.entries_are
    ∙ ap (λ (key : List ℕ). new_entry before key version.block version.tx hops version.closed version.closed_digest body) next.key_is
    ∙ ap (λ (block : ℕ). new_entry before row.key block version.tx hops version.closed version.closed_digest body) next.block_is
    ∙ ap (λ (tx : ℕ). new_entry before row.key row.block tx hops version.closed version.closed_digest body) next.tx_is
    ∙ ap (λ (hs : List Hop). new_entry before row.key row.block row.tx hs version.closed version.closed_digest body) (next_links all rows row newest entries version body hops next are)
    ∙ ap (λ (digest : Digest). new_entry before row.key row.block row.tx (links_over row.block versions) version.closed digest body) next.closed_digest_is
    ∙ ap (λ (count : ℕ). new_entry before row.key row.block row.tx (links_over row.block versions) count (digest_of_uses uses) body) next.closed_is
    ∙ ap (λ (bytes : List ℕ). new_entry before row.key row.block row.tx (links_over row.block versions) (length uses) (digest_of_uses uses) bytes) next.body_is
    ∙ entry_is all rows row next.after next.lawful next.first

pub next_entries : (all rows : List Row) (row : Row) (newest : Option EntryId) (entries : List Entry) (version : NewVersion) (body : List ℕ) (hops : List Hop) → IsNextVersion all rows row newest entries version body
    → hops ≡ links_over version.block (versions_of_key rows row.key)
    → entries ++ new_entry entries version.key version.block version.tx hops version.closed version.closed_digest body ∷ [] ≡ entries_of all (rows ++ row ∷ [])
next_entries all rows row newest entries version body hops next are =
    ap (λ (entry : Entry). entries ++ entry ∷ []) (new_is all rows row newest entries version body hops next are)
    ∙ ap (λ (others : List Entry). others ++ entry_for all rows row ∷ []) next.entries_are
    ∙ sym (with_row all rows row)
