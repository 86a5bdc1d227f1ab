-- The state of a leaf is the entry of its key, read from what is kept.
use Rattle.std.proofs.Common.{◌≡◌, ◌∙◌, ℕ, suc, ◌-◌, ◌<◌, List, [], length, map, get_or, Some, sym, ap, arith}
use Rattle.std.specs.Prelude.{slice_get}
use Rattle.std.specs.Option.{option_map}
use Rattle.std.proofs.lemmas.List.{length-map}
use Rattle.std.proofs.lemmas.Option.{slice_get_within, slice_get-get_or, get_or_from_slice_get}
use Rattle.lc_base.specs.declared.digest.Digest.{Digest}
use Rattle.lc_base.specs.declared.row.Row.{Row}
use Rattle.lc_base.specs.declared.row.Dep.{Dep}
use Rattle.lc_base.specs.History.{newest, uses}
use Rattle.entry_views.specs.prov_entry.ForwardLists.{uses_digest}
use Rattle.plain_rows.specs.root_laws.Naming.{uses_of, digest_of_uses, header_digest, header_of}
use Rattle.plain_rows.specs.root_laws.NamingLaws.{digest_of_row}
use Rattle.plain_rows.specs.root_laws.Root.{keys_of, block_of}
use Rattle.plain_rows.proofs.root_laws.Lists.{all_contained}
use Rattle.plain_rows.proofs.root_laws.Headers.{row_is_named, newest_has, newest_is_key}
use Rattle.forward_links.specs.declared.kept_list.KeptList.{KeptList}
use Rattle.forward_links.specs.declared.open_list.OpenList.{OpenList}
use Rattle.forward_links.specs.Lists.{Use, kept_of, open_of, versions_of}
use Rattle.skip_list.specs.entry_store.declared.entry.Facts.{Facts}
use Rattle.skip_list.specs.entry_store.Entries.{Entry as StoreEntry, facts_of}
use Rattle.lineage_index.proofs.StoreEntries.{row_facts, as_many}
use Rattle.lineage_index.specs.Growth.{Entry, entry_of}
use Rattle.lineage_index.specs.Heads.{newest_at, open_list}
use Rattle.lineage_index.specs.Settling.{IsStoreOf}
use Rattle.lineage_index.specs.Leaves.{IsLeafIndex, key_at, state_of_entry, state_of, AreBesideLeaves}
use Rattle.lineage_index.proofs.KeyLists.{value_at}
use Rattle.lineage_index.proofs.MarkedUses.{versions_at}
use Rattle.lineage_index.proofs.KeptStates.{index_among}
use Rattle.lineage_index.proofs.Settled.{row_there, index_there}

-- ---- what is read for the entry of a key

-- The index of the newest row of a key, with the row.
newest_read : (rows : List Row) (lists : List KeptList) (newest_rows : List ℕ)
    (entries : List StoreEntry) (key : List ℕ) (i at : ℕ)
    → AreBesideLeaves rows lists newest_rows entries → slice_get (keys_of rows) i ≡ Some key → slice_get newest_rows i ≡ Some at
    → (row : Row) × (newest rows key ≡ Some row) × (slice_get rows at ≡ Some row)
newest_read rows lists newest_rows entries key i at a place read =
    let is : at ≡ newest_at rows key = sym (get_or_from_slice_get newest_rows i at at read) ∙ ap (λ (is : List ℕ). get_or is i at) a.newest_are ∙ (value_at (newest_at rows) (keys_of rows) key i at place).1 in
    row_there rows key at (index_there rows key (index_among (keys_of rows) key i place) ∙ ap (λ (n : ℕ). Some n) (sym is))

digest_read : (rows : List Row) (entries : List StoreEntry) (key : List ℕ) (row : Row) → IsStoreOf rows entries → newest rows key ≡ Some row → digest_of_row rows row ≡ header_digest rows key row.block
digest_read rows entries key row store newest_is =
    let has = newest_has _ rows key row (all_contained rows) newest_is in
    let same : row.key ≡ key = newest_is_key rows key row newest_is in
    sym (ap (λ (k : List ℕ). header_digest rows k row.block) (sym same) ∙ row_is_named rows row (suc row.block) store.lawful has (omega arith))

-- ---- the state of a leaf

entry_is : (rows : List Row) (key : List ℕ) (row : Row) (block : ℕ) (digest : Digest)
    (list : List Dep) (count : ℕ) (list_digest : Digest) → newest rows key ≡ Some row
    → block ≡ row.block → digest ≡ header_digest rows key row.block → list ≡ uses_of rows key
    (newest rows key)
    → count ≡ length list → list_digest.0 ≡ uses_digest list → record { newest_block = block; newest = digest; open_count = count; open_digest = list_digest } ≡ entry_of rows key
entry_is rows key row block digest list count list_digest newest_is block_is digest_is list_is count_is list_digest_is =
    let listed : list ≡ uses rows key row.block = list_is ∙ ap (uses_of rows key) newest_is in
    let count_all : count ≡ length (uses rows key row.block) = count_is ∙ ap length listed in
    let digest_all : list_digest ≡ digest_of_uses (uses rows key row.block) = ap (λ (x : List ℕ). let d : Digest = record { 0 = x } in d) list_digest_is ∙ ap digest_of_uses listed in
    parts block row.block digest (header_digest rows key row.block) count (length (uses rows key row.block)) list_digest (digest_of_uses (uses rows key row.block)) block_is digest_is count_all digest_all
    ∙ sym (ap (at_block rows key) (ap block_of newest_is))
  where
    at_block : List Row → List ℕ → ℕ → Entry
    at_block rows key block = record { newest_block = block; newest = header_digest rows key block; open_count = length (uses rows key block); open_digest = digest_of_uses (uses rows key block) }

    parts : (a b : ℕ) (c d : Digest) (e f : ℕ) (g h : Digest) → a ≡ b → c ≡ d → e ≡ f → g ≡ h → (let x : Entry = record { newest_block = a; newest = c; open_count = e; open_digest = g } in x) ≡ record { newest_block = b; newest = d; open_count = f; open_digest = h }
    parts a b c d e f g h p q r s = cc

-- The key of a leaf is at the index one below the leaf's.
pub key_there : (keys : List (List ℕ)) (index : ℕ) → IsLeafIndex keys index → slice_get keys (index - 1) ≡ Some (key_at keys index)
key_there keys index at = slice_get-get_or keys (index - 1) [] (omega (arith, at))

-- The state of the leaf is the entry of its key.
pub state_told : (rows : List Row) (lists : List KeptList) (newest_rows : List ℕ)
    (entries : List StoreEntry) (index at : ℕ) (facts : Facts) (kept : OpenList)
    → AreBesideLeaves rows lists newest_rows entries → IsLeafIndex (keys_of rows) index → slice_get newest_rows (index - 1) ≡ Some at
    → option_map (λ (entry : StoreEntry). entry.facts) (slice_get entries at) ≡ Some facts
    → kept ≡ open_of (get_or (map (open_list rows) (keys_of rows)) (index - 1) [])
    → record { index = index; newest_block = facts.block; newest = facts.digest; open_count = kept.count; open_digest = kept.digest } ≡ state_of rows index
state_told rows lists newest_rows entries index at facts kept a within read facts_read kept_is =
    let keys = keys_of rows in
    let i = index - 1 in
    let key = key_at keys index in
    let place = key_there keys index within in
    let row = newest_read rows lists newest_rows entries key i at a place read in
    let there = value_at (open_list rows) keys key i [] place in
    let is : kept ≡ open_of (open_list rows key) = kept_is ∙ ap open_of there.1 in
    let list : List Use = open_list rows key in
    let many : kept.count ≡ length (versions_of list) = ap (λ (one : OpenList). one.count) is
    ∙ sym (length-map list (λ (u : Use). u.version)) in
    let says : facts ≡ facts_of (header_of rows row.0) = row_facts entries rows at row.0 facts a.store.entries_are row.2 facts_read in
    ap (state_of_entry (keys_of rows) index) (entry_is rows key row.0 facts.block facts.digest
    (versions_of list) kept.count kept.digest row.1
    (ap (λ (f : Facts). f.block) says) (ap (λ (f : Facts). f.digest) says
    ∙ digest_read rows entries key row.0 a.store row.1) (versions_at rows key
    (newest rows key)) many (ap (λ (one : OpenList). one.digest.0) is))

-- What is read for a leaf is within the lists.
pub read_within : (rows : List Row) (lists : List KeptList) (newest_rows : List ℕ)
    (entries : List StoreEntry) (index : ℕ)
    → AreBesideLeaves rows lists newest_rows entries → IsLeafIndex (keys_of rows) index → (index - 1 < length newest_rows) × (index - 1 < length lists)
read_within rows lists newest_rows entries index a within = (
  omega (arith, within, ap length a.newest_are, length-map (keys_of rows) (newest_at rows)),
  omega (
    arith,
    within,
    ap length a.lists_are,
    length-map (map (open_list rows)
        (keys_of rows)) kept_of,
    length-map (keys_of rows) (open_list rows),
  ),
)

pub row_within : (rows : List Row) (lists : List KeptList) (newest_rows : List ℕ)
    (entries : List StoreEntry) (index at : ℕ)
    → AreBesideLeaves rows lists newest_rows entries → IsLeafIndex (keys_of rows) index → slice_get newest_rows (index - 1) ≡ Some at → at < length entries
row_within rows lists newest_rows entries index at a within read =
    let row = newest_read rows lists newest_rows entries (key_at (keys_of rows) index) (index - 1) at a (key_there (keys_of rows) index within) read in
    let below = slice_get_within rows at row.0 row.2 in
    omega (arith, below, ap length a.store.entries_are, as_many rows [] rows)
