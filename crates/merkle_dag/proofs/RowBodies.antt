-- The rows that are kept, and their bodies.
use Rattle.std.proofs.Common.{◌≡◌, ◌∙◌, ℕ, zero, suc, List, [], ◌∷◌, ◌++◌, length, map, Option}
use Rattle.std.proofs.Common.{Some, refl}
use Rattle.std.proofs.Common.{sym, ap, subst, rules, arith}
use Rattle.std.specs.Prelude.{slice_get}
use Rattle.std.specs.List.{All, concat}
use Rattle.std.specs.Option.{option_map}
use Rattle.std.proofs.lemmas.List.{length-map, map-append}
use Rattle.std.proofs.lemmas.Option.{none-some, same_Some, slice_get-map}
use Rattle.lc_base.specs.declared.digest.Digest.{Digest}
use Rattle.lc_base.specs.declared.row.Row.{Row}
use Rattle.body_store.specs.Bodies.{KeptBody, BodiesState, bodies_of, bodies_in, body_at_index}
use Rattle.lineage_rewind.specs.prov_entry.Spelling.{body_fields}
use Rattle.lineage_rewind.specs.root_laws.Naming.{body_of}
use Rattle.lineage_rewind.specs.entry_store.Entries.{Entry}
use Rattle.lineage_rewind.specs.lineage_index.Entries.{entries_after, entries_of}
use Rattle.lineage_rewind.specs.lineage_index.ReadBack.{rows_read}
use Rattle.lineage_rewind.proofs.lineage_index.StoreEntries.{as_many, entries_stay}
use Rattle.lineage_rewind.proofs.lineage_index.ReadBack.{rows_back}
use Rattle.lineage_rewind.specs.lineage_index.declared.index.LineageIndex.{LineageIndex}
use Rattle.lineage_rewind.specs.lineage_index.Index.{IsIndexOf}
use Rattle.lineage_rewind.specs.lineage_index.Growth.{Grows}
use Rattle.lineage_rewind.specs.root_laws.TypedLedger.{IsTypedRow}
use Rattle.lineage_rewind.proofs.root_laws.Spellings.{bodies_spelled}
use Rattle.merkle_dag.specs.Adding.{bytes_of}
use Rattle.merkle_dag.specs.Kept.{rows_kept, KeepsLineage}
use Rattle.merkle_dag.proofs.Keeping.{ledger_none, roots_none}

-- ---- no rows

no_entries : entries_of [] [] ≡ []
unfolding entries_after
no_entries = refl

pub rows_none : (index : LineageIndex) → IsIndexOf [] 0 index → rows_kept index ≡ []
unfolding rows_kept
rows_none index is = ap rows_read (is.store.entries_are ∙ no_entries)

pub keeps_none : (index : LineageIndex) (bodies : BodiesState) (digests : List Digest)
    (roots : List (Option Digest)) → IsIndexOf [] 0 index → bodies.kept ≡ [] → digests ≡ []
    → roots ≡ []
    → KeepsLineage (rows_kept index) index bodies digests roots
keeps_none index bodies digests roots is none no_digests no_roots = rw
    (rows_none index is, no_digests, no_roots) (record {
      ledger = ledger_none;
      typed = search rules;
      digests_fit = search rules;
      index_is = is;
      bodies_are = ap bodies_of none
          ∙ sym (ap (map (λ (entry : Entry). entry.body)) (is.store.entries_are ∙ no_entries));
      roots_are = roots_none;
    })

-- ---- the same of equal lists

pub keeps_at : (rows others : List Row) (index : LineageIndex)
    (bodies : BodiesState) (digests digests_after : List Digest)
    (roots roots_after : List (Option Digest))
    → others ≡ rows → digests_after ≡ digests → roots_after ≡ roots
    → KeepsLineage rows index bodies digests roots
    → KeepsLineage others index bodies digests_after roots_after
keeps_at rows others index bodies digests digests_after roots roots_after same same_digests
    same_roots keeps = rw (same, same_digests, same_roots) keeps

-- ---- the body of a row

body_there : (all before rows : List Row) (index : ℕ) (row : Row) → slice_get rows index ≡ Some row
    → option_map (λ (entry : Entry). entry.body) (slice_get (entries_after all before rows) index) ≡
    Some (concat (body_fields (body_of all row)))
unfolding entries_after
body_there all before [] index row at = absurd (none-some row at)
body_there all before (first ∷ rows) zero row at = ap
    (λ (r : Row). Some (concat (body_fields (body_of all r)))) (same_Some first row at)
body_there all before (first ∷ rows) (suc index) row at = body_there all (before ++ first ∷ []) rows
    index row at

-- as many bodies are kept as rows
pub as_many_bodies : (rows : List Row) (entries : List Entry) (bodies : BodiesState)
    → entries ≡ entries_of rows rows
    → bodies_in bodies ≡ map (λ (entry : Entry). entry.body) entries
    → length bodies.kept ≡ length rows
as_many_bodies rows entries bodies are is =
    sym (length-map bodies.kept (λ (one : KeptBody). one.body)) ∙ ap length is
    ∙ length-map entries (λ (entry : Entry). entry.body)
    ∙ ap length are ∙ as_many rows [] rows

-- the body that is kept at the index of a row is the row's
pub body_is : (rows : List Row) (entries : List Entry) (bodies : BodiesState) (index : ℕ)
    (row : Row) (bytes : List ℕ) → entries ≡ entries_of rows rows
    → bodies_in bodies ≡ map (λ (entry : Entry). entry.body) entries
    → slice_get rows index ≡ Some row
    → body_at_index bodies index ≡ Some bytes → bytes ≡ concat (body_fields (body_of rows row))
body_is rows entries bodies index row bytes are is at read =
    same_Some bytes (concat (body_fields (body_of rows row)))
    (sym read ∙ sym (slice_get-map (λ (one : KeptBody). one.body) bodies.kept index)
    ∙ ap (λ (all : List (List ℕ)). slice_get all index) is
    ∙ slice_get-map (λ (entry : Entry). entry.body) entries index
    ∙ ap (λ (es : List Entry). option_map (λ (entry : Entry). entry.body) (slice_get es index)) are
    ∙ body_there rows [] rows index row at)

-- ---- a block more

bodies_of_entries : (all before rows : List Row)
    → map (λ (entry : Entry). entry.body) (entries_after all before rows) ≡ map (bytes_of all) rows
unfolding entries_after
bodies_of_entries all before [] = refl
bodies_of_entries all before (row ∷ rows) = ap (λ (rest : List (List ℕ)). bytes_of all row ∷ rest)
    (bodies_of_entries all (before ++ row ∷ []) rows)

-- rows that are within their types are read back from the entries
pub rows_are : (rows : List Row) (blocks : ℕ) (index : LineageIndex) → IsIndexOf rows blocks index
    → All IsTypedRow rows → rows_kept index ≡ rows
unfolding rows_kept
rows_are rows blocks index is typed =
    ap rows_read is.store.entries_are
    ∙ rows_back rows rows (bodies_spelled rows
    (record { lawful = is.store.lawful; typed = typed }))

-- the bodies of the rows before stay
pub bodies_after : (rows new : List Row) (n blocks : ℕ) (before after : LineageIndex)
    (old more : BodiesState) → Grows rows new n → IsIndexOf rows n before
    → IsIndexOf (rows ++ new) blocks after
    → bodies_in old ≡ map (λ (entry : Entry). entry.body) before.store
    → bodies_in more ≡ bodies_in old ++ map (bytes_of (rows ++ new)) new
    → bodies_in more ≡ map (λ (entry : Entry). entry.body) after.store
bodies_after rows new n blocks before after old more grows is over kept added =
    let all = rows ++ new in
    let body : Entry → List ℕ = λ (entry : Entry). entry.body in
    let stays : entries_of all rows ≡ entries_of rows rows = entries_stay rows new rows n
    grows.before (λ k d m. omega (arith, grows.now k d m)) in
    let first : bodies_in old ≡ map (bytes_of all) rows = kept
    ∙ ap (map body) (is.store.entries_are ∙ sym stays) ∙ bodies_of_entries all [] rows in
    added ∙ ap (λ (l : List (List ℕ)). l ++ map (bytes_of all) new) first
    ∙ sym (map-append (bytes_of all) rows new)
    ∙ sym (bodies_of_entries all [] all) ∙ ap (map body) (sym over.store.entries_are)

-- ---- the same rows, with other hashes

-- the rows are read of the entries alone
pub rows_same : (before after : LineageIndex) → after.store ≡ before.store
    → rows_kept after ≡ rows_kept before
unfolding rows_kept
rows_same before after same = ap rows_read same

-- what belongs together does so with an index over the same entries
pub keeps_settled : (before after : LineageIndex) (bodies : BodiesState) (digests : List Digest)
    (roots : List (Option Digest)) → after.store ≡ before.store
    → ((rows : List Row) (n : ℕ) → IsIndexOf rows n before → IsIndexOf rows n after)
    → KeepsLineage (rows_kept before) before bodies digests roots
    → KeepsLineage (rows_kept after) after bodies digests roots
keeps_settled before after bodies digests roots same index keeps =
    subst (λ (rows : List Row). KeepsLineage rows after bodies digests roots)
    (sym (rows_same before after same)) (record {
      ledger = keeps.ledger;
      typed = keeps.typed;
      digests_fit = keeps.digests_fit;
      index_is = index (rows_kept before) (length digests) keeps.index_is;
      bodies_are = keeps.bodies_are ∙ ap (map (λ (entry : Entry). entry.body)) (sym same);
      roots_are = keeps.roots_are;
    })
