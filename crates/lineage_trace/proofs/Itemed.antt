-- The items of versions, one more at a time, and that they can be spelled.
use Rattle.std.proofs.Common.{◌≡◌, ◌∙◌, ℕ, zero, suc, ◌+◌, ◌<◌, ◌≤◌, List, [], ◌∷◌, ◌++◌, length}
use Rattle.std.proofs.Common.{take}
use Rattle.std.proofs.Common.{get_or, slice_get, Option, Some, None, refl, sym, ap, subst, arith}
use Rattle.std.specs.List.{All, AllByRecursion, filter_map, cons_option}
use Rattle.std.specs.Option.{option_map}
use Rattle.std.proofs.lemmas.List.{take_more, length-append}
use Rattle.std.proofs.lemmas.Option.{slice_get_within, get_or_from_slice_get}
use Rattle.lc_base.specs.declared.row.Dep.{Dep}
use Rattle.lc_base.specs.declared.row.Row.{Row}
use Rattle.lc_base.specs.History.{latest}
use Rattle.prov_entry.specs.declared.entry.Body.{Body}
use Rattle.prov_entry.specs.declared.entry.Header.{Header}
use Rattle.prov_entry.specs.Spelling.{IsHeader}
use Rattle.root_laws.specs.Naming.{header_of, body_of}
use Rattle.root_laws.specs.TypedLedger.{IsTypedHistory}
use Rattle.root_laws.proofs.Lists.{all_append}
use Rattle.root_laws.proofs.Spellings.{headers_spelled}
use Rattle.proof_checks.specs.declared.trace_proof.TraceItem.{TraceItem}
use Rattle.proof_checks.specs.TraceMaking.{item_of, item_in}
use Rattle.proof_checks.specs.TraceTexts.{IsTraceItem}
use Rattle.lineage_trace.specs.Items.{IsLastUpToItself, with_item}

-- ---- one item

row_there : (rows : List Row) (index : ℕ) → index < length rows
    → (row : Row) × (slice_get rows index ≡ Some row)
row_there [] index low = absurd (omega (arith, low))
row_there (row ∷ rows) zero low = (row, refl)
row_there (row ∷ rows) (suc index) low = row_there rows index (omega (arith, low))

-- The header of a row can be spelled.
pub is_header : (rows : List Row) (index : ℕ) (header : Header) → IsTypedHistory rows
    → index < length rows
    → ((row : Row) → slice_get rows index ≡ Some row → header ≡ header_of rows row)
    → IsHeader header
is_header rows index header typed low is =
    let found = row_there rows index low in
    let row = found.0 in
    let own = headers_spelled rows typed index row (slice_get_within rows index row found.1) in
    subst IsHeader (sym (is row found.1))
    (subst (λ (r : Row). IsHeader (header_of rows r))
    (get_or_from_slice_get rows index row row found.1) own)

pub item_made : (rows : List Row) (row : Row) (header : Header) (body : Body)
    → header ≡ header_of rows row → body ≡ body_of rows row
    → record { header = header; body = body } ≡ item_of rows row
item_made rows row header body one two = rw (one, two) refl

-- ---- several items

filter_push : (rows : List Row) (versions : List Dep) (version : Dep)
    → filter_map (item_in rows) (versions ++ version ∷ [])
    ≡ with_item (filter_map (item_in rows) versions) (item_in rows version)
filter_push rows [] version = go (item_in rows version)
  where
    go : (o : Option TraceItem) → cons_option o [] ≡ with_item [] o
    go None = refl
    go (Some item) = refl
filter_push rows (first ∷ versions) version =
    ap (cons_option (item_in rows first)) (filter_push rows versions version)
    ∙ go (item_in rows first) (item_in rows version)
  where
    go : (o p : Option TraceItem)
        → cons_option o (with_item (filter_map (item_in rows) versions) p)
        ≡ with_item (cons_option o (filter_map (item_in rows) versions)) p
    go None p = refl
    go (Some item) None = refl
    go (Some item) (Some other) = refl

pub one_item : (rows : List Row) (versions : List Dep) (i : ℕ) (version : Dep)
    (items new : List TraceItem) → i < length versions → version ≡ get_or versions i version
    → All (IsLastUpToItself rows) versions
    → new ≡ with_item items (option_map (item_of rows) (latest rows version.key version.block))
    → items ≡ filter_map (item_in rows) (take i versions)
    → new ≡ filter_map (item_in rows) (take (i + 1) versions)
one_item rows versions i version items new low is last more before =
    let own : IsLastUpToItself rows version =
    subst (IsLastUpToItself rows) (sym is) (last i version low) in
    more ∙ ap (λ (o : Option Row). with_item items (option_map (item_of rows) o)) (sym own)
    ∙ ap (λ (is : List TraceItem). with_item is (item_in rows version)) before
    ∙ sym (filter_push rows (take i versions) version)
    ∙ ap (λ (v : Dep). filter_map (item_in rows) (take i versions ++ v ∷ [])) is
    ∙ sym (ap (filter_map (item_in rows)) (take_more versions i version low))

pub push_lawful : (items new : List TraceItem) (item : TraceItem)
    → new ≡ items ++ item ∷ [] → AllByRecursion IsTraceItem items → IsTraceItem item
    → AllByRecursion IsTraceItem new
push_lawful items new item is all one = subst (AllByRecursion IsTraceItem) (sym is)
    (all_append IsTraceItem items (item ∷ []) all (one, tt))

pub push_long : (items new : List TraceItem) (item : TraceItem)
    → new ≡ items ++ item ∷ [] → length new ≤ length items + 1
push_long items new item is =
    let long : length new ≡ length items + 1 =
    ap length is ∙ length-append items (item ∷ []) in
    omega (arith, long)
