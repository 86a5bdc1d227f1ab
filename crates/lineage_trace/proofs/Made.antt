-- The proof that is made of a ledger: of the rows up to a block, and that it can be spelled.
use Rattle.std.proofs.Common.{◌≡◌, ◌∙◌, ℕ, zero, suc, ◌+◌, ◌<◌, ◌≤◌, ◌^◌, Bool, true, nat_le}
use Rattle.std.proofs.Common.{List}
use Rattle.std.proofs.Common.{[], ◌∷◌, ◌++◌, length, take, filter, reverse, Option, Some, None}
use Rattle.std.proofs.Common.{is_some}
use Rattle.std.proofs.Common.{Result, refl, sym, ap, subst, arith, inl, inr}
use Rattle.std.specs.Prelude.{IfOk, IfSome}
use Rattle.std.specs.List.{All, AllByRecursion, Contains, concat, filter_map}
use Rattle.std.specs.Int.{w32, to_be_bytes}
use Rattle.std.proofs.lemmas.Bool.{cases_Bool}
use Rattle.std.proofs.lemmas.List.{get_or-take, length-reverse}
use Rattle.std.proofs.lemmas.List.Elements.{All-from_recursion}
use Rattle.lc_base.specs.KeyBytes.{IsKey}
use Rattle.lc_base.specs.declared.answer.Kind.TheVariants.{Back}
use Rattle.lc_base.specs.declared.answer.Query.{Query}
use Rattle.lc_base.specs.declared.digest.Digest.{Digest}
use Rattle.lc_base.specs.declared.limits.TheConstants.{MAX_ROWS}
use Rattle.lc_base.specs.declared.row.Dep.{Dep}
use Rattle.lc_base.specs.declared.row.Row.{Row}
use Rattle.lc_base.specs.History.{IsLawful, up_to, latest, is_version}
use Rattle.prov_entry.specs.declared.entry.Body.{Body}
use Rattle.root_laws.specs.Root.{digest_at}
use Rattle.root_laws.specs.TypedLedger.{IsTypedLedger}
use Rattle.root_laws.proofs.Lists.{all_reverse, all_contained, all_weaker, found_has, keep_all}
use Rattle.proof_codec.specs.declared.proof.Proof.{Proof}
use Rattle.proof_codec.specs.Spelling.{proof_fields}
use Rattle.proof_codec.specs.Viewing.{Spells}
use Rattle.proof_checks.specs.Making.{made_of, made_proof}
use Rattle.prov_query.specs.merkle_dag.Ledger.{Ledger}
use Rattle.root_laws.specs.declared.trace.Trace.{Trace}
use Rattle.root_laws.specs.Ancestors.{itself, all_inserted, reached_from, ancestors, trace_of}
use Rattle.root_laws.specs.Ancestors.{trace_at}
use Rattle.root_laws.proofs.Versions.{IsVersion}
use Rattle.root_laws.proofs.Enough.{AreWanted, are_wanted, next_wanted}
use Rattle.root_laws.proofs.Enough.{after_last}
use Rattle.row_walks.proofs.LatestAt.{last_up_to_itself}
use Rattle.proof_checks.specs.declared.trace_proof.TraceItem.{TraceItem}
use Rattle.proof_checks.specs.declared.trace_proof.TraceProof.{TraceProof}
use Rattle.proof_checks.specs.TraceChecks.{start_query}
use Rattle.proof_checks.specs.TraceMaking.{item_in, items_of, made_trace, MadeTracesAreProofs}
use Rattle.proof_checks.specs.TraceMaking.{MadeTracesAreAccepted}
use Rattle.proof_checks.specs.declared.trace_limits.TheConstants.{TRACE_MAGIC}
use Rattle.proof_checks.specs.TraceSpelling.{items_fields, trace_fields, SpellsTrace}
use Rattle.proof_checks.specs.TraceTexts.{IsTraceItem}
use Rattle.proof_checks.proofs.Short.{back_is_short}
use Rattle.answer_proof.specs.Proving.{IsButForBody}
use Rattle.lineage_trace.specs.Tracing.{ancestors_in}
use Rattle.lineage_trace.specs.Items.{IsLastUpToItself}
use Rattle.lineage_trace.specs.Proving.{IsButForBodies, ShowsTrace}
use Rattle.lineage_trace.proofs.Spelled.{trace_spelled}

-- ---- the rows up to a block

all_kept : (p : Row → Bool) (rows : List Row)
    → AllByRecursion (λ (row : Row). p row ≡ true) (filter p rows)
all_kept p [] = tt
all_kept p (row ∷ rows) = let rest = all_kept p rows in elim (cases_Bool (p row)) [
  | inl t ↦ rw t (t, rest)
  | inr f ↦ rw f rest
]

up_to_twice : (rows : List Row) (block : ℕ) → up_to (up_to rows block) block ≡ up_to rows block
up_to_twice rows block =
    let early : Row → Bool = λ (row : Row). nat_le row.block block in
    keep_all early (up_to rows block) (all_kept early rows)

digest_stays : (digests : List Digest) (block : ℕ)
    → digest_at (take (block + 1) digests) block ≡ digest_at digests block
digest_stays digests block = ap (λ (d : Digest). d.0)
    (get_or-take (block + 1) digests block (record { 0 = [] }) (omega arith))

proof_again : (rows : List Row) (digests : List Digest) (block : ℕ) (query : Query)
    → made_proof (up_to rows block) (take (block + 1) digests) block query
    ≡ made_proof rows digests block query
unfolding made_proof
proof_again rows digests block query =
    ap (λ (rs : List Row). made_of rs block (digest_at (take (block + 1) digests) block) query)
    (up_to_twice rows block)
    ∙ ap (λ (d : List ℕ). made_of (up_to rows block) block d query) (digest_stays digests block)

-- The proof made of a ledger at a block is that of the ledger up to the block.
pub made_again : (rows part : List Row) (digests some : List Digest) (block : ℕ) (key : List ℕ)
    (at : ℕ) → part ≡ up_to rows block → some ≡ take (block + 1) digests
    → made_trace part some block key at ≡ made_trace rows digests block key at
unfolding made_trace
made_again rows part digests some block key at rows_are digests_are =
    ap (λ (rs : List Row). made_trace rs some block key at) rows_are
    ∙ ap (λ (ds : List Digest). made_trace (up_to rows block) ds block key at) digests_are
    ∙ ap (λ (p : Proof). record {
      start = p;
      items = items_of (up_to (up_to rows block) block)
          (latest (up_to (up_to rows block) block) key at);
    }) (proof_again rows digests block (start_query key at))
    ∙ ap (λ (rs : List Row). record {
      start = made_proof rows digests block (start_query key at);
      items = items_of rs (latest rs key at);
    }) (up_to_twice rows block)

-- Where all rows are up to the block, it is made of these.
pub made_of_all : (rows : List Row) (digests : List Digest) (block : ℕ) (key : List ℕ) (at : ℕ)
    → up_to rows block ≡ rows → record {
      start = made_proof rows digests block (start_query key at);
      items = items_of rows (latest rows key at);
    } ≡ made_trace rows digests block key at
unfolding made_trace
made_of_all rows digests block key at all =
    ap (λ (rs : List Row). record {
      start = made_proof rows digests block (start_query key at);
      items = items_of rs (latest rs key at);
    }) (sym all)

pub made_start : (rows : List Row) (digests : List Digest) (block : ℕ) (key : List ℕ) (at : ℕ)
    → made_proof rows digests block (start_query key at)
    ≡ (made_trace rows digests block key at).start
unfolding made_trace
made_start rows digests block key at = refl

-- ---- the ancestors

versions_reached : (n : ℕ) (rows : List Row) (wanted : List Dep) → IsLawful rows
    → AreWanted rows wanted → AllByRecursion (IsVersion rows) (reached_from n rows wanted)
unfolding reached_from
versions_reached zero rows wanted lawful are = tt
versions_reached (suc n) rows [] lawful are = tt
versions_reached (suc n) rows (last ∷ wanted) lawful are = (
  are.versions.0,
  versions_reached n rows (after_last rows last wanted) lawful
      (next_wanted rows last wanted lawful are),
)

last_reached : (rows : List Row) (row : Row) → IsLawful rows → Contains rows row
    → AllByRecursion (IsLastUpToItself rows) (reverse (ancestors rows row))
last_reached rows row lawful has =
    let first = all_inserted itself row.deps [] in
    let are : AreWanted rows first = are_wanted rows row lawful has in
    all_reverse (IsLastUpToItself rows) (ancestors rows row)
    (all_reverse (IsLastUpToItself rows) (reached_from (length rows) rows first)
    (all_weaker (IsVersion rows) (IsLastUpToItself rows)
    (λ version is. last_up_to_itself rows version lawful is)
    (reached_from (length rows) rows first)
    (versions_reached (length rows) rows first lawful are)))

-- The ancestors of the last version of a key, where there is one, the last ancestor first.
pub are_last : (rows : List Row) (key : List ℕ) (at : ℕ) (trace : Option Trace)
    (versions : List Dep) → IsLawful rows → trace ≡ trace_at rows key at
    → versions ≡ reverse (ancestors_in trace) → All (IsLastUpToItself rows) versions
are_last rows key at trace versions lawful is turned =
    subst (All (IsLastUpToItself rows)) (sym (turned
    ∙ ap (λ (t : Option Trace). reverse (ancestors_in t)) is)) (go (latest rows key at) refl)
  where
    go : (o : Option Row) → latest rows key at ≡ o
        → All (IsLastUpToItself rows) (reverse (ancestors_in (trace_of rows o)))
    go None e = All-from_recursion (IsLastUpToItself rows) [] tt
    go (Some row) e =
        let has : Contains rows row = found_has (Contains rows) (is_version key at) (reverse rows)
        row (all_reverse (Contains rows) rows (all_contained rows)) e in
        All-from_recursion (IsLastUpToItself rows) (reverse (ancestors rows row))
        (last_reached rows row lawful has)

pub items_are : (rows : List Row) (key : List ℕ) (at : ℕ) (trace : Option Trace)
    (versions : List Dep) (items : List TraceItem) → trace ≡ trace_at rows key at
    → versions ≡ reverse (ancestors_in trace) → items ≡ filter_map (item_in rows) versions
    → items ≡ items_of rows (latest rows key at)
items_are rows key at trace versions items is turned made =
    made
    ∙ ap (filter_map (item_in rows)) (turned
    ∙ ap (λ (t : Option Trace). reverse (ancestors_in t)) is)
    ∙ go (latest rows key at)
  where
    go : (o : Option Row)
        → filter_map (item_in rows) (reverse (ancestors_in (trace_of rows o))) ≡ items_of rows o
    go None = refl
    go (Some row) = refl

-- ---- what can be spelled

-- A start whose body may be another, with any items that can be spelled.
pub spells_parts : (start : Proof) (first bytes : List ℕ) (items : List TraceItem)
    → start.query.kind ≡ Back → Spells first start → length items ≤ MAX_ROWS
    → AllByRecursion IsTraceItem items
    → bytes ≡ concat (trace_fields (record { start = start; items = items }))
    → SpellsTrace bytes (record { start = start; items = items })
spells_parts start first bytes items back spells few all is = record {
  lawful = record {
    start_is_proof = spells.lawful;
    start_fits = back_is_short start spells.lawful back;
    few_items = few;
    items_are_items = all;
  };
  spelled = is;
}

pub first_fits : (start : Proof) (first : List ℕ) → start.query.kind ≡ Back
    → Spells first start → length first < 2 ^ 32
first_fits start first back spells =
    subst (λ (n : ℕ). n < 2 ^ 32) (sym (ap length spells.spelled))
    (back_is_short start spells.lawful back)

made_kind : (rows : List Row) (digests : List Digest) (block : ℕ) (key : List ℕ) (at : ℕ)
    → (made_proof rows digests block (start_query key at)).query.kind ≡ Back
unfolding made_proof
made_kind rows digests block key at = refl

-- The same of the start that is made, but for its body.
pub but_kind : (rows : List Row) (digests : List Digest) (block : ℕ) (key : List ℕ) (at : ℕ)
    (body : Option Body)
    → (record (made_proof rows digests block (start_query key at)) { body = body }).query.kind
    ≡ Back
but_kind rows digests block key at body = made_kind rows digests block key at

-- ---- the proof that is made

pub shows : (ledger : Ledger) (key : List ℕ) (at root_at : ℕ) (bytes : List ℕ)
    → MadeTracesAreProofs → MadeTracesAreAccepted → IsTypedLedger ledger.rows ledger.digests
    → root_at < length ledger.digests → IsKey key → at ≤ root_at
    → bytes ≡ concat (trace_fields (made_trace ledger.rows ledger.digests root_at key at))
    → ShowsTrace ledger key at root_at bytes
shows ledger key at root_at bytes spelled accepted typed within is_key early are = (
  made_trace ledger.rows ledger.digests root_at key at,
  record {
    lawful = spelled ledger.rows ledger.digests root_at key at typed within is_key early;
    spelled = are;
  },
  accepted ledger.rows ledger.digests root_at key at typed within is_key early,
)

-- ---- the bytes that are gathered

short_in : (trace : Option Trace) (most : ℕ)
    → IfSome trace (λ (t : Trace). length t.ancestors ≤ most) → length (ancestors_in trace) ≤ most
short_in None most short = omega arith
short_in (Some trace) most short = short

-- The items are few, since the ancestors are no more than rows.
pub few_gathered : (rows one : List Row) (trace : Option Trace) (versions : List Dep)
    (items : List TraceItem) → one ≡ rows → length rows ≤ MAX_ROWS
    → IfSome trace (λ (t : Trace). length t.ancestors ≤ length one)
    → versions ≡ reverse (ancestors_in trace) → length items ≤ length versions
    → length items ≤ MAX_ROWS
few_gathered rows one trace versions items same low short turned few =
    let long : length versions ≡ length (ancestors_in trace) =
    ap length turned ∙ length-reverse (ancestors_in trace) in
    omega (arith, long, few, low, short_in trace (length one) short, ap length same)

pub gathered : (rows one two : List Row) (digests : List Digest) (block : ℕ) (key : List ℕ)
    (at : ℕ) (trace : Option Trace) (versions : List Dep) (items : List TraceItem)
    (start bytes : List ℕ) → one ≡ rows → two ≡ one → up_to rows block ≡ rows → IsLawful rows
    → start ≡ concat (proof_fields (made_proof rows digests block (start_query key at)))
    → trace ≡ trace_at one key at → versions ≡ reverse (ancestors_in trace)
    → (All (IsLastUpToItself two) versions → items ≡ filter_map (item_in two) versions)
    → bytes ≡ TRACE_MAGIC ++ (to_be_bytes w32 (length start)
    ++ (start ++ concat (items_fields items)))
    → bytes ≡ concat (trace_fields (made_trace rows digests block key at))
gathered rows one two digests block key at trace versions items start bytes one_is two_is all lawful
    start_is traced turned items_is bytes_is =
    let made = made_proof rows digests block (start_query key at) in
    let told : trace ≡ trace_at rows key at =
    traced ∙ ap (λ (rs : List Row). trace_at rs key at) one_is in
    let same : two ≡ rows = two_is ∙ one_is in
    let last = subst (λ (rs : List Row). All (IsLastUpToItself rs) versions) (sym same)
    (are_last rows key at trace versions lawful told turned) in
    let own : items ≡ items_of rows (latest rows key at) =
    items_are rows key at trace versions items told turned
    (items_is last ∙ ap (λ (rs : List Row). filter_map (item_in rs) versions) same) in
    bytes_is ∙ trace_spelled (record { start = made; items = items }) start start_is
    ∙ ap (λ (is : List TraceItem). concat (trace_fields (record { start = made; items = is }))) own
    ∙ ap (λ (t : TraceProof). concat (trace_fields t)) (made_of_all rows digests block key at all)

pub gathered_always : (rows : List Row) (digests : List Digest) (block : ℕ) (key : List ℕ) (at : ℕ)
    (items : List TraceItem) (start bytes : List ℕ)
    → IsButForBody (made_proof rows digests block (start_query key at)) start
    → length items ≤ MAX_ROWS → AllByRecursion IsTraceItem items
    → bytes ≡ TRACE_MAGIC ++ (to_be_bytes w32 (length start)
    ++ (start ++ concat (items_fields items)))
    → IsButForBodies (made_trace rows digests block key at) bytes
gathered_always rows digests block key at items start bytes given few all bytes_is =
    let body = given.0 in
    let own = record (made_proof rows digests block (start_query key at)) { body = body } in
    subst (λ (p : Proof). (other : Option Body) × (others : List TraceItem)
    × (is_some other ≡ is_some p.body)
    × SpellsTrace bytes (record { start = record p { body = other }; items = others }))
    (made_start rows digests block key at) (
      body,
      items,
      given.1,
      spells_parts own start bytes items (but_kind rows digests block key at body) given.2 few all
          (bytes_is ∙ trace_spelled (record { start = own; items = items }) start
          given.2.spelled),
    )

-- The bytes of the start are counted in four bytes.
pub start_short : (rows : List Row) (digests : List Digest) (block : ℕ) (key : List ℕ) (at : ℕ)
    (start : List ℕ) → IsButForBody (made_proof rows digests block (start_query key at)) start
    → length start < 2 ^ 32
start_short rows digests block key at start given =
    first_fits (record (made_proof rows digests block (start_query key at)) { body = given.0 })
    start (but_kind rows digests block key at given.0) given.2

-- ---- the same bytes of two proofs that are the same

pub bytes_of : {E : Type 0} (result : Result (List ℕ) E) (trace other : TraceProof) → trace ≡ other
    → IfOk result (λ bytes. bytes ≡ concat (trace_fields trace))
    → IfOk result (λ bytes. bytes ≡ concat (trace_fields other))
bytes_of result trace other same are =
    subst (λ (t : TraceProof). IfOk result (λ bytes. bytes ≡ concat (trace_fields t))) same are

pub but_for_bodies_of : {E : Type 0} (result : Result (List ℕ) E) (trace other : TraceProof)
    → trace ≡ other → IfOk result (IsButForBodies trace) → IfOk result (IsButForBodies other)
but_for_bodies_of result trace other same are =
    subst (λ (t : TraceProof). IfOk result (IsButForBodies t)) same are
