-- An accepted proof shows the ancestors in the history, unless two different texts have one digest.
use Rattle.std.proofs.Common.{◌≡◌, ◌∙◌, ℕ, ◌+◌, List, [], length, map, reverse, Option, Some, None}
use Rattle.std.proofs.Common.{Result, Ok, Err, refl, sym, ap, ap₂, arith, inl, inr}
use Rattle.std.specs.List.{All, AllByRecursion, Contains, flat_map}
use Rattle.std.proofs.lemmas.List.Elements.{Contains-append_left, Contains-append_right}
use Rattle.lc_base.specs.declared.row.Row.{Row}
use Rattle.lc_base.specs.declared.row.Dep.{Dep}
use Rattle.lc_base.specs.declared.answer.Answer.{Answer}
use Rattle.lc_base.specs.declared.answer.Query.{Query}
use Rattle.lc_base.specs.History.{IsLawful, up_to, latest, is_version}
use Rattle.proof_codec.specs.merkle_tree.Clash.{Agree, Clash}
use Rattle.proof_codec.proofs.merkle_tree.Agreeing.{agree_or_clash}
use Rattle.root_laws.specs.prov_entry.declared.entry.Header.{Header}
use Rattle.root_laws.specs.prov_entry.declared.entry.BodyDep.{BodyDep}
use Rattle.root_laws.specs.prov_entry.declared.entry.Body.{Body}
use Rattle.root_laws.specs.Naming.{header_of, body_of}
use Rattle.root_laws.specs.Root.{digest_at}
use Rattle.root_laws.proofs.Lists.{all_contained, all_reverse, found_has, map_reverse}
use Rattle.root_laws.specs.TypedLedger.{IsTypedRow}
use Rattle.root_laws.proofs.Parts.{lawful_up_to, rows_up_to}
use Rattle.proof_codec.specs.Spelling.{last_of}
use Rattle.proof_checks.specs.declared.reject.Reject.{Reject}
use Rattle.proof_checks.specs.declared.reject.Reject.TheVariants as starts
use Rattle.proof_checks.specs.Checks.{is_same_query, query_fault, judgement, verdict, dep_of}
use Rattle.proof_checks.specs.ProofTexts.{proof_texts, joined_texts}
use Rattle.proof_checks.specs.LedgerTexts.{history_parts, ledger_texts}
use Rattle.proof_checks.specs.Soundness.{ShowsVersion}
use Rattle.proof_checks.proofs.Parts.{in_part, agree_parts}
use Rattle.proof_checks.proofs.Tests.{passed, goes_on, query_is}
use Rattle.proof_checks.proofs.Sound.{accepted_shows}
use Rattle.root_laws.specs.declared.trace.Trace.{Trace}
use Rattle.root_laws.specs.Ancestors.{all_inserted, itself, reached_from, ancestors, trace_of}
use Rattle.root_laws.specs.Ancestors.{trace_at}
use Rattle.root_laws.proofs.Inserting.{all_inserted_map}
use Rattle.root_laws.proofs.Enough.{wanted_of, are_wanted, enough_rows}
use Rattle.proof_checks.specs.declared.trace_proof.TraceItem.{TraceItem}
use Rattle.proof_checks.specs.declared.trace_proof.TraceProof.{TraceProof}
use Rattle.proof_checks.specs.declared.trace_reject.TraceReject.{TraceReject}
use Rattle.proof_checks.specs.TraceChecks.{and_then, with_deps, after_items, start_query}
use Rattle.proof_checks.specs.TraceChecks.{wanted_by_start, version_of_item, trace_shown}
use Rattle.proof_checks.specs.TraceChecks.{items_verdict}
use Rattle.proof_checks.specs.TraceChecks.{after_start, trace_verdict}
use Rattle.proof_checks.specs.TraceTexts.{IsTraceItem, texts_of_item, trace_texts}
use Rattle.proof_checks.specs.TraceSoundness.{AcceptedTracesAreSound}
use Rattle.proof_checks.proofs.TracePassing.{same_ok, and_then_ok, with_deps_ok}
use Rattle.proof_checks.proofs.Named.{named, deps_are_named}
use Rattle.proof_checks.proofs.Itemed.{texts_of_rows, items_are}

-- What the items show, given the start's last header and its body.
abbrev pub verdict_by : Option Header → Option Body → List TraceItem
    → Result (Option Trace) TraceReject
verdict_by last body items =
    and_then (wanted_by_start last body)
    (λ wanted. and_then (after_items 1 items wanted) (λ none. Ok (trace_shown last body items)))

abbrev no_trace : Result (Option Trace) TraceReject
no_trace = Ok None

module _ (rows : List Row) (lawful : IsLawful rows) (are : All IsTypedRow rows)
    (items : List TraceItem) (all : AllByRecursion IsTraceItem items) (given : List (List ℕ))
    (agree : Agree given (texts_of_rows rows))
    (there : (text : List ℕ) → Contains (flat_map texts_of_item items) text
    → Contains given text) where
  -- If there is no version, nothing is shown.
  none_shown : (last : Option Header) (trace : Option Trace) → verdict_by last None items ≡ Ok trace
      → trace ≡ None
  none_shown None trace e =
      let next = and_then_ok (after_items 1 items []) (λ none. no_trace) trace e in
      sym (same_ok None trace next.2)
  none_shown (Some header) trace e =
      let next = and_then_ok (after_items 1 items []) (λ none. no_trace) trace e in
      sym (same_ok None trace next.2)

  -- If there is one, its ancestors are shown.
  some_shown : (row : Row) (trace : Option Trace) → Contains rows row
      → verdict_by (Some (header_of rows row)) (Some (body_of rows row)) items ≡ Ok trace
      → trace ≡ trace_of rows (Some row)
  some_shown row trace has e =
      let result : Option Trace =
      trace_shown (Some (header_of rows row)) (Some (body_of rows row)) items in
      let first = and_then_ok (with_deps 0 (header_of rows row).block (body_of rows row).deps [])
      (λ (wanted : List BodyDep). and_then (after_items 1 items wanted) (λ none. Ok result))
      trace e in
      let second = and_then_ok (after_items 1 items first.0) (λ none. Ok result) trace first.2 in
      let wanted_is : map (named rows) (wanted_of row) ≡ first.0 =
      sym (all_inserted_map (named rows) itself dep_of (λ x. refl) row.deps [])
      ∙ ap (λ (ds : List BodyDep). all_inserted dep_of ds [])
      (sym (deps_are_named rows row lawful has))
      ∙ with_deps_ok 0 (header_of rows row).block (body_of rows row).deps [] first.0 first.1 in
      let wants = are_wanted rows row lawful has in
      let n : ℕ = length items + length rows in
      let reached : reached_from n rows (wanted_of row) ≡ map version_of_item items =
      items_are rows lawful are items 1 (wanted_of row) given all agree there wants
      (ap (after_items 1 items) wanted_is ∙ second.1) n (omega arith) in
      let is : ancestors rows row ≡ map version_of_item (reverse items) =
      ap reverse (sym (enough_rows n rows (wanted_of row) lawful wants (omega arith)) ∙ reached)
      ∙ map_reverse version_of_item items in
      sym (same_ok result trace second.2) ∙ ap (trace_with row.block) (sym is)
    where
      trace_with : ℕ → List Dep → Option Trace
      trace_with block versions = Some (record { block = block; ancestors = versions })

-- The row that is found is one of the history.
pub latest_there : (rows : List Row) (key : List ℕ) (at : ℕ) (row : Row)
    → latest rows key at ≡ Some row → Contains rows row
latest_there rows key at row e =
    found_has (Contains rows) (is_version key at) (reverse rows) row
    (all_reverse (Contains rows) rows (all_contained rows)) e

shown : (rows : List Row) (given : TraceProof) (key : List ℕ) (at : ℕ) (trace : Option Trace)
    (texts : List (List ℕ)) → IsLawful rows → All IsTypedRow rows
    → AllByRecursion IsTraceItem given.items → Agree texts (texts_of_rows rows)
    → ((text : List ℕ) → Contains (flat_map texts_of_item given.items) text → Contains texts text)
    → items_verdict given ≡ Ok trace → given.start.query ≡ start_query key at
    → ShowsVersion rows given.start → trace ≡ trace_at rows key at
shown rows given key at trace texts lawful are all agree there e own shows = go shows
  where
    found : latest rows given.start.query.key given.start.query.at ≡ latest rows key at
    found = ap (λ (query : Query). latest rows query.key query.at) own

    go : ShowsVersion rows given.start → trace ≡ trace_at rows key at
    go (inl none) =
        none_shown rows lawful are given.items all texts agree there (last_of given.start.headers)
        trace (ap (λ (b : Option Body). verdict_by (last_of given.start.headers) b given.items)
        (sym none.1) ∙ e)
        ∙ ap (trace_of rows) (sym none.0 ∙ found)
    go (inr (row, is, header, body)) =
        some_shown rows lawful are given.items all texts agree there row trace
        (latest_there rows given.start.query.key given.start.query.at row is)
        (ap₂ (λ (h : Option Header) (b : Option Body). verdict_by h b given.items) (sym header)
        (sym body) ∙ e)
        ∙ ap (trace_of rows) (sym is ∙ found)

-- ---- the law

start_ok : (start : Result Answer Reject) (rest : Result (Option Trace) TraceReject)
    (trace : Option Trace) → after_start start rest ≡ Ok trace
    → (answer : Answer) × (start ≡ Ok answer) × (rest ≡ Ok trace)
start_ok (Ok answer) rest trace e = (answer, refl, e)
start_ok (Err fault) rest trace e = absurd cc

-- A clash of a text of the start is one of a text of the whole.
start_clash : (given : TraceProof) (own : List (List ℕ)) → Clash (proof_texts given.start) own
    → Clash (trace_texts given) own
unfolding trace_texts
start_clash given own clash = record {
  one = clash.one;
  other = clash.other;
  in_given = Contains-append_left (proof_texts given.start) (flat_map texts_of_item given.items)
      clash.one clash.in_given;
  in_own = clash.in_own;
  differ = clash.differ;
  same = clash.same;
}

pub trace_is_sound : AcceptedTracesAreSound
unfolding trace_verdict trace_texts ledger_texts
trace_is_sound root key at given trace is e rows digests block history fits root_is =
    let query : Query = start_query key at in
    let parts = start_ok (verdict root query given.start) (items_verdict given) trace e in
    let judged = goes_on (query_fault query given.start) (judgement root given.start) parts.0
    parts.1 in
    let asked : given.start.query ≡ query =
    query_is query given.start.query
    (passed (is_same_query query given.start.query) starts.OtherQuery judged.0) in
    let all : List (List (List ℕ)) =
    history_parts (up_to rows block) block (digest_at digests block) in
    elim (accepted_shows root given.start parts.0 is.start_is_proof judged.1 rows digests block
    history fits root_is) [
      | inr clash ↦ inr (start_clash given (ledger_texts rows digests block) clash)
      | inl shows ↦ elim (agree_or_clash (trace_texts given) (joined_texts all)) [
        | inr clash ↦ inr clash
        | inl agree ↦ inl (shown (up_to rows block) given key at trace (trace_texts given)
            (lawful_up_to rows block history.lawful) (rows_up_to rows block history.typed)
            is.items_are_items
            (agree_parts (trace_texts given) (joined_texts all) (trace_texts given)
            (texts_of_rows (up_to rows block)) agree (λ text has. has)
            (λ text has. in_part all 3 (texts_of_rows (up_to rows block)) text refl has))
            (λ text has. Contains-append_right (proof_texts given.start)
            (flat_map texts_of_item given.items) text has)
            parts.2 asked shows)
      ]
    ]
