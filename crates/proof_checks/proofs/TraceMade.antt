-- The proof that is made of a ledger is accepted, with the ancestors.
use Rattle.std.proofs.Common.{◌≡◌, ◌∙◌, ◌⊎◌, ℕ, zero, suc, ◌<◌, ◌≤◌, true, false, ◌==◌, not, nat_lt}
use Rattle.std.proofs.Common.{nat_le, List, [], ◌∷◌, length, map, reverse, Option, Some, None}
use Rattle.std.proofs.Common.{Result, Ok, refl, sym, ap, ap₂, arith, inl, inr}
use Rattle.std.specs.List.{All, AllByRecursion, Contains, list_any, filter_map}
use Rattle.std.specs.Option.{option_map}
use Rattle.std.specs.Cmp.Lexicographic.{pointwise}
use Rattle.std.proofs.lemmas.Bool.{cases_Bool, and_parts, and_from, and_left, and_right, or_from}
use Rattle.std.proofs.lemmas.Bool.{eqb-true, eq-eqb, lt-ltb}
use Rattle.std.proofs.lemmas.List.{reverse-reverse}
use Rattle.sha2.specs.Sha256.{sha256}
use Rattle.lc_base.specs.declared.digest.Digest.{Digest}
use Rattle.lc_base.specs.declared.row.Row.{Row}
use Rattle.lc_base.specs.declared.row.Dep.{Dep}
use Rattle.lc_base.specs.declared.answer.Answer.{Answer}
use Rattle.lc_base.specs.declared.answer.Query.{Query}
use Rattle.lc_base.specs.History.{IsLawful, up_to, newest, latest, uses}
use Rattle.root_laws.specs.prov_entry.declared.entry.Header.{Header}
use Rattle.root_laws.specs.prov_entry.declared.entry.BodyDep.{BodyDep}
use Rattle.root_laws.specs.prov_entry.declared.entry.Body.{Body}
use Rattle.root_laws.specs.prov_entry.Spelling.{header_text, body_text}
use Rattle.root_laws.specs.Naming.{is_named, header_of, body_of}
use Rattle.root_laws.specs.Root.{digest_at}
use Rattle.root_laws.proofs.Lists.{map_reverse}
use Rattle.root_laws.proofs.Keys.{same_key, key_is_key}
use Rattle.root_laws.specs.TypedLedger.{IsTypedRow}
use Rattle.root_laws.proofs.Parts.{lawful_up_to, rows_up_to}
use Rattle.proof_codec.specs.declared.proof.Proof.{Proof}
use Rattle.proof_codec.specs.Spelling.{last_of}
use Rattle.proof_checks.specs.declared.reject.Reject.{Reject}
use Rattle.proof_checks.specs.Checks.{dep_of, claim_of_leaf, claim_before}
use Rattle.proof_checks.specs.Making.{IsMade, made_proof}
use Rattle.proof_checks.specs.Soundness.{ShowsVersion}
use Rattle.proof_checks.proofs.Rows.{latest_none}
use Rattle.proof_checks.proofs.Onward.{claim_of_uses}
use Rattle.proof_checks.proofs.Walked.{Ends}
use Rattle.proof_checks.proofs.MadeAccepted.{made_ends}
use Rattle.proof_checks.proofs.MadeThere.{made_is_made, made_is_there}
use Rattle.root_laws.specs.declared.trace.Trace.{Trace}
use Rattle.root_laws.specs.Ancestors.{inserted, all_inserted, itself, deps_in, reached_from}
use Rattle.root_laws.specs.Ancestors.{ancestors, trace_of, trace_at}
use Rattle.root_laws.proofs.Order.{same_version}
use Rattle.root_laws.proofs.Inserting.{inserted_map}
use Rattle.root_laws.proofs.Versions.{IsVersion, IsEarlier, version_found, deps_in_is}
use Rattle.root_laws.proofs.Versions.{deps_are_earlier, own_deps}
use Rattle.root_laws.proofs.Enough.{AreWanted, wanted_of, are_wanted, after_last, next_wanted}
use Rattle.root_laws.proofs.Enough.{next_before, rows_left, left_falls, left_short}
use Rattle.root_laws.proofs.Reaching.{reached_all}
use Rattle.proof_checks.specs.declared.trace_proof.TraceItem.{TraceItem}
use Rattle.proof_checks.specs.declared.trace_reject.TraceReject.{TraceReject}
use Rattle.proof_checks.specs.declared.trace_reject.TraceReject.TheVariants as rejects
use Rattle.proof_checks.specs.TraceChecks.{and_then, tested, digest_tested, has_other_digest}
use Rattle.proof_checks.specs.TraceChecks.{with_dep}
use Rattle.proof_checks.specs.TraceChecks.{with_deps, after_item, after_items, start_query}
use Rattle.proof_checks.specs.TraceChecks.{version_of_item, after_start, trace_verdict}
use Rattle.proof_checks.specs.TraceMaking.{item_of, item_in, items_of, made_trace}
use Rattle.proof_checks.specs.TraceMaking.{MadeTracesAreAccepted}
use Rattle.proof_checks.proofs.Named.{named, named_is, deps_are_named}
use Rattle.proof_checks.proofs.TracePassing.{test_passes, digest_passes}
use Rattle.proof_checks.proofs.TraceSound.{verdict_by, latest_there}

abbrev wants : List BodyDep → Result (List BodyDep) TraceReject
wants wanted = Ok wanted

-- ---- what is wanted is named in one way

module _ (rows : List Row) where
  no_other : (dep wanted : Dep) → has_other_digest (named rows dep) (named rows wanted) ≡ false
  no_other dep wanted = elim (cases_Bool (is_named dep.key dep.block (named rows wanted))) [
    | inr f ↦ and_left (is_named dep.key dep.block (named rows wanted))
        (not (pointwise ◌==◌ (named rows wanted).digest.0 (named rows dep).digest.0)) f
    | inl t ↦
        let parts = and_parts (pointwise ◌==◌ wanted.key dep.key) (wanted.block == dep.block) t in
        let same : pointwise ◌==◌ (named rows wanted).digest.0 (named rows dep).digest.0 ≡ true =
        ap (λ (d : Dep). pointwise ◌==◌ (named rows d).digest.0 (named rows dep).digest.0)
        (same_version wanted dep (same_key wanted.key dep.key parts.0)
        (eqb-true wanted.block dep.block parts.1)) ∙ key_is_key (named rows dep).digest.0 in
        and_right (is_named dep.key dep.block (named rows wanted))
        (not (pointwise ◌==◌ (named rows wanted).digest.0 (named rows dep).digest.0))
        (ap not same)
  ]

  no_others : (dep : Dep) (wanted : List Dep)
      → list_any (has_other_digest (named rows dep)) (map (named rows) wanted) ≡ false
  no_others dep [] = refl
  no_others dep (other ∷ wanted) =
      or_from (has_other_digest (named rows dep) (named rows other))
      (list_any (has_other_digest (named rows dep)) (map (named rows) wanted)) (no_other dep other)
      (no_others dep wanted)

  one_dep : (number block : ℕ) (dep : Dep) (wanted : List Dep) → dep.block < block
      → with_dep number block (named rows dep) (map (named rows) wanted)
      ≡ Ok (map (named rows) (inserted itself dep wanted))
  one_dep number block dep wanted low =
      let rest : Result (List BodyDep) TraceReject =
      tested (not (list_any (has_other_digest (named rows dep)) (map (named rows) wanted)))
      (rejects.Two number) (Ok (inserted dep_of (named rows dep) (map (named rows) wanted))) in
      test_passes (nat_lt dep.block block) (rejects.Late number) rest (lt-ltb dep.block block low)
      ∙ test_passes (not (list_any (has_other_digest (named rows dep)) (map (named rows) wanted)))
      (rejects.Two number) (Ok (inserted dep_of (named rows dep) (map (named rows) wanted)))
      (ap not (no_others dep wanted))
      ∙ ap wants (inserted_map (named rows) itself dep_of (λ x. refl) dep wanted)

  some_deps : (number block : ℕ) (deps wanted : List Dep)
      → AllByRecursion (IsEarlier rows block) deps
      → with_deps number block (map (named rows) deps) (map (named rows) wanted)
      ≡ Ok (map (named rows) (all_inserted itself deps wanted))
  some_deps number block [] wanted earlier = refl
  some_deps number block (dep ∷ deps) wanted earlier =
      ap (λ (first : Result (List BodyDep) TraceReject). and_then first
      (with_deps number block (map (named rows) deps)))
      (one_dep number block dep wanted earlier.0.before)
      ∙ some_deps number block deps (inserted itself dep wanted) earlier.1

-- ---- the items pass

module _ (rows : List Row) (lawful : IsLawful rows) where
  own_item : (number : ℕ) (last : Dep) (wanted : List Dep) (version : IsVersion rows last)
      → AllByRecursion (IsEarlier rows last.block) (deps_in rows last)
      → after_item number (item_of rows version.row) (map (named rows) (last ∷ wanted))
      ≡ Ok (map (named rows) (after_last rows last wanted))
  own_item number last wanted version earlier =
      let row = version.row in
      let item : TraceItem = item_of rows row in
      let after_body : Result (List BodyDep) TraceReject =
      with_deps number row.block (body_of rows row).deps (map (named rows) wanted) in
      let after_header : Result (List BodyDep) TraceReject =
      digest_tested (body_text item.body) item.header.body (rejects.Body number) after_body in
      let after_order : Result (List BodyDep) TraceReject =
      digest_tested (header_text item.header) (named rows last).digest (rejects.Header number)
      after_header in
      let key : pointwise ◌==◌ last.key row.key ≡ true =
      ap (λ (k : List ℕ). pointwise ◌==◌ last.key k) version.key_is ∙ key_is_key last.key in
      let block : (last.block == row.block) ≡ true =
      eq-eqb last.block row.block (sym version.block_is) in
      let header : sha256 (header_text item.header) ≡ (named rows last).digest.0 =
      ap (λ (d : Digest). d.0) (sym (named_is rows last lawful version)) in
      let deps : (body_of rows row).deps ≡ map (named rows) (deps_in rows last) =
      deps_are_named rows row lawful version.there
      ∙ ap (map (named rows)) (sym (deps_in_is rows last lawful version)) in
      test_passes (is_named row.key row.block (named rows last)) (rejects.Order number) after_order
      (and_from (pointwise ◌==◌ last.key row.key) (last.block == row.block) key block)
      ∙ digest_passes (header_text item.header) (named rows last).digest (rejects.Header number)
      after_header header
      ∙ digest_passes (body_text item.body) item.header.body (rejects.Body number) after_body refl
      ∙ ap₂ (λ (b : ℕ) (ds : List BodyDep). with_deps number b ds (map (named rows) wanted))
      version.block_is deps
      ∙ some_deps rows number last.block (deps_in rows last) wanted earlier

  item_is : (last : Dep) (version : IsVersion rows last)
      → item_in rows last ≡ Some (item_of rows version.row)
  item_is last version = ap (option_map (item_of rows)) (version_found rows last lawful version)

  one_item : (last : Dep) (versions : List Dep) (item : TraceItem) → item_in rows last ≡ Some item
      → filter_map (item_in rows) (last ∷ versions) ≡ item ∷ filter_map (item_in rows) versions
  one_item last versions item e = rw e refl

  pub items_pass : (n number : ℕ) (wanted : List Dep) → AreWanted rows wanted
      → rows_left rows wanted ≤ n
      → after_items number (filter_map (item_in rows) (reached_from n rows wanted))
      (map (named rows) wanted) ≡ Ok tt
  unfolding reached_from
  items_pass zero number [] are few = refl
  items_pass zero number (last ∷ wanted) are few =
      absurd (let low = left_falls rows last are.versions.0 [] tt in omega (arith, low, few))
  items_pass (suc n) number [] are few = refl
  items_pass (suc n) number (last ∷ wanted) are few =
      let next : List Dep = after_last rows last wanted in
      let version : IsVersion rows last = are.versions.0 in
      let low = left_falls rows last version next (next_before rows last wanted lawful are) in
      let rest : List TraceItem = filter_map (item_in rows) (reached_from n rows next) in
      ap (λ (items : List TraceItem). after_items number items (map (named rows) (last ∷ wanted)))
      (one_item last (reached_from n rows next) (item_of rows version.row)
      (item_is last version))
      ∙ ap (λ (first : Result (List BodyDep) TraceReject). and_then first
      (after_items (suc number) rest))
      (own_item number last wanted version (own_deps rows last lawful are.versions.0))
      ∙ items_pass n (suc number) next (next_wanted rows last wanted lawful are)
      (omega (arith, low, few))

  -- The items are of the versions that they are made from.
  pub versions_are : (versions : List Dep) → AllByRecursion (IsVersion rows) versions
      → map version_of_item (filter_map (item_in rows) versions) ≡ versions
  versions_are [] are = refl
  versions_are (last ∷ versions) are =
      let version : IsVersion rows last = are.0 in
      ap (map version_of_item) (one_item last versions (item_of rows version.row)
      (item_is last version))
      ∙ ap₂ (λ (v : Dep) (vs : List Dep). v ∷ vs)
      (same_version (version_of_item (item_of rows version.row)) last version.key_is
      version.block_is) (versions_are versions are.1)

  -- ---- a row's items

  abbrev reached : Row → List Dep
  reached row = reached_from (length rows) rows (wanted_of row)

  abbrev items : Row → List TraceItem
  items row = filter_map (item_in rows) (reverse (ancestors rows row))

  items_are : (row : Row) → items row ≡ filter_map (item_in rows) (reached row)
  items_are row = ap (filter_map (item_in rows)) (reverse-reverse (reached row))

  reached_versions : (row : Row) → Contains rows row → AllByRecursion (IsVersion rows) (reached row)
  reached_versions row has =
      reached_all (IsVersion rows) rows
      (λ version is. only_versions (deps_in rows version) version.block
      (own_deps rows version lawful is)) (length rows) (wanted_of row)
      (are_wanted rows row lawful has).versions
    where
      only_versions : (deps : List Dep) (block : ℕ) → AllByRecursion (IsEarlier rows block) deps
          → AllByRecursion (IsVersion rows) deps
      only_versions [] block all = tt
      only_versions (dep ∷ deps) block all = (all.0.is_version, only_versions deps block all.1)

  trace_with : ℕ → List Dep → Result (Option Trace) TraceReject
  trace_with block versions = Ok (Some (record { block = block; ancestors = versions }))

  pub row_passes : (row : Row) → Contains rows row
      → verdict_by (Some (header_of rows row)) (Some (body_of rows row)) (items row)
      ≡ Ok (trace_of rows (Some row))
  unfolding trace_with
  row_passes row has =
      let own : List TraceItem = items row in
      let first : with_deps 0 row.block (body_of rows row).deps []
      ≡ Ok (map (named rows) (wanted_of row)) =
      ap (λ (ds : List BodyDep). with_deps 0 row.block ds []) (deps_are_named rows row lawful has)
      ∙ some_deps rows 0 row.block row.deps [] (deps_are_earlier rows row lawful has) in
      let all : after_items 1 own (map (named rows) (wanted_of row)) ≡ Ok tt =
      ap (λ (given : List TraceItem). after_items 1 given (map (named rows) (wanted_of row)))
      (items_are row) ∙ items_pass (length rows) 1 (wanted_of row)
      (are_wanted rows row lawful has) (left_short rows (wanted_of row)) in
      let versions : map version_of_item (reverse own) ≡ ancestors rows row =
      sym (map_reverse version_of_item own)
      ∙ ap reverse (ap (map version_of_item) (items_are row)
      ∙ versions_are (reached row) (reached_versions row has)) in
      ap (λ (r : Result (List BodyDep) TraceReject). and_then r
      (λ wanted. and_then (after_items 1 own wanted)
      (λ none. trace_with row.block (map version_of_item (reverse own))))) first
      ∙ ap (λ (r : Result (Unit {0}) TraceReject). and_then r
      (λ none. trace_with row.block (map version_of_item (reverse own)))) all
      ∙ ap (trace_with row.block) versions

-- ---- what a made proof shows

made_shows : (rows : List Row) (block : ℕ) (digest : List ℕ) (proof : Proof) → IsLawful rows
    → All IsTypedRow rows → IsMade rows block digest proof → ShowsVersion rows proof
made_shows rows block digest proof lawful are made =
    go (made_ends rows block digest proof lawful are made)
  where
    by_none : latest rows proof.query.key proof.query.at ≡ None → ShowsVersion rows proof
    by_none none = inl (none, made.body_is ∙ ap (option_map (body_of rows)) none)

    by_how : (end : Ends rows proof.query.key proof.query.at (claim_of_leaf proof.leaf_proof.leaf)
        proof.headers)
        → ((latest rows proof.query.key proof.query.at ≡ None)
        × (nat_le end.last.block proof.query.at ≡ false))
        ⊎ ((row : Row) × Contains rows row × (latest rows proof.query.key proof.query.at ≡ Some row)
        × (end.last ≡ header_of rows row) × (nat_le row.block proof.query.at ≡ true)
        × (claim_before (claim_of_leaf proof.leaf_proof.leaf) proof.headers
        ≡ claim_of_uses (uses rows proof.query.key row.block)))
        → ShowsVersion rows proof
    by_how end (inl none) = by_none none.0
    by_how end (inr (row, has, found, last, low, claim)) =
        inr (
          row,
          found,
          end.last_is ∙ ap (λ (h : Header). Some h) last,
          made.body_is
              ∙ ap (option_map (body_of rows)) found,
        )

    go : ((proof.headers ≡ []) × (newest rows proof.query.key ≡ None))
        ⊎ Ends rows proof.query.key proof.query.at (claim_of_leaf proof.leaf_proof.leaf)
        proof.headers → ShowsVersion rows proof
    go (inl none) = by_none (latest_none rows proof.query.key proof.query.at none.1)
    go (inr end) = by_how end end.how

abbrev traces : Option Trace → Result (Option Trace) TraceReject
traces trace = Ok trace

pub made_trace_is_accepted : MadeTracesAreAccepted
unfolding trace_verdict made_trace
made_trace_is_accepted rows digests block key at ledger within is_key low =
    let history = ledger.history in
    let own : List Row = up_to rows block in
    let lawful : IsLawful own = lawful_up_to rows block history.lawful in
    let are : All IsTypedRow own = rows_up_to rows block history.typed in
    let query : Query = start_query key at in
    let start : Proof = made_proof rows digests block query in
    let passes = made_is_there rows digests block query ledger within is_key low in
    let made = made_is_made rows digests block query history is_key in
    let shows : ShowsVersion own start =
    made_shows own block (digest_at digests block) start lawful are made.0 in
    ap (λ (first : Result Answer Reject). after_start first
    (verdict_by (last_of start.headers) start.body (items_of own (latest own key at)))) passes.1
    ∙ go own lawful start made.1 shows
  where
    none_shown : (own : List Row) (lawful : IsLawful own) (last : Option Header)
        → verdict_by last None [] ≡ Ok None
    none_shown own lawful None = refl
    none_shown own lawful (Some header) = refl

    go : (own : List Row) (lawful : IsLawful own) (start : Proof) → start.query ≡ start_query key at
        → ShowsVersion own start
        → verdict_by (last_of start.headers) start.body (items_of own (latest own key at))
        ≡ Ok (trace_at own key at)
    go own lawful start asked (inl none) =
        let found : latest own key at ≡ None =
        ap (λ (query : Query). latest own query.key query.at) (sym asked) ∙ none.0 in
        ap₂ (λ (b : Option Body) (o : Option Row). verdict_by (last_of start.headers) b
        (items_of own o)) none.1 found
        ∙ none_shown own lawful (last_of start.headers)
        ∙ ap (λ (o : Option Row). traces (trace_of own o)) (sym found)
    go own lawful start asked (inr (row, is, header, body)) =
        let found : latest own key at ≡ Some row =
        ap (λ (query : Query). latest own query.key query.at) (sym asked) ∙ is in
        ap₂ (λ (h : Option Header) (b : Option Body). verdict_by h b
        (items_of own (latest own key at))) header body
        ∙ ap (λ (o : Option Row). verdict_by (Some (header_of own row)) (Some (body_of own row))
        (items_of own o)) found
        ∙ row_passes own lawful row (latest_there own key at row found)
        ∙ ap (λ (o : Option Row). traces (trace_of own o)) (sym found)
