-- What an accepted range proof shows are all versions between the blocks, unless two different
-- texts
-- have one digest.
use Rattle.std.proofs.Common.{◌≡◌, ◌∙◌, ℕ, ◌<◌, ◌^◌, true, false, List, [], ◌++◌, length, map}
use Rattle.std.proofs.Common.{filter, reverse, Option, Some, None, Result, Ok, refl, sym, ap}
use Rattle.std.proofs.Common.{subst, arith, inl, inr}
use Rattle.std.specs.List.{All, AllByRecursion, Contains, flat_map, zip}
use Rattle.std.proofs.lemmas.Bool.{cases_Bool}
use Rattle.std.proofs.lemmas.List.{reverse-reverse}
use Rattle.std.proofs.lemmas.List.Elements.{Contains-append_left, Contains-append_right}
use Rattle.sha2.specs.Sha256.{sha256}
use Rattle.lc_base.specs.declared.row.Row.{Row}
use Rattle.lc_base.specs.declared.row.Version.{Version}
use Rattle.lc_base.specs.History.{IsLawful, up_to, newest}
use Rattle.proof_codec.specs.merkle_tree.Clash.{Agree}
use Rattle.proof_codec.proofs.merkle_tree.Agreeing.{agree_or_clash}
use Rattle.root_laws.specs.prov_entry.declared.entry.Link.{Link}
use Rattle.root_laws.specs.prov_entry.declared.entry.Header.{Header}
use Rattle.root_laws.specs.prov_entry.Spelling.{header_text, body_text}
use Rattle.root_laws.specs.Naming.{header_of, body_of}
use Rattle.root_laws.specs.Root.{leaves, root_text, root_of, digest_at}
use Rattle.root_laws.specs.TypedLedger.{IsTypedRow}
use Rattle.root_laws.proofs.Lists.{map_reverse, all_reverse}
use Rattle.root_laws.proofs.Headers.{kept_rows, newest_is_key}
use Rattle.root_laws.proofs.Parts.{lawful_up_to, rows_up_to as typed_up_to}
use Rattle.root_laws.proofs.Spellings.{IsOneOf, newest_of_key, newest_there}
use Rattle.proof_checks.specs.declared.reject.Reject.TheVariants as faults
use Rattle.proof_checks.specs.Checks.{covers, is_of_key, expected_first}
use Rattle.proof_checks.specs.ProofTexts.{joined_texts, leaf_proof_parts, leaf_proof_texts}
use Rattle.proof_checks.specs.LedgerTexts.{texts_of_row, history_parts, ledger_texts}
use Rattle.proof_checks.proofs.Tests.{passed}
use Rattle.proof_checks.proofs.Parts.{in_part, in_flat, agree_parts}
use Rattle.proof_checks.proofs.LeafTold.{leaf_told}
use Rattle.proof_checks.proofs.Beginning.{no_version_of, own_key, begins}
use Rattle.proof_checks.proofs.Onward.{begun}
use Rattle.proof_checks.proofs.Walked.{walk_fault, headers_walked, no_more}
use Rattle.root_laws.specs.Ranges.{is_between, rows_between, as_version, between}
use Rattle.root_laws.proofs.UpTo.{rows_up_to, all_up_to, none_at_all}
use Rattle.proof_checks.specs.declared.range_proof.RangeProof.{RangeProof}
use Rattle.proof_checks.specs.declared.range_reject.RangeReject.{RangeReject}
use Rattle.proof_checks.specs.RangeChecks.{query_fault, next_in_range, is_within, headers_within}
use Rattle.proof_checks.specs.RangeChecks.{bodies_fault, version_shown, versions_in, fault_in}
use Rattle.proof_checks.specs.RangeChecks.{range_judgement}
use Rattle.proof_checks.specs.RangeTexts.{IsRangeProof, range_texts}
use Rattle.proof_checks.specs.RangeSoundness.{AcceptedRangesAreSound}
use Rattle.proof_checks.proofs.RangePassing.{goes_on, IsOf, is_of, Passes, passes}
use Rattle.proof_checks.proofs.Walks.{walked}
use Rattle.proof_checks.proofs.Bodies.{versions_are}

module _ (root : List ℕ) (range : RangeProof) (rows : List Row) (block : ℕ) (digest : List ℕ)
    (is : IsRangeProof range) (pass : Passes root range) (lawful : IsLawful rows)
    (are : All IsTypedRow rows) (block_fits : block < 2 ^ 32)
    (root_is : sha256 (root_text block digest (leaves rows)) ≡ root)
    (agree : Agree (range_texts range) (joined_texts (history_parts rows block digest))) where
  abbrev own : List (List ℕ)
  own = joined_texts (history_parts rows block digest)

  abbrev key : List ℕ
  key = range.key

  -- ---- the texts of the range proof

  in_leaf_proof : (text : List ℕ) → Contains (joined_texts (leaf_proof_parts range.leaf_proof)) text
      → Contains (range_texts range) text
  unfolding range_texts leaf_proof_texts
  in_leaf_proof text has =
      Contains-append_left
      (leaf_proof_texts range.leaf_proof ++ map header_text range.headers)
      (map body_text range.bodies) text
      (Contains-append_left (leaf_proof_texts range.leaf_proof) (map header_text range.headers) text
      has)

  in_headers : (text : List ℕ) → Contains (map header_text range.headers) text
      → Contains (range_texts range) text
  unfolding range_texts
  in_headers text has =
      Contains-append_left
      (leaf_proof_texts range.leaf_proof ++ map header_text range.headers)
      (map body_text range.bodies) text
      (Contains-append_right (leaf_proof_texts range.leaf_proof) (map header_text range.headers)
      text
      has)

  in_bodies : (text : List ℕ) → Contains (map body_text range.bodies) text
      → Contains (range_texts range) text
  unfolding range_texts
  in_bodies text has =
      Contains-append_right
      (leaf_proof_texts range.leaf_proof ++ map header_text range.headers)
      (map body_text range.bodies) text has

  -- ---- the texts of the history

  texts_there : (text : List ℕ) → Contains (flat_map (texts_of_row rows) rows) text
      → Contains own text
  texts_there text has =
      in_part (history_parts rows block digest) 3 (flat_map (texts_of_row rows) rows) text refl has

  own_headers : (row : Row) → Contains rows row → Contains own (header_text (header_of rows row))
  own_headers row has =
      texts_there (header_text (header_of rows row))
      (in_flat (texts_of_row rows) rows row (header_text (header_of rows row)) has
      (0, omega arith, refl))

  own_bodies : (row : Row) → Contains rows row → Contains own (body_text (body_of rows row))
  own_bodies row has =
      texts_there (body_text (body_of rows row))
      (in_flat (texts_of_row rows) rows row (body_text (body_of rows row)) has
      (1, omega arith, refl))

  -- ---- what it shows

  one : IsOneOf rows lawful are range.leaf_proof.leaf
  one =
      leaf_told rows block digest root lawful are block_fits root_is range.to range.leaf_proof
      is.leaf_proof_is pass.root_passes
      (agree_parts (range_texts range) own (joined_texts (leaf_proof_parts range.leaf_proof)) own
      agree in_leaf_proof (λ text has. has))

  abbrev first : Option Link
  first = expected_first key range.leaf_proof.leaf

  walk_passes : walk_fault (next_in_range range.from range.to) key 0 first range.headers ≡ None
  walk_passes =
      sym (headers_walked (next_in_range range.from range.to) key first range.headers)
      ∙ pass.path_passes

  walk_from : (expected : Option Link) → first ≡ expected
      → walk_fault (next_in_range range.from range.to) key 0 expected range.headers ≡ None
  walk_from expected e =
      sym (ap (λ (o : Option Link).
      walk_fault (next_in_range range.from range.to) key 0 o range.headers) e)
      ∙ walk_passes

  -- The headers between the blocks decide what the versions are.
  by_headers : (kept : List Row) → rows_between rows key range.from range.to ≡ kept
      → headers_within range ≡ map (header_of rows) (reverse kept)
      → AllByRecursion (Contains rows) (reverse kept)
      → versions_in range ≡ between rows key range.from range.to
  by_headers kept all e has =
      let counted : length range.bodies ≡ length (map (header_of rows) (reverse kept)) =
      is.bodies_counted ∙ ap length e in
      let shown : map version_shown (zip (map (header_of rows) (reverse kept)) range.bodies)
      ≡ map as_version (reverse kept) =
      versions_are rows lawful are (range_texts range) own agree own_bodies (reverse kept)
      range.bodies 0 has counted is.bodies_are_bodies in_bodies
      (sym (ap (λ (hs : List Header). bodies_fault 0 hs range.bodies) e) ∙ pass.bodies_pass) in
      ap (λ (hs : List Header). reverse (map version_shown (zip hs range.bodies))) e
      ∙ ap reverse shown ∙ map_reverse as_version (reverse kept)
      ∙ ap (map as_version) (reverse-reverse kept ∙ sym all)

  -- The leaf isn't that of the key.
  of_another : is_of_key key range.leaf_proof.leaf.key ≡ false
      → versions_in range ≡ between rows key range.from range.to
  of_another f =
      let none : first ≡ None = rw f refl in
      let nil : range.headers ≡ [] =
      no_more (next_in_range range.from range.to) key 0 range.headers (walk_from None none) in
      let no_row : newest rows key ≡ None =
      no_version_of rows lawful are key range.leaf_proof.leaf one
      (passed (covers key range.leaf_proof.leaf) faults.LeafShape pass.leaf_passes) f in
      by_headers [] (none_at_all rows key range.from range.to no_row)
      (ap (λ (hs : List Header). filter (is_within range.from range.to) hs) nil) tt

  -- The leaf is that of the key.
  of_key : is_of_key key range.leaf_proof.leaf.key ≡ true
      → versions_in range ≡ between rows key range.from range.to
  of_key t =
      let own_leaf = own_key rows lawful are key range.leaf_proof.leaf one t in
      let row = newest_of_key rows lawful are key own_leaf.0 in
      let all = all_up_to rows lawful key range.from range.to row.0 row.1 in
      by_headers (rows_up_to rows lawful key range.from range.to row.0.block) all
      (walked rows lawful are key range.from range.to (range_texts range) own agree own_headers
      range.headers 0 row.0 (newest_there rows lawful are key row.0 row.1)
      (newest_is_key rows key row.0 row.1) is.headers_are_headers in_headers
      (walk_from (Some (begun rows row.0))
      (begins rows lawful are key range.leaf_proof.leaf row.0 row.1 own_leaf.1 t)))
      (subst (λ (rs : List Row). AllByRecursion (Contains rows) (reverse rs)) all
      (all_reverse (Contains rows) (rows_between rows key range.from range.to)
      (kept_rows rows (is_between key range.from range.to))))

  pub same_versions : versions_in range ≡ between rows key range.from range.to
  same_versions = elim (cases_Bool (is_of_key key range.leaf_proof.leaf.key)) [
    | inl t ↦ of_key t
    | inr f ↦ of_another f
  ]

-- ---- the law

abbrev given : List Version → Result (List Version) RangeReject
given versions = Ok versions

same_ok : (own versions : List Version) → given own ≡ Ok versions → own ≡ versions
same_ok own versions e = cc

same_query : (rows : List Row) (key : List ℕ) (from to : ℕ) (range : RangeProof)
    → IsOf key from to range → between rows range.key range.from range.to ≡ between rows key from to
same_query rows key from to range is = rw (is.key_is, is.from_is, is.to_is) refl

pub range_is_sound : AcceptedRangesAreSound
unfolding ledger_texts root_of
range_is_sound root key from to range versions is e rows digests block history fits root_is =
    let judged = goes_on (query_fault key from to range) (range_judgement root range) versions e in
    let accept = goes_on (fault_in root range) (given (versions_in range)) versions judged.1 in
    elim (agree_or_clash (range_texts range) (ledger_texts rows digests block)) [
      | inr clash ↦ inr clash
      | inl agree ↦ inl (sym (same_ok (versions_in range) versions accept.1)
          ∙ same_versions root range (up_to rows block) block (digest_at digests block) is
          (passes root range accept.0) (lawful_up_to rows block history.lawful)
          (typed_up_to rows block history.typed) fits root_is agree
          ∙ same_query (up_to rows block) key from to range (is_of key from to range judged.0))
    ]
