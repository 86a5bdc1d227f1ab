-- The range proof that is made of a ledger is accepted with all versions between the blocks.
use Rattle.std.proofs.Common.{◌≡◌, ◌∙◌, ◌⊎◌, ℕ, suc, ◌<◌, ◌≤◌, true, false, nat_le}
use Rattle.std.proofs.Common.{List, [], ◌∷◌, length, map, reverse, Option, Some}
use Rattle.std.proofs.Common.{None, Result, Ok, refl, sym, ap, inl, inr}
use Rattle.std.specs.List.{All, Contains, zip}
use Rattle.std.specs.Option.{option_or}
use Rattle.std.proofs.lemmas.Bool.{cases_Bool, and_left, and_right, leb-true, leb-false, eq-eqb}
use Rattle.std.proofs.lemmas.List.{reverse-reverse}
use Rattle.sha2.specs.Sha256.{sha256}
use Rattle.lc_base.specs.KeyBytes.{IsKey}
use Rattle.lc_base.specs.declared.digest.Digest.{Digest}
use Rattle.lc_base.specs.declared.row.Row.{Row}
use Rattle.lc_base.specs.declared.row.Version.{Version}
use Rattle.lc_base.specs.declared.answer.Answer.{Answer}
use Rattle.lc_base.specs.declared.answer.Kind.TheVariants.{Hist}
use Rattle.lc_base.specs.declared.answer.Query.{Query}
use Rattle.lc_base.specs.History.{IsLawful, up_to, newest, latest, uses, scan}
use Rattle.root_laws.specs.prov_entry.declared.entry.Header.{Header}
use Rattle.root_laws.specs.prov_entry.Spelling.{body_text}
use Rattle.root_laws.specs.Naming.{header_of, body_of}
use Rattle.root_laws.specs.Root.{digest_at, root_of}
use Rattle.root_laws.specs.TypedLedger.{IsTypedRow, IsTypedLedger}
use Rattle.root_laws.proofs.Lists.{map_reverse}
use Rattle.root_laws.proofs.Keys.{key_is_key}
use Rattle.root_laws.proofs.Parts.{lawful_up_to, rows_up_to as typed_up_to}
use Rattle.proof_codec.specs.declared.proof.Proof.{Proof}
use Rattle.proof_codec.specs.Spelling.{last_of}
use Rattle.proof_checks.specs.Checks.{expected_first, expected_after, query_fault as lookup_query}
use Rattle.proof_checks.specs.Checks.{judgement, claim_of_leaf, claim_before}
use Rattle.proof_checks.specs.Checks.{fault_in as lookup_fault, answer_in}
use Rattle.proof_checks.specs.Making.{IsMade, made_of, made_proof}
use Rattle.proof_checks.proofs.Tests.{goes_on as lookup_goes_on, accepted}
use Rattle.proof_checks.proofs.Rows.{latest_key}
use Rattle.proof_checks.proofs.Onward.{claim_of_uses}
use Rattle.proof_checks.proofs.Walked.{walk_fault, headers_walked, path_is, Ends}
use Rattle.proof_checks.proofs.Sound.{Passes as LookupPasses, passes as lookup_passes}
use Rattle.proof_checks.proofs.MadeAccepted.{made_ends}
use Rattle.proof_checks.proofs.MadeThere.{made_is_made, made_is_there}
use Rattle.root_laws.specs.Ranges.{rows_between, as_version, between}
use Rattle.root_laws.proofs.UpTo.{none_at_all, none_between, none_low, all_latest}
use Rattle.root_laws.proofs.Ends.{latest_is}
use Rattle.proof_checks.specs.declared.range_proof.RangeProof.{RangeProof}
use Rattle.proof_checks.specs.declared.range_reject.RangeReject.{RangeReject}
use Rattle.proof_checks.specs.RangeChecks.{query_fault, next_in_range}
use Rattle.proof_checks.specs.RangeChecks.{body_fault, bodies_fault, version_shown}
use Rattle.proof_checks.specs.RangeChecks.{versions_in, after, range_judgement, range_verdict}
use Rattle.proof_checks.specs.RangeMaking.{rows_back, range_of, made_range, MadeRangesAreAccepted}
use Rattle.proof_checks.proofs.RangePassing.{Passes, no_fault}
use Rattle.proof_checks.proofs.Further.{way_ends, HeadersPass, by_nothing, by_last, by_row}

-- ---- bodies and versions

module _ (rows : List Row) where
  own_body : (item : ℕ) (row : Row) → body_fault item (header_of rows row) (body_of rows row) ≡ None
  own_body item row = rw (key_is_key (sha256 (body_text (body_of rows row)))) refl

  own_bodies : (kept : List Row) (item : ℕ)
      → bodies_fault item (map (header_of rows) kept) (map (body_of rows) kept) ≡ None
  own_bodies [] item = refl
  own_bodies (row ∷ kept) item =
      ap (λ (fault : Option RangeReject). option_or fault
      (bodies_fault (suc item) (map (header_of rows) kept) (map (body_of rows) kept)))
      (own_body item row)
      ∙ own_bodies kept (suc item)

  own_versions : (kept : List Row)
      → map version_shown (zip (map (header_of rows) kept) (map (body_of rows) kept))
      ≡ map as_version kept
  own_versions [] = refl
  own_versions (row ∷ kept) =
      ap (λ (vs : List Version). as_version row ∷ vs) (own_versions kept)

-- ---- all checks pass

-- The lookup of the last version up to the last block.
abbrev pub asked : List ℕ → ℕ → Query
asked key to = record { kind = Hist; key = key; at = to }

module _ (root : List ℕ) (rows : List Row) (block : ℕ) (digest key : List ℕ) (from to : ℕ)
    (lawful : IsLawful rows) (are : All IsTypedRow rows)
    (pass : LookupPasses root (made_of rows block digest (asked key to)))
    (made : IsMade rows block digest (made_of rows block digest (asked key to))) where
  abbrev proof : Proof
  proof = made_of rows block digest (asked key to)

  abbrev range : RangeProof
  range = range_of rows block digest key from to

  pub walks : walk_fault (expected_after to) key 0 (expected_first key proof.leaf_proof.leaf)
      proof.headers ≡ None
  walks = sym (path_is proof) ∙ pass.path_passes

  abbrev Goes : Type 0
  Goes =
      HeadersPass rows lawful key from to (expected_first key proof.leaf_proof.leaf) proof.headers
      walks

  -- How the headers of the lookup end.
  abbrev Ending : Header → Type 0
  Ending last =
      ((latest rows key to ≡ None) × (nat_le last.block to ≡ false))
      ⊎ ((row : Row) × Contains rows row × (latest rows key to ≡ Some row)
      × (last ≡ header_of rows row) × (nat_le row.block to ≡ true)
      × (claim_before (claim_of_leaf proof.leaf_proof.leaf) proof.headers
      ≡ claim_of_uses (uses rows key row.block)))

  by_end : (last : Header) → last_of proof.headers ≡ Some last → Ending last → Goes
  by_end last last_is (inl (none, late)) =
      let ended : expected_after to last ≡ None =
      way_ends proof.headers to key 0 (expected_first key proof.leaf_proof.leaf) last walks
      last_is in
      let after : next_in_range from to last ≡ expected_after to last = rw late refl in
      by_last rows lawful key from to (expected_first key proof.leaf_proof.leaf) proof.headers walks
      last last_is (and_right (nat_le from last.block) (nat_le last.block to) late) (after ∙ ended)
      (none_between rows lawful key from to none)
  by_end last last_is (inr (row, has, found, is_last, high, claim)) =
      let row_is : last_of proof.headers ≡ Some (header_of rows row) =
      last_is ∙ ap (λ (h : Header). Some h) is_last in
      elim (cases_Bool (nat_le from row.block)) [
        | inl t ↦
            by_row rows lawful key from to (expected_first key proof.leaf_proof.leaf) proof.headers
            walks row has (latest_key rows key to row found) row_is
            (latest_is rows key from to row found (leb-true from row.block t))
            (all_latest rows lawful key from to row found)
        | inr f ↦
            let none : next_in_range from to (header_of rows row) ≡ None = rw (high, f) refl in
            by_last rows lawful key from to (expected_first key proof.leaf_proof.leaf) proof.headers
            walks (header_of rows row) row_is
            (and_left (nat_le from row.block) (nat_le row.block to) f) none
            (all_latest rows lawful key from to row found
            ∙ none_low rows lawful key from to row.block (leb-false from row.block f))
      ]

  pub goes : Goes
  goes = go (made_ends rows block digest proof lawful are made)
    where
      go : ((proof.headers ≡ []) × (newest rows key ≡ None))
          ⊎ Ends rows key to (claim_of_leaf proof.leaf_proof.leaf) proof.headers → Goes
      go (inl (nil, none)) =
          by_nothing rows lawful key from to (expected_first key proof.leaf_proof.leaf)
          proof.headers walks nil (none_at_all rows key from to none)
      go (inr end) = by_end end.last end.last_is end.how

  abbrev back : List Row
  back = rows_back rows key from to

  passing : Passes root range
  passing = record {
    root_passes = pass.root_passes;
    leaf_passes = pass.leaf_passes;
    path_passes =
        headers_walked (next_in_range from to) key (expected_first key range.leaf_proof.leaf)
        range.headers
        ∙ goes.no_fault;
    bodies_pass =
        ap (λ (hs : List Header). bodies_fault 0 hs range.bodies) goes.within
        ∙ own_bodies rows back 0;
  }

  shown : versions_in range ≡ between rows key from to
  shown =
      ap (λ (hs : List Header). reverse (map version_shown (zip hs range.bodies))) goes.within
      ∙ ap reverse (own_versions rows back) ∙ map_reverse as_version back
      ∙ ap (map as_version) (reverse-reverse (rows_between rows key from to))

  own_query : query_fault key from to range ≡ None
  own_query = rw (key_is_key key, eq-eqb from from refl, eq-eqb to to refl) refl

  abbrev given : List Version → Result (List Version) RangeReject
  given versions = Ok versions

  pub range_passes : range_verdict root key from to range ≡ Ok (between rows key from to)
  range_passes =
      ap (λ (fault : Option RangeReject). after fault (range_judgement root range)) own_query
      ∙ ap (λ (fault : Option RangeReject). after fault (given (versions_in range)))
      (no_fault root range passing)
      ∙ ap given shown

-- The lookup's proof that is made of a ledger passes.
pub lookup_is : (rows : List Row) (digests : List Digest) (block : ℕ) (key : List ℕ) (to : ℕ)
    → IsTypedLedger rows digests → block < length digests → IsKey key → to ≤ block
    → LookupPasses (root_of rows digests block) (made_proof rows digests block (asked key to))
lookup_is rows digests block key to ledger within is_key low =
    let root : List ℕ = root_of rows digests block in
    let query : Query = asked key to in
    let proof : Proof = made_proof rows digests block query in
    let answer : Answer = scan (up_to rows block) query in
    let judged = lookup_goes_on (lookup_query query proof) (judgement root proof) answer
    (made_is_there rows digests block query ledger within is_key low).1 in
    lookup_passes root proof (accepted (lookup_fault root proof) (answer_in proof) answer
    judged.1).0

pub made_range_is_accepted : MadeRangesAreAccepted
unfolding made_range made_proof
made_range_is_accepted rows digests block key from to ledger within is_key in_order low =
    range_passes (root_of rows digests block) (up_to rows block) block (digest_at digests block) key
    from to (lawful_up_to rows block ledger.history.lawful)
    (typed_up_to rows block ledger.history.typed)
    (lookup_is rows digests block key to ledger within is_key low)
    (made_is_made rows digests block (asked key to) ledger.history is_key).0
