-- The first fault of a range proof, check by check.
use Rattle.std.proofs.Common.{◌≡◌, ◌∙◌, ℕ, ◌<◌, ◌^◌, List, length, map, Option, Some, None, Result}
use Rattle.std.proofs.Common.{Ok, refl, sym, ap, ap₂, subst, arith}
use Rattle.std.specs.List.{zip}
use Rattle.std.specs.Option.{option_map, option_or}
use Rattle.std.specs.Result.{result_err}
use Rattle.std.proofs.lemmas.Slice.Zip.{length-zip, firsts-zip, seconds-zip}
use Rattle.prov_entry.specs.declared.entry.Link.{Link}
use Rattle.prov_entry.specs.declared.entry.Header.{Header}
use Rattle.prov_entry.specs.declared.entry.Body.{Body}
use Rattle.root_laws.proofs.Parts.{filter_short}
use Rattle.proof_codec.specs.declared.proof.LeafProof.{LeafProof}
use Rattle.proof_codec.specs.Spelling.{last_of}
use Rattle.proof_verifier.specs.proof_checks.declared.claim.Claim.{Claim}
use Rattle.proof_verifier.specs.proof_checks.declared.reject.Reject.{Reject}
use Rattle.proof_verifier.specs.proof_checks.Checks.{after, headers_fault, claim_before}
use Rattle.proof_verifier.specs.proof_checks.Checks.{expected_first}
use Rattle.proof_verifier.specs.proof_checks.Checks.{root_fault, leaf_fault}
use Rattle.proof_verifier.specs.Walking.{HeaderClaim, walk_end}
use Rattle.proof_verifier.proofs.Walks.{told, walk_end_is}
use Rattle.proof_verifier.specs.proof_checks.declared.range_proof.RangeProof.{RangeProof}
use Rattle.proof_verifier.specs.proof_checks.declared.range_reject.RangeReject.{RangeReject}
use Rattle.proof_verifier.specs.proof_checks.RangeTexts.{IsRangeProof}
use Rattle.proof_verifier.specs.proof_checks.RangeChecks.{next_in_range, path_fault, shown_fault}
use Rattle.proof_verifier.specs.proof_checks.RangeChecks.{as_range_reject}
use Rattle.proof_verifier.specs.proof_checks.RangeChecks.{is_within, headers_within, bodies_fault}
use Rattle.proof_verifier.specs.proof_checks.RangeChecks.{fault_in}
use Rattle.range_verifier.specs.Shown.{header_shown, body_shown}

-- ---- a walk over headers

err_after : {A : Type 0} (fault : Option Reject) (x : A) → result_err (after fault (Ok x)) ≡ fault
err_after None x = refl
err_after (Some fault) x = refl

-- A walk ends with the fault of the headers as a whole, if there is one.
walk_fault : (next : Header → Option Link) (key : List ℕ) (first : Option Link) (claim : Claim)
    (headers : List Header) (result : Result (Option HeaderClaim) Reject)
    → result ≡ walk_end next key 0 first claim None headers
    → result_err result ≡ headers_fault next key first headers
walk_fault next key first claim headers result e =
    ap (λ (r : Result (Option HeaderClaim) Reject). result_err r)
    (e ∙ walk_end_is next key first claim headers)
    ∙ err_after (headers_fault next key first headers)
    (option_map (λ (header : Header). told header (claim_before claim headers)) (last_of headers))

or_both : {A : Type 0} (a b c : Option A)
    → option_or (option_or a b) c ≡ option_or a (option_or b c)
or_both None b c = refl
or_both (Some fault) b c = refl

module _ (range : RangeProof) where
  -- ---- the headers

  abbrev first : Option Link
  first = expected_first range.key range.leaf_proof.leaf

  -- The walk with the arguments of a call.
  pub path_by : (key : List ℕ) (from to : ℕ) (start : Option Link) (claim : Claim)
      (headers : List Header) (result : Result (Option HeaderClaim) Reject) → key ≡ range.key
      → from ≡ range.from → to ≡ range.to → start ≡ first → headers ≡ range.headers
      → result ≡ walk_end (next_in_range from to) key 0 start claim None headers
      → result_err result ≡ path_fault range
  path_by key from to start claim headers result key_is from_is to_is start_is headers_are e =
      walk_fault (next_in_range from to) key start claim headers result e
      ∙ ap (λ (f : ℕ). headers_fault (next_in_range f to) key start headers) from_is
      ∙ ap (λ (t : ℕ). headers_fault (next_in_range range.from t) key start headers) to_is
      ∙ ap (λ (k : List ℕ).
      headers_fault (next_in_range range.from range.to) k start headers) key_is
      ∙ ap (λ (o : Option Link).
      headers_fault (next_in_range range.from range.to) range.key o headers) start_is
      ∙ ap (headers_fault (next_in_range range.from range.to) range.key first) headers_are

  -- ---- the leaf proof

  module _ (root : List ℕ) where
    -- The check of the leaf proof with the arguments of a call.
    pub leaf_fails : (key : List ℕ) (leaf_proof : LeafProof) (fault : Reject) → key ≡ range.key
        → leaf_proof ≡ range.leaf_proof
        → Some fault ≡ option_or (root_fault root leaf_proof) (leaf_fault key leaf_proof)
        → Some fault ≡ shown_fault root range
    leaf_fails key leaf_proof fault key_is leaf_is e =
        let own = range.leaf_proof in
        let found : Some fault ≡ option_or (root_fault root own) (leaf_fault range.key own) =
        e
        ∙ ap (λ (l : LeafProof). option_or (root_fault root l) (leaf_fault key l)) leaf_is
        ∙ ap (λ (k : List ℕ). option_or (root_fault root own) (leaf_fault k own)) key_is in
        ap (λ (o : Option Reject). option_or o (path_fault range)) found
        ∙ or_both (root_fault root own) (leaf_fault range.key own) (path_fault range)

  -- ---- the bodies

  abbrev shown : List (Header × Body)
  shown = zip (headers_within range) range.bodies

  few_shown : IsRangeProof range → length shown < 2 ^ 32
  few_shown is =
      let few = is.few_headers in
      let within = filter_short (is_within range.from range.to) range.headers in
      let zipped = length-zip (headers_within range) range.bodies in
      omega (arith, few, within, zipped)

  -- There are fewer versions than four bytes count.
  pub few_by : (versions : List (Header × Body)) → versions ≡ shown → IsRangeProof range
      → length versions < 2 ^ 32
  few_by versions same is =
      subst (λ (vs : List (Header × Body)). length vs < 2 ^ 32) (sym same) (few_shown is)

  abbrev fault_of : List (Header × Body) → Option RangeReject
  fault_of versions = bodies_fault 0 (map header_shown versions) (map body_shown versions)

  -- There are as many bodies as headers between the blocks.
  bodies_are : IsRangeProof range
      → fault_of shown ≡ bodies_fault 0 (headers_within range) range.bodies
  bodies_are is =
      ap₂ (bodies_fault 0)
      (firsts-zip (headers_within range) range.bodies is.bodies_counted)
      (seconds-zip (headers_within range) range.bodies is.bodies_counted)

  -- ---- the whole

  module _ (root : List ℕ) where
    abbrev with_bodies : Option Reject → Option RangeReject
    with_bodies fault =
        option_or (option_map as_range_reject fault)
        (bodies_fault 0 (headers_within range) range.bodies)

    pub shown_fails : (fault : Reject) (reported : RangeReject)
        → Some fault ≡ shown_fault root range → reported ≡ as_range_reject fault
        → Some reported ≡ fault_in root range
    unfolding fault_in
    shown_fails fault reported e is =
        ap (λ (r : RangeReject). Some r) is ∙ ap with_bodies e

    pub shown_passes : (versions : List (Header × Body)) (fault : Option RangeReject)
        → IsRangeProof range → None ≡ shown_fault root range → versions ≡ shown
        → fault ≡ fault_of versions → fault ≡ fault_in root range
    unfolding fault_in
    shown_passes versions fault is e same found =
        found ∙ ap fault_of same ∙ bodies_are is ∙ ap with_bodies e
