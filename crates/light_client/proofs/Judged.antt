-- What a light file's judgement of a proof is, case by case.
use Rattle.std.proofs.Common.{◌≡◌, ◌≢◌, ◌∙◌, inl, inr, ◌≤◌, ◌==◌, ℕ, Bool, true, false, List}
use Rattle.std.proofs.Common.{length, refl, sym, ap, Some, None, Result, Ok, Err}
use Rattle.std.specs.Prelude.{◌↔◌, slice_get, if◌then◌else◌}
use Rattle.std.specs.Cmp.Lexicographic.{pointwise}
use Rattle.std.proofs.lemmas.Option.{slice_get_cases, slice_get_past}
use Rattle.std.proofs.lemmas.Slice.Eq.{bytes_eq-Decides}
use Rattle.lc_base.specs.declared.answer.Answer.{Answer}
use Rattle.lc_base.specs.declared.digest.Digest.{Digest}
use Rattle.proof_codec.specs.declared.proof.Proof.{Proof}
use Rattle.proof_verifier.specs.proof_checks.declared.reject.Reject.{Reject}
use Rattle.proof_verifier.specs.proof_checks.Checks.{judgement}
use Rattle.light_client.specs.declared.block_root.BlockRoot.{BlockRoot}
use Rattle.light_client.specs.declared.reject.LightReject.{LightReject}
use Rattle.light_client.specs.declared.reject.LightReject.TheVariants.{Malformed, Unknown}
use Rattle.light_client.specs.declared.reject.LightReject.TheVariants.{DigestDiffers, Rejected}
use Rattle.light_client.specs.Checking.{LightAnswer, light_answer, light_outcome}
use Rattle.light_client.specs.Checking.{judgement_if_known, light_judgement, malformed_at}
use Rattle.light_client.specs.Checking.{HasBlockOf}

abbrev pub as_ok : LightAnswer → Result LightAnswer LightReject
as_ok found = Ok found

abbrev pub as_err : LightReject → Result LightAnswer LightReject
as_err reject = Err reject

-- ---- digests

same_digest : (a b : Digest) → pointwise ◌==◌ a.0 b.0 ≡ true → a ≡ b
same_digest a b e = ap (λ (bytes : List ℕ). record { 0 = bytes }) ((bytes_eq-Decides a.0 b.0).0 e)

is_digest : (a b : Digest) → a ≡ b → pointwise ◌==◌ a.0 b.0 ≡ true
is_digest a b e = (bytes_eq-Decides a.0 b.0).1 (ap (λ (d : Digest). d.0) e)

-- What follows from each value of a test.
either : {P : Type 0} (b : Bool) → (b ≡ true → P) → (b ≡ false → P) → P
either true passes fails = passes refl
either false passes fails = fails refl

-- ---- an outcome under a root

ok_of_outcome : (proof : Proof) (r : Result Answer Reject) (found : LightAnswer)
    → light_outcome proof r ≡ as_ok found
    → (answer : Answer) × (r ≡ Ok answer) × (light_answer proof answer ≡ found)
ok_of_outcome proof (Ok answer) found e = (answer, refl, cc)
ok_of_outcome proof (Err fault) found e = absurd cc

err_of_outcome : (proof : Proof) (r : Result Answer Reject) (reject : LightReject)
    → light_outcome proof r ≡ as_err reject
    → (fault : Reject) × (r ≡ Err fault) × (Rejected fault ≡ reject)
err_of_outcome proof (Ok answer) reject e = absurd cc
err_of_outcome proof (Err fault) reject e = (fault, refl, cc)

module _ (file : List BlockRoot) (proof : Proof) where
  abbrev under : BlockRoot → Result LightAnswer LightReject
  under block_root = light_outcome proof (judgement block_root.root.0 proof)

  abbrev by_digest : BlockRoot → Bool → Result LightAnswer LightReject
  by_digest block_root b =
      if b then under block_root else Err (DigestDiffers block_root.digest)

  abbrev is_same : BlockRoot → Bool
  is_same block_root = pointwise ◌==◌ block_root.digest.0 proof.leaf_proof.block_digest.0

  -- ---- which case it is

  pub if_unknown : length file ≤ proof.leaf_proof.root_at
      → light_judgement file proof ≡ as_err (Unknown (length file))
  if_unknown past =
      ap (judgement_if_known (length file) proof)
      (slice_get_past file proof.leaf_proof.root_at past)

  if_known : (block_root : BlockRoot) → slice_get file proof.leaf_proof.root_at ≡ Some block_root
      → light_judgement file proof ≡ by_digest block_root (is_same block_root)
  if_known block_root known = ap (judgement_if_known (length file) proof) known

  pub if_same : (block_root : BlockRoot) → HasBlockOf file proof block_root
      → light_judgement file proof ≡ under block_root
  if_same block_root has =
      if_known block_root has.known
      ∙ ap (by_digest block_root)
      (is_digest block_root.digest proof.leaf_proof.block_digest has.same_digest)

  if_other : (block_root : BlockRoot) → slice_get file proof.leaf_proof.root_at ≡ Some block_root
      → is_same block_root ≡ false
      → light_judgement file proof ≡ as_err (DigestDiffers block_root.digest)
  if_other block_root known other = if_known block_root known ∙ ap (by_digest block_root) other

  -- What holds if the judgement is this: one of the three cases.
  cases : (P : Type 0) → (length file ≤ proof.leaf_proof.root_at → P)
      → ((block_root : BlockRoot) → slice_get file proof.leaf_proof.root_at ≡ Some block_root
      → is_same block_root ≡ false → P)
      → ((block_root : BlockRoot) → HasBlockOf file proof block_root → P) → P
  cases P unknown other same = elim (slice_get_cases file proof.leaf_proof.root_at).1 [
    | inr (past, none) ↦ unknown past
    | inl (block_root, within, known, own) ↦ either (is_same block_root)
        (λ passes. same block_root
        (record {
          known = known;
          same_digest = same_digest block_root.digest proof.leaf_proof.block_digest passes;
        }))
        (λ fails. other block_root known fails)
  ]

  -- ---- each outcome, and exactly when it is the outcome

  pub unknown_exactly : (light_judgement file proof ≡ as_err (Unknown (length file)))
      ↔ (length file ≤ proof.leaf_proof.root_at)
  unknown_exactly = (
    λ is. cases (length file ≤ proof.leaf_proof.root_at) (λ past. past)
        (λ block_root known other. let e = if_other block_root known other in absurd cc)
        (λ block_root has.
        let (fault, failed, same) = err_of_outcome proof (judgement block_root.root.0 proof)
        (Unknown (length file)) (sym (if_same block_root has) ∙ is) in
        absurd cc),
    if_unknown,
  )

  pub differs_exactly : (block_root : BlockRoot)
      → slice_get file proof.leaf_proof.root_at ≡ Some block_root
      → (light_judgement file proof ≡ as_err (DigestDiffers block_root.digest))
      ↔ (block_root.digest ≢ proof.leaf_proof.block_digest)
  differs_exactly block_root known = (
    λ is same.
        let (fault, failed, told) = err_of_outcome proof (judgement block_root.root.0 proof)
        (DigestDiffers block_root.digest)
        (sym (if_same block_root (record { known = known; same_digest = same })) ∙ is) in
        absurd cc,
    λ apart. either (is_same block_root)
        (λ passes. absurd (apart
        (same_digest block_root.digest proof.leaf_proof.block_digest passes)))
        (λ fails. if_other block_root known fails),
  )

  pub rejected_exactly : (block_root : BlockRoot) → HasBlockOf file proof block_root
      → (fault : Reject) → (light_judgement file proof ≡ as_err (Rejected fault))
      ↔ (judgement block_root.root.0 proof ≡ Err fault)
  rejected_exactly block_root has fault = (
    λ is.
        let (own, failed, told) = err_of_outcome proof (judgement block_root.root.0 proof)
        (Rejected fault) (sym (if_same block_root has) ∙ is) in
        let same : own ≡ fault = cc in
        failed ∙ ap (λ (f : Reject). Err f) same,
    λ failed. if_same block_root has ∙ ap (light_outcome proof) failed,
  )

  pub accepted_then : (block_root : BlockRoot) → HasBlockOf file proof block_root
      → (answer : Answer) → judgement block_root.root.0 proof ≡ Ok answer
      → light_judgement file proof ≡ as_ok (light_answer proof answer)
  accepted_then block_root has answer is = if_same block_root has ∙ ap (light_outcome proof) is

  -- What is there if the file accepts the proof.
  pub record IsAccepted (found : LightAnswer) : Type 0 where
    pub block_root : BlockRoot
    pub has : HasBlockOf file proof block_root
    pub accepted : judgement block_root.root.0 proof ≡ Ok found.answer
    pub found_is : found ≡ light_answer proof found.answer

  pub accepted_only : (found : LightAnswer) → light_judgement file proof ≡ as_ok found
      → IsAccepted found
  accepted_only found is = cases (IsAccepted found)
      (λ past. let e = if_unknown past in absurd cc)
      (λ block_root known other. let e = if_other block_root known other in absurd cc)
      (λ block_root has.
      let (answer, own, same) = ok_of_outcome proof (judgement block_root.root.0 proof) found
      (sym (if_same block_root has) ∙ is) in
      record {
        block_root = block_root;
        has = has;
        accepted = own ∙ ap (λ (f : LightAnswer). Ok f.answer) same;
        found_is = sym same ∙ ap (λ (f : LightAnswer). light_answer proof f.answer) same;
      })

  -- No proof is malformed.
  pub never_malformed : (reject : LightReject) → light_judgement file proof ≡ as_err reject
      → malformed_at reject ≡ None
  never_malformed (Malformed at) is = cases (Some at ≡ None)
      (λ past. let e = if_unknown past in absurd cc)
      (λ block_root known other. let e = if_other block_root known other in absurd cc)
      (λ block_root has.
      let (fault, failed, told) = err_of_outcome proof (judgement block_root.root.0 proof)
      (Malformed at) (sym (if_same block_root has) ∙ is) in
      absurd cc)
  never_malformed (Unknown count) is = refl
  never_malformed (DigestDiffers have) is = refl
  never_malformed (Rejected fault) is = refl
