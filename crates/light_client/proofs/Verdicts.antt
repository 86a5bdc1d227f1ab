-- What each clause of `check` says follows from the function that defines its result.
use Rattle.std.proofs.Common.{◌≡◌, ◌≢◌, ◌∙◌, ◌≤◌, ℕ, List, length, refl, sym, ap, subst}
use Rattle.std.proofs.Common.{Some, None, Result, Ok, Err, IfOk, IfErr, IsOkAnd, IsErrAnd}
use Rattle.std.proofs.Common.{IsSomeAnd}
use Rattle.std.specs.Prelude.{◌↔◌, slice_get}
use Rattle.lc_base.specs.Answers.{Answers}
use Rattle.lc_base.specs.declared.answer.Answer.{Answer}
use Rattle.lc_base.specs.declared.answer.Query.{Query}
use Rattle.lc_base.specs.declared.digest.Digest.{Digest}
use Rattle.lc_base.specs.declared.row.Row.{Row}
use Rattle.byte_fields.specs.Prefixes.{IsLongestPrefix}
use Rattle.byte_fields.specs.Spelling.{IsBytes}
use Rattle.root_laws.specs.TypedLedger.{IsTypedHistory}
use Rattle.proof_codec.specs.Spelling.{IsProof, proof_fields}
use Rattle.proof_codec.specs.declared.proof.Proof.{Proof}
use Rattle.proof_codec.specs.Viewing.{Spells, proof_in}
use Rattle.proof_codec.specs.declared.proof_view.ViewError.TheVariants as views
use Rattle.proof_codec.proofs.Viewed.{is_read, found_this, fault_this}
use Rattle.proof_verifier.specs.proof_checks.declared.reject.Reject.{Reject}
use Rattle.proof_verifier.specs.proof_checks.Checks.{judgement}
use Rattle.proof_verifier.specs.proof_checks.ProofTexts.{proof_texts}
use Rattle.proof_verifier.specs.proof_checks.Soundness.{AnswersOrClashes}
use Rattle.proof_verifier.proofs.proof_checks.Tests.{own_verdict}
use Rattle.proof_verifier.proofs.proof_checks.Sound.{judged_is_sound}
use Rattle.proof_verifier.specs.Answering.{answer_seen, HasValue}
use Rattle.proof_verifier.proofs.Sounded.{read_value}
use Rattle.light_client.specs.declared.block_root.BlockRoot.{BlockRoot}
use Rattle.light_client.specs.declared.checking.Checked.{Checked}
use Rattle.light_client.specs.declared.reject.LightReject.{LightReject}
use Rattle.light_client.specs.declared.reject.LightReject.TheVariants.{Malformed, Unknown}
use Rattle.light_client.specs.declared.reject.LightReject.TheVariants.{DigestDiffers, Rejected}
use Rattle.light_client.specs.Checking.{LightAnswer, light_answer, light_judgement, answer_of_read}
use Rattle.light_client.specs.Checking.{light_verdict, checked_seen, reject_told, malformed_at}
use Rattle.light_client.specs.Checking.{HasBlockOf, IsLightVerdict, NoProof, Judged}
use Rattle.light_client.specs.Ledgers.{IsFileOf}
use Rattle.light_client.proofs.Judged.{as_ok, as_err, unknown_exactly, differs_exactly}
use Rattle.light_client.proofs.Judged.{rejected_exactly, accepted_then, accepted_only}
use Rattle.light_client.proofs.Judged.{never_malformed}

-- ---- bytes

-- The verdict on bytes that spell a proof is the judgement of the proof.
pub verdict_is : (file : List BlockRoot) (bytes : List ℕ) (given : Proof) → Spells bytes given
    → light_verdict file bytes ≡ light_judgement file given
unfolding light_verdict
verdict_is file bytes given is = ap (answer_of_read file) (is_read bytes given is)

-- The function that says what bytes answer gives the verdict on them.
pub verdict_holds : (file : List BlockRoot) (bytes : List ℕ) → IsBytes bytes
    → IsLightVerdict file bytes (light_verdict file bytes)
unfolding light_verdict
verdict_holds file bytes fits = go (proof_in bytes) refl
  where
    go : (r : Result Proof ℕ) → proof_in bytes ≡ r
        → IsLightVerdict file bytes (answer_of_read file r)
    go (Ok proof) is = Judged proof (found_this bytes (Ok proof) fits is)
    go (Err at) is = NoProof (λ given spelled. absurd (cc (is, is_read bytes given spelled))) at
        (fault_this bytes (Err (views.Malformed at)) fits is)

-- Bytes that are answered spell a proof.
pub accepted_is_spelled : (file : List BlockRoot) (bytes : List ℕ) (found : LightAnswer)
    → IsBytes bytes → light_verdict file bytes ≡ Ok found → (given : Proof) × Spells bytes given
unfolding light_verdict
accepted_is_spelled file bytes found fits e = go (proof_in bytes) refl e
  where
    go : (r : Result Proof ℕ) → proof_in bytes ≡ r → answer_of_read file r ≡ Ok found
        → (given : Proof) × Spells bytes given
    go (Ok proof) is e = (proof, found_this bytes (Ok proof) fits is)
    go (Err at) is e = absurd cc

-- ---- soundness

pub accepted_is_sound : (file : List BlockRoot) (given : Proof) (found : LightAnswer)
    → IsProof given → light_judgement file given ≡ Ok found
    → (rows : List Row) (digests : List Digest) → IsTypedHistory rows → IsFileOf rows digests file
    → AnswersOrClashes rows digests found.root_at found.query (proof_texts given) found.answer
accepted_is_sound file given found is told rows digests history file_is =
    let accept = accepted_only file given found told in
    let root_at : found.root_at ≡ given.leaf_proof.root_at = ap
    (λ (f : LightAnswer). f.root_at) accept.found_is in
    let query : found.query ≡ given.query = ap (λ (f : LightAnswer). f.query) accept.found_is in
    subst (λ (q : Query). AnswersOrClashes rows digests found.root_at q
    (proof_texts given) found.answer) (sym query)
    (subst (λ (at : ℕ). AnswersOrClashes rows digests at given.query
    (proof_texts given) found.answer) (sym root_at)
    (judged_is_sound accept.block_root.root.0 given found.answer is accept.accepted rows digests
    given.leaf_proof.root_at history is.leaf_proof_is.root_at_fits
    (file_is.roots_are given.leaf_proof.root_at accept.block_root accept.has.known)))

-- ---- results

err_told : (result : Result Checked LightReject) (outcome : Result LightAnswer LightReject)
    (reject : LightReject) → Answers checked_seen reject_told result outcome
    → (result ≡ Err reject) ↔ (outcome ≡ as_err reject)
err_told (Ok checked) outcome reject told = (λ is. absurd cc, λ is. absurd cc)
err_told (Err own) outcome reject told =
    (λ is. let same : own ≡ reject = cc in told ∙ ap as_err same, λ is. cc)

ok_told : (result : Result Checked LightReject) (outcome : Result LightAnswer LightReject)
    (found : LightAnswer) → Answers checked_seen reject_told result outcome → outcome ≡ as_ok found
    → IsOkAnd result (λ checked. checked_seen checked ≡ found)
ok_told (Ok checked) outcome found told is = cc
ok_told (Err own) outcome found told is = absurd cc

through : {A B C : Type 0} → A ↔ B → B ↔ C → A ↔ C
through first second = (λ a. second.0 (first.0 a), λ c. first.1 (second.1 c))

module _ (file : List BlockRoot) (bytes : List ℕ) (result : Result Checked LightReject)
    (told : Answers checked_seen reject_told result (light_verdict file bytes)) where
  -- If the bytes spell a proof, the result is the judgement of it.
  told_of : (given : Proof) → Spells bytes given
      → Answers checked_seen reject_told result (light_judgement file given)
  told_of given is =
      subst
      (λ (o : Result LightAnswer LightReject). Answers checked_seen reject_told result o)
      (verdict_is file bytes given is) told

  pub unknown : (given : Proof) → Spells bytes given
      → (result ≡ Err (Unknown (length file))) ↔ (length file ≤ given.leaf_proof.root_at)
  unknown given is =
      through (err_told result (light_judgement file given) (Unknown (length file))
      (told_of given is))
      (unknown_exactly file given)

  pub differs : (given : Proof) → Spells bytes given → (known : BlockRoot)
      → slice_get file given.leaf_proof.root_at ≡ Some known
      → (result ≡ Err (DigestDiffers known.digest))
      ↔ (known.digest ≢ given.leaf_proof.block_digest)
  differs given is known there =
      through (err_told result (light_judgement file given) (DigestDiffers known.digest)
      (told_of given is))
      (differs_exactly file given known there)

  pub rejected : (given : Proof) → Spells bytes given → (known : BlockRoot)
      → HasBlockOf file given known → (fault : Reject)
      → (result ≡ Err (Rejected fault)) ↔ (judgement known.root.0 given ≡ Err fault)
  rejected given is known has fault =
      through (err_told result (light_judgement file given) (Rejected fault) (told_of given is))
      (rejected_exactly file given known has fault)

  pub accepted : (given : Proof) → Spells bytes given → (known : BlockRoot)
      → HasBlockOf file given known → (answer : Answer) → judgement known.root.0 given ≡ Ok answer
      → IsOkAnd result (λ checked. checked_seen checked ≡ light_answer given answer)
  accepted given is known has answer passes =
      ok_told result (light_judgement file given) (light_answer given answer) (told_of given is)
      (accepted_then file given known has answer passes)

readable_by : (file : List BlockRoot) (given : Proof) (result : Result Checked LightReject)
    → Answers checked_seen reject_told result (light_judgement file given)
    → IfErr result (λ reject. malformed_at reject ≡ None)
readable_by file given (Ok checked) told = tt
readable_by file given (Err reject) told = never_malformed file given reject told

pub readable : (file : List BlockRoot) (bytes : List ℕ) (result : Result Checked LightReject)
    → Answers checked_seen reject_told result (light_verdict file bytes)
    → (given : Proof) → Spells bytes given → IfErr result (λ reject. malformed_at reject ≡ None)
readable file bytes result told given is =
    readable_by file given result (told_of file bytes result told given is)

sound_by : (file : List BlockRoot) (given : Proof) (result : Result Checked LightReject)
    → Answers checked_seen reject_told result (light_judgement file given) → IsProof given
    → (rows : List Row) (digests : List Digest) → IsTypedHistory rows → IsFileOf rows digests file
    → IfOk result (λ checked. AnswersOrClashes rows digests checked.root_at checked.query
    (proof_texts given) (answer_seen checked.found))
sound_by file given (Ok checked) told is rows digests history file_is =
    accepted_is_sound file given (checked_seen checked) is told rows digests history file_is
sound_by file given (Err reject) told is rows digests history file_is = tt

pub sound : (file : List BlockRoot) (bytes : List ℕ) (result : Result Checked LightReject)
    → Answers checked_seen reject_told result (light_verdict file bytes)
    → (given : Proof) → Spells bytes given
    → (rows : List Row) (digests : List Digest) → IsTypedHistory rows → IsFileOf rows digests file
    → IfOk result (λ checked. AnswersOrClashes rows digests checked.root_at checked.query
    (proof_texts given) (answer_seen checked.found))
sound file bytes result told given is =
    sound_by file given result (told_of file bytes result told given is) is.lawful

pub value : (file : List BlockRoot) (bytes : List ℕ) (result : Result Checked LightReject)
    → IsBytes bytes → Answers checked_seen reject_told result (light_verdict file bytes)
    → IfOk result (λ checked. HasValue (answer_seen checked.found))
value file bytes (Ok checked) fits told =
    let (given, is) = accepted_is_spelled file bytes (checked_seen checked) fits told in
    let accept = accepted_only file given (checked_seen checked)
    (sym (verdict_is file bytes given is) ∙ told) in
    read_value accept.block_root.root.0 given.query given (Ok checked.found) is.lawful
    (own_verdict accept.block_root.root.0 given ∙ accept.accepted)
value file bytes (Err reject) fits told = tt

malformed_err : (P : ℕ → Type 0) (at : ℕ) (result : Result Checked LightReject)
    → Answers checked_seen reject_told result (as_err (Malformed at)) → P at
    → IsErrAnd result (λ reject. IsSomeAnd (malformed_at reject) P)
malformed_err P at (Ok checked) told holds = absurd cc
malformed_err P at (Err reject) told holds = let same : reject ≡ Malformed at = cc in rw same holds

pub malformed : (file : List BlockRoot) (bytes : List ℕ) (result : Result Checked LightReject)
    → IsBytes bytes → Answers checked_seen reject_told result (light_verdict file bytes)
    → ((given : Proof) → Spells bytes given → ⊥)
    → IsErrAnd result (λ reject. IsSomeAnd (malformed_at reject)
    (IsLongestPrefix proof_fields IsProof bytes))
unfolding light_verdict
malformed file bytes result fits told none = go (proof_in bytes) refl told
  where
    go : (r : Result Proof ℕ) → proof_in bytes ≡ r
        → Answers checked_seen reject_told result (answer_of_read file r)
        → IsErrAnd result (λ reject. IsSomeAnd (malformed_at reject)
        (IsLongestPrefix proof_fields IsProof bytes))
    go (Ok proof) is told = absurd (none proof (found_this bytes (Ok proof) fits is))
    go (Err at) is told =
        malformed_err (IsLongestPrefix proof_fields IsProof bytes) at result told
        (fault_this bytes (Err (views.Malformed at)) fits is)
