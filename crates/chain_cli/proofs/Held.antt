-- What `verify` prints for a proof that it accepts is what each chain with the root shows, unless
-- texts clash.
use Rattle.std.proofs.Common.{◌≡◌, inl, inr, ℕ, List, map, Option, Result, Ok, Err, refl, ap}
use Rattle.lc_base.specs.declared.answer.Answer.{Answer}
use Rattle.lc_base.specs.declared.answer.Query.{Query}
use Rattle.lc_base.specs.declared.row.Version.{Version as VersionRow}
use Rattle.proof_codec.specs.declared.proof.Proof.{Proof}
use Rattle.proof_codec.specs.Spelling.{IsProof}
use Rattle.root_laws.specs.declared.trace.Trace.{Trace}
use Rattle.proof_checks.specs.Checks.{verdict}
use Rattle.proof_checks.specs.declared.reject.Reject.{Reject}
use Rattle.proof_checks.specs.declared.trace_proof.TraceProof.{TraceProof}
use Rattle.proof_checks.specs.declared.trace_reject.TraceReject.{TraceReject}
use Rattle.proof_checks.specs.TraceChecks.{trace_verdict}
use Rattle.proof_checks.specs.TraceTexts.{IsTraceProof}
use Rattle.proof_checks.specs.declared.range_proof.RangeProof.{RangeProof}
use Rattle.proof_checks.specs.declared.range_reject.RangeReject.{RangeReject}
use Rattle.proof_checks.specs.RangeChecks.{range_verdict}
use Rattle.proof_checks.specs.RangeTexts.{IsRangeProof}
use Rattle.cli_words.specs.declared.question.Question.{Question}
use Rattle.cli_words.specs.declared.question.Question.TheVariants.{Version, Ancestors, Between}
use Rattle.cli_output.specs.proof_commands.declared.verification.Shown.{Shown}
use Rattle.cli_output.specs.proof_commands.declared.verification.Shown.TheVariants as shows
use Rattle.cli_output.specs.proof_commands.declared.verification.Refused.{Refused}
use Rattle.cli_output.specs.proof_commands.declared.verification.Refused.TheVariants as refusals
use Rattle.cli_output.specs.proof_commands.declared.verification.Verification.{Verification}
use Rattle.cli_output.specs.proof_commands.Verifying.{ProofOf, SpellsFor, of_kind}
use Rattle.cli_output.specs.proof_commands.Verifying.{of_verdict, verdict_for, IsVerdict, NoProof}
use Rattle.cli_output.specs.proof_commands.Verifying.{Judged, IsVerification, OddDigits, NoDigit}
use Rattle.cli_output.specs.proof_commands.Verifying.{Decoded}
use Rattle.cli_output.proofs.replay_soundness.Sound.{accepted_proofs_answer_as_replays}
use Rattle.cli_output.proofs.replay_soundness.Traced.{accepted_traces_are_of_replays}
use Rattle.cli_output.proofs.replay_soundness.Ranged.{accepted_ranges_are_of_replays}
use Rattle.cli_append.specs.cli_promises.Promises.{plain}
use Rattle.cli_lines.specs.Lines.{answer_lines, trace_lines, range_lines}
use Rattle.cli_lines.specs.Outcome.{status_of}
use Rattle.cli_lines.specs.declared.status.Status.TheVariants as statuses
use Rattle.cli_output.specs.Output.{LongProof, Verified}
use Rattle.cli_output.specs.Proofs.{verification_outcome}
use Rattle.cli_output.specs.Showing.{IsProofInHex, TellsReplays, ProvedAnswersHold}

-- `verify` ends well with what was found.
abbrev EndsWell : Result Shown Refused → Type 0
EndsWell found = status_of (verification_outcome (of_verdict found)).ending ≡ statuses.Done

-- What it prints then is what replays show.
abbrev Holds : List ℕ → (question : Question) → ProofOf question → Result Shown Refused → Type 0
Holds root question proof found = EndsWell found
    → TellsReplays root question proof (map plain (verification_outcome (of_verdict found)).pieces)

-- ---- the three kinds

answer_holds : (root : List ℕ) (query : Query) (proof : Proof) → IsProof proof
    → (r : Result Answer Reject) → verdict root query proof ≡ r
    → Holds root (Version query) proof (of_kind shows.Answer refusals.Version r)
answer_holds root query proof is (Ok answer) e done = λ compile blocks block has.
    elim (accepted_proofs_answer_as_replays root query proof answer
    (record { lawful = is; accepted = e }) compile blocks block has) [
      | inl same ↦ inl (ap (λ (a : Answer). map plain (answer_lines a)) same)
      | inr clash ↦ inr clash
    ]
answer_holds root query proof is (Err reject) e done = absurd (cc done)

trace_holds : (root key : List ℕ) (at : ℕ) (proof : TraceProof) → IsTraceProof proof
    → (r : Result (Option Trace) TraceReject) → trace_verdict root key at proof ≡ r
    → Holds root (Ancestors key at) proof (of_kind shows.Ancestors refusals.Ancestors r)
trace_holds root key at proof is (Ok trace) e done = λ compile blocks block has.
    elim (accepted_traces_are_of_replays root key at proof trace is e compile blocks block has) [
      | inl same ↦ inl (ap (λ (t : Option Trace). map plain (trace_lines t)) same)
      | inr clash ↦ inr clash
    ]
trace_holds root key at proof is (Err reject) e done = absurd (cc done)

range_holds : (root key : List ℕ) (from to : ℕ) (proof : RangeProof) → IsRangeProof proof
    → (r : Result (List VersionRow) RangeReject) → range_verdict root key from to proof ≡ r
    → Holds root (Between key from to) proof (of_kind shows.Versions refusals.Between r)
range_holds root key from to proof is (Ok versions) e done = λ compile blocks block has.
    elim
    (accepted_ranges_are_of_replays root key from to proof versions is e compile blocks block has) [
      | inl same ↦ inl (ap (λ (v : List VersionRow). map plain (range_lines v)) same)
      | inr clash ↦ inr clash
    ]
range_holds root key from to proof is (Err reject) e done = absurd (cc done)

judged_holds : (root : List ℕ) (question : Question) (bytes : List ℕ) (proof : ProofOf question)
    → SpellsFor question bytes proof
    → Holds root question proof (verdict_for root question proof)
judged_holds root (Version query) bytes proof is =
    answer_holds root query proof is.lawful (verdict root query proof) refl
judged_holds root (Ancestors key at) bytes proof is =
    trace_holds root key at proof is.lawful (trace_verdict root key at proof) refl
judged_holds root (Between key from to) bytes proof is =
    range_holds root key from to proof is.lawful (range_verdict root key from to proof) refl

-- ---- inputs

found_holds : (root : List ℕ) (question : Question) (input bytes : List ℕ)
    → ((proof : ProofOf question) → SpellsFor question bytes proof
    → IsProofInHex question input proof)
    → (found : Result Shown Refused) → IsVerdict root question bytes found → EndsWell found
    → (proof : ProofOf question) × IsProofInHex question input proof
    × TellsReplays root question proof (map plain (verification_outcome (of_verdict found)).pieces)
found_holds root question input bytes in_hex _ (NoProof none offset is) done = absurd (cc done)
found_holds root question input bytes in_hex _ (Judged proof is) done =
    (proof, in_hex proof is, judged_holds root question bytes proof is done)

told_holds : (root : List ℕ) (question : Question) (input : List ℕ) (told : Verification)
    → IsVerification root question input told
    → status_of (verification_outcome told).ending ≡ statuses.Done
    → (proof : ProofOf question) × IsProofInHex question input proof
    × TellsReplays root question proof (map plain (verification_outcome told).pieces)
told_holds root question input _ (OddDigits odd) done = absurd (cc done)
told_holds root question input _ (NoDigit at is) done = absurd (cc done)
told_holds root question input _ (Decoded bytes decoded found is) done =
    found_holds root question input bytes (λ proof spelled. (bytes, decoded, spelled)) found is done

pub proved_answers_hold : (root : List ℕ) (question : Question) (input : List ℕ)
    → ProvedAnswersHold root question input
proved_answers_hold root question input _ (LongProof long) done = absurd (cc done)
proved_answers_hold root question input _ (Verified fits told is) done =
    told_holds root question input told is done
