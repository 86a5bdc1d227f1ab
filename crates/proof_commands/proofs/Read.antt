-- For bytes there is exactly one verdict of each kind of question, and the functions return it.
use Rattle.std.proofs.Common.{◌≡◌, ◌∙◌, ℕ, List, Result, Ok, Err, refl, sym, ap, subst, arith}
use Rattle.byte_fields.specs.Spelling.{IsBytes}
use Rattle.proof_codec.specs.declared.proof.Proof.{Proof}
use Rattle.proof_codec.specs.Viewing.{proof_in}
use Rattle.proof_codec.specs.declared.proof_view.ViewError.{ViewError}
use Rattle.proof_codec.specs.declared.proof_view.ViewError.TheVariants as views
use Rattle.proof_codec.proofs.Viewed as answers
use Rattle.proof_checks.specs.declared.range_proof.RangeProof.{RangeProof}
use Rattle.trace_verifier.specs.proof_verifier.Answering.{answer_of_proof, verdict_on}
use Rattle.trace_verifier.specs.Reading.{trace_in}
use Rattle.trace_verifier.specs.Verdicts as trace_verdicts
use Rattle.trace_verifier.specs.Verdicts.{trace_verdict_on}
use Rattle.trace_verifier.proofs.Malformed.{is_invalid, one_offset}
use Rattle.trace_verifier.proofs.Viewed as traces
use Rattle.range_verifier.specs.Reading.{range_in}
use Rattle.range_verifier.specs.Verdicts as range_verdicts
use Rattle.range_verifier.specs.Verdicts.{range_verdict_on}
use Rattle.range_verifier.proofs.Viewed as ranges
use Rattle.cli_words.specs.declared.question.Question.{Question}
use Rattle.cli_words.specs.declared.question.Question.TheVariants.{Version, Ancestors, Between}
use Rattle.proof_commands.specs.declared.verification.Shown.{Shown}
use Rattle.proof_commands.specs.declared.verification.Shown.TheVariants as shows
use Rattle.proof_commands.specs.declared.verification.Refused.{Refused}
use Rattle.proof_commands.specs.declared.verification.Refused.TheVariants as refusals
use Rattle.proof_commands.specs.Verifying.{ProofOf, SpellsFor, IsMalformedAt, malformed, of_kind}
use Rattle.proof_commands.specs.Verifying.{verdict_for, verdict_of, IsVerdict, NoProof, Judged}

-- How bytes are read as a proof of a question's kind: what is read is the proof that they spell, or
-- the only offset at which they are malformed; and what the functions return by that.
record Reading (root : List ℕ) (question : Question) : Type 0 where
  read : List ℕ → Result (ProofOf question) ℕ
  spelled : (bytes : List ℕ) (proof : ProofOf question) → IsBytes bytes → read bytes ≡ Ok proof
      → SpellsFor question bytes proof
  is_read : (bytes : List ℕ) (proof : ProofOf question) → SpellsFor question bytes proof
      → read bytes ≡ Ok proof
  invalid : (bytes : List ℕ) (at : ℕ) → IsBytes bytes → read bytes ≡ Err at
      → IsMalformedAt question bytes at
  one : (bytes : List ℕ) (a b : ℕ) → IsMalformedAt question bytes a
      → IsMalformedAt question bytes b → a ≡ b
  after : Result (ProofOf question) ℕ → Result Shown Refused
  at_bad : (at : ℕ) → after (Err at) ≡ Err (malformed question at)
  at_proof : (proof : ProofOf question) → after (Ok proof) ≡ verdict_for root question proof
  verdict_is : (bytes : List ℕ) → verdict_of root question bytes ≡ after (read bytes)

reading : (root : List ℕ) (question : Question) → Reading root question
unfolding verdict_on trace_verdict_on range_verdict_on
reading root (Version query) = record {
  read = proof_in;
  spelled = λ bytes proof fits is.
      let result : Result Proof ViewError = Ok proof in answers.found_this bytes result fits is;
  is_read = answers.is_read;
  invalid = λ bytes at fits is.
      let result : Result Proof ViewError = Err (views.Malformed at) in
      answers.fault_this bytes result fits is;
  one = λ bytes a b is_a is_b.
      let up = is_b.longest a is_a.good in
      let down = is_a.longest b is_b.good in omega (arith, up, down);
  after = λ r. of_kind shows.Answer refusals.Version (answer_of_proof root query r);
  at_bad = λ at. refl;
  at_proof = λ proof. refl;
  verdict_is = λ bytes. refl;
}
reading root (Ancestors key at) = record {
  read = trace_in;
  spelled = traces.is_spelled;
  is_read = traces.is_read;
  invalid = is_invalid;
  one = one_offset;
  after = λ r.
      of_kind shows.Ancestors refusals.Ancestors (trace_verdicts.verdict_of_read root key at r);
  at_bad = λ at. refl;
  at_proof = λ proof. refl;
  verdict_is = λ bytes. refl;
}
reading root (Between key from to) = record {
  read = range_in;
  spelled = ranges.is_spelled;
  is_read = ranges.is_read;
  invalid = λ bytes at fits is.
      let result : Result RangeProof ViewError = Err (views.Malformed at) in
      ranges.fault_this bytes result fits is;
  one = λ bytes a b is_a is_b.
      let up = is_b.longest a is_a.good in
      let down = is_a.longest b is_b.good in omega (arith, up, down);
  after = λ r.
      of_kind shows.Versions refusals.Between (range_verdicts.verdict_of_read root key from to r);
  at_bad = λ at. refl;
  at_proof = λ proof. refl;
  verdict_is = λ bytes. refl;
}

module _ (root bytes : List ℕ) (fits : IsBytes bytes) (question : Question)
    (reads : Reading root question) where
  -- ---- what is returned is a verdict

  none_read : (at : ℕ) → reads.read bytes ≡ Err at → (proof : ProofOf question)
      → SpellsFor question bytes proof → ⊥
  none_read at wrong proof is = let other = reads.is_read bytes proof is in absurd cc

  is_after : (r : Result (ProofOf question) ℕ) → reads.read bytes ≡ r
      → IsVerdict root question bytes (reads.after r)
  is_after (Ok proof) found = subst (IsVerdict root question bytes) (sym (reads.at_proof proof))
      (Judged proof (reads.spelled bytes proof fits found))
  is_after (Err at) found = subst (IsVerdict root question bytes) (sym (reads.at_bad at))
      (NoProof (none_read at found) at (reads.invalid bytes at fits found))

  -- ---- and no other is one

  abbrev bad : ℕ → Result (ProofOf question) ℕ
  bad at = Err at

  unread : ((proof : ProofOf question) → SpellsFor question bytes proof → ⊥) → (at : ℕ)
      → IsMalformedAt question bytes at → (r : Result (ProofOf question) ℕ)
      → reads.read bytes ≡ r → r ≡ Err at
  unread none at is (Ok proof) found = absurd (none proof (reads.spelled bytes proof fits found))
  unread none at is (Err other) found =
      ap bad (reads.one bytes other at (reads.invalid bytes other fits found) is)

  only_after : (found : Result Shown Refused) → IsVerdict root question bytes found
      → found ≡ reads.after (reads.read bytes)
  only_after _ (NoProof none at is) = sym
      (ap reads.after (unread none at is (reads.read bytes) refl) ∙ reads.at_bad at)
  only_after _ (Judged proof is) = sym
      (ap reads.after (reads.is_read bytes proof is) ∙ reads.at_proof proof)

module _ (root bytes : List ℕ) (fits : IsBytes bytes) (question : Question) where
  pub is_verdict : IsVerdict root question bytes (verdict_of root question bytes)
  is_verdict =
      let reads = reading root question in
      subst (IsVerdict root question bytes) (sym (reads.verdict_is bytes))
      (is_after root bytes fits question reads (reads.read bytes) refl)

  pub only_verdict : (found : Result Shown Refused) → IsVerdict root question bytes found
      → found ≡ verdict_of root question bytes
  only_verdict found is =
      let reads = reading root question in
      only_after root bytes fits question reads found is ∙ sym (reads.verdict_is bytes)
