-- For an input and the blocks of a log, `expose` has one output.
use Rattle.std.proofs.Common.{◌≡◌, ◌∙◌, ℕ, ◌≤◌, true, false, List, [], length, Option, Result, Ok}
use Rattle.std.proofs.Common.{Err, is_ok, inl, inr, refl, sym, ap, subst, arith}
use Rattle.std.proofs.lemmas.Bool.{cases_lt}
use Rattle.lc_base.specs.declared.answer.Answer.{Answer}
use Rattle.lc_base.specs.declared.answer.Query.{Query}
use Rattle.hex.specs.Hex.{decode_of}
use Rattle.block_codec.specs.declared.block.Block.{Block}
use Rattle.cli_promises.specs.chain_exec.Compiled.{Compiler}
use Rattle.proof_codec.specs.declared.proof.Proof.{Proof}
use Rattle.proof_codec.specs.Viewing.{Spells, proof_in}
use Rattle.proof_codec.proofs.Viewed.{is_read}
use Rattle.proof_checks.specs.Checks.{verdict}
use Rattle.proof_checks.specs.ProofTexts.{proof_texts}
use Rattle.proof_checks.specs.declared.reject.Reject.{Reject}
use Rattle.replay_soundness.specs.text_clashes.FirstClash.{IsFirstClash}
use Rattle.replay_soundness.proofs.text_clashes.OneFirst.{some_first_clash, one_first_clash}
use Rattle.proof_commands.specs.Verifying.{hex_text, malformed, of_kind, of_verdict, verdict_for}
use Rattle.proof_commands.specs.Verifying.{verification, IsVerdict, IsVerification, OddDigits}
use Rattle.proof_commands.specs.Verifying.{NoDigit, Decoded, NoProof, Judged}
use Rattle.proof_commands.specs.declared.verification.Shown.{Shown}
use Rattle.proof_commands.specs.declared.verification.Shown.TheVariants as shows
use Rattle.proof_commands.specs.declared.verification.Refused.{Refused}
use Rattle.proof_commands.specs.declared.verification.Refused.TheVariants as refusals
use Rattle.cli_words.specs.declared.question.Question.TheVariants.{Version}
use Rattle.proof_commands.specs.declared.verification.HexFault.TheVariants.{Odd, At}
use Rattle.proof_commands.specs.declared.verification.Verification.{Verification}
use Rattle.proof_commands.specs.declared.verification.Verification.TheVariants.{BadHex}
use Rattle.proof_commands.proofs.Verified.{is_verification, one_verification}
use Rattle.cli_promises.specs.Promises.{NoChange}
use Rattle.cli_promises.specs.cli_lines.declared.whole.TheConstants.{MAX_WHOLE_INPUT_BYTES}
use Rattle.replay_soundness.specs.Soundness.{replayed_texts}
use Rattle.cli_output.specs.Output.{Output, output_of, beyond_head, long_output, Reach}
use Rattle.cli_output.specs.Output.{IsExposeOutput, OutOfReach, LongExposed, NotAccepted, Exposed}
use Rattle.cli_output.specs.Proofs.{verification_outcome, is_accepted, IsAcceptedHex, clash_outcome}

pub expose_no_change : (compile : Compiler) (root : List ℕ) (query : Query) (root_at : ℕ)
    (input : List ℕ) (blocks : List Block) (output : Output)
    → IsExposeOutput compile root query root_at input blocks output → output.change ≡ NoChange
expose_no_change compile root query root_at input blocks _ (OutOfReach past) = refl
expose_no_change compile root query root_at input blocks _ (LongExposed within long) = refl
expose_no_change compile root query root_at input blocks _ (NotAccepted within fits told is fails) = refl
expose_no_change compile root query root_at input blocks _ (Exposed within fits proof is clash first) = refl

-- ---- what is accepted

abbrev told_of : Result Answer Reject → Verification
told_of v = of_verdict (of_kind shows.Answer refusals.Version v)

accepted_told : (v : Result Answer Reject) (told : Verification) → told ≡ told_of v
    → is_ok v ≡ true → is_accepted told ≡ true
accepted_told (Ok answer) told is passes = ap is_accepted is
accepted_told (Err reject) told is passes = absurd (cc passes)

refused_told : (v : Result Answer Reject) (reject : Reject) → v ≡ Err reject
    → is_accepted (told_of v) ≡ false
refused_told v reject is = ap (λ (r : Result Answer Reject). is_accepted (told_of r)) is

abbrev read : Proof → Result Proof ℕ
read proof = Ok proof

module _ (root : List ℕ) (query : Query) (input : List ℕ) where
  judged : (proof : Proof) (accepted : IsAcceptedHex root query input proof)
      → IsVerification root (Version query) input (told_of (verdict root query proof))
  judged proof accepted = Decoded accepted.bytes accepted.decoded
      (verdict_for root (Version query) proof) (Judged proof accepted.spelled)

  not_both : (told : Verification) (proof : Proof) → IsVerification root (Version query) input told
      → is_accepted told ≡ false → IsAcceptedHex root query input proof → ⊥
  not_both told proof is fails accepted =
      let same : told ≡ told_of (verdict root query proof) =
      one_verification root (Version query) input told (told_of (verdict root query proof)) is
      (judged proof accepted) in
      let passes = accepted_told (verdict root query proof) told same accepted.accepted in
      cc (fails, passes)

  one_proof : (p q : Proof) → IsAcceptedHex root query input p → IsAcceptedHex root query input q → p ≡ q
  one_proof p q is_p is_q =
      let bytes : is_p.bytes ≡ is_q.bytes = cc (sym is_p.decoded ∙ is_q.decoded) in
      let first : proof_in is_q.bytes ≡ read p = subst (λ (b : List ℕ). proof_in b ≡ read p) bytes (is_read is_p.bytes p is_p.spelled) in
      let other : proof_in is_q.bytes ≡ read q = is_read is_q.bytes q is_q.spelled in
      cc (sym first ∙ other)

  module _ (compile : Compiler) (root_at : ℕ) (blocks : List Block) where
    -- ---- there is an output

    abbrev Told : Type 0
    Told = (output : Output) × IsExposeOutput compile root query root_at input blocks output

    refused : Reach blocks query root_at → length input ≤ MAX_WHOLE_INPUT_BYTES → (told : Verification) → IsVerification root (Version query) input told → is_accepted told ≡ false → Told
    refused within fits told is fails = (output_of (verification_outcome told) [], NotAccepted within fits told is fails)

    by_verdict : Reach blocks query root_at → length input ≤ MAX_WHOLE_INPUT_BYTES → (bytes : List ℕ) → decode_of (hex_text input) ≡ Ok bytes → (proof : Proof) → Spells bytes proof → (v : Result Answer Reject) → verdict root query proof ≡ v → Told
    by_verdict within fits bytes decoded proof is (Ok answer) passes =
        let first = some_first_clash (proof_texts proof) (replayed_texts compile blocks root_at) in (
          output_of (clash_outcome (proof_texts proof) (replayed_texts compile blocks root_at) first.0) [],
          Exposed within fits proof (record { bytes = bytes; decoded = decoded; spelled = is; accepted = ap (λ (r : Result Answer Reject). is_ok r) passes }) first.0 first.1,
        )
    by_verdict within fits bytes decoded proof is (Err reject) fails =
        refused within fits (told_of (verdict root query proof))
        (Decoded bytes decoded (verdict_for root (Version query) proof) (Judged proof is))
        (refused_told (verdict root query proof) reject fails)

    by_found : Reach blocks query root_at → length input ≤ MAX_WHOLE_INPUT_BYTES → (bytes : List ℕ)
        → decode_of (hex_text input) ≡ Ok bytes → (found : Result Shown Refused)
        → IsVerdict root (Version query) bytes found → Told
    by_found within fits bytes decoded _ (NoProof none at longest) =
        refused within fits (of_verdict (Err (malformed (Version query) at)))
        (Decoded bytes decoded (Err (malformed (Version query) at)) (NoProof none at longest)) refl
    by_found within fits bytes decoded _ (Judged proof is) =
        by_verdict within fits bytes decoded proof is (verdict root query proof) refl

    by_told : Reach blocks query root_at → length input ≤ MAX_WHOLE_INPUT_BYTES
        → (told : Verification) → IsVerification root (Version query) input told → Told
    by_told within fits _ (OddDigits odd) = refused within fits (BadHex Odd) (OddDigits odd) refl
    by_told within fits _ (NoDigit at is) = refused within fits (BadHex (At at)) (NoDigit at is) refl
    by_told within fits _ (Decoded bytes decoded found is) =
        by_found within fits bytes decoded found is

    pub some_expose : (output : Output) × IsExposeOutput compile root query root_at input blocks output
    some_expose =
        elim (cases_lt root_at (length blocks)) [
          | inr past ↦ (output_of (beyond_head blocks) input, OutOfReach (λ reach. omega (arith, past, reach.0)))
          | inl low ↦ elim (cases_lt root_at query.at) [
            | inl later ↦ (output_of (beyond_head blocks) input, OutOfReach (λ reach. omega (arith, later, reach.1)))
            | inr early ↦ elim (cases_lt MAX_WHOLE_INPUT_BYTES (length input)) [
              | inl long ↦ (long_output input, LongExposed (low, early) long)
              | inr fits ↦ by_told (low, early) fits (verification root (Version query) input)
                  (is_verification root (Version query) input)
            ]
          ]
        ]

    -- ---- and no other

    one_clash : (p q : Proof) → p ≡ q → (a b : Option (ℕ × ℕ)) → IsFirstClash (proof_texts p) (replayed_texts compile blocks root_at) a → IsFirstClash (proof_texts q) (replayed_texts compile blocks root_at) b
        → output_of (clash_outcome (proof_texts p) (replayed_texts compile blocks root_at) a) [] ≡ output_of (clash_outcome (proof_texts q) (replayed_texts compile blocks root_at) b) []
    one_clash p q same a b is_a is_b =
        let here = subst (λ (r : Proof). IsFirstClash (proof_texts r) (replayed_texts compile blocks root_at) a) same is_a in
        ap (λ (r : Proof). output_of (clash_outcome (proof_texts r) (replayed_texts compile blocks root_at) a) []) same
        ∙ ap (λ (c : Option (ℕ × ℕ)). output_of (clash_outcome (proof_texts q) (replayed_texts compile blocks root_at) c) []) (one_first_clash (proof_texts q) (replayed_texts compile blocks root_at) a b here is_b)

    pub one_expose : (a b : Output) → IsExposeOutput compile root query root_at input blocks a → IsExposeOutput compile root query root_at input blocks b → a ≡ b
    one_expose _ _ (OutOfReach _) (OutOfReach _) = refl
    one_expose _ _ (OutOfReach past) (LongExposed within _) = absurd (past within)
    one_expose _ _ (OutOfReach past) (NotAccepted within _ _ _ _) = absurd (past within)
    one_expose _ _ (OutOfReach past) (Exposed within _ _ _ _ _) = absurd (past within)
    one_expose _ _ (LongExposed within _) (OutOfReach past) = absurd (past within)
    one_expose _ _ (LongExposed _ _) (LongExposed _ _) = refl
    one_expose _ _ (LongExposed _ long) (NotAccepted _ fits _ _ _) = absurd (omega (arith, long, fits))
    one_expose _ _ (LongExposed _ long) (Exposed _ fits _ _ _ _) = absurd (omega (arith, long, fits))
    one_expose _ _ (NotAccepted within _ _ _ _) (OutOfReach past) = absurd (past within)
    one_expose _ _ (NotAccepted _ fits _ _ _) (LongExposed _ long) = absurd (omega (arith, long, fits))
    one_expose _ _ (NotAccepted _ _ told is _) (NotAccepted _ _ other i _) = ap (λ (v : Verification). output_of (verification_outcome v) []) (one_verification root (Version query) input told other is i)
    one_expose _ _ (NotAccepted _ _ told is fails) (Exposed _ _ proof accepted _ _) = absurd (not_both told proof is fails accepted)
    one_expose _ _ (Exposed within _ _ _ _ _) (OutOfReach past) = absurd (past within)
    one_expose _ _ (Exposed _ fits _ _ _ _) (LongExposed _ long) = absurd (omega (arith, long, fits))
    one_expose _ _ (Exposed _ _ proof accepted _ _) (NotAccepted _ _ told is fails) = absurd (not_both told proof is fails accepted)
    one_expose _ _ (Exposed _ _ p is_p a first_a) (Exposed _ _ q is_q b first_b) = one_clash p q (one_proof p q is_p is_q) a b first_a first_b
