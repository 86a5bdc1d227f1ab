-- `expose` prints a clash for a proof that is accepted with a wrong answer.
use Rattle.std.proofs.Common.{◌≡◌, ℕ, List, [], Option, Some, None, Result, Ok, Err, refl, ap}
use Rattle.std.proofs.Common.{arith}
use Rattle.std.specs.Prelude.{IsSomeAnd}
use Rattle.lc_base.specs.declared.answer.Answer.{Answer}
use Rattle.lc_base.specs.declared.answer.Query.{Query}
use Rattle.proof_checks.specs.Checks.{verdict}
use Rattle.proof_checks.specs.ProofTexts.{proof_texts}
use Rattle.proof_checks.specs.declared.reject.Reject.{Reject}
use Rattle.replay_soundness.specs.text_clashes.FirstClash.{IsFirstAt}
use Rattle.proof_commands.specs.Verifying.{of_kind, of_verdict, verdict_for, Decoded, Judged}
use Rattle.proof_commands.specs.declared.verification.Shown.TheVariants as shows
use Rattle.proof_commands.specs.declared.verification.Refused.TheVariants as refusals
use Rattle.proof_commands.specs.declared.verification.Verification.TheVariants.{Accepted}
use Rattle.proof_commands.proofs.Verified.{one_verification}
use Rattle.cli_words.specs.declared.question.Question.TheVariants.{Version}
use Rattle.replay_soundness.specs.Soundness.{replayed_texts}
use Rattle.replay_soundness.proofs.Sound.{wrong_answers_are_exposed}
use Rattle.cli_output.specs.Output.{output_of, OutOfReach, LongExposed, NotAccepted, Exposed}
use Rattle.cli_output.specs.Proofs.{is_accepted, clash_outcome}
use Rattle.cli_output.specs.Showing.{TellsClash, WrongAnswersAreTold}

accepted_by : (v : Result Answer Reject) (answer : Answer)
    → Accepted (shows.Answer answer) ≡ of_verdict (of_kind shows.Answer refusals.Version v)
    → v ≡ Ok answer
accepted_by (Ok other) answer same = cc same
accepted_by (Err reject) answer same = absurd (cc same)

told_clash : (given own : List (List ℕ)) (clash : Option (ℕ × ℕ)) → IsSomeAnd clash
    (IsFirstAt given own) → TellsClash given own
    (output_of (clash_outcome given own clash) []).lines
told_clash given own None none = absurd none
told_clash given own (Some pair) first = (pair.0, pair.1, first.clash, refl)

pub wrong_answers_are_told : (root : List ℕ) (query : Query) (root_at : ℕ) (input : List ℕ)
    → WrongAnswersAreTold root query root_at input
wrong_answers_are_told root query root_at input compile blocks answer _ has early fits accepts wrong (OutOfReach past) = absurd (past (has.within, early))
wrong_answers_are_told root query root_at input compile blocks answer _ has early fits accepts wrong (LongExposed within long) = absurd (omega (arith, long, fits))
wrong_answers_are_told root query root_at input compile blocks answer _ has early fits accepts wrong (NotAccepted within _ told is fails) =
    let same : told ≡ Accepted (shows.Answer answer) =
    one_verification root (Version query) input told (Accepted (shows.Answer answer)) is accepts in
    let passes : is_accepted told ≡ is_accepted (Accepted (shows.Answer answer)) =
    ap is_accepted same in
    absurd (cc (passes, fails))
wrong_answers_are_told root query root_at input compile blocks answer _ has early fits accepts wrong (Exposed within _ proof accepted clash first) =
    let found = verdict_for root (Version query) proof in
    let same : Accepted (shows.Answer answer) ≡ of_verdict found =
    one_verification root (Version query) input (Accepted (shows.Answer answer)) (of_verdict found)
    accepts (Decoded accepted.bytes accepted.decoded found (Judged proof accepted.spelled)) in
    let passes : verdict root query proof ≡ Ok answer = accepted_by (verdict root query proof) answer same in
    let found = wrong_answers_are_exposed compile blocks root_at root query proof answer clash has (record { lawful = accepted.spelled.lawful; accepted = passes }) wrong first in (
      proof,
      (accepted.bytes, accepted.decoded, accepted.spelled),
      told_clash (proof_texts proof) (replayed_texts compile blocks root_at) clash found,
    )
