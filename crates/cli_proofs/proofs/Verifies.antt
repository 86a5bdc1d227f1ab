-- The output of `verify`, by cases.
use Rattle.std.proofs.Common.{◌≡◌, ℕ, ◌+◌, List, [], ◌++◌, drop, Option, Some, None, Result}
use Rattle.std.proofs.Common.{refl, sym, ap, ◌∙◌, subst}
use Rattle.std.specs.Prelude.{codes, decimal, IfOk, IfSome}
use Rattle.cli_words.specs.declared.question.Question.{Question}
use Rattle.lc_base.specs.declared.digest.Digest.{Digest}
use Rattle.cli_output.specs.proof_commands.Verifying.{IsVerification}
use Rattle.cli_output.specs.proof_commands.declared.verification.HexFault.{HexFault}
use Rattle.cli_output.specs.proof_commands.declared.verification.HexFault.TheVariants.{At}
use Rattle.cli_output.specs.proof_commands.declared.verification.Verification.{Verification}
use Rattle.cli_output.specs.proof_commands.declared.verification.Verification.TheVariants.{Accepted}
use Rattle.cli_output.specs.proof_commands.declared.verification.Verification.TheVariants.{Rejected}
use Rattle.cli_output.specs.proof_commands.declared.verification.Verification.TheVariants.{BadHex}
use Rattle.cli_words.specs.declared.words.Command.TheVariants.{Verify}
use Rattle.cli_output.specs.cli_lines.declared.whole.TheConstants.{MAX_WHOLE_INPUT_BYTES}
use Rattle.cli_output.specs.cli_lines.declared.outcome.Outcome.{Outcome}
use Rattle.cli_output.specs.cli_lines.Outcome.{status_of, bad_input}
use Rattle.cli_output.specs.cli_lines.Whole.{IsWholeInput}
use Rattle.cli_output.specs.Output.{output_of, IsVerifyOutput, LongProof, Verified}
use Rattle.cli_output.specs.Proofs.{hex_cause, verification_outcome}
use Rattle.cli_output.specs.Running.{MayEnd}
use Rattle.cli_output.specs.Scanning.{IsVerifyOutcome}

-- an input with a byte that is no hex digit
pub bad_at : {E : Type 0} (result : Result Outcome E) (fault : HexFault) (at : ℕ) (text : List ℕ)
    → fault ≡ At at → text ≡ codes "at " ++ decimal at → IfOk result
    (λ outcome. outcome ≡ bad_input text) → IfOk result
    (λ outcome. outcome ≡ bad_input (hex_cause fault))
bad_at result fault at text is told made = subst (λ (t : List ℕ). IfOk result (λ outcome. outcome ≡ bad_input t)) (told ∙ sym (ap hex_cause is)) made

-- an input that was read whole
whole_here : (root : List ℕ) (question : Question) (first left : Option (List ℕ)) (bytes : List ℕ)
    (told : Verification) (outcome : Outcome) → IfSome first
    (λ input. IsWholeInput (Some bytes) input left)
    → IsVerification root question bytes told → outcome ≡ verification_outcome told → IfSome first (λ input. IsVerifyOutcome root question outcome left input)
whole_here root question None left bytes told outcome whole is made = tt
whole_here root question (Some input) left bytes told outcome (alike, fits, rest) is made =
    ([], rest, subst (λ (o : Outcome). IsVerifyOutput root question input (output_of o [])) (sym made) (Verified fits told (subst (λ (b : List ℕ). IsVerification root question b told) alike is)))

pub whole_verified : (root : List ℕ) (question : Question) (first left found : Option (List ℕ))
    (bytes : List ℕ) (told : Verification) (outcome : Outcome) → found ≡ Some bytes
    → IfSome first (λ input. IsWholeInput found input left) → IsVerification root question bytes told → outcome ≡ verification_outcome told → IfSome first (λ input. IsVerifyOutcome root question outcome left input)
whole_verified root question first left found bytes told outcome some whole is made =
    whole_here root question first left bytes told outcome (subst (λ (f : Option (List ℕ)). IfSome first (λ input. IsWholeInput f input left)) some whole) is made

-- an input that is too long
long_here : (root : List ℕ) (question : Question) (first left : Option (List ℕ)) (outcome : Outcome)
    → IfSome first (λ input. IsWholeInput None input left) → outcome ≡ bad_input (codes "long")
    → IfSome first (λ input. IsVerifyOutcome root question outcome left input)
long_here root question None left outcome whole is = tt
long_here root question (Some input) left outcome (long, rest) is =
    (drop (MAX_WHOLE_INPUT_BYTES + 1) input, rest, subst (λ (o : Outcome). IsVerifyOutput root question input (output_of o (drop (MAX_WHOLE_INPUT_BYTES + 1) input))) (sym is) (LongProof long))

pub long_verified : (root : List ℕ) (question : Question) (first left found : Option (List ℕ))
    (outcome : Outcome) → found ≡ None → IfSome first (λ input. IsWholeInput found input left)
    → outcome ≡ bad_input (codes "long")
    → IfSome first (λ input. IsVerifyOutcome root question outcome left input)
long_verified root question first left found outcome none whole is =
    long_here root question first left outcome (subst (λ (f : Option (List ℕ)). IfSome first (λ input. IsWholeInput f input left)) none whole) is

-- ---- how it ends

told_ends : (root : Digest) (question : Question) (told : Verification) → MayEnd
    (status_of (verification_outcome told).ending) (Some (Verify root question))
told_ends root question (Accepted shown) = refl
told_ends root question (Rejected refused) = refl
told_ends root question (BadHex fault) = refl

pub verify_ends : (root : Digest) (question : Question) (told : Verification) (outcome : Outcome)
    → outcome ≡ verification_outcome told → MayEnd (status_of outcome.ending)
    (Some (Verify root question))
verify_ends root question told outcome made = subst (λ (o : Outcome). MayEnd (status_of o.ending) (Some (Verify root question))) (sym made) (told_ends root question told)
