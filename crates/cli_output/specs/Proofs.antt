-- What is printed for proofs, by what verifying them returns.
use Rattle.std.specs.Prelude.{◌≡◌, ℕ, Bool, true, false, List, [], ◌∷◌, ◌++◌, codes, decimal}
use Rattle.std.specs.Prelude.{Option, Some, None, Ok, is_ok}
use Rattle.hex.specs.Hex.{encode_lower, decode_of}
use Rattle.lc_base.specs.declared.answer.Query.{Query}
use Rattle.proof_codec.specs.declared.proof.Proof.{Proof}
use Rattle.proof_codec.specs.Viewing.{Spells}
use Rattle.proof_checks.specs.Checks.{verdict}
use Rattle.proof_commands.specs.Refusing.{rejected_line}
use Rattle.proof_commands.specs.Verifying.{hex_text}
use Rattle.proof_commands.specs.declared.verification.HexFault.{HexFault}
use Rattle.proof_commands.specs.declared.verification.HexFault.TheVariants.{Odd, At}
use Rattle.proof_commands.specs.declared.verification.Verification.{Verification}
use Rattle.proof_commands.specs.declared.verification.Verification.TheVariants.{Accepted, Rejected}
use Rattle.proof_commands.specs.declared.verification.Verification.TheVariants.{BadHex}
use Rattle.replay_soundness.specs.text_clashes.FirstClash.{text_at}
use Rattle.cli_promises.specs.cli_lines.Lines.{line}
use Rattle.cli_promises.specs.cli_lines.Outcome.{outcome_with, bad_input}
use Rattle.cli_promises.specs.cli_lines.declared.outcome.Outcome.{Outcome}
use Rattle.cli_promises.specs.cli_lines.declared.outcome.Ending.TheVariants as endings
use Rattle.cli_output.specs.Questions.{shown_lines}

-- The bytes of a proof in lower-case hex, as a line.
abbrev pub proof_line : List ℕ → List ℕ
proof_line bytes = line (encode_lower bytes)

-- Why an input is no hex, in words.
abbrev pub hex_cause : HexFault → List ℕ
hex_cause Odd = codes "odd"
hex_cause (At at) = codes "at " ++ decimal at

-- The outcome of verifying a proof in hex: the lines of what it shows; why it is not accepted; or
-- why the input is no hex.
abbrev pub verification_outcome : Verification → Outcome
verification_outcome (Accepted shown) = outcome_with (shown_lines shown) endings.Done
verification_outcome (Rejected refused) =
    outcome_with (rejected_line refused ∷ []) endings.Rejected
verification_outcome (BadHex fault) = bad_input (hex_cause fault)

-- ---- clashes with a proof

-- Whether a proof in hex is accepted.
abbrev pub is_accepted : Verification → Bool
is_accepted (Accepted shown) = true
is_accepted (Rejected refused) = false
is_accepted (BadHex fault) = false

-- An input is this proof in hex, and it is accepted under the root.
pub record IsAcceptedHex (root : List ℕ) (query : Query) (input : List ℕ) (proof : Proof) : Type 0 where
  pub bytes : List ℕ
  pub decoded : decode_of (hex_text input) ≡ Ok bytes
  pub spelled : Spells bytes proof
  pub accepted : is_ok (verdict root query proof) ≡ true

-- The line for no clash: no text of the proof clashes with one of the chain.
abbrev pub no_clash_line : List ℕ
no_clash_line = line (codes "no clash")

-- The line of a clash: a text of the proof and one of the chain, each in lower-case hex.
abbrev pub clash_line : List ℕ → List ℕ → List ℕ
clash_line given own = line (codes "clash " ++ encode_lower given ++ codes " " ++ encode_lower own)

-- The outcome for the first clash of the texts of a proof with those of a chain: the text at each
-- of its two places, or that there is none.
abbrev pub clash_outcome : List (List ℕ) → List (List ℕ) → Option (ℕ × ℕ) → Outcome
clash_outcome given own None = outcome_with (no_clash_line ∷ []) endings.Done
clash_outcome given own (Some places) = outcome_with (clash_line (text_at given places.0) (text_at own places.1) ∷ []) endings.Done
