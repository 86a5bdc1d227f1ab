-- What `expose` prints for an input, against the ledger of a chain.
use Rattle.std.specs.Prelude.{◌≡◌, ℕ, ◌&&◌, nat_lt, nat_le, Bool, false, List, [], ◌∷◌, length}
use Rattle.std.specs.Prelude.{Option, Some, None}
use Rattle.lc_base.specs.declared.answer.Query.{Query}
use Rattle.chain_replay.specs.Chain.{ChainState}
use Rattle.merkle_dag.specs.Ledger.{Ledger}
use Rattle.proof_codec.specs.declared.proof.Proof.{Proof}
use Rattle.proof_checks.specs.ProofTexts.{proof_texts}
use Rattle.proof_checks.specs.LedgerTexts.{ledger_texts}
use Rattle.cli_output.specs.proof_commands.Verifying.{IsVerification}
use Rattle.cli_output.specs.proof_commands.declared.verification.Verification.{Verification}
use Rattle.cli_words.specs.declared.question.Question.TheVariants.{Version}
use Rattle.answer_exposing.specs.Exposing.{IsFound}
use Rattle.answer_exposing.specs.declared.exposing.Clash.{Clash}
use Rattle.cli_output.specs.cli_lines.Outcome.{outcome_with}
use Rattle.cli_output.specs.cli_lines.declared.outcome.Outcome.{Outcome}
use Rattle.cli_output.specs.cli_lines.declared.outcome.Ending.TheVariants as endings
use Rattle.cli_output.specs.Proofs.{verification_outcome, is_accepted, IsAcceptedHex, no_clash_line}
use Rattle.cli_output.specs.Proofs.{clash_line}

-- The ledger of what is kept of a chain: its rows, and the digests of its blocks.
abbrev pub ledger_kept : ChainState → Ledger
ledger_kept kept = record { rows = kept.rows; digests = kept.digests }

-- Whether a ledger has the block of the root, and the question is about no later one.
abbrev pub reaches : Ledger → Query → ℕ → Bool
reaches ledger query root_at = nat_lt root_at (length ledger.digests) && nat_le query.at root_at

-- The outcome for two texts that clash, or for none.
abbrev pub found_outcome : Option Clash → Outcome
found_outcome None = outcome_with (no_clash_line ∷ []) endings.Done
found_outcome (Some clash) = outcome_with (clash_line clash.proof_text clash.chain_text ∷ []) endings.Done

-- The texts that are hashed for the root at a block of a ledger.
abbrev pub texts_kept : Ledger → ℕ → List (List ℕ)
texts_kept ledger at = ledger_texts ledger.rows ledger.digests at

-- The outcome for an input that was read whole, against a ledger up to a block: that of `verify` if
-- it does not accept the input, else the first clash with the proof, or that there is none.
pub data IsHeld (ledger : Ledger) (root : List ℕ) (query : Query) (root_at : ℕ) (input : List ℕ) : Outcome → Type 0 where
  Refused : (found : Verification) → IsVerification root (Version query) input found
      → is_accepted found ≡ false
      → IsHeld ledger root query root_at input (verification_outcome found)
  Held : (proof : Proof) → IsAcceptedHex root query input proof → (found : Option Clash) → IsFound (proof_texts proof) (texts_kept ledger root_at) found →
      IsHeld ledger root query root_at input (found_outcome found)
