-- What `verify_hex` returns for an input: exactly one verification is right for each.
use Rattle.std.specs.Prelude.{◌≡◌, ℕ, ◌-◌, ◌%◌, ◌<◌, ◌==◌, Bool, false, if◌then◌else◌, List, length}
use Rattle.std.specs.Prelude.{take, slice_get, slice_index, Option, Some, None, Result, Ok, Err}
use Rattle.std.specs.List.{AllPass}
use Rattle.hex.specs.Hex.{decode_of, is_hex_digit}
use Rattle.hex.specs.declared.error.FromHexError.{FromHexError}
use Rattle.hex.specs.declared.error.FromHexError.TheVariants.{InvalidHexCharacter}
use Rattle.byte_fields.specs.Prefixes.{IsLongestPrefix}
use Rattle.proof_codec.specs.declared.proof.Proof.{Proof}
use Rattle.proof_codec.specs.Spelling.{IsProof, proof_fields}
use Rattle.proof_codec.specs.Viewing.{Spells}
use Rattle.proof_checks.specs.Checks.{verdict}
use Rattle.proof_checks.specs.declared.reject.Reject.TheVariants as rejects
use Rattle.proof_checks.specs.declared.trace_proof.TraceProof.{TraceProof}
use Rattle.proof_checks.specs.declared.trace_reject.TraceReject.TheVariants as trace_rejects
use Rattle.proof_checks.specs.TraceChecks.{trace_verdict}
use Rattle.proof_checks.specs.TraceSpelling.{SpellsTrace}
use Rattle.proof_checks.specs.declared.range_proof.RangeProof.{RangeProof}
use Rattle.proof_checks.specs.declared.range_reject.RangeReject.TheVariants as range_rejects
use Rattle.proof_checks.specs.RangeChecks.{range_verdict}
use Rattle.proof_checks.specs.RangeSpelling.{SpellsRange}
use Rattle.trace_verifier.specs.proof_verifier.Answering.{verdict_on}
use Rattle.trace_verifier.specs.Malformed as traces
use Rattle.trace_verifier.specs.Verdicts.{trace_verdict_on}
use Rattle.range_verifier.specs.Reading as ranges
use Rattle.range_verifier.specs.Verdicts.{range_verdict_on}
use Rattle.cli_words.specs.declared.question.Question.{Question}
use Rattle.cli_words.specs.declared.question.Question.TheVariants.{Version, Ancestors, Between}
use Rattle.proof_commands.specs.declared.verification.Shown.{Shown}
use Rattle.proof_commands.specs.declared.verification.Shown.TheVariants as shows
use Rattle.proof_commands.specs.declared.verification.Refused.{Refused}
use Rattle.proof_commands.specs.declared.verification.Refused.TheVariants as refusals
use Rattle.proof_commands.specs.declared.verification.HexFault.{HexFault}
use Rattle.proof_commands.specs.declared.verification.HexFault.TheVariants.{Odd, At}
use Rattle.proof_commands.specs.declared.verification.Verification.{Verification}
use Rattle.proof_commands.specs.declared.verification.Verification.TheVariants.{Accepted, Rejected}
use Rattle.proof_commands.specs.declared.verification.Verification.TheVariants.{BadHex}

-- Whether there is a byte and it is a line end.
abbrev pub is_line_end : Option ℕ → Bool
is_line_end None = false
is_line_end (Some byte) = byte == 10

-- The input without the line end that it may end with.
abbrev pub hex_text : List ℕ → List ℕ
hex_text input = if is_line_end (slice_get input (length input - 1)) then take (length input - 1) input else input

-- The text has an even number of bytes, and its first byte that isn't a hex digit of either case is
-- at this offset.
pub record IsFirstNoDigit (text : List ℕ) (at : ℕ) : Type 0 where
  pub even : length text % 2 ≡ 0
  pub within : at < length text
  pub no_digit : is_hex_digit (slice_index text at) ≡ false
  pub before : AllPass is_hex_digit (take at text)

-- ---- what differs by the kind of a question

-- The proofs of a question's kind.
abbrev pub ProofOf : Question → Type 0
ProofOf (Version query) = Proof
ProofOf (Ancestors key at) = TraceProof
ProofOf (Between key from to) = RangeProof

-- The bytes spell this proof.
abbrev pub SpellsFor : (question : Question) → List ℕ → ProofOf question → Type 0
SpellsFor (Version query) bytes proof = Spells bytes proof
SpellsFor (Ancestors key at) bytes proof = SpellsTrace bytes proof
SpellsFor (Between key from to) bytes proof = SpellsRange bytes proof

-- The offset of the first invalid field of bytes that spell no proof.
abbrev pub IsMalformedAt : Question → List ℕ → ℕ → Type 0
IsMalformedAt (Version query) bytes offset = IsLongestPrefix proof_fields IsProof bytes offset
IsMalformedAt (Ancestors key at) bytes offset = traces.IsInvalidAt bytes offset
IsMalformedAt (Between key from to) bytes offset = ranges.IsInvalidAt bytes offset

-- The refusal of such bytes.
abbrev pub malformed : Question → ℕ → Refused
malformed (Version query) offset = refusals.Version (rejects.Malformed offset)
malformed (Ancestors key at) offset = refusals.Ancestors (trace_rejects.Malformed offset)
malformed (Between key from to) offset = refusals.Between (range_rejects.Malformed offset)

-- A result of one kind, as one of any kind.
abbrev pub of_kind : {A E : Type 0} → (A → Shown) → (E → Refused) → Result A E
    → Result Shown Refused
of_kind show refuse (Ok shown) = Ok (show shown)
of_kind show refuse (Err reject) = Err (refuse reject)

-- What a proof shows under a root, or the first check that fails.
abbrev pub verdict_for : List ℕ → (question : Question) → ProofOf question → Result Shown Refused
verdict_for root (Version query) proof =
    of_kind shows.Answer refusals.Version (verdict root query proof)
verdict_for root (Ancestors key at) proof =
    of_kind shows.Ancestors refusals.Ancestors (trace_verdict root key at proof)
verdict_for root (Between key from to) proof =
    of_kind shows.Versions refusals.Between (range_verdict root key from to proof)

-- ---- what is right for bytes, and for an input

-- The verdict on bytes for one who has the root: if they spell no proof of the question's kind, the
-- offset of the first invalid field, else the verdict on the proof.
pub data IsVerdict (root : List ℕ) (question : Question) (bytes : List ℕ)
    : Result Shown Refused → Type 0 where
  NoProof : ((proof : ProofOf question) → SpellsFor question bytes proof → ⊥)
      → (offset : ℕ) → IsMalformedAt question bytes offset
      → IsVerdict root question bytes (Err (malformed question offset))
  Judged : (proof : ProofOf question) → SpellsFor question bytes proof
      → IsVerdict root question bytes (verdict_for root question proof)

-- The verification for a verdict.
abbrev pub of_verdict : Result Shown Refused → Verification
of_verdict (Ok shown) = Accepted shown
of_verdict (Err refused) = Rejected refused

-- The verification of an input for one who has the root. The input is hex with digits of either
-- case, and may end with one line end. If the number of its other bytes is odd, it is `Odd`; else,
-- if one of them isn't a digit, the offset of the first such byte; else the verdict on the bytes
-- that it decodes to.
pub data IsVerification (root : List ℕ) (question : Question) (input : List ℕ)
    : Verification → Type 0 where
  OddDigits : length (hex_text input) % 2 ≡ 1 → IsVerification root question input (BadHex Odd)
  NoDigit : (at : ℕ) → IsFirstNoDigit (hex_text input) at
      → IsVerification root question input (BadHex (At at))
  Decoded : (bytes : List ℕ) → decode_of (hex_text input) ≡ Ok bytes
      → (found : Result Shown Refused) → IsVerdict root question bytes found
      → IsVerification root question input (of_verdict found)

-- ---- the same by functions, in the order of the code

-- Why a text isn't hex. `decode_of` reports an odd length before any other fault, so what isn't
-- about a byte is about the length.
abbrev pub hex_fault : FromHexError → HexFault
hex_fault (InvalidHexCharacter byte index) = At index
hex_fault error = Odd

-- The bytes that a text decodes to, or why it isn't hex.
abbrev pub bytes_or_fault : Result (List ℕ) FromHexError → Result (List ℕ) HexFault
bytes_or_fault (Ok bytes) = Ok bytes
bytes_or_fault (Err error) = Err (hex_fault error)

-- The verdict on bytes for one who has the root.
abbrev pub verdict_of : List ℕ → Question → List ℕ → Result Shown Refused
verdict_of root (Version query) bytes =
    of_kind shows.Answer refusals.Version (verdict_on root query bytes)
verdict_of root (Ancestors key at) bytes =
    of_kind shows.Ancestors refusals.Ancestors (trace_verdict_on root key at bytes)
verdict_of root (Between key from to) bytes =
    of_kind shows.Versions refusals.Between (range_verdict_on root key from to bytes)

-- The verification of the proof that a text decodes to, for one who has the root.
abbrev pub of_decoded : List ℕ → Question → Result (List ℕ) HexFault → Verification
of_decoded root question (Ok bytes) = of_verdict (verdict_of root question bytes)
of_decoded root question (Err fault) = BadHex fault

-- The verification of an input, which is hex with digits of either case and may end with one line
-- end.
abbrev pub verification : List ℕ → Question → List ℕ → Verification
verification root question input =
    of_decoded root question (bytes_or_fault (decode_of (hex_text input)))
