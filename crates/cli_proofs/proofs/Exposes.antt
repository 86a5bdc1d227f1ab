-- The output of `expose`, by cases.
use Rattle.std.proofs.Common.{◌≡◌, ◌∙◌, ℕ, ◌+◌, ◌-◌, ◌<◌, ◌≤◌, Bool, true, false, cond, List, []}
use Rattle.std.proofs.Common.{◌∷◌, length, map, drop, Option, Some, None, Result, Ok, Err, is_ok}
use Rattle.std.proofs.Common.{refl, sym, ap, subst, arith}
use Rattle.std.specs.Prelude.{◌&&◌, nat_lt, nat_le, codes, IfOk, IfSome}
use Rattle.std.proofs.lemmas.Bool.{ne_eqb, eq-eqb, and_parts, and_from, lt-ltb, le-leb, ltb-true}
use Rattle.std.proofs.lemmas.Bool.{leb-true}
use Rattle.hex.specs.Hex.{decode_of}
use Rattle.hex.specs.declared.error.FromHexError.{FromHexError}
use Rattle.lc_base.specs.declared.answer.Query.{Query}
use Rattle.lc_base.specs.declared.digest.Digest.{Digest}
use Rattle.block_codec.specs.Placement.{digest_of}
use Rattle.block_codec.specs.declared.block.Block.{Block}
use Rattle.chain_exec.specs.Compiled.{compiled_in}
use Rattle.chain_exec.specs.Effect.{History}
use Rattle.chain_replay.specs.Chain.{ChainState, StandsFor}
use Rattle.merkle_dag.specs.Ledger.{Ledger, IsHead}
use Rattle.proof_codec.specs.declared.proof.Proof.{Proof}
use Rattle.proof_codec.specs.Viewing.{Spells}
use Rattle.proof_checks.specs.Checks.{verdict}
use Rattle.proof_checks.specs.ProofTexts.{proof_texts}
use Rattle.proof_checks.specs.LedgerTexts.{ledger_texts}
use Rattle.proof_checks.specs.declared.reject.Reject.{Reject}
use Rattle.lc_base.specs.declared.answer.Answer.{Answer}
use Rattle.text_clashes.specs.FirstClash.{text_at}
use Rattle.answer_exposing.specs.Exposing.{IsFound}
use Rattle.answer_exposing.specs.declared.exposing.Clash.{Clash}
use Rattle.proof_verifier.specs.Answering.{verdict_on}
use Rattle.cli_output.specs.proof_commands.Refusing.{rejected_line}
use Rattle.cli_output.specs.proof_commands.Verifying.{hex_text, of_kind, of_verdict}
use Rattle.cli_output.specs.proof_commands.Verifying.{of_decoded, bytes_or_fault}
use Rattle.cli_output.specs.proof_commands.Verifying.{verification, IsVerification}
use Rattle.cli_output.specs.proof_commands.declared.verification.HexFault.{HexFault}
use Rattle.cli_output.specs.proof_commands.declared.verification.Shown.TheVariants as shows
use Rattle.cli_output.specs.proof_commands.declared.verification.Refused.TheVariants as refusals
use Rattle.cli_words.specs.declared.question.Question.TheVariants.{Version}
use Rattle.cli_output.specs.proof_commands.declared.verification.Verification.{Verification}
use Rattle.cli_output.specs.proof_commands.declared.verification.Verification.TheVariants.{Accepted}
use Rattle.cli_output.specs.proof_commands.declared.verification.Verification.TheVariants.{Rejected}
use Rattle.cli_output.specs.proof_commands.declared.verification.Verification.TheVariants.{BadHex}
use Rattle.cli_output.proofs.proof_commands.Verified.{is_verification}
use Rattle.cli_output.proofs.rooted_chain.Rooted.{as_many}
use Rattle.cli_words.specs.declared.words.Command.TheVariants.{Expose}
use Rattle.cli_output.specs.cli_lines.Whole.{IsWholeInput}
use Rattle.cli_output.specs.cli_lines.Outcome.{status_of, outcome_with, bad_input}
use Rattle.cli_output.specs.cli_lines.declared.whole.TheConstants.{MAX_WHOLE_INPUT_BYTES}
use Rattle.cli_output.specs.cli_lines.declared.outcome.Outcome.{Outcome}
use Rattle.cli_output.specs.cli_lines.declared.outcome.Ending.{Ending}
use Rattle.cli_output.specs.cli_lines.declared.outcome.Ending.TheVariants as endings
use Rattle.cli_output.specs.replay_soundness.Soundness.{replayed_texts}
use Rattle.cli_output.specs.Output.{output_of, beyond_outcome, beyond_head, Reach}
use Rattle.cli_output.specs.Output.{IsExposeOutput, OutOfReach, LongExposed, NotAccepted, Exposed}
use Rattle.cli_output.specs.Proofs.{hex_cause, verification_outcome, IsAcceptedHex, clash_line}
use Rattle.cli_output.specs.Running.{MayEnd, found_no_log}
use Rattle.cli_output.specs.Scanning.{EndsAsked, EndsExposed, IsExposeOutcome}
use Rattle.cli_output.specs.Telling.{status_of_found}
use Rattle.cli_output.specs.declared.stop.OutcomeStop.{OutcomeStop}
use Rattle.cli_output.specs.declared.stop.OutcomeStop.TheVariants as outcomes
use Rattle.cli_proofs.specs.Exposing.{ledger_kept, reaches, IsHeld, Refused, Held, found_outcome}
use Rattle.cli_proofs.specs.Exposing.{texts_kept}

-- ---- an input that was read whole, against what is kept of a chain

abbrev by_bytes : List ℕ → Query → Result (List ℕ) FromHexError → Verification
by_bytes root query r = of_decoded root (Version query) (bytes_or_fault r)

abbrev by_verdict : Result Answer Reject → Verification
by_verdict v = of_verdict (of_kind shows.Answer refusals.Version v)

told_so : (root : List ℕ) (query : Query) (input : List ℕ) (told : Verification)
    → verification root (Version query) input ≡ told
    → IsVerification root (Version query) input told
told_so root query input told is = subst (IsVerification root (Version query) input) is
    (is_verification root (Version query) input)

pub refused_held : (ledger : Ledger) (root : List ℕ) (query : Query) (root_at : ℕ) (bytes : List ℕ)
    (reject : Reject) (outcome : Outcome) → verdict_on root query bytes ≡ Err reject
    → outcome ≡ outcome_with (rejected_line (refusals.Version reject) ∷ []) endings.Rejected
    → (input : List ℕ) → decode_of (hex_text input) ≡ Ok bytes
    → IsHeld ledger root query root_at input outcome
refused_held ledger root query root_at bytes reject outcome fails made input decoded =
    let told : verification root (Version query) input ≡ Rejected (refusals.Version reject) =
    ap (by_bytes root query) decoded ∙ ap by_verdict fails in
    subst (IsHeld ledger root query root_at input) (sym made)
    (Refused (Rejected (refusals.Version reject))
    (told_so root query input (Rejected (refusals.Version reject)) told) refl)

pub accepted_held : {E : Type 0} (ledger : Ledger) (root : List ℕ) (query : Query) (root_at : ℕ)
    (bytes : List ℕ) (proof : Proof) (result : Result Outcome E) → Spells bytes proof
    → is_ok (verdict root query proof) ≡ true
    → IfOk result (λ o. (found : Option Clash)
    × IsFound (proof_texts proof) (texts_kept ledger root_at) found × (o ≡ found_outcome found))
    → (input : List ℕ) → decode_of (hex_text input) ≡ Ok bytes
    → IfOk result (IsHeld ledger root query root_at input)
accepted_held ledger root query root_at bytes proof (Err e) spelled passes made input decoded = tt
accepted_held ledger root query root_at bytes proof (Ok outcome) spelled passes made input decoded =
    subst (IsHeld ledger root query root_at input) (sym made.2)
    (Held proof (record {
      bytes = bytes;
      decoded = decoded;
      spelled = spelled;
      accepted = passes;
    }) made.0 made.1)

pub bad_hex_held : (ledger : Ledger) (root : List ℕ) (query : Query) (root_at : ℕ) (input : List ℕ)
    (fault : HexFault) (outcome : Outcome) → bytes_or_fault (decode_of (hex_text input)) ≡ Err fault
    → outcome ≡ bad_input (hex_cause fault)
    → IsHeld ledger root query root_at input outcome
bad_hex_held ledger root query root_at input fault outcome is made =
    let told : verification root (Version query) input ≡ BadHex fault =
    ap (of_decoded root (Version query)) is in
    subst (IsHeld ledger root query root_at input) (sym made)
    (Refused (BadHex fault) (told_so root query input (BadHex fault) told) refl)

pub decoded_is : (r : Result (List ℕ) FromHexError) (bytes : List ℕ) → bytes_or_fault r ≡ Ok bytes
    → r ≡ Ok bytes
decoded_is (Ok found) bytes is = let same : found ≡ bytes = cc is in ap (λ (b : List ℕ). Ok b) same
decoded_is (Err error) bytes is = absurd (cc is)

-- ---- against the blocks

head_is : (digests : List Digest) (blocks : List Block) (head : Option ℕ) → IsHead digests head
    → length digests ≡ length blocks → beyond_outcome head ≡ beyond_head blocks
head_is digests blocks None none count = sym
    (ap (λ (empty : Bool). cond empty (beyond_outcome None)
    (beyond_outcome (Some (length blocks - 1)))) (eq-eqb (length blocks) 0 (sym count ∙ none)))
head_is digests blocks (Some head) last count =
    ap (λ (n : ℕ). beyond_outcome (Some n)) (omega (arith, last, count))
    ∙ sym (ap (λ (empty : Bool). cond empty (beyond_outcome None)
    (beyond_outcome (Some (length blocks - 1))))
    (ne_eqb (length blocks) 0 (λ none. omega (arith, last, count, none))))

texts_same : (kept : ChainState) (blocks : List Block) (at : ℕ) → StandsFor kept blocks
    → texts_kept (ledger_kept kept) at ≡ replayed_texts compiled_in blocks at
texts_same kept blocks at stands =
    ap (λ (digests : List Digest). ledger_texts kept.rows digests at) stands.digests_are
    ∙ ap (λ (history : History). ledger_texts history.rows (map digest_of blocks) at)
    stands.history_is

in_reach : (at root_at kept count : ℕ) → (nat_lt root_at kept && nat_le at root_at) ≡ true
    → kept ≡ count → (root_at < count) × (at ≤ root_at)
in_reach at root_at kept count within same =
    let parts = and_parts (nat_lt root_at kept) (nat_le at root_at) within in
    let low : root_at < kept = ltb-true root_at kept parts.0 in
    (omega (arith, low, same), leb-true at root_at parts.1)

out_of_reach : (at root_at kept count : ℕ) → (nat_lt root_at kept && nat_le at root_at) ≡ false
    → kept ≡ count → (root_at < count) × (at ≤ root_at) → ⊥
out_of_reach at root_at kept count past same reach =
    let low : root_at < kept = omega (arith, reach.0, same) in
    let fits : (nat_lt root_at kept && nat_le at root_at) ≡ true = and_from (nat_lt root_at kept)
    (nat_le at root_at) (lt-ltb root_at kept low) (le-leb at root_at reach.1) in
    cc (past, fits)

module _ (ledger : Ledger) (kept : ChainState) (same : ledger ≡ ledger_kept kept) (root : List ℕ)
    (query : Query) (root_at : ℕ) where
  abbrev ToldOf : Outcome → Option (List ℕ) → List ℕ → Type 0
  ToldOf outcome left input = (blocks : List Block) → StandsFor kept blocks
      → IsExposeOutcome root query root_at blocks outcome left input

  count_is : (blocks : List Block) → StandsFor kept blocks → length ledger.digests ≡ length blocks
  count_is blocks stands = ap (λ (l : Ledger). length l.digests) same ∙ as_many kept blocks stands

  exposed : (blocks : List Block) (input : List ℕ) (proof : Proof) (found : Option Clash)
      → Reach blocks query root_at → length input ≤ MAX_WHOLE_INPUT_BYTES
      → IsAcceptedHex root query input proof
      → IsFound (proof_texts proof) (replayed_texts compiled_in blocks root_at) found
      → IsExposeOutput compiled_in root query root_at input blocks
      (output_of (found_outcome found) [])
  exposed blocks input proof None within fits accepted none = Exposed within fits proof accepted
      None none
  exposed blocks input proof (Some clash) within fits accepted (pair, first, texts) =
      let line_is : clash_line (text_at (proof_texts proof) pair.0)
      (text_at (replayed_texts compiled_in blocks root_at) pair.1) ≡ clash_line clash.proof_text
      clash.chain_text =
      ap (λ (t : List ℕ). clash_line t (text_at (replayed_texts compiled_in blocks root_at) pair.1))
      (sym texts.0) ∙ ap (clash_line clash.proof_text) (sym texts.1) in
      subst (λ (l : List ℕ). IsExposeOutput compiled_in root query root_at input blocks
      (output_of (outcome_with (l ∷ []) endings.Done) [])) line_is
      (Exposed within fits proof accepted (Some pair) first)

  held_exposed : (input : List ℕ) (outcome : Outcome)
      → IsHeld ledger root query root_at input outcome → (blocks : List Block)
      → StandsFor kept blocks → Reach blocks query root_at → length input ≤ MAX_WHOLE_INPUT_BYTES
      → IsExposeOutput compiled_in root query root_at input blocks (output_of outcome [])
  held_exposed input _ (Refused told is fails) blocks stands within fits = NotAccepted within fits
      told is fails
  held_exposed input _ (Held proof accepted found is) blocks stands within fits =
      exposed blocks input proof found within fits accepted
      (subst (λ (own : List (List ℕ)). IsFound (proof_texts proof) own found)
      (ap (λ (l : Ledger). texts_kept l root_at) same ∙ texts_same kept blocks root_at stands)
      is)

  pub past_told : (head : Option ℕ) (left : Option (List ℕ)) (outcome : Outcome)
      → reaches ledger query root_at ≡ false → IsHead ledger.digests head
      → outcome ≡ beyond_outcome head → IfSome left (ToldOf outcome left)
  past_told head None outcome past is told = tt
  past_told head (Some input) outcome past is told = λ blocks stands.
      let count = count_is blocks stands in (
        input,
        refl,
        subst (λ (o : Outcome). IsExposeOutput compiled_in root query root_at input
            blocks (output_of o input)) (sym (told ∙ head_is ledger.digests blocks head is count))
            (OutOfReach (out_of_reach query.at root_at (length ledger.digests) (length blocks) past
            count)),
      )

  long_here : (first left : Option (List ℕ)) (outcome : Outcome)
      → reaches ledger query root_at ≡ true → IfSome first (λ input. IsWholeInput None input left)
      → outcome ≡ bad_input (codes "long") → IfSome first (ToldOf outcome left)
  long_here None left outcome within whole is = tt
  long_here (Some input) left outcome within (long, rest) is = λ blocks stands.
      let count = count_is blocks stands in (
        drop (MAX_WHOLE_INPUT_BYTES + 1) input,
        rest,
        subst
            (λ (o : Outcome). IsExposeOutput compiled_in root query root_at input blocks
            (output_of o (drop (MAX_WHOLE_INPUT_BYTES + 1) input))) (sym is)
            (LongExposed (in_reach query.at root_at (length ledger.digests) (length blocks) within
            count) long),
      )

  pub long_told : (first left found : Option (List ℕ)) (outcome : Outcome)
      → reaches ledger query root_at ≡ true → found ≡ None
      → IfSome first (λ input. IsWholeInput found input left) → outcome ≡ bad_input (codes "long")
      → IfSome first (ToldOf outcome left)
  long_told first left found outcome within none whole is = long_here first left outcome within
      (subst (λ (f : Option (List ℕ)). IfSome first (λ input. IsWholeInput f input left)) none
      whole) is

  whole_here : (first left : Option (List ℕ)) (bytes : List ℕ) (outcome : Outcome)
      → reaches ledger query root_at ≡ true
      → IfSome first (λ input. IsWholeInput (Some bytes) input left)
      → IsHeld ledger root query root_at bytes outcome → IfSome first (ToldOf outcome left)
  whole_here None left bytes outcome within whole is = tt
  whole_here (Some input) left bytes outcome within (alike, fits, rest) is = λ blocks stands.
      let count = count_is blocks stands in (
        [],
        rest,
        held_exposed input outcome
            (subst (λ (b : List ℕ). IsHeld ledger root query root_at b outcome) alike is) blocks
            stands (in_reach query.at root_at (length ledger.digests) (length blocks) within count)
            fits,
      )

  whole_told : (first left found : Option (List ℕ)) (bytes : List ℕ) (outcome : Outcome)
      → reaches ledger query root_at ≡ true → found ≡ Some bytes
      → IfSome first (λ input. IsWholeInput found input left)
      → IsHeld ledger root query root_at bytes outcome → IfSome first (ToldOf outcome left)
  whole_told first left found bytes outcome within some whole is = whole_here first left bytes
      outcome within (subst (λ (f : Option (List ℕ)). IfSome first
      (λ input. IsWholeInput f input left)) some whole) is

  pub whole_result : {E : Type 0} (first left found : Option (List ℕ)) (bytes : List ℕ)
      (result : Result Outcome E) → reaches ledger query root_at ≡ true → found ≡ Some bytes
      → IfSome first (λ input. IsWholeInput found input left)
      → IfOk result (IsHeld ledger root query root_at bytes)
      → IfSome first (λ input. IfOk result (λ outcome. ToldOf outcome left input))
  whole_result first left found bytes (Ok outcome) within some whole is = whole_told first left
      found bytes outcome within some whole is
  whole_result None left found bytes (Err e) within some whole is = tt
  whole_result (Some input) left found bytes (Err e) within some whole is = tt

-- ---- how it ends

told_ends : (told : Verification) → EndsExposed (verification_outcome told).ending
told_ends (Accepted shown) = tt
told_ends (Rejected refused) = tt
told_ends (BadHex fault) = tt

found_ends : (found : Option Clash) → EndsExposed (found_outcome found).ending
found_ends None = tt
found_ends (Some clash) = tt

pub held_ends : (ledger : Ledger) (root : List ℕ) (query : Query) (root_at : ℕ) (input : List ℕ)
    (outcome : Outcome) → IsHeld ledger root query root_at input outcome
    → EndsExposed outcome.ending
held_ends ledger root query root_at input _ (Refused told is fails) = told_ends told
held_ends ledger root query root_at input _ (Held proof accepted found is) = found_ends found

pub asked_ends : (ending : Ending) → EndsAsked ending → EndsExposed ending
asked_ends endings.Done ends = tt
asked_ends endings.Beyond ends = tt
asked_ends endings.Refused ends = absurd ends
asked_ends endings.Rejected ends = absurd ends
asked_ends endings.BadInput ends = absurd ends
asked_ends endings.NotALog ends = absurd ends
asked_ends endings.Damaged ends = absurd ends

end_may : (root : Digest) (query : Query) (root_at : ℕ) (ending : Ending) → EndsExposed ending
    → MayEnd (status_of ending) (Some (Expose root query root_at))
end_may root query root_at endings.Done ends = refl
end_may root query root_at endings.Beyond ends = refl
end_may root query root_at endings.Rejected ends = refl
end_may root query root_at endings.BadInput ends = refl
end_may root query root_at endings.Refused ends = absurd ends
end_may root query root_at endings.NotALog ends = absurd ends
end_may root query root_at endings.Damaged ends = absurd ends

pub outcome_may : {E : Type 0} (root : Digest) (query : Query) (root_at : ℕ)
    (found : Result Outcome E) → IfOk found (λ outcome. EndsExposed outcome.ending)
    → IfOk found (λ outcome. MayEnd (status_of outcome.ending) (Some (Expose root query root_at)))
outcome_may root query root_at (Ok outcome) ends = end_may root query root_at outcome.ending ends
outcome_may root query root_at (Err e) ends = tt

-- ---- no end says that there is no log

end_has_log : (ending : Ending) → EndsExposed ending → found_no_log (status_of ending) ≡ false
end_has_log endings.Done ends = refl
end_has_log endings.Beyond ends = refl
end_has_log endings.Rejected ends = refl
end_has_log endings.BadInput ends = refl
end_has_log endings.Refused ends = absurd ends
end_has_log endings.NotALog ends = absurd ends
end_has_log endings.Damaged ends = absurd ends

-- what was found is no sign of a missing log
pub found_has_log : (found : Result Outcome OutcomeStop)
    → IfOk found (λ outcome. EndsExposed outcome.ending)
    → found_no_log (status_of_found found) ≡ false
found_has_log (Ok outcome) ends = end_has_log outcome.ending ends
found_has_log (Err outcomes.Unreadable) ends = refl
found_has_log (Err outcomes.DiskFault) ends = refl
found_has_log (Err outcomes.ScratchFault) ends = refl
found_has_log (Err outcomes.Memory) ends = refl

pub asked_has_log : (found : Result Outcome OutcomeStop)
    → IfOk found (λ outcome. EndsAsked outcome.ending)
    → found_no_log (status_of_found found) ≡ false
asked_has_log (Ok outcome) ends = end_has_log outcome.ending (asked_ends outcome.ending ends)
asked_has_log (Err stop) ends = found_has_log (Err stop) tt
