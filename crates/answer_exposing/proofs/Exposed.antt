-- The texts over the rows of a lineage are those of its ledger, and if none of them clashes with
-- the proof's, an accepted answer is right.
use Rattle.std.proofs.Common.{◌≡◌, ◌∙◌, ℕ, ◌<◌, true, nat_eq, nat_le, List, [], length, slice_get}
use Rattle.std.proofs.Common.{Option, Some, None, refl, sym, ap, arith, inl, inr, true≢false}
use Rattle.std.specs.List.{All}
use Rattle.std.specs.Option.{option_eq}
use Rattle.std.proofs.lemmas.Bool.{le-leb, eqb-true}
use Rattle.std.proofs.lemmas.List.Elements.{recursion_from_All}
use Rattle.std.proofs.lemmas.Option.{get_or_from_slice_get}
use Rattle.lc_base.specs.declared.digest.Digest.{Digest}
use Rattle.lc_base.specs.declared.row.Row.{Row}
use Rattle.lc_base.specs.History.{up_to}
use Rattle.root_laws.specs.Root.{digest_at, root_of}
use Rattle.root_laws.proofs.Lists.{all_weaker, keep_all}
use Rattle.root_laws.specs.TypedLedger.{IsTypedLedger}
use Rattle.proof_codec.specs.declared.proof.Proof.{Proof}
use Rattle.proof_checks.specs.ProofTexts.{joined_texts, proof_texts}
use Rattle.proof_checks.specs.LedgerTexts.{history_parts, ledger_texts}
use Rattle.proof_checks.proofs.Sound.{accepted_is_sound}
use Rattle.merkle_dag.specs.Ledger.{Ledger, IsHead}
use Rattle.answer_exposing.specs.declared.exposing.Clash.{Clash}
use Rattle.answer_exposing.specs.Exposing.{IsFound, Clears}

-- If `part` is the rows up to a block, its texts are those of the ledger at that block.
pub texts_of_part : (rows part : List Row) (digests : List Digest) (block : ℕ) (digest : Digest)
    → up_to rows block ≡ part → slice_get digests block ≡ Some digest
    → joined_texts (history_parts part block digest.0) ≡ ledger_texts rows digests block
unfolding ledger_texts
texts_of_part rows part digests block digest is at =
    let none : Digest = record { 0 = [] } in
    let same : digest_at digests block ≡ digest.0 = ap (λ (d : Digest). d.0)
    (get_or_from_slice_get digests block digest none at) in
    ap (λ (d : List ℕ). joined_texts (history_parts part block d)) (sym same)
    ∙ ap (λ (r : List Row). joined_texts (history_parts r block (digest_at digests block))) (sym is)

-- Up to the last block, the rows are all rows.
pub all_up_to_head : (rows : List Row) (digests : List Digest) (head : Option ℕ) (block : ℕ)
    → true ≡ option_eq nat_eq head (Some block) → IsHead digests head
    → All (λ (row : Row). row.block < length digests) rows
    → up_to rows block ≡ rows
all_up_to_head rows digests None block same last within = elim (true≢false same) [ ]
all_up_to_head rows digests (Some head) block same last within =
    let is : head ≡ block = eqb-true head block (sym same) in
    let are = recursion_from_All (λ (row : Row). row.block < length digests) rows within in
    keep_all (λ (row : Row). nat_le row.block block) rows
    (all_weaker (λ (row : Row). row.block < length digests)
    (λ (row : Row). nat_le row.block block ≡ true)
    (λ row low. le-leb row.block block (omega (arith, low, last, is))) rows are)

-- If no clash is found, the answer of an accepted proof is that of the rows.
pub clears : (ledger : Ledger) (root_at : ℕ) (proof : Proof) (found : Option Clash)
    → IsTypedLedger ledger.rows ledger.digests → root_at < length ledger.digests
    → IsFound (proof_texts proof) (ledger_texts ledger.rows ledger.digests root_at) found
    → Clears ledger root_at proof found
clears ledger root_at proof None typed low none = λ query answer is accepted.
    elim (accepted_is_sound (root_of ledger.rows ledger.digests root_at) query proof answer is
    accepted ledger.rows ledger.digests root_at typed.history (omega (arith, low, typed.few))
    refl) [
      | inl same ↦ same
      | inr clash ↦ elim (none clash) [ ]
    ]
clears ledger root_at proof (Some clash) typed low found = tt
