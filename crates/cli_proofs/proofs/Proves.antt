-- The output of `prove` over the blocks of a log, by cases.
use Rattle.std.proofs.Common.{◌≡◌, ℕ, List, [], ◌∷◌, length, map, sym, ap, ◌∙◌, arith}
use Rattle.hex.specs.Hex.{encode_lower}
use Rattle.lc_base.specs.declared.digest.Digest.{Digest}
use Rattle.block_codec.specs.Placement.{digest_of}
use Rattle.block_codec.specs.declared.block.Block.{Block}
use Rattle.chain_exec.specs.Compiled.{compiled_in}
use Rattle.chain_exec.specs.Effect.{History}
use Rattle.chain_replay.specs.Chain.{ChainState, StandsFor}
use Rattle.merkle_dag.specs.Ledger.{Ledger}
use Rattle.cli_words.specs.declared.question.Question.{Question}
use Rattle.cli_output.proofs.rooted_chain.Rooted.{as_many}
use Rattle.cli_output.proofs.Reached.{root_reached}
use Rattle.cli_output.specs.cli_lines.Lines.{line}
use Rattle.cli_output.specs.cli_lines.Outcome.{outcome_with}
use Rattle.cli_output.specs.cli_lines.declared.outcome.Outcome.{Outcome}
use Rattle.cli_output.specs.cli_lines.declared.outcome.Ending.TheVariants as endings
use Rattle.cli_output.specs.Output.{prove_outcome, made_in}
use Rattle.cli_output.specs.Proofs.{proof_line}
use Rattle.cli_output.specs.Questions.{last_block, made_bytes}
use Rattle.cli_proofs.specs.Exposing.{ledger_kept}
use Rattle.cli_proofs.specs.Proving.{IsWithin}

-- the proof that is made of what is kept of a chain is that of its blocks
made_is : (kept : ChainState) (blocks : List Block) (question : Question) (root_at : ℕ)
    → StandsFor kept blocks
    → made_bytes kept.rows kept.digests root_at question
    ≡ made_in compiled_in blocks question root_at
made_is kept blocks question root_at stands =
    ap (λ (digests : List Digest). made_bytes kept.rows digests root_at question) stands.digests_are
    ∙ ap (λ (history : History). made_bytes history.rows (map digest_of blocks) root_at question)
    stands.history_is

-- what is printed for the proof that was made
pub proved_told : (ledger : Ledger) (kept : ChainState) (question : Question) (root_at : ℕ)
    (bytes told : List ℕ) (outcome : Outcome) → ledger ≡ ledger_kept kept
    → IsWithin ledger question root_at
    → bytes ≡ made_bytes ledger.rows ledger.digests root_at question
    → told ≡ line (encode_lower bytes) → outcome ≡ outcome_with (told ∷ []) endings.Done
    → (blocks : List Block) → StandsFor kept blocks
    → outcome ≡ prove_outcome compiled_in question root_at blocks
proved_told ledger kept question root_at bytes told outcome same (low, early) spelled is made = λ
    blocks stands.
    let count : length ledger.digests ≡ length blocks =
    ap (λ (l : Ledger). length l.digests) same ∙ as_many kept blocks stands in
    let of_kept = ap (λ (l : Ledger). made_bytes l.rows l.digests root_at question) same in
    made ∙ ap (λ (t : List ℕ). outcome_with (t ∷ []) endings.Done)
    (is ∙ ap proof_line (spelled ∙ of_kept ∙ made_is kept blocks question root_at stands))
    ∙ sym (root_reached (last_block question) root_at blocks _ (omega (arith, low, count)) early)
