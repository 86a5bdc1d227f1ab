-- A question that names no block is about the last one.
use Rattle.std.proofs.Common.{◌≡◌, ℕ, ◌-◌, List, length, Result}
use Rattle.std.proofs.Common.{Ok, Err, ap, ◌∙◌, sym}
use Rattle.std.specs.Prelude.{IfOk}
use Rattle.lc_base.specs.declared.answer.Kind.{Kind}
use Rattle.block_codec.specs.declared.block.Block.{Block}
use Rattle.chain_exec.specs.Compiled.{compiled_in}
use Rattle.chain_replay.specs.Chain.{ChainState, StandsFor}
use Rattle.cli_output.proofs.rooted_chain.Rooted.{as_many}
use Rattle.cli_lines.specs.declared.outcome.Outcome.{Outcome}
use Rattle.cli_words.specs.declared.question.Question.{Question}
use Rattle.cli_words.specs.declared.question.Question.TheVariants.{Version}
use Rattle.cli_words.specs.declared.question.Asked.{Asked}
use Rattle.cli_words.specs.declared.question.Asked.TheVariants.{AtLast}
use Rattle.cli_output.specs.Output.{ask_outcome, question_in}

-- ---- the question

-- one that names no block is about the last one
pub last_asked : (kept : ChainState) (asked : Asked) (kind : Kind) (key : List ℕ) (at : ℕ)
    (blocks : List Block) → asked ≡ AtLast kind key → at ≡ length kept.digests - 1
    → StandsFor kept blocks
    → Version (record { kind = kind; key = key; at = at }) ≡ question_in asked blocks
last_asked kept asked kind key at blocks given is stands =
    ap (λ (n : ℕ). Version (record { kind = kind; key = key; at = n }))
    (is ∙ ap (λ (n : ℕ). n - 1) (as_many kept blocks stands))
    ∙ ap (λ (a : Asked). question_in a blocks) (sym given)

-- what is printed for the question that is asked
pub asked_told : {E : Type 0} (found : Result Outcome E) (kept : ChainState) (asked : Asked)
    (question : Question)
    → ((blocks : List Block) → StandsFor kept blocks → question ≡ question_in asked blocks)
    → IfOk found (λ outcome. (blocks : List Block) → StandsFor kept blocks
    → outcome ≡ ask_outcome compiled_in question blocks)
    → IfOk found (λ outcome. (blocks : List Block) → StandsFor kept blocks
    → outcome ≡ ask_outcome compiled_in (question_in asked blocks) blocks)
asked_told (Ok outcome) kept asked question is told = λ blocks stands.
    told blocks stands
    ∙ ap (λ (q : Question). ask_outcome compiled_in q blocks) (is blocks stands)
asked_told (Err e) kept asked question is told = tt
