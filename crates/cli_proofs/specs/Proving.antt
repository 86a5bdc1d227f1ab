-- What `prove` makes of the ledger of a chain.
use Rattle.std.specs.Prelude.{◌⊎◌, ℕ, ◌<◌, ◌≤◌, List, length, Result}
use Rattle.merkle_dag.specs.Ledger.{Ledger}
use Rattle.merkle_dag.specs.Questions.{TellsBeyond}
use Rattle.merkle_dag.specs.declared.query_error.QueryError.{QueryError}
use Rattle.cli_words.specs.declared.question.Question.{Question}
use Rattle.cli_output.specs.Questions.{last_block}

-- The ledger has the root's block, and the question is about no later one.
abbrev pub IsWithin : Ledger → Question → ℕ → Type 0
IsWithin ledger question root_at =
    (root_at < length ledger.digests) × (last_block question ≤ root_at)

-- A question is refused, with the number of the last block, exactly if the root's block is after
-- that, or the question is about a block after the root's.
abbrev pub IsRefusedBeyond : Ledger → Question → ℕ → Result (List ℕ) QueryError → Type 0
IsRefusedBeyond ledger question root_at result =
    TellsBeyond ledger.digests (IsWithin ledger question root_at)
    ((length ledger.digests ≤ root_at) ⊎ (root_at < last_block question)) result
