-- Each source has an outcome.
use Rattle.std.proofs.Common.{ℕ, List}
use Rattle.contract_tokens.proofs.Outcomes.{tokenized, tokenized_once}
use Rattle.contract_parse.specs.Syntax.{Outcome, IsOutcome, HasOneOutcome}
use Rattle.contract_parse.proofs.Parsed.{has_one_outcome, has_some_outcome}

pub some_outcome : (edition : ℕ) (source : List ℕ)
    → (outcome : Outcome) × IsOutcome edition source outcome
some_outcome edition source =
    let found = tokenized edition 0 source in has_some_outcome edition source found.0 found.1

pub one_outcome : (edition : ℕ) (source : List ℕ) → HasOneOutcome edition source
one_outcome edition source = let found = tokenized edition 0 source in has_one_outcome edition source (λ one other h k. tokenized_once edition 0 source one other h k) found.0 found.1
