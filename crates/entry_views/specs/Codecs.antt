-- How the values of a kind are spelled and read.
use Rattle.std.specs.Prelude.{ℕ, List}
use Rattle.byte_fields.specs.Reading.{Field}
use Rattle.byte_fields.proofs.Laws.{IsField}

-- The spelling of the values of a type, and reading them, which agree.
pub record Codec (A : Type 0) : Type 1 where
  -- What a value is spelled as.
  pub fields : A → List (List ℕ)
  -- The lawful values.
  pub lawful : A → Type 0
  -- The result of reading bytes as these fields.
  pub read : List ℕ → Field A
  -- What is read is spelled so, and what is spelled so is read.
  pub agrees : IsField read fields lawful
