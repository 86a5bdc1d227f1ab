-- What a source means in an edition, or its first fault.
use Rattle.std.specs.Prelude.{◌≡◌, ℕ, Bool, true, false, List, [], ◌∷◌, ◌++◌, Option, Some, None, Result, Ok, Err}
use Rattle.contract_tokens.specs.declared.token.Token.{Token}
use Rattle.contract_tokens.specs.declared.token.TokenKind.{TokenKind}
use Rattle.contract_tokens.specs.declared.token.TokenError.{TokenError}
use Rattle.contract_tokens.specs.declared.token.TokenError.TheVariants as token_errors
use Rattle.contract_tokens.specs.declared.token.TokenKind.TheVariants as tokens
use Rattle.contract_tokens.specs.Tokens.{IsTokens, IsTokenFault}
use Rattle.contract_tree.specs.Tree.{FunctionTree}
use Rattle.contract_grammar.specs.declared.Obstacle.{Obstacle}
use Rattle.contract_grammar.specs.declared.Obstacle.TheVariants.{Unfit, Surplus, Pending, Nesting, Height}
use Rattle.contract_grammar.specs.Faults.{IsFault, HasOneFault}
use Rattle.contract_grammar.specs.Grammar.{limits, IsContract}
use Rattle.contract_grammar.specs.Marks.{is_end}
use Rattle.contract_grammar.specs.Reading.{contract}
use Rattle.contract_grammar.specs.Rules.{Read}
use Rattle.contract_parse.specs.declared.source.SyntaxKind.{SyntaxKind}
use Rattle.contract_parse.specs.declared.source.SyntaxKind.TheVariants.{Byte, Literal, Expected, End, Deep}
use Rattle.contract_parse.specs.declared.source.SyntaxError.{SyntaxError}
use Rattle.contract_parse.specs.declared.source.SyntaxError.TheVariants.{Refused, Memory}

-- In this edition the source reads as these functions: its tokens, without the end, are a contract
-- within the limits.
pub record ReadsAs (edition : ℕ) (source : List ℕ) (all : List FunctionTree) : Type 0 where
  pub before : List Token
  pub end : Token
  pub tokens : IsTokens edition 0 source (before ++ end ∷ [])
  pub ends : is_end end ≡ true
  pub is_contract : IsContract limits before all

-- The kind of a fault of the tokens, as one of the source.
abbrev pub token_kind : TokenKind → SyntaxKind
token_kind tokens.Byte = Byte
token_kind tokens.Literal = Literal

-- The kind of a fault at a token that does not fit, given whether it is the end.
abbrev pub unfit_kind : Bool → SyntaxKind
unfit_kind true = End
unfit_kind false = Expected

-- The offset and the kind of the fault that an obstacle at a token is.
abbrev pub obstacle_fault : Obstacle → Token → ℕ × SyntaxKind
obstacle_fault Unfit t = (t.at, unfit_kind (is_end t))
obstacle_fault Surplus t = (t.at, Expected)
obstacle_fault Pending t = (t.at, Deep)
obstacle_fault Nesting t = (t.at, Deep)
obstacle_fault (Height at) t = (at, Deep)

-- The reader is stopped at this token, the first at which it can be, for what is wrong there.
pub record IsStoppedAt (edition : ℕ) (source : List ℕ) (why : Obstacle) (t : Token) : Type 0 where
  pub before : List Token
  pub after : List Token
  pub tokens : IsTokens edition 0 source (before ++ t ∷ after)
  pub first : contract (before ++ t ∷ after) ≡ (Err why, t ∷ after)
  pub fault : IsFault why before t

-- The first fault of the source in this edition: of its tokens or, if these have none, of its
-- grammar and limits.
pub data SyntaxFault (edition : ℕ) (source : List ℕ) : ℕ → SyntaxKind → Type 0 where
  OfTokens :
      (at : ℕ) (kind : TokenKind) → IsTokenFault edition 0 source at kind
      → SyntaxFault edition source at (token_kind kind)
  OfGrammar :
      (why : Obstacle) (t : Token) → IsStoppedAt edition source why t
      → SyntaxFault edition source (obstacle_fault why t).0 (obstacle_fault why t).1

-- What a source is: the functions of a contract, or the offset and the kind of its first fault.
abbrev pub Outcome : Type 0
Outcome = Result (List FunctionTree) (ℕ × SyntaxKind)

-- The source has this outcome in this edition: it reads as these functions, or this is its first
-- fault.
abbrev pub IsOutcome : ℕ → List ℕ → Outcome → Type 0
IsOutcome edition source (Ok functions) = ReadsAs edition source functions
IsOutcome edition source (Err fault) = SyntaxFault edition source fault.0 fault.1

-- The source has at most one outcome in this edition: it doesn't read as two contracts, it doesn't
-- have two first faults, and it doesn't both read as a contract and have a fault.
abbrev pub HasOneOutcome : ℕ → List ℕ → Type 0
HasOneOutcome edition source =
    (one other : Outcome) → IsOutcome edition source one → IsOutcome edition source other
    → one ≡ other

-- At most one thing is wrong in the tokens of the source, if heights are ignored, so the grammar
-- alone determines the offset of such a fault.
abbrev pub HasOneObstacle : ℕ → List ℕ → Type 0
HasOneObstacle edition source =
    (list : List Token) → IsTokens edition 0 source list → HasOneFault list

-- The fault that an error reports, or `None` if it is out of memory.
abbrev pub fault_of : SyntaxError → Option (ℕ × SyntaxKind)
fault_of (Refused at kind) = Some (at, kind)
fault_of Memory = None

-- ---- what the reader of the program returns

-- An error of the tokens, as one of the source.
abbrev pub refusal : TokenError → SyntaxError
refusal (token_errors.Refused at kind) = Refused at (token_kind kind)
refusal token_errors.Memory = Memory

-- The fault that an obstacle is, if these tokens are left.
abbrev pub stop_fault : Obstacle → List Token → ℕ × SyntaxKind
stop_fault why [] = (0, End)
stop_fault why (t ∷ rest) = obstacle_fault why t

-- The outcome of reading a source's tokens.
abbrev pub reading_outcome : Read (List FunctionTree) → Outcome
reading_outcome (Ok functions, rest) = Ok functions
reading_outcome (Err why, rest) = Err (stop_fault why rest)
