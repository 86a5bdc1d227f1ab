-- How a source is split into tokens: the longest token at each offset, with gaps between tokens, up
-- to the end or the first fault.
use Rattle.std.specs.Prelude.{ℕ, ◌+◌, List, [], ◌∷◌, ◌++◌, length, Option, Some, None, Result, Ok, Err}
use Rattle.contract_tokens.specs.declared.token.Token.{Token}
use Rattle.contract_tokens.specs.declared.token.Word.{Word}
use Rattle.contract_tokens.specs.declared.token.Word.TheVariants as words
use Rattle.contract_tokens.specs.declared.token.TokenKind.{TokenKind}
use Rattle.contract_tokens.specs.declared.token.TokenError.{TokenError}
use Rattle.contract_tokens.specs.declared.token.TokenError.TheVariants as errors
use Rattle.contract_tokens.specs.Lexemes.{IsGap, IsLongest, IsSpelled, IsRefused}

-- The tokens of a source, or the offset and the kind of its first fault.
abbrev pub Outcome : Type 0
Outcome = Result (List Token) (ℕ × TokenKind)

-- The outcome with one more token before the others.
abbrev pub prepend_token : Token → Outcome → Outcome
prepend_token token (Ok list) = Ok (token ∷ list)
prepend_token token (Err fault) = Err fault

-- The source from an offset on has this outcome in an edition.
pub data IsTokenized (edition : ℕ) : ℕ → List ℕ → Outcome → Type 0 where
  Ends : (at : ℕ) → IsTokenized edition at [] (Ok (record { at = at; word = words.End } ∷ []))
  Skips :
      (at : ℕ) (gap rest : List ℕ) (outcome : Outcome) → IsGap gap rest
      → IsTokenized edition (at + length gap) rest outcome
      → IsTokenized edition at (gap ++ rest) outcome
  Takes :
      (at : ℕ) (prefix rest : List ℕ) (word : Word) (outcome : Outcome) → IsLongest prefix rest
      → IsSpelled edition prefix word → IsTokenized edition (at + length prefix) rest outcome
      → IsTokenized edition at (prefix ++ rest)
      (prepend_token (record { at = at; word = word }) outcome)
  Refuses :
      (at : ℕ) (bytes : List ℕ) (kind : TokenKind) → IsRefused edition bytes kind
      → IsTokenized edition at bytes (Err (at, kind))

-- These are the tokens of the source from an offset on.
abbrev pub IsTokens : ℕ → ℕ → List ℕ → List Token → Type 0
IsTokens edition at bytes list = IsTokenized edition at bytes (Ok list)

-- The first fault of the source from an offset on is of this kind, at the second offset.
abbrev pub IsTokenFault : ℕ → ℕ → List ℕ → ℕ → TokenKind → Type 0
IsTokenFault edition at bytes offset kind = IsTokenized edition at bytes (Err (offset, kind))

-- The fault that an error reports, or `None` if it is out of memory.
abbrev pub fault_of : TokenError → Option (ℕ × TokenKind)
fault_of (errors.Refused at kind) = Some (at, kind)
fault_of errors.Memory = None
