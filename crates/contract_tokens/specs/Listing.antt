-- The tokens that are left of a source, as a list from which the code takes one after another.
use Rattle.std.specs.Prelude.{◌≡◌, ℕ, zero, suc, ◌+◌, ◌≤◌, List, [], ◌∷◌, length, drop, Option, Some, None, Result, Ok, Err}
use Rattle.contract_tokens.specs.declared.token.Token.{Token}
use Rattle.contract_tokens.specs.declared.token.TokenKind.{TokenKind}
use Rattle.contract_tokens.specs.declared.token.Word.TheVariants as words
use Rattle.contract_tokens.specs.declared.piece.Piece.{Piece}
use Rattle.contract_tokens.specs.declared.piece.Piece.TheVariants as pieces
use Rattle.contract_tokens.specs.Pieces.{next_piece}

-- The tokens from an offset on: that of the piece there, if it is a token, then those after it.
abbrev pub tokens_by_piece : Piece → ℕ → List ℕ → (ℕ → List ℕ → List Token) → List Token
tokens_by_piece pieces.End at bytes others = record { at = at; word = words.End } ∷ []
tokens_by_piece (pieces.Skip n) at bytes others = others (at + n) (drop n bytes)
tokens_by_piece (pieces.Take n word) at bytes others =
    record { at = at; word = word } ∷ others (at + n) (drop n bytes)
tokens_by_piece (pieces.Bad kind) at bytes others = []

-- The tokens of at most `turns` pieces.
unfoldable pub tokens_within : ℕ → ℕ → ℕ → List ℕ → List Token
tokens_within edition zero at bytes = []
tokens_within edition (suc turns) at bytes =
    tokens_by_piece (next_piece edition bytes) at bytes (tokens_within edition turns)

-- The tokens of a source from an offset on, up to its end or its first fault.
unfoldable pub tokens_from : ℕ → ℕ → List ℕ → List Token
tokens_from edition at bytes = tokens_within edition (suc (length bytes)) at bytes

-- The tokens from an optional offset on; there are none without an offset.
abbrev pub tokens_left : ℕ → List ℕ → Option ℕ → List Token
tokens_left edition source None = []
tokens_left edition source (Some at) = tokens_from edition at (drop at source)

-- The offset, if there is one, is within the source.
abbrev pub IsOffsetIn : List ℕ → Option ℕ → Type 0
IsOffsetIn source None = Unit {0}
IsOffsetIn source (Some at) = at ≤ length source

-- A token before the others; without a token the list is empty.
abbrev pub next_and_rest : Option Token → List Token → List Token
next_and_rest None rest = []
next_and_rest (Some token) rest = token ∷ rest

-- The list begins with this token and continues at the offset after it, or it is empty if there is
-- no token.
abbrev pub IsFirst : ℕ → List ℕ → List Token → Option (Token × Option ℕ) → Type 0
IsFirst edition source list None = list ≡ []
IsFirst edition source list (Some (token, next)) =
    (list ≡ token ∷ tokens_left edition source next) × IsOffsetIn source next

-- The offset after the piece at this offset, `None` at the end, or the fault there.
abbrev pub offset_after : ℕ → Piece → Result (Option ℕ) (ℕ × TokenKind)
offset_after at pieces.End = Ok None
offset_after at (pieces.Skip n) = Ok (Some (at + n))
offset_after at (pieces.Take n word) = Ok (Some (at + n))
offset_after at (pieces.Bad kind) = Err (at, kind)
