-- The pieces of a source, one after another as the code reads them.
use Rattle.std.specs.Prelude.{ℕ, ◌+◌, ◌-◌, ◌*◌, ◌^◌, Bool, true, false, ◌&&◌, not, ◌==◌, nat_lt, if◌then◌else◌, List, [], ◌∷◌, ◌++◌, length, find, take_while, pos, Option, Some, None, Result, Ok, Err}
use Rattle.std.specs.List.{prefix_len}
use Rattle.std.specs.Cmp.Lexicographic.{pointwise}
use Rattle.lc_base.specs.NameBytes.{is_letter, is_name_byte}
use Rattle.lc_base.specs.Name.{name_of}
use Rattle.lc_base.specs.declared.key.KeyError.{KeyError}
use Rattle.lc_base.specs.TextBytes.{is_text_byte}
use Rattle.contract_tokens.specs.declared.limits.TheConstants.{MAX_LITERAL_BYTES}
use Rattle.contract_tokens.specs.declared.token.Mark.{Mark}
use Rattle.contract_tokens.specs.declared.token.Mark.TheVariants as marks
use Rattle.contract_tokens.specs.declared.token.Word.TheVariants as words
use Rattle.contract_tokens.specs.declared.token.TokenKind.TheVariants as kinds
use Rattle.contract_tokens.specs.declared.piece.Piece.{Piece}
use Rattle.contract_tokens.specs.declared.piece.Piece.TheVariants as pieces
use Rattle.contract_tokens.specs.declared.literal.LiteralByte.{LiteralByte}
use Rattle.contract_tokens.specs.declared.literal.LiteralByte.TheVariants as meanings
use Rattle.contract_tokens.specs.Spelling.{spelling, is_of}
use Rattle.contract_tokens.specs.Lexemes.{is_blank, is_digit, newline, hash, quote, backslash, is_escaped}

-- ---- keywords and signs

-- The keywords of all editions.
abbrev pub keywords : List Mark
keywords =
    marks.Fn ∷ marks.Let ∷ marks.If ∷ marks.Else ∷ marks.While ∷ marks.Put ∷ marks.Drop ∷ marks.From
    ∷ marks.Fail ∷ marks.Return ∷ marks.Int ∷ marks.Text ∷ []

-- Whether these bytes are this keyword in an edition.
abbrev pub is_keyword : ℕ → List ℕ → Mark → Bool
is_keyword edition bytes mark = pointwise ◌==◌ bytes (spelling mark) && is_of edition mark

-- The keyword of an edition that these bytes are.
unfoldable pub keyword_of : ℕ → List ℕ → Option Mark
keyword_of edition bytes = find (is_keyword edition bytes) keywords

-- The sign of one byte.
unfoldable pub short_sign : ℕ → Option Mark
short_sign byte =
    if byte == 40 then Some marks.ParenOpen else
    if byte == 41 then Some marks.ParenClose else
    if byte == 123 then Some marks.BraceOpen else
    if byte == 125 then Some marks.BraceClose else
    if byte == 44 then Some marks.Comma else
    if byte == 59 then Some marks.Semicolon else
    if byte == 58 then Some marks.Colon else
    if byte == 61 then Some marks.Assign else
    if byte == 60 then Some marks.Less else
    if byte == 62 then Some marks.Greater else
    if byte == 43 then Some marks.Plus else
    if byte == 45 then Some marks.Minus else
    if byte == 42 then Some marks.Star else
    if byte == 47 then Some marks.Slash else
    if byte == 37 then Some marks.Percent else
    if byte == 33 then Some marks.Not else None

-- The sign of two bytes.
unfoldable pub long_sign : ℕ → ℕ → Option Mark
long_sign byte next =
    if byte == 61 && next == 61 then Some marks.Equal else
    if byte == 33 && next == 61 then Some marks.NotEqual else
    if byte == 60 && next == 61 then Some marks.LessEqual else
    if byte == 62 && next == 61 then Some marks.GreaterEqual else
    if byte == 43 && next == 43 then Some marks.Concat else
    if byte == 38 && next == 38 then Some marks.And else
    if byte == 124 && next == 124 then Some marks.Or else None

-- The piece of a sign of one byte. If there is no such sign, the byte begins no token.
abbrev pub short_piece : Option Mark → Piece
short_piece None = pieces.Bad kinds.Byte
short_piece (Some mark) = pieces.Take 1 (words.Mark mark)

-- The piece of a sign of two bytes, or of one byte if there is no such sign.
abbrev pub long_piece : ℕ → Option Mark → Piece
long_piece byte None = short_piece (short_sign byte)
long_piece byte (Some mark) = pieces.Take 2 (words.Mark mark)

-- The piece at a byte that begins no blank, comment, name, number or text literal.
abbrev pub sign_piece : ℕ → List ℕ → Piece
sign_piece byte [] = short_piece (short_sign byte)
sign_piece byte (next ∷ _) = long_piece byte (long_sign byte next)

-- ---- names and numbers

-- The piece of a name, or a fault if it breaks the rule of names.
abbrev pub checked_name_piece : List ℕ → Result (List ℕ) KeyError → Piece
checked_name_piece run (Ok name) = pieces.Take (length run) (words.Name name)
checked_name_piece run (Err _) = pieces.Bad kinds.Literal

-- The piece of a keyword, or of a name if the bytes are no keyword.
abbrev pub word_piece : List ℕ → Option Mark → Piece
word_piece run (Some mark) = pieces.Take (length run) (words.Mark mark)
word_piece run None = checked_name_piece run (name_of run)

-- The piece of the longest run of bytes that a name may have.
unfoldable pub name_piece : ℕ → List ℕ → Piece
name_piece edition run = word_piece run (keyword_of edition run)

-- The value of a number with these digits appended, or `None` if it is too large for an i64.
unfoldable pub value_from : ℕ → List ℕ → Option ℕ
value_from number [] = Some number
value_from number (byte ∷ more) =
    let next = 10 * number + (byte - 48) in
    if nat_lt next (2 ^ 63) then value_from next more else None

-- The piece of a number with this value, or a fault if it has none.
abbrev pub value_piece : List ℕ → Option ℕ → Piece
value_piece run (Some n) = pieces.Take (length run) (words.Int (pos n))
value_piece run None = pieces.Bad kinds.Literal

-- Whether there is more than one digit and the first is 0.
abbrev pub has_leading_zero : List ℕ → Bool
has_leading_zero [] = false
has_leading_zero (byte ∷ []) = false
has_leading_zero (byte ∷ _ ∷ _) = byte == 48

-- The piece of the longest run of digits.
unfoldable pub number_piece : List ℕ → Piece
number_piece run =
    if has_leading_zero run then pieces.Bad kinds.Literal else value_piece run (value_from 0 run)

-- ---- text literals

-- What a byte of a text literal stands for, given whether a backslash precedes it.
abbrev pub literal_byte : Bool → ℕ → LiteralByte
literal_byte true byte = if is_escaped byte then meanings.Itself else meanings.Fault
literal_byte false byte =
    if byte == quote then meanings.Close else
    if byte == backslash then meanings.Escape else
    if is_text_byte byte then meanings.Itself else meanings.Fault

-- The piece of a text literal after one more byte, given what that byte stands for.
abbrev pub piece_after_byte : LiteralByte → ℕ → List ℕ → ℕ → (Bool → List ℕ → ℕ → Piece) → Piece
piece_after_byte meanings.Close byte text count next = pieces.Take (count + 2) (words.Text text)
piece_after_byte meanings.Escape byte text count next = next true text (count + 1)
piece_after_byte meanings.Itself byte text count next =
    if nat_lt (length text) MAX_LITERAL_BYTES then next false (text ++ byte ∷ []) (count + 1)
    else pieces.Bad kinds.Literal
piece_after_byte meanings.Fault byte text count next = pieces.Bad kinds.Literal

-- The piece of a text literal of which `count` bytes after the first quote were read, which stand
-- for this text.
unfoldable pub literal_piece : Bool → List ℕ → ℕ → List ℕ → Piece
literal_piece escaped text count [] = pieces.Bad kinds.Literal
literal_piece escaped text count (byte ∷ rest) =
    piece_after_byte (literal_byte escaped byte) byte text count (λ e t n. literal_piece e t n rest)

-- ---- all pieces

-- The piece at the start of a source that begins with this byte.
abbrev pub nonempty_piece : ℕ → ℕ → List ℕ → Piece
nonempty_piece edition first rest =
    if is_blank first then pieces.Skip 1 else
    if first == hash then
    pieces.Skip (prefix_len (λ byte. not (byte == newline)) (first ∷ rest)) else
    if is_letter first then name_piece edition (take_while is_name_byte (first ∷ rest)) else
    if is_digit first then number_piece (take_while is_digit (first ∷ rest)) else
    if first == quote then literal_piece false [] 0 rest else
    sign_piece first rest

-- The piece at the start of a source.
unfoldable pub next_piece : ℕ → List ℕ → Piece
next_piece edition [] = pieces.End
next_piece edition (first ∷ rest) = nonempty_piece edition first rest
