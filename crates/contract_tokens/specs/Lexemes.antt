-- The tokens of the contract language, in terms of the bytes that spell them.
use Rattle.std.specs.Prelude.{◌≡◌, ◌≢◌, ℕ, ◌^◌, ◌<◌, ◌≤◌, Bool, true, false, ◌&&◌, ◌||◌, not, ◌==◌, nat_le, List, [], ◌∷◌, ◌++◌, length, pos, decimal}
use Rattle.std.specs.List.{list_all, flat_map}
use Rattle.lc_base.specs.NameBytes.{is_letter, is_name_byte, IsName}
use Rattle.lc_base.specs.TextBytes.{is_text_byte}
use Rattle.contract_tokens.specs.declared.limits.TheConstants.{MAX_LITERAL_BYTES}
use Rattle.contract_tokens.specs.declared.token.Mark.{Mark}
use Rattle.contract_tokens.specs.declared.token.Word.{Word}
use Rattle.contract_tokens.specs.declared.token.Word.TheVariants as words
use Rattle.contract_tokens.specs.declared.token.TokenKind.{TokenKind}
use Rattle.contract_tokens.specs.declared.token.TokenKind.TheVariants as kinds
use Rattle.contract_tokens.specs.Spelling.{spelling, is_of}

-- ---- bytes

-- Whether a byte is a blank: a space, a tab, CR or LF.
abbrev pub is_blank : ℕ → Bool
is_blank byte = byte == 32 || byte == 9 || byte == 13 || byte == 10

-- Whether a byte is one of the digits 0 to 9.
abbrev pub is_digit : ℕ → Bool
is_digit byte = nat_le 48 byte && nat_le byte 57

-- The byte that ends a line: LF.
abbrev pub newline : ℕ
newline = 10

-- The byte that begins and ends a text literal: a double quote.
abbrev pub quote : ℕ
quote = 34

-- The byte that begins a comment: `#`.
abbrev pub hash : ℕ
hash = 35

-- The byte that begins an escape: a backslash.
abbrev pub backslash : ℕ
backslash = 92

-- ---- between tokens

-- Nothing is left, or the line ends here.
abbrev pub IsLineEnd : List ℕ → Type 0
IsLineEnd [] = Unit {0}
IsLineEnd (byte ∷ _) = byte ≡ newline

-- A gap before the rest of the source: a blank, or a comment up to the end of its line.
pub data IsGap : List ℕ → List ℕ → Type 0 where
  Blank : (byte : ℕ) (rest : List ℕ) → is_blank byte ≡ true → IsGap (byte ∷ []) rest
  Comment :
      (text rest : List ℕ) → list_all (λ byte. not (byte == newline)) text ≡ true → IsLineEnd rest
      → IsGap (hash ∷ text) rest

-- ---- tokens

-- The bytes between the quotes of a text literal, and the text that they stand for.
pub data IsLiteralBody : List ℕ → List ℕ → Type 0 where
  Nothing : IsLiteralBody [] []
  Plain :
      (byte : ℕ) (body text : List ℕ) → is_text_byte byte ≡ true → byte ≢ quote → byte ≢ backslash
      → IsLiteralBody body text → IsLiteralBody (byte ∷ body) (byte ∷ text)
  EscapedQuote :
      (body text : List ℕ) → IsLiteralBody body text
      → IsLiteralBody (backslash ∷ quote ∷ body) (quote ∷ text)
  EscapedBackslash :
      (body text : List ℕ) → IsLiteralBody body text
      → IsLiteralBody (backslash ∷ backslash ∷ body) (backslash ∷ text)

-- The bytes between quotes.
abbrev pub in_quotes : List ℕ → List ℕ
in_quotes body = quote ∷ (body ++ quote ∷ [])

-- Whether a byte of a text is escaped in a literal: it is a quote or a backslash.
abbrev pub is_escaped : ℕ → Bool
is_escaped byte = byte == quote || byte == backslash

-- A byte of a text as it is in a literal: with a backslash before it if it is escaped.
abbrev pub escape : Bool → ℕ → List ℕ
escape true byte = backslash ∷ byte ∷ []
escape false byte = byte ∷ []

-- The literal that is printed for a text, without its quotes.
abbrev pub literal_body : List ℕ → List ℕ
literal_body text = flat_map (λ byte. escape (is_escaped byte) byte) text

-- The bytes spell this word in an edition.
pub data IsSpelled (edition : ℕ) : List ℕ → Word → Type 0 where
  MarkSpelled :
      (mark : Mark) → is_of edition mark ≡ true → IsSpelled edition (spelling mark) (words.Mark mark)
  NameSpelled :
      (name : List ℕ) → IsName name
      → ((mark : Mark) → is_of edition mark ≡ true → spelling mark ≢ name)
      → IsSpelled edition name (words.Name name)
  IntSpelled : (n : ℕ) → n < 2 ^ 63 → IsSpelled edition (decimal n) (words.Int (pos n))
  TextSpelled :
      (body text : List ℕ) → IsLiteralBody body text → length text ≤ MAX_LITERAL_BYTES
      → IsSpelled edition (in_quotes body) (words.Text text)

-- The bytes have the shape of a token, which says nothing about sizes and leading zeros.
pub data IsLexeme : List ℕ → Type 0 where
  MarkShape : (mark : Mark) → IsLexeme (spelling mark)
  NameShape :
      (byte : ℕ) (more : List ℕ) → is_letter byte ≡ true → list_all is_name_byte more ≡ true
      → IsLexeme (byte ∷ more)
  IntShape :
      (byte : ℕ) (more : List ℕ) → is_digit byte ≡ true → list_all is_digit more ≡ true
      → IsLexeme (byte ∷ more)
  TextShape : (body text : List ℕ) → IsLiteralBody body text → IsLexeme (in_quotes body)

-- The prefix is the longest lexeme with which the source begins.
pub record IsLongest (prefix rest : List ℕ) : Type 0 where
  pub lexeme : IsLexeme prefix
  pub longest : (more after : List ℕ) → rest ≡ more ++ after → IsLexeme (prefix ++ more) → more ≡ []

-- No lexeme is a prefix of the bytes.
abbrev pub HasNoLexeme : List ℕ → Type 0
HasNoLexeme bytes = (prefix rest : List ℕ) → bytes ≡ prefix ++ rest → IsLexeme prefix → ⊥

-- The bytes begin with no token of an edition, for this reason.
pub data IsRefused (edition : ℕ) : List ℕ → TokenKind → Type 0 where
  -- the longest lexeme spells no word: the name is too long, the number is too large or has a
  -- leading 0, or the text is too long
  Breaks :
      (prefix rest : List ℕ) → IsLongest prefix rest
      → ((word : Word) → IsSpelled edition prefix word → ⊥)
      → IsRefused edition (prefix ++ rest) kinds.Literal
  -- a quote begins no text literal
  NoText :
      (rest : List ℕ)
      → ((prefix after : List ℕ) (word : Word)
      → quote ∷ rest ≡ prefix ++ after → IsSpelled edition prefix word → ⊥)
      → IsRefused edition (quote ∷ rest) kinds.Literal
  NoToken :
      (byte : ℕ) (rest : List ℕ) → is_blank byte ≡ false → byte ≢ hash → byte ≢ quote
      → HasNoLexeme (byte ∷ rest) → IsRefused edition (byte ∷ rest) kinds.Byte
