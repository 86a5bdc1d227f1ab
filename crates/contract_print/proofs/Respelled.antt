-- The words of a canonical text are split into tokens as those words.
use Rattle.std.proofs.Common.{◌≡◌, ℕ, ℤ, ◌+◌, ◌==◌, ◌||◌, Bool, true, false, List, [], ◌∷◌, ◌++◌, length, drop, Some, Ok, refl, sym, ap, ◌∙◌, subst, append_assoc, arith}
use Rattle.std.specs.Fmt.{signed_decimal}
use Rattle.std.specs.List.{list_all}
use Rattle.std.proofs.lemmas.Bool.{and_parts}
use Rattle.std.proofs.lemmas.Bool.Decides.{nat_tests}
use Rattle.lc_base.specs.NameBytes.{is_letter, is_name_byte, IsName}
use Rattle.contract_tokens.specs.declared.token.Token.{Token}
use Rattle.contract_tokens.specs.declared.token.Word.{Word}
use Rattle.contract_tokens.specs.declared.token.Word.TheVariants as w
use Rattle.contract_tokens.specs.declared.token.Mark.{Mark}
use Rattle.contract_tokens.specs.Lexemes.{is_digit, quote, backslash, in_quotes, is_escaped, escape, literal_body, Blank, IsLiteralBody, Nothing, Plain, EscapedQuote, EscapedBackslash, IsSpelled, MarkSpelled, NameSpelled, IntSpelled, TextSpelled, IsLexeme, MarkShape, IntShape, TextShape, IsLongest, is_blank}
use Rattle.contract_tokens.specs.Spelling.{spelling, is_of}
use Rattle.contract_tokens.specs.Pieces.{short_sign, long_sign}
use Rattle.contract_tokens.specs.Tokens.{Skips, Takes, IsTokens}
use Rattle.contract_tokens.proofs.Marks.{first_is, is_other, IsWritten, Keyword, Short, Long, written}
use Rattle.contract_tokens.proofs.Runs.{Stops, nothing_more, list_all-append}
use Rattle.contract_tokens.proofs.Shapes.{name_begins, decimal_passes, decimal_begins, body_unique}
use Rattle.contract_tokens.proofs.Words.{is_signs, letter_lexeme, digit_lexeme, quote_lexeme, sign_lexeme}
use Rattle.contract_grammar.proofs.Laws.{no_false}

-- how a word is written
abbrev pub word_text : Word → List ℕ
word_text (w.Int value) = signed_decimal value
word_text (w.Text text) = in_quotes (literal_body text)
word_text (w.Name name) = name
word_text (w.Mark mark) = spelling mark
word_text w.End = []

abbrev pub sign_goes_on : ℕ → Bool
sign_goes_on byte = byte == 61 || byte == 43

abbrev pub mark_goes_on : Bool → ℕ → Bool
mark_goes_on true byte = is_name_byte byte
mark_goes_on false byte = sign_goes_on byte

-- whether a byte after a word would make it longer
abbrev pub goes_on : Word → ℕ → Bool
goes_on (w.Int value) byte = is_digit byte
goes_on (w.Text text) byte = false
goes_on (w.Name name) byte = is_name_byte byte
goes_on (w.Mark mark) byte = mark_goes_on (first_is is_letter (spelling mark)) byte
goes_on w.End byte = false

-- ---- what a token is spelled as

plain_byte : (byte : ℕ) → (byte ≡ quote → ⊥) → (byte ≡ backslash → ⊥) → is_escaped byte ≡ false
plain_byte byte q b = grind (arith, nat_tests)

body_of : (body text : List ℕ) → IsLiteralBody body text → IsLiteralBody (literal_body text) text
body_of _ _ Nothing = Nothing
body_of _ _ (Plain byte body text i q b h) =
    let same : escape (is_escaped byte) byte ++ literal_body text ≡ byte ∷ literal_body text = ap (λ v. escape v byte ++ literal_body text) (plain_byte byte q b) in
    subst (λ l. IsLiteralBody l (byte ∷ text)) (sym same) (Plain byte (literal_body text) text i q b (body_of body text h))
body_of _ _ (EscapedQuote body text h) = EscapedQuote (literal_body text) text (body_of body text h)
body_of _ _ (EscapedBackslash body text h) =
    EscapedBackslash (literal_body text) text (body_of body text h)

module _ {edition : ℕ} where
  pub respelled : (prefix : List ℕ) (word : Word) → IsSpelled edition prefix word
      → IsSpelled edition (word_text word) word
  respelled _ _ (MarkSpelled mark of) = MarkSpelled mark of
  respelled _ _ (NameSpelled name is free) = NameSpelled name is free
  respelled _ _ (IntSpelled n low) = IntSpelled n low
  respelled _ _ (TextSpelled body text h few) =
      TextSpelled (literal_body text) text (body_of body text h) few

-- ---- nothing longer is there

first_more : (p : ℕ → Bool) (prefix more : List ℕ) → first_is p prefix ≡ true
    → first_is p (prefix ++ more) ≡ true
first_more p [] more h = absurd (no_false refl h)
first_more p (byte ∷ prefix) more h = h

pass_after : (p : ℕ → Bool) (rest more after : List ℕ) → Stops p rest → rest ≡ more ++ after
    → (prefix : List ℕ) → list_all p (prefix ++ more) ≡ true → more ≡ []
pass_after p rest more after s e prefix h =
    nothing_more p rest more after s e (list_all-append p prefix more h).1

stops_at : (p : ℕ → Bool) (rest more after : List ℕ) (byte : ℕ) → Stops p rest
    → rest ≡ (byte ∷ more) ++ after → p byte ≡ true → ⊥
stops_at p rest more after byte s e h = let k : p byte ≡ false = subst (Stops p) e s in no_false k h

letters : (a : ℕ) → is_other a ≡ true → is_letter a ≡ true → ⊥
letters a o l = grind arith

signs : (a : ℕ) → is_other a ≡ true → is_signs a ≡ true
signs a o = grind arith

second : (a b : ℕ) (long short : Mark) → long_sign a b ≡ Some long → short_sign a ≡ Some short
    → sign_goes_on b ≡ true
unfolding long_sign short_sign
second a b long short e h = grind (arith, nat_tests)

-- a sign that is a prefix of another is followed by what makes it longer
longer_short : (a byte : ℕ) (more : List ℕ) (mark other : Mark) → short_sign a ≡ Some mark
    → is_other a ≡ true → spelling other ≡ a ∷ byte ∷ more → sign_goes_on byte ≡ true
longer_short a byte more mark other h o e =
    elim (written other) [
      | Keyword l k ↦ absurd (letters a o (ap (first_is is_letter) (sym e) ∙ l))
      | Short b s k p ↦ absurd (omega (arith, ap length (sym s ∙ e)))
      | Long b c s k p ↦ (
          let both : b ∷ c ∷ [] ≡ a ∷ byte ∷ more = sym s ∙ e in
          let one : b ≡ a = cc in
          let two : c ≡ byte = cc in
          subst (λ v. sign_goes_on v ≡ true) two (second b c other mark k (ap short_sign one ∙ h)))
    ]

longer_long : (a b byte : ℕ) (more : List ℕ) (other : Mark) → is_other a ≡ true
    → spelling other ≡ a ∷ b ∷ byte ∷ more → ⊥
longer_long a b byte more other o e =
    elim (written other) [
      | Keyword l k ↦ letters a o (ap (first_is is_letter) (sym e) ∙ l)
      | Short c s k p ↦ omega (arith, ap length (sym s ∙ e))
      | Long c d s k p ↦ omega (arith, ap length (sym s ∙ e))
    ]

no_letter : (a : ℕ) → is_other a ≡ true → is_letter a ≡ false
no_letter a o = grind arith

short_more : (mark : Mark) (a : ℕ) → spelling mark ≡ a ∷ [] → short_sign a ≡ Some mark
    → is_other a ≡ true → (rest more after : List ℕ) → Stops sign_goes_on rest
    → rest ≡ more ++ after → IsLexeme (spelling mark ++ more) → more ≡ []
short_more mark a s h o rest [] after stop e lex = refl
short_more mark a s h o rest (byte ∷ more) after stop e lex =
    let begins : first_is is_signs (spelling mark ++ byte ∷ more) ≡ true = ap (λ l. first_is is_signs (l ++ byte ∷ more)) s ∙ signs a o in
    let k = sign_lexeme (spelling mark ++ byte ∷ more) lex begins in
    absurd (stops_at sign_goes_on rest more after byte stop e (longer_short a byte more mark k.0 h o (k.1 ∙ ap (λ l. l ++ byte ∷ more) s)))

long_more : (mark : Mark) (a b : ℕ) → spelling mark ≡ a ∷ b ∷ [] → is_other a ≡ true
    → (more : List ℕ) → IsLexeme (spelling mark ++ more) → more ≡ []
long_more mark a b s o [] lex = refl
long_more mark a b s o (byte ∷ more) lex =
    let begins : first_is is_signs (spelling mark ++ byte ∷ more) ≡ true = ap (λ l. first_is is_signs (l ++ byte ∷ more)) s ∙ signs a o in
    let k = sign_lexeme (spelling mark ++ byte ∷ more) lex begins in
    absurd (longer_long a b byte more k.0 o (k.1 ∙ ap (λ l. l ++ byte ∷ more) s))

mark_more : (mark : Mark) → IsWritten mark → (rest more after : List ℕ)
    → Stops (mark_goes_on (first_is is_letter (spelling mark))) rest → rest ≡ more ++ after
    → IsLexeme (spelling mark ++ more) → more ≡ []
mark_more mark (Keyword l k) rest more after stop e lex =
    let test : Stops is_name_byte rest = subst (λ b. Stops (mark_goes_on b) rest) l stop in
    pass_after is_name_byte rest more after test e (spelling mark) (letter_lexeme (spelling mark ++ more) lex (first_more is_letter (spelling mark) more l))
mark_more mark (Short a s h o) rest more after stop e lex =
    let no : first_is is_letter (spelling mark) ≡ false = ap (first_is is_letter) s ∙ no_letter a o in
    short_more mark a s h o rest more after (subst (λ b. Stops (mark_goes_on b) rest) no stop) e lex
mark_more mark (Long a b s h o) rest more after stop e lex = long_more mark a b s o more lex

text_more : (body text : List ℕ) → IsLiteralBody body text → (more : List ℕ)
    → IsLexeme (in_quotes body ++ more) → more ≡ []
text_more body text h more lex =
    let k = quote_lexeme (in_quotes body ++ more) lex refl in
    let inner : (body ++ quote ∷ []) ++ more ≡ k.0 ++ quote ∷ [] = ap (drop 1) k.2.is in
    (body_unique body text more k.0 k.1 [] h k.2.means (sym (append_assoc body (quote ∷ []) more) ∙ inner)).2

int_shape : (digits : List ℕ) → first_is is_digit digits ≡ true → list_all is_digit digits ≡ true
    → IsLexeme digits
int_shape [] f h = absurd (no_false refl f)
int_shape (byte ∷ more) f h =
    IntShape byte more f (and_parts (is_digit byte) (list_all is_digit more) h).1

-- a word of a source in an edition
pub record IsWord (edition : ℕ) (word : Word) : Type 0 where
  pub spelled : IsSpelled edition (word_text word) word
  pub lexeme : IsLexeme (word_text word)

pub mark_word : (edition : ℕ) (mark : Mark) → is_of edition mark ≡ true
    → IsWord edition (w.Mark mark)
mark_word edition mark of = record { spelled = MarkSpelled mark of; lexeme = MarkShape mark }

module _ {edition : ℕ} where
  name_in : (prefix name : List ℕ) → IsSpelled edition prefix (w.Name name) → IsName name
  name_in _ _ (NameSpelled name is free) = is

  text_in : (prefix text : List ℕ) → IsSpelled edition prefix (w.Text text)
      → IsLiteralBody (literal_body text) text
  text_in _ _ (TextSpelled body text h few) = body_of body text h

  pub int_in : (prefix : List ℕ) (value : ℤ) → IsSpelled edition prefix (w.Int value) → (first_is is_digit (signed_decimal value) ≡ true) × (list_all is_digit (signed_decimal value) ≡ true)
  int_in _ _ (IntSpelled n low) = (decimal_begins n low, decimal_passes n low)

  no_end : (prefix : List ℕ) → IsSpelled edition prefix w.End → ⊥
  no_end prefix h = elim h [ ]

  pub longest_word : (word : Word) (rest : List ℕ) → IsWord edition word → Stops (goes_on word) rest
      → IsLongest (word_text word) rest
  longest_word (w.Mark mark) rest i stop = record { lexeme = i.lexeme; longest = λ more after e lex. mark_more mark (written mark) rest more after stop e lex }
  longest_word (w.Name name) rest i stop = record { lexeme = i.lexeme; longest = λ more after e lex. pass_after is_name_byte rest more after stop e name (letter_lexeme (name ++ more) lex (first_more is_letter name more (name_begins name (name_in name name i.spelled)))) }
  longest_word (w.Int value) rest i stop =
      let k = int_in (signed_decimal value) value i.spelled in
      record { lexeme = i.lexeme; longest = λ more after e lex. pass_after is_digit rest more after stop e (signed_decimal value) (digit_lexeme (signed_decimal value ++ more) lex (first_more is_digit (signed_decimal value) more k.0)) }
  longest_word (w.Text text) rest i stop = record { lexeme = i.lexeme; longest = λ more after e lex. text_more (literal_body text) text (text_in (in_quotes (literal_body text)) text i.spelled) more lex }
  longest_word w.End rest i stop = absurd (no_end [] i.spelled)

  lexeme_of : (prefix : List ℕ) (word : Word) → IsSpelled edition prefix word → IsLexeme prefix
      → IsLexeme (word_text word)
  lexeme_of _ _ (MarkSpelled mark of) lex = lex
  lexeme_of _ _ (NameSpelled name is free) lex = lex
  lexeme_of _ _ (IntSpelled n low) lex = lex
  lexeme_of _ _ (TextSpelled body text h few) lex =
      TextShape (literal_body text) text (body_of body text h)

  pub word_of : (prefix : List ℕ) (word : Word) → IsSpelled edition prefix word → IsLexeme prefix
      → IsWord edition word
  word_of prefix word spelled lex =
      record { spelled = respelled prefix word spelled; lexeme = lexeme_of prefix word spelled lex }

  -- a word is taken if what follows cannot make it longer
  pub take_word : (word : Word) (rest : List ℕ) (at : ℕ) (more : List Token) → IsWord edition word
      → Stops (goes_on word) rest → IsTokens edition (at + length (word_text word)) rest more
      → IsTokens edition at (word_text word ++ rest) (record { at = at; word = word } ∷ more)
  take_word word rest at more i stop h =
      Takes at (word_text word) rest word (Ok more) (longest_word word rest i stop) i.spelled h

  pub skip_blanks : (gap rest : List ℕ) (at : ℕ) (more : List Token) → list_all is_blank gap ≡ true
      → IsTokens edition (at + length gap) rest more → IsTokens edition at (gap ++ rest) more
  skip_blanks [] rest at more h i = let same : at + length {A = ℕ} [] ≡ at = omega arith in subst (λ n. IsTokens edition n rest more) same i
  skip_blanks (byte ∷ gap) rest at more h i =
      let parts = and_parts (is_blank byte) (list_all is_blank gap) h in
      let further : at + length (byte ∷ gap) ≡ (at + length (byte ∷ [])) + length gap = omega arith in
      Skips at (byte ∷ []) (gap ++ rest) (Ok more) (Blank byte (gap ++ rest) parts.0) (skip_blanks gap rest (at + length (byte ∷ [])) more parts.1 (subst (λ n. IsTokens edition n rest more) further i))

  pub name_first : (name : List ℕ) → IsWord edition (w.Name name) → first_is is_letter name ≡ true
  name_first name i = name_begins name (name_in name name i.spelled)
