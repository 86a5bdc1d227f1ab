-- Text that is split into tokens, put together from parts.
use Rattle.std.proofs.Common.{◌≡◌, ℕ, ◌+◌, Bool, true, false, ◌||◌, List, [], ◌∷◌, ◌++◌, length, refl, sym, subst, append_assoc, arith, length-append}
use Rattle.std.specs.List.{list_all}
use Rattle.lc_base.specs.NameBytes.{is_letter, is_name_byte}
use Rattle.contract_tokens.specs.Spelling.{spelling}
use Rattle.contract_tokens.specs.declared.token.Token.{Token}
use Rattle.contract_tokens.specs.declared.token.Word.{Word}
use Rattle.contract_tokens.specs.declared.token.Word.TheVariants as w
use Rattle.contract_tokens.specs.Lexemes.{is_blank}
use Rattle.contract_tokens.specs.Tokens.{IsTokens}
use Rattle.contract_tokens.proofs.Runs.{Stops}
use Rattle.contract_tokens.proofs.Marks.{first_is}
use Rattle.contract_print.proofs.Respelled.{word_text, goes_on, sign_goes_on, mark_goes_on, IsWord, take_word, skip_blanks}

-- Wherever the text is followed by what ends it, it is split into tokens of which P holds.
pub record IsPrinted (edition : ℕ) (P : List Token → Type 0) (stop : List ℕ → Type 0) (text : List ℕ) : Type 0 where
  pub tokens : ℕ → List Token
  pub is : (at : ℕ) → P (tokens at)
  pub tokenized : (at : ℕ) (rest : List ℕ) (more : List Token) → stop rest
      → IsTokens edition (at + length text) rest more
      → IsTokens edition at (text ++ rest) (tokens at ++ more)

-- anything may follow
abbrev pub Any : List ℕ → Type 0
Any rest = Unit {0}

pub data IsWordOf (word : Word) : List Token → Type 0 where
  Said : (at : ℕ) → IsWordOf word (record { at = at; word = word } ∷ [])

pub data Both (P Q : List Token → Type 0) : List Token → Type 0 where
  Pair : (us vs : List Token) → P us → Q vs → Both P Q (us ++ vs)

module _ {edition : ℕ} where
  pub word_printed : (word : Word) → IsWord edition word
      → IsPrinted edition (IsWordOf word) (Stops (goes_on word)) (word_text word)
  word_printed word i = record { tokens = λ at. record { at = at; word = word } ∷ []; is = λ at. Said at; tokenized = λ at rest more stop h. take_word word rest at more i stop h }

  pub both : {P Q : List Token → Type 0} {S T : List ℕ → Type 0} {a b : List ℕ}
      → IsPrinted edition P S a → IsPrinted edition Q T b
      → ((rest : List ℕ) → T rest → S (b ++ rest)) → IsPrinted edition (Both P Q) T (a ++ b)
  both {a = a} {b = b} p q starts = record {
    tokens = λ at. p.tokens at ++ q.tokens (at + length a);
    is = λ at. Pair (p.tokens at) (q.tokens (at + length a)) (p.is at) (q.is (at + length a));
    tokenized = λ at rest more stop h.
        let far : at + length (a ++ b) ≡ (at + length a) + length b = omega (arith, length-append a b) in
        let inner = q.tokenized (at + length a) rest more stop (subst (λ n. IsTokens edition n rest more) far h) in
        let outer = p.tokenized at (b ++ rest) (q.tokens (at + length a) ++ more) (starts rest stop) inner in
        subst (λ l. IsTokens edition at l ((p.tokens at ++ q.tokens (at + length a)) ++ more)) (sym (append_assoc a b rest)) (subst (λ l. IsTokens edition at (a ++ (b ++ rest)) l) (sym (append_assoc (p.tokens at) (q.tokens (at + length a)) more)) outer);
  }

  -- blanks after
  pub gap_after : {P : List Token → Type 0} {S : List ℕ → Type 0} {a : List ℕ} (gap : List ℕ)
      → list_all is_blank gap ≡ true → IsPrinted edition P S a → ((rest : List ℕ) → S (gap ++ rest))
      → IsPrinted edition P Any (a ++ gap)
  gap_after {a = a} gap blank p starts = record {
    tokens = p.tokens;
    is = p.is;
    tokenized = λ at rest more stop h.
        let far : at + length (a ++ gap) ≡ (at + length a) + length gap = omega (arith, length-append a gap) in
        let inner = skip_blanks gap rest (at + length a) more blank (subst (λ n. IsTokens edition n rest more) far h) in
        subst (λ l. IsTokens edition at l (p.tokens at ++ more)) (sym (append_assoc a gap rest)) (p.tokenized at (gap ++ rest) more (starts rest) inner);
  }

  -- blanks before
  pub gap_before : {P : List Token → Type 0} {S : List ℕ → Type 0} {a : List ℕ} (gap : List ℕ)
      → list_all is_blank gap ≡ true → IsPrinted edition P S a → IsPrinted edition P S (gap ++ a)
  gap_before {a = a} gap blank p = record {
    tokens = λ at. p.tokens (at + length gap);
    is = λ at. p.is (at + length gap);
    tokenized = λ at rest more stop h.
        let far : at + length (gap ++ a) ≡ (at + length gap) + length a = omega (arith, length-append gap a) in
        let inner = p.tokenized (at + length gap) rest more stop (subst (λ n. IsTokens edition n rest more) far h) in
        subst (λ l. IsTokens edition at l (p.tokens (at + length gap) ++ more)) (sym (append_assoc gap a rest)) (skip_blanks gap (a ++ rest) at (p.tokens (at + length gap) ++ more) blank inner);
  }

  pub mapped : {P Q : List Token → Type 0} {S : List ℕ → Type 0} {a : List ℕ}
      → ((ts : List Token) → P ts → Q ts) → IsPrinted edition P S a → IsPrinted edition Q S a
  mapped f p =
      record { tokens = p.tokens; is = λ at. f (p.tokens at) (p.is at); tokenized = p.tokenized }

  pub stopped : {P : List Token → Type 0} {S T : List ℕ → Type 0} {a : List ℕ}
      → ((rest : List ℕ) → T rest → S rest) → IsPrinted edition P S a → IsPrinted edition P T a
  stopped f p = record { tokens = p.tokens; is = p.is; tokenized = λ at rest more stop h. p.tokenized at rest more (f rest stop) h }

  pub spelled_as : {P : List Token → Type 0} {S : List ℕ → Type 0} {a b : List ℕ} → a ≡ b
      → IsPrinted edition P S a → IsPrinted edition P S b
  spelled_as {P} {S} e p = subst (IsPrinted edition P S) e p

-- ---- what ends each word

abbrev pub breaks : ℕ → Bool
breaks byte = is_name_byte byte || sign_goes_on byte

break_mark : (b : Bool) (byte : ℕ) → breaks byte ≡ false → mark_goes_on b byte ≡ false
break_mark true byte h = grind arith
break_mark false byte h = grind arith

break_byte : (word : Word) (byte : ℕ) → breaks byte ≡ false → goes_on word byte ≡ false
break_byte (w.Int value) byte h = no_digit byte h
  where
    no_digit : (byte : ℕ) → breaks byte ≡ false → goes_on (w.Int value) byte ≡ false
    no_digit byte h = grind arith
break_byte (w.Text text) byte h = refl
break_byte (w.Name name) byte h = break_mark true byte h
break_byte (w.Mark mark) byte h = break_mark (first_is is_letter (spelling mark)) byte h
break_byte w.End byte h = refl

pub break_word : (word : Word) (rest : List ℕ) → Stops breaks rest → Stops (goes_on word) rest
break_word word [] h = tt
break_word word (byte ∷ rest) h = break_byte word byte h
