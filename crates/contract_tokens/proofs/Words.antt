-- The first byte of a lexeme decides its kind, and bytes spell at most one word.
use Rattle.std.proofs.Common.{◌≡◌, ℕ, Bool, true, false, not, ◌||◌, List, [], ◌∷◌, ◌++◌, drop, sym, ap, refl, ◌∙◌, arith}
use Rattle.std.specs.Prelude.{decimal, pos}
use Rattle.std.specs.List.{list_all}
use Rattle.std.proofs.lemmas.Bool.{and_from}
use Rattle.std.proofs.lemmas.Fmt.{decimal_injective}
use Rattle.lc_base.specs.NameBytes.{is_letter, is_name_byte}
use Rattle.contract_tokens.specs.declared.token.Mark.{Mark}
use Rattle.contract_tokens.specs.declared.token.Word.{Word}
use Rattle.contract_tokens.specs.declared.token.Word.TheVariants as words
use Rattle.contract_tokens.specs.Spelling.{spelling}
use Rattle.contract_tokens.specs.Lexemes.{is_digit, quote, IsLiteralBody, in_quotes, IsSpelled, MarkSpelled, NameSpelled, IntSpelled, TextSpelled, IsLexeme, MarkShape, NameShape, IntShape, TextShape}
use Rattle.contract_tokens.proofs.Marks.{first_is, is_other, Keyword, Short, Long, written}
use Rattle.contract_tokens.proofs.Shapes.{is_quote, begins_gap, spelling_injective, mark_begins, letter_not_digit, letter_not_quote, digit_not_quote, letter_not_gap, digit_not_gap, not_both, name_begins, decimal_begins, body_unique}

-- ---- lexemes

pub begins_something : (bytes : List ℕ) → IsLexeme bytes → first_is begins_gap bytes ≡ true → ⊥
begins_something _ (MarkShape mark) g = let f = (mark_begins mark).2 in cc
begins_something _ (NameShape byte more l h) g = letter_not_gap byte l g
begins_something _ (IntShape byte more d h) g = digit_not_gap byte d g
begins_something _ (TextShape body text h) g = cc

pub lexeme_nonempty : (bytes : List ℕ) → IsLexeme bytes → bytes ≡ [] → ⊥
lexeme_nonempty _ (MarkShape mark) e =
    elim (written mark) [
      | Keyword l h ↦ (let f : first_is is_letter (spelling mark) ≡ false = ap (first_is is_letter) e in cc)
      | Short a s h o ↦ (let f : a ∷ [] ≡ [] = sym s ∙ e in cc)
      | Long a b s h o ↦ (let f : a ∷ b ∷ [] ≡ [] = sym s ∙ e in cc)
    ]
lexeme_nonempty _ (NameShape byte more l h) e = cc
lexeme_nonempty _ (IntShape byte more d h) e = cc
lexeme_nonempty _ (TextShape body text h) e = cc

other_no_letter : (byte : ℕ) → is_other byte ≡ true → is_letter byte ≡ false
other_no_letter byte o = grind arith

pub letter_lexeme : (bytes : List ℕ) → IsLexeme bytes → first_is is_letter bytes ≡ true
    → list_all is_name_byte bytes ≡ true
letter_lexeme _ (MarkShape mark) l =
    elim (written mark) [
      | Keyword f h ↦ h
      | Short a s h o ↦ absurd (let f : first_is is_letter (spelling mark) ≡ is_letter a = ap (first_is is_letter) s in let g = other_no_letter a o in cc)
      | Long a b s h o ↦ absurd (let f : first_is is_letter (spelling mark) ≡ is_letter a = ap (first_is is_letter) s in let g = other_no_letter a o in cc)
    ]
letter_lexeme _ (NameShape byte more l h) f =
    and_from (is_name_byte byte) (list_all is_name_byte more) (rw l refl) h
letter_lexeme _ (IntShape byte more d h) f = absurd (letter_not_digit byte f d)
letter_lexeme _ (TextShape body text h) f = cc

pub digit_lexeme : (bytes : List ℕ) → IsLexeme bytes → first_is is_digit bytes ≡ true
    → list_all is_digit bytes ≡ true
digit_lexeme _ (MarkShape mark) f = absurd (let g = (mark_begins mark).0 in cc)
digit_lexeme _ (NameShape byte more l h) f = absurd (letter_not_digit byte l f)
digit_lexeme _ (IntShape byte more d h) f = and_from (is_digit byte) (list_all is_digit more) d h
digit_lexeme _ (TextShape body text h) f = cc

pub record IsQuoted (bytes body text : List ℕ) : Type 0 where
  pub is : bytes ≡ in_quotes body
  pub means : IsLiteralBody body text

pub quote_lexeme : (bytes : List ℕ) → IsLexeme bytes → first_is is_quote bytes ≡ true
    → (body text : List ℕ) × IsQuoted bytes body text
quote_lexeme _ (MarkShape mark) f = absurd (let g = (mark_begins mark).1 in cc)
quote_lexeme _ (NameShape byte more l h) f = absurd (letter_not_quote byte l f)
quote_lexeme _ (IntShape byte more d h) f = absurd (digit_not_quote byte d f)
quote_lexeme _ (TextShape body text h) f = (body, text, record { is = refl; means = h })

-- a byte that begins neither a name, a number nor a text literal
abbrev pub is_signs : ℕ → Bool
is_signs byte = not (is_letter byte || is_digit byte || is_quote byte)

signs_no_letter : (byte : ℕ) → is_signs byte ≡ true
    → (is_letter byte ≡ false) × (is_digit byte ≡ false) × (is_quote byte ≡ false)
signs_no_letter byte o = grind arith

pub sign_lexeme : (bytes : List ℕ) → IsLexeme bytes → first_is is_signs bytes ≡ true
    → (mark : Mark) × (spelling mark ≡ bytes)
sign_lexeme _ (MarkShape mark) f = (mark, refl)
sign_lexeme _ (NameShape byte more l h) f = absurd (let g = signs_no_letter byte f in cc)
sign_lexeme _ (IntShape byte more d h) f = absurd (let g = signs_no_letter byte f in cc)
sign_lexeme _ (TextShape body text h) f = cc

-- ---- words

spelled_same : (edition : ℕ) (u v : List ℕ) (a b : Word) → u ≡ v → IsSpelled edition u a
    → IsSpelled edition v b → a ≡ b
spelled_same edition _ _ _ _ e (MarkSpelled m of) (MarkSpelled n on) =
    ap words.Mark (spelling_injective m n e)
spelled_same edition _ _ _ _ e (MarkSpelled m of) (NameSpelled name is free) = absurd (free m of e)
spelled_same edition _ _ _ _ e (MarkSpelled m of) (IntSpelled n h) = absurd (let f = ap (first_is is_digit) e in let g = (mark_begins m).0 in let k = decimal_begins n h in cc)
spelled_same edition _ _ _ _ e (MarkSpelled m of) (TextSpelled body text t l) = absurd (let f : first_is is_quote (spelling m) ≡ true = ap (first_is is_quote) e in let g = (mark_begins m).1 in cc)
spelled_same edition _ _ _ _ e (NameSpelled name is free) (MarkSpelled m of) =
    absurd (free m of (sym e))
spelled_same edition _ _ _ _ e (NameSpelled name is free) (NameSpelled other is' free') =
    ap words.Name e
spelled_same edition _ _ _ _ e (NameSpelled name is free) (IntSpelled n h) = absurd (not_both is_letter is_digit letter_not_digit name (name_begins name is) (ap (first_is is_digit) e ∙ decimal_begins n h))
spelled_same edition _ _ _ _ e (NameSpelled name is free) (TextSpelled body text t l) = absurd (not_both is_letter is_quote letter_not_quote name (name_begins name is) (ap (first_is is_quote) e))
spelled_same edition _ _ _ _ e (IntSpelled n h) (MarkSpelled m of) = absurd (let f = ap (first_is is_digit) e in let g = (mark_begins m).0 in let k = decimal_begins n h in cc)
spelled_same edition _ _ _ _ e (IntSpelled n h) (NameSpelled name is free) = absurd (not_both is_letter is_digit letter_not_digit name (name_begins name is) (ap (first_is is_digit) (sym e) ∙ decimal_begins n h))
spelled_same edition _ _ _ _ e (IntSpelled n h) (IntSpelled m k) =
    ap (λ i. words.Int (pos i)) (decimal_injective n m (omega arith) (omega arith) e)
spelled_same edition _ _ _ _ e (IntSpelled n h) (TextSpelled body text t l) = absurd (not_both is_digit is_quote digit_not_quote (decimal n) (decimal_begins n h) (ap (first_is is_quote) e))
spelled_same edition _ _ _ _ e (TextSpelled body text t l) (MarkSpelled m of) = absurd (let f : first_is is_quote (spelling m) ≡ true = ap (first_is is_quote) (sym e) in let g = (mark_begins m).1 in cc)
spelled_same edition _ _ _ _ e (TextSpelled body text t l) (NameSpelled name is free) = absurd (not_both is_letter is_quote letter_not_quote name (name_begins name is) (ap (first_is is_quote) (sym e)))
spelled_same edition _ _ _ _ e (TextSpelled body text t l) (IntSpelled n h) = absurd (not_both is_digit is_quote digit_not_quote (decimal n) (decimal_begins n h) (ap (first_is is_quote) (sym e)))
spelled_same edition _ _ _ _ e (TextSpelled body text t l) (TextSpelled more said u k) =
    let f : body ++ quote ∷ [] ≡ more ++ quote ∷ [] = ap (drop 1) e in ap words.Text (body_unique body text [] more said [] t u f).1

pub spelled_once : (edition : ℕ) (bytes : List ℕ) (a b : Word) → IsSpelled edition bytes a
    → IsSpelled edition bytes b → a ≡ b
spelled_once edition bytes a b h k = spelled_same edition bytes bytes a b refl h k
