-- Tokens that a source may have.
use Rattle.std.proofs.Common.{◌≡◌, ◌≢◌, ℕ, pos, decimal, true, false, codes, List, [], ◌∷◌, ◌++◌, refl, arith}
use Rattle.std.proofs.lemmas.List.Elements.{All-nil, All-cons, All-head, All-tail, All-append}
use Rattle.contract_tokens.specs.declared.token.Token.{Token}
use Rattle.contract_tokens.specs.declared.token.Mark.{Mark}
use Rattle.contract_tokens.specs.declared.token.Mark.TheVariants as m
use Rattle.contract_tokens.specs.declared.token.Word.{Word}
use Rattle.contract_tokens.specs.declared.token.Word.TheVariants as w
use Rattle.contract_tokens.specs.Lexemes.{Nothing, in_quotes, IsSpelled, MarkSpelled, NameSpelled, IntSpelled, TextSpelled}
use Rattle.contract_tokens.specs.Spelling.{spelling, is_of}
use Rattle.contract_tokens.specs.declared.edition.TheConstants.{FIRST_EDITION, SECOND_EDITION}
use Rattle.contract_grammar.specs.Faults.{AreWritable, IsWritable}
use Rattle.contract_grammar.specs.Marks.{end_in, is_end}

pub no_words : AreWritable []
no_words = All-nil (λ t. IsWritable t.word)

pub one_word : (t : Token) → IsWritable t.word → AreWritable (t ∷ [])
one_word t h = All-cons (λ t. IsWritable t.word) t [] h no_words

pub more_words : (t : Token) (ts : List Token) → IsWritable t.word → AreWritable ts
    → AreWritable (t ∷ ts)
more_words t ts h i = All-cons (λ t. IsWritable t.word) t ts h i

pub all_words : (ts us : List Token) → AreWritable ts → AreWritable us → AreWritable (ts ++ us)
all_words ts us h i = All-append (λ t. IsWritable t.word) ts us h i

pub first_words : (ts us : List Token) → AreWritable (ts ++ us) → AreWritable ts
first_words [] us h = no_words
first_words (t ∷ ts) us h = more_words t ts (All-head (λ t. IsWritable t.word) t (ts ++ us) h) (first_words ts us (All-tail (λ t. IsWritable t.word) t (ts ++ us) h))

pub last_words : (ts us : List Token) → AreWritable (ts ++ us) → AreWritable us
last_words [] us h = h
last_words (t ∷ ts) us h = last_words ts us (All-tail (λ t. IsWritable t.word) t (ts ++ us) h)

pub word_here : (ts us : List Token) (t : Token) → AreWritable (ts ++ t ∷ us) → IsWritable t.word
word_here ts us t h = All-head (λ t. IsWritable t.word) t us (last_words ts (t ∷ us) h)

no_end : (edition : ℕ) (bytes : List ℕ) (word : Word) → IsSpelled edition bytes word
    → end_in word ≡ false
no_end edition _ _ (MarkSpelled mark of) = refl
no_end edition _ _ (NameSpelled name is free) = refl
no_end edition _ _ (IntSpelled n low) = refl
no_end edition _ _ (TextSpelled body text means short) = refl

pub written_no_end : (t : Token) → IsWritable t.word → is_end t ≡ false
written_no_end t h = no_end h.0 h.1 t.word h.2

-- the second edition has each keyword and sign
in_second : (mark : Mark) → is_of SECOND_EDITION mark ≡ true
in_second m.Drop = refl
in_second _ = refl

pub mark_writable : (mark : Mark) → IsWritable (w.Mark mark)
mark_writable mark = (SECOND_EDITION, spelling mark, MarkSpelled mark (in_second mark))

no_keyword : (mark : Mark) → spelling mark ≢ codes "x"
no_keyword mark e = grind arith

-- a name that a source may have
pub name_writable : IsWritable (w.Name (codes "x"))
name_writable = (FIRST_EDITION, codes "x", NameSpelled (codes "x") (record { some = omega arith; short = omega arith; good = refl }) (λ mark of. no_keyword mark))

pub empty_text : IsWritable (w.Text [])
empty_text = (FIRST_EDITION, in_quotes [], TextSpelled [] [] Nothing (omega arith))

pub zero_fits : IsWritable (w.Int (pos 0))
zero_fits = (FIRST_EDITION, decimal 0, IntSpelled 0 (omega arith))
