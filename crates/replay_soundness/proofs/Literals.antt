-- The literals of contracts are values: of tokens, of expressions, and of statements.
use Rattle.std.proofs.Common.{◌≡◌, ℕ, ℤ, ◌≤◌, ◌+◌, true, List, [], ◌∷◌, ◌++◌, length, Option, None, Some, Ok, Err, refl, subst, arith}
use Rattle.std.specs.Int.{w64}
use Rattle.std.specs.Int.RustNames.{FitsSigned}
use Rattle.std.specs.List.{AllByRecursion}
use Rattle.lc_base.specs.TextBytes.{IsText, is_text_byte}
use Rattle.lc_base.proofs.TextBytes.{joined_is_text}
use Rattle.contract_tokens.specs.declared.token.Token.{Token}
use Rattle.contract_tokens.specs.declared.token.Word.{Word}
use Rattle.contract_tokens.specs.declared.token.Word.TheVariants as words
use Rattle.contract_tokens.specs.declared.limits.TheConstants.{MAX_LITERAL_BYTES}
use Rattle.contract_tokens.specs.Lexemes.{IsLiteralBody, Nothing, Plain, EscapedQuote, EscapedBackslash, IsSpelled, MarkSpelled, NameSpelled, IntSpelled, TextSpelled}
use Rattle.contract_tokens.specs.Tokens.{Outcome, prepend_token, IsTokenized, Ends, Skips, Takes, Refuses}
use Rattle.contract_grammar.specs.Marks.{with_offset, int_in, text_in}
use Rattle.contract_grammar.specs.Grammar.{Limits, IsExpr, Number, Literal, Named, Called, Prefixed, Grouped, Tighter, Chained, Compared, IsArgs, NoArgs, Args, IsMore, Last, More}
use Rattle.contract_tree.specs.Tree.{Tree, trees}
use Rattle.replay_soundness.specs.Literals.{HasValues, HaveValues}
use Rattle.replay_soundness.proofs.Values.{small_fits}

-- ---- tokens

one_byte : (byte : ℕ) → is_text_byte byte ≡ true → IsText (byte ∷ [])
one_byte byte e = record { short = omega arith; good = rw e refl }

literal_text : (body text : List ℕ) → IsLiteralBody body text → length text ≤ MAX_LITERAL_BYTES
    → IsText text
literal_text _ _ Nothing h = record { short = omega arith; good = refl }
literal_text _ _ (Plain byte body text e q b more) h = joined_is_text (byte ∷ []) text (one_byte byte e) (literal_text body text more (omega (arith, h))) (omega (arith, h))
literal_text _ _ (EscapedQuote body text more) h = joined_is_text (34 ∷ []) text (one_byte 34 refl) (literal_text body text more (omega (arith, h))) (omega (arith, h))
literal_text _ _ (EscapedBackslash body text more) h = joined_is_text (92 ∷ []) text (one_byte 92 refl) (literal_text body text more (omega (arith, h))) (omega (arith, h))

abbrev pub IsGoodWord : Word → Type 0
IsGoodWord (words.Int z) = FitsSigned w64 z
IsGoodWord (words.Text text) = IsText text
IsGoodWord (words.Name name) = Unit {0}
IsGoodWord (words.Mark mark) = Unit {0}
IsGoodWord words.End = Unit {0}

abbrev pub IsGood : Token → Type 0
IsGood t = IsGoodWord t.word

spelled_good : (edition : ℕ) (prefix : List ℕ) (word : Word) → IsSpelled edition prefix word
    → IsGoodWord word
spelled_good edition _ _ (MarkSpelled mark of) = tt
spelled_good edition _ _ (NameSpelled name is other) = tt
spelled_good edition _ _ (IntSpelled n lt) = small_fits n lt
spelled_good edition _ _ (TextSpelled body text is short) = literal_text body text is short

abbrev GoodOutcome : Outcome → Type 0
GoodOutcome (Ok list) = AllByRecursion IsGood list
GoodOutcome (Err fault) = Unit {0}

one_more : (t : Token) (outcome : Outcome) → IsGood t → GoodOutcome outcome
    → GoodOutcome (prepend_token t outcome)
one_more t (Ok list) h k = (h, k)
one_more t (Err fault) h k = tt

pub tokens_good : (edition at : ℕ) (bytes : List ℕ) (outcome : Outcome)
    → IsTokenized edition at bytes outcome → GoodOutcome outcome
tokens_good edition _ _ _ (Ends at) = (tt, tt)
tokens_good edition _ _ _ (Skips at gap rest outcome is more) =
    tokens_good edition (at + length gap) rest outcome more
tokens_good edition _ _ _ (Takes at prefix rest word outcome longest spelled more) = one_more (record { at = at; word = word }) outcome (spelled_good edition prefix word spelled) (tokens_good edition (at + length prefix) rest outcome more)
tokens_good edition _ _ _ (Refuses at bytes kind is) = tt

-- ---- expressions

pub front : (xs ys : List Token) → AllByRecursion IsGood (xs ++ ys) → AllByRecursion IsGood xs
front [] ys h = tt
front (x ∷ xs) ys h = (h.0, front xs ys h.1)

pub back : (xs ys : List Token) → AllByRecursion IsGood (xs ++ ys) → AllByRecursion IsGood ys
back [] ys h = h
back (x ∷ xs) ys h = back xs ys h.1

abbrev OfSome : {A : Type 0} → (A → Type 0) → Option A → Type 0
OfSome P None = Unit {0}
OfSome P (Some x) = P x

int_good : (at : ℕ) (word : Word) → IsGoodWord word
    → OfSome (λ (n : ℕ × ℤ). FitsSigned w64 n.1) (with_offset at (int_in word))
int_good at (words.Int z) h = h
int_good at (words.Text text) h = tt
int_good at (words.Name name) h = tt
int_good at (words.Mark mark) h = tt
int_good at words.End h = tt

text_good : (at : ℕ) (word : Word) → IsGoodWord word
    → OfSome (λ (n : ℕ × List ℕ). IsText n.1) (with_offset at (text_in word))
text_good at (words.Int z) h = tt
text_good at (words.Text text) h = h
text_good at (words.Name name) h = tt
text_good at (words.Mark mark) h = tt
text_good at words.End h = tt

module _ (l : Limits) where
  mutual
    pub expr_values : (d level : ℕ) (tokens : List Token) (x : Tree) → IsExpr l d level tokens x
        → AllByRecursion IsGood tokens → HasValues x
    expr_values _ _ _ _ (Number d t n e) h =
        subst (OfSome (λ (n : ℕ × ℤ). FitsSigned w64 n.1)) e (int_good t.at t.word h.0)
    expr_values _ _ _ _ (Literal d t n e) h =
        subst (OfSome (λ (n : ℕ × List ℕ). IsText n.1)) e (text_good t.at t.word h.0)
    expr_values _ _ _ _ (Named d t n e) h = tt
    expr_values _ _ _ _ (Called d t n y args e w is tall) h = args_values _ y args is h.1
    expr_values _ _ _ _ (Prefixed d t s y x e w is tall) h = expr_values _ _ y x is h.1
    expr_values _ _ _ _ (Grouped d o at y x c end e w is f) h =
        expr_values _ _ y x is (front y (c ∷ []) h.1)
    expr_values _ _ _ _ (Tighter d level y x is) h = expr_values _ _ y x is h
    expr_values _ _ _ _ (Chained d level y x t s z w e is f more tall) h =
        (expr_values _ _ y x is (front y (t ∷ z) h), expr_values _ _ z w more (back y (t ∷ z) h).1)
    expr_values _ _ _ _ (Compared d level y x t s z w e is f more tall) h =
        (expr_values _ _ y x is (front y (t ∷ z) h), expr_values _ _ z w more (back y (t ∷ z) h).1)

    pub args_values : (d : ℕ) (tokens : List Token) (args : List Tree) → IsArgs l d tokens args
        → AllByRecursion IsGood tokens → HaveValues (trees args)
    args_values _ _ _ (NoArgs d o at c end e f) h = tt
    args_values _ _ _ (Args d o at y x z xs e is more) h =
        (expr_values _ _ y x is (front y z h.1), more_values _ _ z xs more (back y z h.1))

    pub more_values : (mark : _) (d : ℕ) (tokens : List Token) (args : List Tree)
        → IsMore l mark d tokens args → AllByRecursion IsGood tokens → HaveValues (trees args)
    more_values _ _ _ _ (Last mark d c end e) h = tt
    more_values _ _ _ _ (More mark d c at y x z xs e is more) h =
        (expr_values _ _ y x is (front y z h.1), more_values _ _ z xs more (back y z h.1))
