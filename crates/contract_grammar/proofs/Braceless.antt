-- An expression has no braces.
use Rattle.std.proofs.Common.{◌≡◌, ℕ, ℤ, suc, Bool, true, List, [], ◌∷◌, ◌++◌, Some, Ok, Err, refl, sym, ap, ◌∙◌, arith}
use Rattle.std.specs.List.{list_all}
use Rattle.std.proofs.lemmas.Bool.{and_parts, and_from}
use Rattle.std.proofs.lemmas.List.{append_cancel_right}
use Rattle.contract_tokens.specs.declared.token.Token.{Token}
use Rattle.contract_tokens.specs.declared.token.Mark.{Mark}
use Rattle.contract_tokens.specs.declared.token.Mark.TheVariants as m
use Rattle.contract_tree.specs.Tree.{Tree}
use Rattle.contract_tree.specs.declared.tree.Sign.{Sign}
use Rattle.contract_grammar.specs.declared.Obstacle.{Obstacle}
use Rattle.contract_grammar.specs.Grammar.{Limits, IsExpr, Number, Literal, Named, Called, Prefixed, Grouped, Tighter, Chained, Compared, IsArgs, NoArgs, Args, IsMore, Last, More}
use Rattle.contract_grammar.specs.Marks.{the, is_not, int_of, text_of, name_of, callee_of, prefix_of, sign_of}
use Rattle.contract_grammar.specs.Rules.{Rule}
use Rattle.contract_grammar.proofs.Laws.{IsRule, no_false}
use Rattle.contract_grammar.proofs.Completions.{ends_in, Taken}
use Rattle.contract_grammar.specs.declared.limits.TheConstants.{WHOLE}

-- ---- lists of tokens that pass a test

pub all_after : (test : Token → Bool) (y z : List Token) → list_all test y ≡ true → list_all test z ≡ true → list_all test (y ++ z) ≡ true
all_after test [] z h i = i
all_after test (t ∷ y) z h i =
    let k = and_parts (test t) (list_all test y) h in
    and_from (test t) (list_all test (y ++ z)) k.0 (all_after test y z k.1 i)

all_before : (test : Token → Bool) (y z : List Token) → list_all test (y ++ z) ≡ true → list_all test y ≡ true
all_before test [] z h = refl
all_before test (t ∷ y) z h =
    let k = and_parts (test t) (list_all test (y ++ z)) h in
    and_from (test t) (list_all test y) k.0 (all_before test y z k.1)

-- the last token passes both tests
pub last_passes : (test first : Token → Bool) (used : List Token) → list_all first used ≡ true → ends_in test used ≡ true → (t : Token) × (first t ≡ true) × (test t ≡ true)
last_passes test first [] h e = absurd (no_false refl e)
last_passes test first (t ∷ []) h e = (t, (and_parts (first t) true h).0, e)
last_passes test first (t ∷ s ∷ used) h e = last_passes test first (s ∷ used) (and_parts (first t) (list_all first (s ∷ used)) h).1 e

-- ---- expressions

abbrev pub braceless : List Token → Bool
braceless tokens = list_all (is_not m.BraceOpen) tokens

one_more : (t : Token) (y : List Token) → is_not m.BraceOpen t ≡ true → braceless y ≡ true → braceless (t ∷ y) ≡ true
one_more t y h i = and_from (is_not m.BraceOpen t) (braceless y) h i

only : (t : Token) → is_not m.BraceOpen t ≡ true → braceless (t ∷ []) ≡ true
only t h = one_more t [] h refl

int_braceless : (t : Token) (n : ℕ × ℤ) → int_of t ≡ Some n → is_not m.BraceOpen t ≡ true
int_braceless t n e = grind arith

text_braceless : (t : Token) (n : ℕ × List ℕ) → text_of t ≡ Some n → is_not m.BraceOpen t ≡ true
text_braceless t n e = grind arith

name_braceless : (t : Token) (n : ℕ × List ℕ) → name_of t ≡ Some n → is_not m.BraceOpen t ≡ true
name_braceless t n e = grind arith

callee_braceless : (t : Token) (n : ℕ × List ℕ) → callee_of t ≡ Some n → is_not m.BraceOpen t ≡ true
callee_braceless t n e = grind arith

prefix_braceless : (t : Token) (s : ℕ × Sign) → prefix_of t ≡ Some s → is_not m.BraceOpen t ≡ true
prefix_braceless t s e = grind arith

sign_braceless : (k : ℕ) (t : Token) (s : ℕ × Sign) → sign_of k t ≡ Some s → is_not m.BraceOpen t ≡ true
sign_braceless k t s e = grind arith

open_braceless : (t : Token) (at : ℕ) → the m.ParenOpen t ≡ Some at → is_not m.BraceOpen t ≡ true
open_braceless t at e = grind arith

close_braceless : (t : Token) (at : ℕ) → the m.ParenClose t ≡ Some at → is_not m.BraceOpen t ≡ true
close_braceless t at e = grind arith

comma_braceless : (t : Token) (at : ℕ) → the m.Comma t ≡ Some at → is_not m.BraceOpen t ≡ true
comma_braceless t at e = grind arith

mutual
  pub expression_braceless : {l : Limits} (d k : ℕ) (f : List Token) (x : Tree) → IsExpr l d k f x → braceless f ≡ true
  expression_braceless d k f x (Number _ t n e) = only t (int_braceless t n e)
  expression_braceless d k f x (Literal _ t n e) = only t (text_braceless t n e)
  expression_braceless d k f x (Named _ t n e) = only t (name_braceless t n e)
  expression_braceless d k f x (Called _ t n y args e may i low) = one_more t y (callee_braceless t n e) (args_braceless (suc d) y args i)
  expression_braceless d k f x (Prefixed _ t s y a e may i low) = one_more t y (prefix_braceless t s e) (expression_braceless (suc d) 0 y a i)
  expression_braceless d k f x (Grouped _ o at y a c end e may i h) = one_more o (y ++ c ∷ []) (open_braceless o at e) (all_after (is_not m.BraceOpen) y (c ∷ []) (expression_braceless (suc d) WHOLE y a i) (only c (close_braceless c end h)))
  expression_braceless d k f x (Tighter _ j y a i) = expression_braceless d j y a i
  expression_braceless d k f x (Chained _ j y a t s z b c i e r low) = all_after (is_not m.BraceOpen) y (t ∷ z) (expression_braceless d (suc j) y a i) (one_more t z (sign_braceless (suc j) t s e) (expression_braceless d j z b r))
  expression_braceless d k f x (Compared _ j y a t s z b c i e r low) = all_after (is_not m.BraceOpen) y (t ∷ z) (expression_braceless d j y a i) (one_more t z (sign_braceless (suc j) t s e) (expression_braceless d j z b r))

  args_braceless : {l : Limits} (d : ℕ) (f : List Token) (xs : List Tree) → IsArgs l d f xs → braceless f ≡ true
  args_braceless d f xs (NoArgs _ o at c end e h) = one_more o (c ∷ []) (open_braceless o at e) (only c (close_braceless c end h))
  args_braceless d f xs (Args _ o at y x z more e i j) = one_more o (y ++ z) (open_braceless o at e) (all_after (is_not m.BraceOpen) y z (expression_braceless d WHOLE y x i) (more_braceless d m.ParenClose refl z more j))

  more_braceless : {l : Limits} (d : ℕ) (mark : Mark) → m.ParenClose ≡ mark → (z : List Token) (xs : List Tree) → IsMore l mark d z xs → braceless z ≡ true
  more_braceless d mark same z xs (Last _ _ c end h) = only c (close_braceless c end (ap (λ v. the v c) same ∙ h))
  more_braceless d mark same z xs (More _ _ c at y x g more e i j) = one_more c (y ++ g) (comma_braceless c at e) (all_after (is_not m.BraceOpen) y g (expression_braceless d WHOLE y x i) (more_braceless d mark same g more j))

-- what a reader of expressions takes
pub taken_braceless : {l : Limits} {E : Obstacle → Type 0} {U : Type 0} {read : Rule Tree} {d k : ℕ} {S : Token → Bool} → IsRule E U read (IsExpr l d k) S → U → (used : List Token) → Taken read used → braceless used ≡ true
taken_braceless {d = d} {k = k} rule u used (ts, rest, Ok x, e, path) =
    let f = rule.takes ts rest x e in
    let same : f.0 ≡ used = append_cancel_right f.0 used rest (sym f.1 ∙ path) in
    ap braceless (sym same) ∙ expression_braceless d k f.0 x f.2
taken_braceless {d = d} {k = k} rule u used (ts, rest, Err why, e, path) =
    let f = rule.viable u ts rest why e in
    let same : f.0 ≡ used = append_cancel_right f.0 used rest (sym f.3 ∙ path) in
    ap braceless (sym same) ∙ all_before (is_not m.BraceOpen) f.0 f.1 (expression_braceless d k (f.0 ++ f.1) f.2 f.4)
