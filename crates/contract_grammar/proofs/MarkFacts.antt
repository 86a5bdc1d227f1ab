-- Which tests a token passes or fails, given one that it passes.
use Rattle.std.proofs.Common.{◌≡◌, ◌||◌, ℕ, ℤ, Bool, true, false, List, Option, Some, None, is_some, ◌⊎◌, refl, arith}
use Rattle.contract_tokens.specs.declared.token.Token.{Token}
use Rattle.contract_tokens.specs.declared.token.Mark.TheVariants as m
use Rattle.contract_tree.specs.declared.tree.Sign.{Sign}
use Rattle.contract_grammar.specs.Marks.{the, is, has, is_end, stops, int_of, text_of, name_of, builtin_of, callee_of, prefix_of, opens}
use Rattle.contract_grammar.proofs.Laws.{no_false}
use Rattle.contract_grammar.specs.declared.limits.TheConstants.{WHOLE}

-- a token with which an expression begins
pub begins : Token → Bool
begins t = has name_of t || has builtin_of t || has prefix_of t || is m.ParenOpen t || has text_of t || has int_of t

pub callee_begins : (t : Token) (n : ℕ × List ℕ) → callee_of t ≡ Some n → begins t ≡ true
unfolding begins
callee_begins t n e = grind arith

pub begins_with : (t : Token) → (has name_of t ≡ true) ⊎ (has builtin_of t ≡ true) ⊎ (has prefix_of t ≡ true) ⊎ (is m.ParenOpen t ≡ true) ⊎ (has text_of t ≡ true) ⊎ (has int_of t ≡ true) → begins t ≡ true
unfolding begins
begins_with t h = grind arith

pub begins_no_close : (t : Token) → begins t ≡ true → is m.ParenClose t ≡ false
unfolding begins
begins_no_close t h = grind arith

pub name_callee : (t : Token) (n : ℕ × List ℕ) → name_of t ≡ Some n → callee_of t ≡ Some n
name_callee t n e = grind arith

pub builtin_callee : (t : Token) (n : ℕ × List ℕ) → builtin_of t ≡ Some n → callee_of t ≡ Some n
builtin_callee t n e = grind arith

pub callee_is : (t : Token) (n : ℕ × List ℕ) → callee_of t ≡ Some n → (name_of t ≡ Some n) ⊎ (builtin_of t ≡ Some n)
callee_is t n e = grind arith

pub comma_stops : (t : Token) → is m.Comma t ≡ true → stops WHOLE t ≡ true
comma_stops t h = grind arith

pub close_stops : (t : Token) → is m.ParenClose t ≡ true → stops WHOLE t ≡ true
close_stops t h = grind arith

pub close_no_comma : (t : Token) → is m.ParenClose t ≡ true → is m.Comma t ≡ false
close_no_comma t h = grind arith

pub stops_no_paren : (t : Token) → stops 0 t ≡ true → is m.ParenOpen t ≡ false
stops_no_paren t h = grind arith

pub builtin_no_name : (t : Token) → has builtin_of t ≡ true → has name_of t ≡ false
builtin_no_name t h = grind arith

pub prefix_no_name : (t : Token) → has prefix_of t ≡ true → has name_of t ≡ false
prefix_no_name t h = grind arith

pub paren_no_name : (t : Token) → is m.ParenOpen t ≡ true → has name_of t ≡ false
paren_no_name t h = grind arith

pub text_no_name : (t : Token) → has text_of t ≡ true → has name_of t ≡ false
text_no_name t h = grind arith

pub int_no_name : (t : Token) → has int_of t ≡ true → has name_of t ≡ false
int_no_name t h = grind arith

pub prefix_no_builtin : (t : Token) → has prefix_of t ≡ true → has builtin_of t ≡ false
prefix_no_builtin t h = grind arith

pub paren_no_builtin : (t : Token) → is m.ParenOpen t ≡ true → has builtin_of t ≡ false
paren_no_builtin t h = grind arith

pub text_no_builtin : (t : Token) → has text_of t ≡ true → has builtin_of t ≡ false
text_no_builtin t h = grind arith

pub int_no_builtin : (t : Token) → has int_of t ≡ true → has builtin_of t ≡ false
int_no_builtin t h = grind arith

pub paren_no_prefix : (t : Token) → is m.ParenOpen t ≡ true → has prefix_of t ≡ false
paren_no_prefix t h = grind arith

pub text_no_prefix : (t : Token) → has text_of t ≡ true → has prefix_of t ≡ false
text_no_prefix t h = grind arith

pub int_no_prefix : (t : Token) → has int_of t ≡ true → has prefix_of t ≡ false
int_no_prefix t h = grind arith

pub text_no_paren : (t : Token) → has text_of t ≡ true → is m.ParenOpen t ≡ false
text_no_paren t h = grind arith

pub int_no_paren : (t : Token) → has int_of t ≡ true → is m.ParenOpen t ≡ false
int_no_paren t h = grind arith

pub int_no_text : (t : Token) → has int_of t ≡ true → has text_of t ≡ false
int_no_text t h = grind arith

pub name_no_end : (t : Token) (n : ℕ × List ℕ) → name_of t ≡ Some n → is_end t ≡ false
name_no_end t n e = grind arith

pub builtin_no_end : (t : Token) (n : ℕ × List ℕ) → builtin_of t ≡ Some n → is_end t ≡ false
builtin_no_end t n e = grind arith

pub prefix_no_end : (t : Token) (s : ℕ × Sign) → prefix_of t ≡ Some s → is_end t ≡ false
prefix_no_end t s e = grind arith

pub text_no_end : (t : Token) (n : ℕ × List ℕ) → text_of t ≡ Some n → is_end t ≡ false
text_no_end t n e = grind arith

pub int_no_end : (t : Token) (n : ℕ × ℤ) → int_of t ≡ Some n → is_end t ≡ false
int_no_end t n e = grind arith

pub named_no_end : (t : Token) → has name_of t ≡ true → is_end t ≡ false
named_no_end t h = grind arith

pub open_no_end : (t : Token) → opens t ≡ true → is_end t ≡ false
open_no_end t h = grind arith

pub brace_no_end : (t : Token) → is m.BraceOpen t ≡ true → is_end t ≡ false
brace_no_end t h = grind arith

pub paren_opens : (t : Token) → is m.ParenOpen t ≡ true → opens t ≡ true
paren_opens t h = grind arith

pub prefix_opens : (t : Token) → has prefix_of t ≡ true → opens t ≡ true
prefix_opens t h = grind arith

pub has_the : (t : Token) → is m.ParenOpen t ≡ true → the m.ParenOpen t ≡ Some t.at
has_the t h = grind arith

pub has_some : {A : Type 0} (o : Option A) → is_some o ≡ true → (a : A) × (o ≡ Some a)
has_some None h = absurd (no_false refl h)
has_some (Some a) h = (a, refl)
