-- A loop of the program does what the repeated steps of the specification do.
use Rattle.std.proofs.Common.{◌≡◌, ℕ, Bool, true, false, List, Result, Ok, Err, sym, ap, ◌∙◌, subst}
use Rattle.contract_tokens.specs.declared.token.Token.{Token}
use Rattle.contract_tokens.specs.declared.token.Mark.{Mark}
use Rattle.contract_grammar.specs.declared.stop.ParseStop.{ParseStop}
use Rattle.contract_grammar.specs.declared.stop.ParseStop.TheVariants.{At, Memory}
use Rattle.contract_grammar.specs.Marks.{the}
use Rattle.contract_grammar.specs.Reading.{after_mark}
use Rattle.contract_grammar.specs.Reads.{Gives}
use Rattle.contract_grammar.specs.Rules.{Read, Rule, head_is, one, next, turns}
use Rattle.contract_grammar.proofs.Choice.{IsStrict}
use Rattle.contract_grammar.proofs.Turns.{turn_over, turn_on, turn_err}

-- the same outcome of an equal reader
pub gives_by : {A B : Type 0} (view : A → B) (r : Result A ParseStop) (x y : Read B) (left : List Token) → x ≡ y → Gives view r y left → Gives view r x left
gives_by view r x y left e h = subst (λ v. Gives view r v left) (sym e) h

module _ {B : Type 0} (test : Token → Bool) (step : B → Rule B) (strict : IsStrict step) (first : B) (start : List Token) (a : B) (ts : List Token) (kept : turns test step a ts ≡ turns test step first start) where
  pub loop_over : head_is test ts ≡ false → turns test step first start ≡ (Ok a, ts)
  loop_over e = sym kept ∙ turn_over test step strict a ts e

  pub loop_on : head_is test ts ≡ true → (b : B) (rest : List Token) → step a ts ≡ (Ok b, rest) → turns test step b rest ≡ turns test step first start
  loop_on e b rest s = sym (turn_on test step strict a ts e b rest s) ∙ kept

  pub loop_err : (A : Type 0) → head_is test ts ≡ true → (view : A → B) (stop : ParseStop) (rest : List Token) → Gives view (Err stop) (step a ts) rest → Gives view (Err stop) (turns test step first start) rest
  loop_err A e view (At why) rest s = sym kept ∙ turn_err test step strict a ts e why rest s
  loop_err A e view Memory rest s = tt

-- a keyword or sign that was taken, then what follows
pub preceded_taken : {B : Type 0} (mark : Mark) (p : Rule B) (ts rest : List Token) (at : ℕ) → one (the mark) ts ≡ (Ok at, rest) → after_mark mark p ts ≡ p rest
preceded_taken mark p ts rest at e = ap (λ r. next (λ at. p) r) e
