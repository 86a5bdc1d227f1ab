-- What the readers of the specification do at each step of those of the program.
use Rattle.std.proofs.Common.{◌≡◌, ℕ, zero, suc, ◌-◌, ◌<◌, Bool, true, false, List, Ok, Err, refl, sym, ap, ◌∙◌, arith}
use Rattle.contract_tokens.specs.declared.token.Token.{Token}
use Rattle.contract_tree.specs.Tree.{Tree}
use Rattle.contract_grammar.specs.declared.Obstacle.{Obstacle}
use Rattle.contract_grammar.specs.declared.Obstacle.TheVariants.{Nesting}
use Rattle.contract_grammar.specs.Grammar.{is_chained}
use Rattle.contract_grammar.specs.Reading.{level_of, rest_of_level, operand, operand_in, inner_operand, block, block_of}
use Rattle.contract_grammar.specs.Marks.{is}
use Rattle.contract_tokens.specs.declared.token.Mark.TheVariants.{BraceOpen}
use Rattle.contract_grammar.specs.Rules.{Rule, head_is, ret, seq, refuse, next, either_by, turns}
use Rattle.contract_grammar.proofs.Choice.{IsStrict, turns_once}

less_one : (n : ℕ) → 0 < n → n ≡ suc (n - 1)
less_one n h = omega arith

pub level_none : (op : Rule Tree) (ts : List Token) → level_of op 0 ts ≡ op ts
unfolding level_of
level_none op ts = refl

level_suc : (op : Rule Tree) (k : ℕ) (ts : List Token) → level_of op (suc k) ts ≡ seq (level_of op k) (rest_of_level (is_chained (suc k)) (suc k) (level_of op k)) ts
unfolding level_of
level_suc op k ts = refl

pub level_more : (op : Rule Tree) (k : ℕ) (ts : List Token) → 0 < k → level_of op k ts ≡ next (rest_of_level (is_chained k) k (level_of op (k - 1))) (level_of op (k - 1) ts)
level_more op k ts h = ap (λ n. level_of op n ts) (less_one k h) ∙ level_suc op (k - 1) ts ∙ ap (λ n. next (rest_of_level (is_chained n) n (level_of op (k - 1))) (level_of op (k - 1) ts)) (sym (less_one k h))

pub operand_is : (n : ℕ) (ts : List Token) → operand n ts ≡ operand_in (inner_operand n) ts
unfolding operand
operand_is zero ts = refl
operand_is (suc n) ts = refl

pub block_none : (ts : List Token) → block 0 ts ≡ refuse Nesting (is BraceOpen) ts
unfolding block
block_none ts = refl

block_suc : (n : ℕ) (ts : List Token) → block (suc n) ts ≡ block_of (block n) ts
unfolding block
block_suc n ts = refl

pub block_more : (n : ℕ) (ts : List Token) → 0 < n → block n ts ≡ block_of (block (n - 1)) ts
block_more n ts h = ap (λ k. block k ts) (less_one n h) ∙ block_suc (n - 1) ts

-- ---- repeated steps

module _ {A : Type 0} (test : Token → Bool) (step : A → Rule A) (strict : IsStrict step) (a : A) (ts : List Token) where
  turns_by : (b : Bool) → head_is test ts ≡ b → turns test step a ts ≡ either_by b (seq (step a) (turns test step)) (ret a) ts
  turns_by b e = turns_once test step strict a ts ∙ ap (λ b. either_by b (seq (step a) (turns test step)) (ret a) ts) e

  pub turn_over : head_is test ts ≡ false → turns test step a ts ≡ (Ok a, ts)
  turn_over e = turns_by false e

  pub turn_on : head_is test ts ≡ true → (b : A) (rest : List Token) → step a ts ≡ (Ok b, rest) → turns test step a ts ≡ turns test step b rest
  turn_on e b rest s = turns_by true e ∙ ap (λ r. next (turns test step) r) s

  pub turn_err : head_is test ts ≡ true → (why : Obstacle) (rest : List Token) → step a ts ≡ (Err why, rest) → turns test step a ts ≡ (Err why, rest)
  turn_err e why rest s = turns_by true e ∙ ap (λ r. next (turns test step) r) s
