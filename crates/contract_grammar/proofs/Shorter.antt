-- How many tokens the readers of the grammar take at least, so that repeated steps end.
use Rattle.std.proofs.Common.{◌≡◌, ℕ, zero, suc, ◌<◌, ◌≤◌, Bool, true, false, List, [], ◌∷◌, ◌++◌, length, nat_lt, Option, Some, None, Ok, Err, refl, sym, ap, ◌∙◌, arith}
use Rattle.contract_tokens.specs.declared.token.Token.{Token}
use Rattle.contract_tokens.specs.declared.token.Mark.{Mark}
use Rattle.contract_tokens.specs.declared.token.Mark.TheVariants as m
use Rattle.contract_tree.specs.Tree.{Tree, StatementTree, StatementTrees}
use Rattle.contract_tree.specs.Tree as tree
use Rattle.contract_grammar.specs.declared.Obstacle.{Obstacle}
use Rattle.contract_grammar.specs.declared.Obstacle.TheVariants.{Surplus, Pending, Nesting}
use Rattle.contract_grammar.specs.declared.limits.TheConstants.{MAX_PARAMETERS, MAX_PENDING, MAX_NESTING, WHOLE}
use Rattle.contract_tree.specs.declared.tree.Param.{Param}
use Rattle.contract_grammar.specs.Grammar.{is_chained}
use Rattle.contract_grammar.specs.Marks.{the, is, is_not, has, int_of, text_of, name_of, builtin_of, prefix_of, sign_of, declared_of, kind_of}
use Rattle.contract_grammar.specs.Reading.{after_mark, before_mark, comma_then, more_of, args, operand_of, binary, rest_of_level, level_of, operand, expression, value_of, else_part, from_part, statement, block, param, params, function}
use Rattle.contract_grammar.specs.Rules.{Read, Rule, head_is, ret, guard, one_by, one, refuse, next, seq, either_by, either, turns_below, turns, put, each}
use Rattle.contract_grammar.proofs.Laws.{ok_is, no_ok}
use Rattle.contract_grammar.proofs.Choice.{IsStrict, turns_are}

-- the reader takes at least one token
abbrev pub TakesOne : {A : Type 0} → Rule A → Type 0
TakesOne {A} read =
    (ts rest : List Token) (a : A) → read ts ≡ (Ok a, rest) → length rest < length ts

-- the reader leaves no more tokens than there were
abbrev pub AddsNone : {A : Type 0} → Rule A → Type 0
AddsNone {A} read =
    (ts rest : List Token) (a : A) → read ts ≡ (Ok a, rest) → length rest ≤ length ts

adds_none : {A : Type 0} {p : Rule A} → TakesOne p → AddsNone p
adds_none h ts rest a e = let k = h ts rest a e in omega (arith, k)

as_long : {m n : List Token} → m ≡ n → length n ≤ length m
as_long e = omega (arith, ap length e)

ret_adds : {A : Type 0} (a : A) → AddsNone (ret a)
ret_adds a ts rest b e = as_long (ok_is e).1

guard_adds : {A : Type 0} (may : Bool) (why : Obstacle) (a : A) → AddsNone (guard may why a)
guard_adds true why a ts rest b e = as_long (ok_is e).1
guard_adds false why a ts rest b e = absurd (no_ok e)

one_by_takes : {A : Type 0} (o : Option A) (t : Token) (ts rest : List Token) (a : A)
    → one_by o t ts ≡ (Ok a, rest) → length rest < suc (length ts)
one_by_takes None t ts rest a e = absurd (no_ok e)
one_by_takes (Some b) t ts rest a e = let k = as_long (ok_is e).1 in omega (arith, k)

one_takes : {A : Type 0} (f : Token → Option A) → TakesOne (one f)
one_takes f [] rest a e = absurd (no_ok e)
one_takes f (t ∷ ts) rest a e = one_by_takes (f t) t ts rest a e

closed_takes : {A : Type 0} (why : Obstacle) (test : Token → Bool)
    → TakesOne {A = A} (refuse why test)
closed_takes why test ts rest a e = absurd (no_ok e)

module _ {A B : Type 0} {p : Rule A} {q : A → Rule B} (hq : (a : A) → AddsNone (q a)) where
  seq_takes_by : (ts rest : List Token) (b : B) (r : Read A) → TakesOne p → p ts ≡ r
      → next q r ≡ (Ok b, rest) → length rest < length ts
  seq_takes_by ts rest b (Ok a, mid) hp e h =
      let k = hp ts mid a e in let l = hq a mid rest b h in omega (arith, k, l)
  seq_takes_by ts rest b (Err why, mid) hp e h = absurd (no_ok h)

  seq_takes : TakesOne p → TakesOne (seq p q)
  seq_takes hp ts rest b e = seq_takes_by ts rest b (p ts) hp refl e

  seq_adds_by : (ts rest : List Token) (b : B) (r : Read A) → AddsNone p → p ts ≡ r
      → next q r ≡ (Ok b, rest) → length rest ≤ length ts
  seq_adds_by ts rest b (Ok a, mid) hp e h =
      let k = hp ts mid a e in let l = hq a mid rest b h in omega (arith, k, l)
  seq_adds_by ts rest b (Err why, mid) hp e h = absurd (no_ok h)

  seq_adds : AddsNone p → AddsNone (seq p q)
  seq_adds hp ts rest b e = seq_adds_by ts rest b (p ts) hp refl e

module _ {A : Type 0} {p q : Rule A} where
  either_by_takes : (b : Bool) → TakesOne p → TakesOne q → TakesOne (either_by b p q)
  either_by_takes true hp hq = hp
  either_by_takes false hp hq = hq

  either_takes : (test : Token → Bool) → TakesOne p → TakesOne q → TakesOne (either test p q)
  either_takes test hp hq ts rest a e = either_by_takes (head_is test ts) hp hq ts rest a e

  either_by_adds : (b : Bool) → AddsNone p → AddsNone q → AddsNone (either_by b p q)
  either_by_adds true hp hq = hp
  either_by_adds false hp hq = hq

  either_adds : (test : Token → Bool) → AddsNone p → AddsNone q → AddsNone (either test p q)
  either_adds test hp hq ts rest a e = either_by_adds (head_is test ts) hp hq ts rest a e

module _ {A : Type 0} (test : Token → Bool) (step : A → Rule A) (hs : (a : A) → AddsNone (step a)) where
  below_adds : (n : ℕ) (a : A) → AddsNone (turns_below n test step a)
  below_adds zero a = λ ts rest b e. absurd (no_ok e)
  below_adds (suc n) a = either_adds test (seq_adds (below_adds n) (hs a)) (ret_adds a)

  turns_adds : (a : A) → AddsNone (turns test step a)
  turns_adds a ts rest b e =
      below_adds (suc (length ts)) a ts rest b (sym (turns_are test step a ts) ∙ e)

preceded_takes : {A : Type 0} {p : Rule A} (mark : Mark) → AddsNone p → TakesOne (after_mark mark p)
preceded_takes mark h = seq_takes (λ at. h) (one_takes (the mark))

terminated_takes : {A : Type 0} (mark : Mark) (a : A) → TakesOne (before_mark mark a)
terminated_takes mark a = seq_takes (λ at. ret_adds a) (one_takes (the mark))

put_takes : {A : Type 0} (item : ℕ → Rule A) → ((n : ℕ) → TakesOne (item n)) → IsStrict (put item)
put_takes item h all = seq_takes (λ a. ret_adds (all ++ a ∷ [])) (h (length all))

each_adds : {A : Type 0} (test : Token → Bool) (item : ℕ → Rule A) (had : List A)
    → ((n : ℕ) → TakesOne (item n)) → AddsNone (each test item had)
each_adds test item had h = turns_adds test (put item) (λ all. adds_none (put_takes item h all)) had

-- ---- expressions

more_takes : {expression : Rule Tree} (mark : Mark) (x : Tree) → TakesOne expression
    → AddsNone (more_of expression mark x)
more_takes {expression} mark x h = seq_adds (λ all. adds_none (terminated_takes mark all)) (each_adds (is m.Comma) (comma_then expression) (x ∷ []) (λ n. preceded_takes m.Comma (adds_none h)))

args_adds : {expression : Rule Tree} → TakesOne expression → AddsNone (args expression)
args_adds h = either_adds (is m.ParenClose) (adds_none (terminated_takes m.ParenClose [])) (seq_adds (λ x. more_takes m.ParenClose x h) (adds_none h))

binary_takes : {tighter : Rule Tree} (level : ℕ) → AddsNone tighter
    → IsStrict (binary level tighter)
binary_takes level h x =
    seq_takes (λ s. seq_adds (λ w. guard_adds _ _ _) h) (one_takes (sign_of level))

rest_adds : {tighter : Rule Tree} (chained : Bool) (level : ℕ) (x : Tree) → AddsNone tighter
    → AddsNone (rest_of_level chained level tighter x)
rest_adds {tighter} true level x h = turns_adds (has (sign_of level)) (binary level tighter) (λ y. adds_none (binary_takes level h y)) x
rest_adds false level x h =
    either_adds (has (sign_of level)) (adds_none (binary_takes level h x)) (ret_adds x)

level_takes : {operand : Rule Tree} (k : ℕ) → TakesOne operand → TakesOne (level_of operand k)
unfolding level_of
level_takes zero h = h
level_takes (suc k) h = seq_takes (λ x. rest_adds (is_chained (suc k)) (suc k) x (adds_none (level_takes k h))) (level_takes k h)

operand_of_takes : {arguments : Rule (List Tree)} {prefixed grouped : Rule Tree}
    → AddsNone arguments → TakesOne prefixed → TakesOne grouped
    → TakesOne (operand_of arguments prefixed grouped)
operand_of_takes ha hp hg =
    let called = λ (n : ℕ × List ℕ). seq_adds (λ xs. guard_adds _ _ _) ha in
    let names = seq_takes (λ n. either_adds (is m.ParenOpen) (called n) (ret_adds _)) (one_takes name_of) in
    let builtins = seq_takes called (one_takes builtin_of) in
    let literals = either_takes (has text_of) (seq_takes (λ n. ret_adds _) (one_takes text_of)) (seq_takes (λ n. ret_adds _) (one_takes int_of)) in
    either_takes (has name_of) names (either_takes (has builtin_of) builtins (either_takes (has prefix_of) hp (either_takes (is m.ParenOpen) hg literals)))

operand_takes : (n : ℕ) → TakesOne (operand n)
unfolding operand
operand_takes zero = operand_of_takes (adds_none (closed_takes Pending (is m.ParenOpen))) (closed_takes Pending (has prefix_of)) (closed_takes Pending (is m.ParenOpen))
operand_takes (suc n) =
    let inner = operand_takes n in
    let whole = level_takes WHOLE inner in
    operand_of_takes (adds_none (preceded_takes m.ParenOpen (args_adds whole))) (seq_takes (λ s. seq_adds (λ x. guard_adds _ _ _) (adds_none inner)) (one_takes prefix_of)) (preceded_takes m.ParenOpen (seq_adds (λ x. adds_none (terminated_takes m.ParenClose x)) (adds_none whole)))

-- one more part after a comma
pub items_strict : (n : ℕ) → IsStrict (put (comma_then (level_of (operand n) WHOLE)))
items_strict n = put_takes (comma_then (level_of (operand n) WHOLE)) (λ i. preceded_takes m.Comma (adds_none (level_takes WHOLE (operand_takes n))))

-- one more operator and its right operand
pub binary_strict : (n level below : ℕ) → IsStrict (binary level (level_of (operand n) below))
binary_strict n level below = binary_takes level (adds_none (level_takes below (operand_takes n)))

expression_takes : TakesOne expression
unfolding expression
expression_takes = level_takes WHOLE (operand_takes MAX_PENDING)

-- ---- statements

value_adds : (f : Tree → StatementTree) → AddsNone (value_of f)
value_adds f = adds_none (preceded_takes m.Assign (seq_adds (λ x. adds_none (terminated_takes m.Semicolon (f x))) (adds_none expression_takes)))

from_adds : AddsNone from_part
from_adds = either_adds (is m.Semicolon) (adds_none (terminated_takes m.Semicolon None)) (adds_none (preceded_takes m.From (seq_adds (λ x. seq_adds (λ xs. ret_adds _) (more_takes m.Semicolon x expression_takes)) (adds_none expression_takes))))

module _ {block : Rule StatementTrees} (h : AddsNone block) where
  else_adds : (at : ℕ) (x : Tree) (first : StatementTrees) → AddsNone (else_part block at x first)
  else_adds at x first = either_adds (is m.Else) (adds_none (preceded_takes m.Else (seq_adds (λ second. ret_adds _) h))) (ret_adds _)

  statement_takes : TakesOne (statement block)
  statement_takes =
      let lets = seq_takes (λ at. seq_adds (λ n. value_adds _) (adds_none (one_takes declared_of))) (one_takes (the m.Let)) in
      let ifs = seq_takes (λ at. seq_adds (λ x. seq_adds (else_adds at x) h) (adds_none expression_takes)) (one_takes (the m.If)) in
      let whiles = seq_takes (λ at. seq_adds (λ x. seq_adds (λ body. ret_adds _) h) (adds_none expression_takes)) (one_takes (the m.While)) in
      let values = λ (at : ℕ) (key : Tree). preceded_takes m.Assign (seq_adds (λ value. seq_adds (λ parts. ret_adds _) from_adds) (adds_none expression_takes)) in
      let puts = seq_takes (λ at. seq_adds (λ key. adds_none (values at key)) (adds_none expression_takes)) (one_takes (the m.Put)) in
      let removes = seq_takes (λ at. seq_adds (λ key. seq_adds (λ parts. ret_adds _) from_adds) (adds_none expression_takes)) (one_takes (the m.Drop)) in
      let short = λ (mark : Mark) (f : ℕ → StatementTree). seq_takes (λ at. adds_none (terminated_takes m.Semicolon (f at))) (one_takes (the mark)) in
      let assigns = seq_takes (λ n. value_adds _) (one_takes name_of) in
      either_takes (is m.Let) lets (either_takes (is m.If) ifs (either_takes (is m.While) whiles (either_takes (is m.Put) puts (either_takes (is m.Drop) removes (either_takes (is m.Fail) (short m.Fail tree.Fail) (either_takes (is m.Return) (short m.Return tree.Return) assigns))))))

block_takes : (n : ℕ) → TakesOne (block n)
unfolding block
block_takes zero = closed_takes Nesting (is m.BraceOpen)
block_takes (suc n) = preceded_takes m.BraceOpen (seq_adds (λ ss. adds_none (terminated_takes m.BraceClose _)) (each_adds (is_not m.BraceClose) (λ i. statement (block n)) [] (λ i. statement_takes (adds_none (block_takes n)))))

-- one more statement
pub statements_strict : (n : ℕ) → IsStrict (put (λ i. statement (block n)))
statements_strict n =
    put_takes (λ i. statement (block n)) (λ i. statement_takes (adds_none (block_takes n)))

-- ---- functions

param_takes : (n : ℕ) → TakesOne (param n)
param_takes n =
    let names = either_by_takes (nat_lt n MAX_PARAMETERS) (one_takes declared_of) (closed_takes Surplus (has declared_of)) in
    seq_takes (λ name. adds_none (preceded_takes m.Colon (seq_adds (λ kind. ret_adds _) (adds_none (one_takes kind_of))))) names

next_param_takes : (n : ℕ) → TakesOne (after_mark m.Comma (param n))
next_param_takes n = preceded_takes m.Comma (adds_none (param_takes n))

-- one more parameter
pub params_strict : IsStrict (put (λ n. after_mark m.Comma (param n)))
params_strict = put_takes (λ n. after_mark m.Comma (param n)) next_param_takes

params_adds : AddsNone params
params_adds =
    let more = λ (p : Param). seq_adds (λ all. adds_none (terminated_takes m.ParenClose all)) (each_adds (is m.Comma) (λ n. after_mark m.Comma (param n)) (p ∷ []) next_param_takes) in
    adds_none (preceded_takes m.ParenOpen (either_adds (is m.ParenClose) (adds_none (terminated_takes m.ParenClose [])) (seq_adds more (adds_none (param_takes 0)))))

function_takes : TakesOne function
unfolding function
function_takes =
    let bodies = λ (name : ℕ × List ℕ) (ps : List Param). seq_adds (λ body. ret_adds _) (adds_none (block_takes MAX_NESTING)) in
    preceded_takes m.Fn (seq_adds (λ name. seq_adds (bodies name) params_adds) (adds_none (one_takes declared_of)))

-- one more function
pub functions_strict : IsStrict (put (λ n. function))
functions_strict = put_takes (λ n. function) (λ n. function_takes)
