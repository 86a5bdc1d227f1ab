-- The laws of readers of statements and blocks.
use Rattle.std.proofs.Common.{◌≡◌, ◌||◌, ℕ, suc, Bool, true, false, List, Option, Some, None, ◌⊎◌, inl, inr, refl, ap, ◌∙◌, arith, codes}
use denote.Enum.Bare.{same_true}
use Rattle.contract_tokens.specs.contracts.token.Mark.{the_type}
use Rattle.contract_tokens.specs.declared.token.Token.{Token}
use Rattle.contract_tokens.specs.declared.token.Word.{Word}
use Rattle.contract_tokens.specs.declared.token.Mark.{Mark}
use Rattle.contract_tokens.specs.declared.token.Mark.TheVariants as m
use Rattle.contract_tokens.specs.declared.token.Word.TheVariants as w
use Rattle.contract_tree.specs.Tree.{Tree, Trees, trees, height, StatementTree, StatementTrees, no_statement, statements, statement_list}
use Rattle.contract_tree.specs.Tree as tree
use Rattle.contract_grammar.specs.declared.Obstacle.{Obstacle}
use Rattle.contract_grammar.specs.Grammar.{Limits, IsExpression, IsStatement, IsFrom, NoFrom, FromThese, IsBlock, Block}
use Rattle.contract_grammar.specs.Marks.{is_same, is_word, with_offset, unless_builtin, the, is, is_not, has, any, is_end, stops, name_of, declared_of}
use Rattle.contract_tree.specs.Builtins.{is_builtin, builtin_of}
use Rattle.contract_grammar.specs.Reading.{expression, value_of, let_statement, assign_statement, else_part, if_statement, while_statement, from_part, put_statement, remove_statement, short_statement, statement}
use Rattle.contract_grammar.specs.Rules.{Rule}
use Rattle.contract_grammar.proofs.Laws.{IsRule, IsRet, IsOne, ret_rule, one_rule}
use Rattle.contract_grammar.proofs.MarkFacts.{name_no_end, comma_stops}
use Rattle.contract_grammar.proofs.Sequence.{IsSeq, seq_rule}
use Rattle.contract_grammar.proofs.Choice.{Starts, Differs, head_not, seq_starts, ret_differs, renamed, IsEither, either_rule}
use Rattle.contract_grammar.proofs.Parts.{IsFair, token, the_is, has_one, is_one, leads_any, leads_start, differs_start, differs_either, mark_rule, preceded_rule, terminated_rule, more_rule, IsMoreOfThem}
use Rattle.contract_grammar.proofs.Levels.{level_rule}
use Rattle.contract_grammar.proofs.Operands.{more_stops}
use Rattle.contract_grammar.proofs.Expressions.{operand_rule}
use Rattle.contract_grammar.proofs.Statements.{IsValue, IsLet, IsAssign, IsElse, IsIf, IsWhile, IsFromParts, IsPut, IsRemove, IsShort, from_to, from_from, statement_to, statement_from}
use Rattle.contract_grammar.specs.declared.limits.TheConstants.{MAX_PENDING, WHOLE}
use Rattle.contract_grammar.proofs.Writable.{name_writable}

other_word : (a b : Mark) (word : Word) → is_same b a ≡ false → is_word b word ≡ true
    → is_word a word ≡ false
other_word a b (w.Mark mark) e h = ap (λ v. is_same v a) (same_true the_type tt mark b h) ∙ e
other_word a b (w.Int value) e h = refl
other_word a b (w.Text text) e h = refl
other_word a b (w.Name name) e h = refl
other_word a b w.End e h = refl

-- a keyword or sign is no other one
pub is_other : (a b : Mark) → is_same b a ≡ false → (t : Token) → is b t ≡ true → is a t ≡ false
is_other a b e t h = other_word a b t.word e h

pub name_no_mark : (a : Mark) (t : Token) → has name_of t ≡ true → is a t ≡ false
name_no_mark a t h = grind arith

mark_stops : (t : Token) → (is m.Semicolon t ≡ true) ⊎ (is m.BraceOpen t ≡ true) ⊎ (is m.Assign t ≡ true) ⊎ (is m.From t ≡ true) → stops WHOLE t ≡ true
mark_stops t h = grind arith

pub declared_no_end : (t : Token) (n : ℕ × List ℕ) → declared_of t ≡ Some n → is_end t ≡ false
declared_no_end t n e = grind arith

x_is_free : is_builtin (codes "x") ≡ false
unfolding builtin_of
x_is_free = refl

pub declared_is : declared_of (token (w.Name (codes "x"))) ≡ Some (0, codes "x")
declared_is = ap (λ b. with_offset 0 (unless_builtin b (codes "x"))) x_is_free

else_no_stop : (t : Token) → is_not m.Else t ≡ true → is m.Else t ≡ false
else_no_stop t h = grind arith

pub block_begins : {l : Limits} (d : ℕ) → Starts (is m.BraceOpen) (IsBlock l d)
block_begins d f ss (Block _ o at z _ e may i) = the_is m.BraceOpen o at e

semicolon_stops : (t : Token) → is m.Semicolon t ≡ true → stops WHOLE t ≡ true
semicolon_stops t h = mark_stops t (inl h)

brace_stops : (t : Token) → is m.BraceOpen t ≡ true → stops WHOLE t ≡ true
brace_stops t h = mark_stops t (inr (inl h))

assign_stops : (t : Token) → is m.Assign t ≡ true → stops WHOLE t ≡ true
assign_stops t h = mark_stops t (inr (inr (inl h)))

semicolon_or_from : Token → Bool
semicolon_or_from t = is m.Semicolon t || is m.From t

from_stops : (t : Token) → semicolon_or_from t ≡ true → stops WHOLE t ≡ true
unfolding semicolon_or_from
from_stops t h = grind arith

semicolon_is_either : (t : Token) → is m.Semicolon t ≡ true → semicolon_or_from t ≡ true
unfolding semicolon_or_from
semicolon_is_either t h = grind arith

from_is_either : (t : Token) → is m.From t ≡ true → semicolon_or_from t ≡ true
unfolding semicolon_or_from
from_is_either t h = grind arith

from_begins : {l : Limits} → Starts semicolon_or_from (IsFrom l)
from_begins f parts (NoFrom c end h) = semicolon_is_either c (the_is m.Semicolon c end h)
from_begins f parts (FromThese t p y x z xs e i j) = from_is_either t (the_is m.From t p e)

module _ {l : Limits} {E : Obstacle → Type 0} {U : Type 0} (fair : IsFair l E U) where
  pub expression_rule : IsRule E U expression (IsExpression l) (stops WHOLE)
  unfolding expression
  expression_rule = level_rule fair 0 (operand_rule fair MAX_PENDING 0 refl) WHOLE (omega arith)

  value_rule : {S : Token → Bool} (f : Tree → StatementTree)
      → IsRule E U (value_of f) (IsValue l f) S
  value_rule {S = S} f = preceded_rule m.Assign (seq_rule expression_rule (λ x. terminated_rule m.Semicolon (f x)) (leads_start (stops WHOLE) (is m.Semicolon) S (λ (x : Tree). IsSeq (IsOne (the m.Semicolon)) (λ end. IsRet (f x))) (λ x. seq_starts (is m.Semicolon) (is_one m.Semicolon)) semicolon_stops))

  let_rule : {S : Token → Bool} → IsRule E U let_statement (IsLet l) S
  let_rule {S = S} =
      let name = λ (at : ℕ). seq_rule (one_rule {S = any} declared_of (token (w.Name (codes "x"))) (0, codes "x") declared_is name_writable declared_no_end) (λ n. value_rule {S = S} (tree.Let at n.0 n.1)) (leads_any (λ n. IsValue l (tree.Let at n.0 n.1)) S) in
      seq_rule (mark_rule {S = any} m.Let) name (leads_any (λ at. IsSeq (IsOne declared_of) (λ n. IsValue l (tree.Let at n.0 n.1))) S)

  assign_rule : {S : Token → Bool} → IsRule E U assign_statement (IsAssign l) S
  assign_rule {S = S} = seq_rule (one_rule {S = any} name_of (token (w.Name (codes "x"))) (0, codes "x") refl name_writable name_no_end) (λ n. value_rule {S = S} (tree.Assign n.0 n.1)) (leads_any (λ n. IsValue l (tree.Assign n.0 n.1)) S)

  short_rule : {S : Token → Bool} (mark : Mark) (f : ℕ → StatementTree)
      → IsRule E U (short_statement mark f) (IsShort l mark f) S
  short_rule {S = S} mark f = seq_rule (mark_rule {S = any} mark) (λ at. terminated_rule m.Semicolon (f at)) (leads_any (λ at. IsSeq (IsOne (the m.Semicolon)) (λ end. IsRet (f at))) S)

  from_rule : {S : Token → Bool} → IsRule E U from_part (IsFrom l) S
  from_rule {S = S} =
      let more = λ (x : Tree). seq_rule (more_rule fair {T = any} m.Semicolon expression_rule comma_stops semicolon_stops (is_other m.Comma m.Semicolon refl) x) (λ xs. ret_rule (Some (trees xs))) (leads_any (λ (xs : List Tree). IsRet (Some (trees xs))) S) in
      let starts = λ (x : Tree). seq_starts {Q = λ (xs : List Tree). IsRet (Some (trees xs))} (stops WHOLE) (more_stops {P = IsExpression l} (stops WHOLE) m.Semicolon comma_stops semicolon_stops x) in
      let listed = seq_rule expression_rule more (leads_start (stops WHOLE) (stops WHOLE) S (λ x. IsSeq (IsMoreOfThem (IsExpression l) m.Semicolon x) (λ xs. IsRet (Some (trees xs)))) starts (λ t e. e)) in
      let parts = preceded_rule m.From listed in
      let chosen = either_rule (is m.Semicolon) (terminated_rule m.Semicolon None) parts (seq_starts (is m.Semicolon) (is_one m.Semicolon)) (differs_start (is m.Semicolon) (is m.From) S (IsFromParts l) (seq_starts (is m.From) (is_one m.From)) (is_other m.Semicolon m.From refl)) in
      renamed chosen from_to from_from

  put_rule : {S : Token → Bool} → IsRule E U put_statement (IsPut l) S
  put_rule {S = S} =
      let ended = λ (at : ℕ) (key value : Tree). seq_rule (from_rule {S = any}) (λ parts. ret_rule (tree.Put at key value parts)) (leads_any (λ (parts : Option Trees). IsRet (tree.Put at key value parts)) S) in
      let values = λ (at : ℕ) (key : Tree). seq_rule expression_rule (ended at key) (leads_start (stops WHOLE) semicolon_or_from S (λ value. IsSeq (IsFrom l) (λ parts. IsRet (tree.Put at key value parts))) (λ value. seq_starts semicolon_or_from from_begins) from_stops) in
      let keys = λ (at : ℕ). seq_rule expression_rule (λ key. preceded_rule m.Assign (values at key)) (leads_start (stops WHOLE) (is m.Assign) S (λ key. IsSeq (IsOne (the m.Assign)) (λ p. IsSeq (IsExpression l) (λ value. IsSeq (IsFrom l) (λ parts. IsRet (tree.Put at key value parts))))) (λ key. seq_starts (is m.Assign) (is_one m.Assign)) assign_stops) in
      seq_rule (mark_rule {S = any} m.Put) keys (leads_any (λ at. IsSeq (IsExpression l) (λ key. IsSeq (IsOne (the m.Assign)) (λ p. IsSeq (IsExpression l) (λ value. IsSeq (IsFrom l) (λ parts. IsRet (tree.Put at key value parts)))))) S)

  remove_rule : {S : Token → Bool} → IsRule E U remove_statement (IsRemove l) S
  remove_rule {S = S} =
      let ended = λ (at : ℕ) (key : Tree). seq_rule (from_rule {S = any}) (λ parts. ret_rule (tree.Remove at key parts)) (leads_any (λ (parts : Option Trees). IsRet (tree.Remove at key parts)) S) in
      let keys = λ (at : ℕ). seq_rule expression_rule (ended at) (leads_start (stops WHOLE) semicolon_or_from S (λ key. IsSeq (IsFrom l) (λ parts. IsRet (tree.Remove at key parts))) (λ key. seq_starts semicolon_or_from from_begins) from_stops) in
      seq_rule (mark_rule {S = any} m.Drop) keys (leads_any (λ at. IsSeq (IsExpression l) (λ key. IsSeq (IsFrom l) (λ parts. IsRet (tree.Remove at key parts)))) S)

  module _ (d : ℕ) {inner : Rule StatementTrees} (hb : IsRule E U inner (IsBlock l (suc d)) any) where
    else_rule : (at : ℕ) (x : Tree) (first : StatementTrees)
        → IsRule E U (else_part inner at x first) (IsElse l d at x first) (is_not m.Else)
    else_rule at x first =
        let second = seq_rule hb (λ second. ret_rule (tree.IfElse at x first second)) (leads_any (λ second. IsRet (tree.IfElse at x first second)) (is_not m.Else)) in
        either_rule (is m.Else) (preceded_rule m.Else second) (ret_rule (tree.If at x first)) (seq_starts (is m.Else) (is_one m.Else)) (ret_differs (is m.Else) (tree.If at x first) (head_not (is_not m.Else) (is m.Else) else_no_stop))

    if_rule : IsRule E U (if_statement inner) (IsIf l d) (is_not m.Else)
    if_rule =
        let blocks = λ (at : ℕ) (x : Tree). seq_rule hb (else_rule at x) (leads_any (IsElse l d at x) (is_not m.Else)) in
        let tests = λ (at : ℕ). seq_rule expression_rule (blocks at) (leads_start (stops WHOLE) (is m.BraceOpen) (is_not m.Else) (λ x. IsSeq (IsBlock l (suc d)) (IsElse l d at x)) (λ x. seq_starts (is m.BraceOpen) (block_begins (suc d))) brace_stops) in
        seq_rule (mark_rule {S = any} m.If) tests (leads_any (λ at. IsSeq (IsExpression l) (λ x. IsSeq (IsBlock l (suc d)) (IsElse l d at x))) (is_not m.Else))

    while_rule : IsRule E U (while_statement inner) (IsWhile l d) (is_not m.Else)
    while_rule =
        let blocks = λ (at : ℕ) (x : Tree). seq_rule hb (λ body. ret_rule (tree.While at x body)) (leads_any (λ (body : StatementTrees). IsRet (tree.While at x body)) (is_not m.Else)) in
        let tests = λ (at : ℕ). seq_rule expression_rule (blocks at) (leads_start (stops WHOLE) (is m.BraceOpen) (is_not m.Else) (λ x. IsSeq (IsBlock l (suc d)) (λ body. IsRet (tree.While at x body))) (λ x. seq_starts (is m.BraceOpen) (block_begins (suc d))) brace_stops) in
        seq_rule (mark_rule {S = any} m.While) tests (leads_any (λ at. IsSeq (IsExpression l) (λ x. IsSeq (IsBlock l (suc d)) (λ body. IsRet (tree.While at x body)))) (is_not m.Else))

    mark_differs : {P : List Token → StatementTree → Type 0} (a b : Mark) → is_same b a ≡ false
        → Starts (is b) P → Differs (is a) P (is_not m.Else)
    mark_differs {P =
        P} a b e starts = differs_start (is a) (is b) (is_not m.Else) P starts (is_other a b e)

    let_begins : Starts (is m.Let) (IsLet l)
    let_begins = seq_starts (is m.Let) (is_one m.Let)

    if_begins : Starts (is m.If) (IsIf l d)
    if_begins = seq_starts (is m.If) (is_one m.If)

    while_begins : Starts (is m.While) (IsWhile l d)
    while_begins = seq_starts (is m.While) (is_one m.While)

    put_begins : Starts (is m.Put) (IsPut l)
    put_begins = seq_starts (is m.Put) (is_one m.Put)

    remove_begins : Starts (is m.Drop) (IsRemove l)
    remove_begins = seq_starts (is m.Drop) (is_one m.Drop)

    short_begins : (mark : Mark) (f : ℕ → StatementTree) → Starts (is mark) (IsShort l mark f)
    short_begins mark f = seq_starts (is mark) (is_one mark)

    assign_differs : (a : Mark) → Differs (is a) (IsAssign l) (is_not m.Else)
    assign_differs a = differs_start (is a) (has name_of) (is_not m.Else) (IsAssign l) (seq_starts (has name_of) (has_one name_of)) (name_no_mark a)

    from_return : (a : Mark) → is_same m.Return a ≡ false
        → Differs (is a) (IsEither (IsShort l m.Return tree.Return) (IsAssign l)) (is_not m.Else)
    from_return a r = differs_either (is a) (is_not m.Else) (IsShort l m.Return tree.Return) (IsAssign l) (mark_differs a m.Return r (short_begins m.Return tree.Return)) (assign_differs a)

    from_fail : (a : Mark) → is_same m.Fail a ≡ false → is_same m.Return a ≡ false → Differs (is a) (IsEither (IsShort l m.Fail tree.Fail) (IsEither (IsShort l m.Return tree.Return) (IsAssign l))) (is_not m.Else)
    from_fail a f r = differs_either (is a) (is_not m.Else) (IsShort l m.Fail tree.Fail) (IsEither (IsShort l m.Return tree.Return) (IsAssign l)) (mark_differs a m.Fail f (short_begins m.Fail tree.Fail)) (from_return a r)

    from_remove : (a : Mark) → is_same m.Drop a ≡ false → is_same m.Fail a ≡ false → is_same m.Return a ≡ false → Differs (is a) (IsEither (IsRemove l) (IsEither (IsShort l m.Fail tree.Fail) (IsEither (IsShort l m.Return tree.Return) (IsAssign l)))) (is_not m.Else)
    from_remove a o f r = differs_either (is a) (is_not m.Else) (IsRemove l) (IsEither (IsShort l m.Fail tree.Fail) (IsEither (IsShort l m.Return tree.Return) (IsAssign l))) (mark_differs a m.Drop o remove_begins) (from_fail a f r)

    from_put : (a : Mark) → is_same m.Put a ≡ false → is_same m.Drop a ≡ false → is_same m.Fail a ≡ false → is_same m.Return a ≡ false → Differs (is a) (IsEither (IsPut l) (IsEither (IsRemove l) (IsEither (IsShort l m.Fail tree.Fail) (IsEither (IsShort l m.Return tree.Return) (IsAssign l))))) (is_not m.Else)
    from_put a p o f r = differs_either (is a) (is_not m.Else) (IsPut l) (IsEither (IsRemove l) (IsEither (IsShort l m.Fail tree.Fail) (IsEither (IsShort l m.Return tree.Return) (IsAssign l)))) (mark_differs a m.Put p put_begins) (from_remove a o f r)

    from_while : (a : Mark) → is_same m.While a ≡ false → is_same m.Put a ≡ false → is_same m.Drop a ≡ false → is_same m.Fail a ≡ false → is_same m.Return a ≡ false → Differs (is a) (IsEither (IsWhile l d) (IsEither (IsPut l) (IsEither (IsRemove l) (IsEither (IsShort l m.Fail tree.Fail) (IsEither (IsShort l m.Return tree.Return) (IsAssign l)))))) (is_not m.Else)
    from_while a w p o f r = differs_either (is a) (is_not m.Else) (IsWhile l d) (IsEither (IsPut l) (IsEither (IsRemove l) (IsEither (IsShort l m.Fail tree.Fail) (IsEither (IsShort l m.Return tree.Return) (IsAssign l))))) (mark_differs a m.While w while_begins) (from_put a p o f r)

    from_if : Differs (is m.Let) (IsEither (IsIf l d) (IsEither (IsWhile l d) (IsEither (IsPut l) (IsEither (IsRemove l) (IsEither (IsShort l m.Fail tree.Fail) (IsEither (IsShort l m.Return tree.Return) (IsAssign l))))))) (is_not m.Else)
    from_if = differs_either (is m.Let) (is_not m.Else) (IsIf l d) (IsEither (IsWhile l d) (IsEither (IsPut l) (IsEither (IsRemove l) (IsEither (IsShort l m.Fail tree.Fail) (IsEither (IsShort l m.Return tree.Return) (IsAssign l)))))) (mark_differs m.Let m.If refl if_begins) (from_while m.Let refl refl refl refl refl)

    pub statement_rule : IsRule E U (statement inner) (IsStatement l d) (is_not m.Else)
    statement_rule =
        let returns = either_rule (is m.Return) (short_rule m.Return tree.Return) assign_rule (short_begins m.Return tree.Return) (assign_differs m.Return) in
        let fails = either_rule (is m.Fail) (short_rule m.Fail tree.Fail) returns (short_begins m.Fail tree.Fail) (from_return m.Fail refl) in
        let removes = either_rule (is m.Drop) remove_rule fails remove_begins (from_fail m.Drop refl refl) in
        let puts = either_rule (is m.Put) put_rule removes put_begins (from_remove m.Put refl refl refl) in
        let whiles = either_rule (is m.While) while_rule puts while_begins (from_put m.While refl refl refl refl) in
        let ifs = either_rule (is m.If) if_rule whiles if_begins (from_while m.If refl refl refl refl refl) in
        let lets = either_rule (is m.Let) let_rule ifs let_begins from_if in
        renamed lets (statement_to d) (statement_from d)
