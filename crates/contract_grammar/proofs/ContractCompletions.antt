-- What a stopped reader of statements, functions and contracts has taken can be completed within
-- limits; and if an expression is too high, it is what was read last.
use Rattle.std.proofs.Common.{ltb, codes, ◌≡◌, ℕ, zero, suc, ◌+◌, Bool, true, false, List, [], ◌∷◌, Some, None, refl, arith}
use Rattle.std.proofs.lemmas.Bool.{ltb-true}
use Rattle.contract_tokens.specs.declared.token.Token.{Token}
use Rattle.contract_tokens.specs.declared.token.Mark.{Mark}
use Rattle.contract_tokens.specs.declared.token.Mark.TheVariants as m
use Rattle.contract_tokens.specs.declared.token.Word.TheVariants as w
use Rattle.contract_tree.specs.Tree.{Tree, Trees, trees, StatementTree, StatementTrees, no_statement, statement_list, FunctionTree}
use Rattle.contract_tree.specs.Tree as tree
use Rattle.contract_tree.specs.declared.tree.Param.{Param}
use Rattle.contract_tree.specs.declared.tree.ValueKind.TheVariants as k
use Rattle.contract_grammar.specs.declared.Obstacle.{Obstacle}
use Rattle.contract_grammar.specs.declared.Obstacle.TheVariants.{Nesting, Surplus}
use Rattle.contract_grammar.specs.Grammar.{Limits, Within, no_limits, IsExpression, IsStatement, IsFrom, IsBlock, Block, Closes, IsParam, IsParams, IsFunction, IsContract}
use Rattle.contract_grammar.specs.Marks.{the, is, is_not, is_no_end, has, name_of, declared_of, kind_of}
use Rattle.contract_grammar.specs.Reading.{expression, value_of, let_statement, assign_statement, else_part, if_statement, while_statement, from_part, put_statement, remove_statement, short_statement, statement, block, a_param, param, params, a_function, function, contract}
use Rattle.contract_grammar.specs.Rules.{Rule, one, refuse, seq, either_by}
use Rattle.contract_grammar.proofs.Laws.{IsOne, One, Begins}
use Rattle.contract_grammar.proofs.Sequence.{IsSeq}
use Rattle.contract_grammar.proofs.Parts.{IsFair, token, the_token, the_is}
use Rattle.contract_grammar.proofs.Operands.{IsAllowed}
use Rattle.contract_grammar.proofs.Statements.{IsValue, IsLet, IsAssign, IsElse, IsIf, IsWhile, IsPut, IsRemove, IsShort, from_to, statement_to}
use Rattle.contract_grammar.proofs.StatementRules.{declared_is, is_other, expression_rule}
use Rattle.contract_grammar.proofs.ContractRules.{brace_token, brace_is, brace_written, block_to, param_to, params_to, function_to, contract_to}
use Rattle.contract_grammar.proofs.Completions.{ends_in, Taken, Completes, IsFull, completes_as, with_room, full_completes, ret_completes, one_completes, mark_completes, closed_completes, seq_completes, seq_full, one_then_completes, preceded_completes, preceded_full, terminated_full, either_first, either_second, each_full, none, IsSeen, with_high}
use Rattle.contract_grammar.proofs.ExpressionCompletions.{IsAbout, more_full, expression_full}
use Rattle.contract_grammar.proofs.Braceless.{last_passes, taken_braceless}
use Rattle.contract_grammar.proofs.Writable.{one_word, more_words, name_writable, mark_writable}
use Rattle.contract_grammar.specs.declared.limits.TheConstants.{MAX_NESTING, MAX_PARAMETERS, WHOLE}
use Rattle.contract_grammar.proofs.Heights.{IsHigh}
use Rattle.contract_grammar.proofs.ExpressionHeights.{expression_seen}
use Rattle.contract_grammar.specs.Faults.{heights_only}

no_brace : (t : Token) → is_not m.BraceOpen t ≡ true → is m.BraceOpen t ≡ false
no_brace t h = grind arith

-- without limits, none is met
record IsUnlimited (l : Limits) (Free : Type 0) : Type 0 where
  nesting : Free → (n : ℕ) → Within l.nesting n
  parameters : Free → (n : ℕ) → Within l.parameters n

block_some : {l : Limits} (d : ℕ) → Within l.nesting d → Begins (IsBlock l d) []
block_some d may =
    let o = token (w.Mark m.BraceOpen) in
    (o ∷ brace_token ∷ [], no_statement, more_words o (brace_token ∷ []) (mark_writable m.BraceOpen) brace_written, Block d o 0 (brace_token ∷ []) no_statement refl may (Closes d brace_token 0 brace_is))

module _ {l : Limits} {test : Token → Bool} {Free : Type 0} {E : Obstacle → Type 0} {U : Type 0} (about : IsAbout l test) (unlimited : IsUnlimited l Free) (ex : IsFull test Free expression (IsExpression l)) (free : IsFair no_limits E U) (u : U) where
  -- a block may follow an expression whose last token passes
  after_expression : (used : List Token) → Taken expression used → ends_in test used ≡ true
      → (d : ℕ) → Within l.nesting d
  after_expression used taken ends d =
      let k = last_passes test (is_not m.BraceOpen) used (taken_braceless {k = WHOLE} (expression_rule free) u used taken) ends in
      about.after_no_brace k.0 (no_brace k.0 k.1) k.2 d

  after_keyword : (a : Mark) → ((t : Token) → is a t ≡ true → is m.BraceOpen t ≡ false)
      → (t : Token) (at : ℕ) → the a t ≡ Some at → test t ≡ true → (d : ℕ) → Within l.nesting d
  after_keyword a other t at e passes d =
      about.after_no_brace t (other t (the_is a t at e)) passes d

  declared_full : IsFull test Free (one declared_of) (IsOne declared_of)
  declared_full = one_completes declared_of (token (w.Name (codes "x"))) (0, codes "x") declared_is name_writable

  value_full : (f : Tree → StatementTree) → IsFull test Free (value_of f) (IsValue l f)
  value_full f = preceded_full m.Assign (seq_full ex (λ x. terminated_full m.Semicolon (f x)))

  let_full : IsFull test Free let_statement (IsLet l)
  let_full = seq_full (mark_completes m.Let) (λ at. seq_full declared_full (λ n. value_full (tree.Let at n.0 n.1)))

  assign_full : IsFull test Free assign_statement (IsAssign l)
  assign_full = seq_full (one_completes name_of (token (w.Name (codes "x"))) (0, codes "x") refl name_writable) (λ n. value_full (tree.Assign n.0 n.1))

  short_full : (mark : Mark) (f : ℕ → StatementTree)
      → IsFull test Free (short_statement mark f) (IsShort l mark f)
  short_full mark f = seq_full (mark_completes mark) (λ at. terminated_full m.Semicolon (f at))

  from_full : IsFull test Free from_part (IsFrom l)
  from_full =
      let listed = preceded_full m.From (seq_full ex (λ x. seq_full (more_full m.Semicolon ex x) (λ (xs : List Tree). ret_completes (Some (trees xs))))) in
      completes_as (either_first (terminated_full m.Semicolon None) listed (is m.Semicolon)) from_to

  put_full : IsFull test Free put_statement (IsPut l)
  put_full = seq_full (mark_completes m.Put) (λ at. seq_full ex (λ key. preceded_full m.Assign (seq_full ex (λ value. seq_full from_full (λ parts. ret_completes (tree.Put at key value parts))))))

  remove_full : IsFull test Free remove_statement (IsRemove l)
  remove_full = seq_full (mark_completes m.Drop) (λ at. seq_full ex (λ key. seq_full from_full (λ parts. ret_completes (tree.Remove at key parts))))

  module _ (d : ℕ) {inner : Rule StatementTrees} (hb : Completes test Free (Within l.nesting (suc d)) inner (IsBlock l (suc d))) where
    else_full : (at : ℕ) (x : Tree) (first : StatementTrees)
        → IsFull test Free (else_part inner at x first) (IsElse l d at x first)
    else_full at x first =
        let second = seq_full hb (λ second. ret_completes (tree.IfElse at x first second)) in
        either_second (preceded_completes m.Else second (λ t p e passes. after_keyword m.Else (is_other m.BraceOpen m.Else refl) t p e passes (suc d)) (λ none. unlimited.nesting none (suc d))) (ret_completes (tree.If at x first)) (is m.Else)

    -- an expression, then what begins with a block
    with_block : {P : Tree → List Token → StatementTree → Type 0} {after : Tree → Rule StatementTree} → ((x : Tree) → Completes test Free (Within l.nesting (suc d)) (after x) (P x)) → Completes test Free (Within l.nesting (suc d)) (seq expression after) (IsSeq (IsExpression l) P)
    with_block h = seq_completes (full_completes ex) h (λ used taken ends. after_expression used taken ends (suc d)) (λ may. may) (λ none. unlimited.nesting none (suc d))

    keyword_then : (mark : Mark) → ((t : Token) → is mark t ≡ true → is m.BraceOpen t ≡ false) → {P : ℕ → List Token → StatementTree → Type 0} {after : ℕ → Rule StatementTree} → ((at : ℕ) → Completes test Free (Within l.nesting (suc d)) (after at) (P at)) → Completes test Free (Within l.nesting (suc d)) (seq (one (the mark)) after) (IsSeq (IsOne (the mark)) P)
    keyword_then mark other h = one_then_completes (the mark) (token (w.Mark mark)) 0 (the_token mark) (mark_writable mark) h (λ t at e passes. after_keyword mark other t at e passes (suc d)) (λ none. unlimited.nesting none (suc d))

    if_completes : Completes test Free (Within l.nesting (suc d)) (if_statement inner) (IsIf l d)
    if_completes = keyword_then m.If (is_other m.BraceOpen m.If refl) (λ at. with_block (λ x. seq_full hb (else_full at x)))

    while_completes : Completes test Free (Within l.nesting (suc d)) (while_statement inner) (IsWhile l d)
    while_completes = keyword_then m.While (is_other m.BraceOpen m.While refl) (λ at. with_block (λ x. seq_full hb (λ body. ret_completes (tree.While at x body))))

    statement_full : IsFull test Free (statement inner) (IsStatement l d)
    statement_full =
        let returns = either_first (short_full m.Return tree.Return) assign_full (is m.Return) in
        let fails = either_first (short_full m.Fail tree.Fail) returns (is m.Fail) in
        let removes = either_first remove_full fails (is m.Drop) in
        let puts = either_first put_full removes (is m.Put) in
        let whiles = either_second while_completes puts (is m.While) in
        let ifs = either_second if_completes whiles (is m.If) in
        completes_as (either_first let_full ifs (is m.Let)) (statement_to d)

  block_completes : (n d : ℕ) → n + d ≡ suc MAX_NESTING
      → Completes test Free (Within l.nesting d) (block n) (IsBlock l d)
  unfolding block
  block_completes zero d e = closed_completes Nesting (is m.BraceOpen) refl (block_some d)
  block_completes (suc n) d e =
      let may : Within l.nesting d = about.nesting_kept d (omega (arith, e)) in
      let items = each_full (is_not m.BraceClose) (λ i. statement_full d (block_completes n (suc d) (omega (arith, e)))) [] in
      full_completes (completes_as (preceded_full m.BraceOpen (seq_full items (λ all. terminated_full m.BraceClose (statement_list all)))) (λ f ss i. block_to d f ss (may, i)))

  -- ---- parameters, functions, contracts

  name_completes : (n : ℕ) (b : Bool) → ltb n MAX_PARAMETERS ≡ b → Completes test Free (Within l.parameters (suc n)) (either_by b (one declared_of) (refuse Surplus (has declared_of))) (IsAllowed (Within l.parameters (suc n)) (IsOne declared_of))
  name_completes n true e = let may = about.parameters_kept (suc n) (ltb-true n MAX_PARAMETERS e) in full_completes (completes_as declared_full (λ f x i. (may, i)))
  name_completes n false e =
      let t = token (w.Name (codes "x")) in
      closed_completes Surplus (has declared_of) refl (λ may. (t ∷ [], (0, codes "x"), one_word t name_writable, (may, One t (0, codes "x") declared_is)))

  param_completes : (n : ℕ)
      → Completes test Free (Within l.parameters (suc n)) (param n) (IsParam l n)
  param_completes n =
      let kinds = one_completes kind_of (token (w.Mark m.Int)) k.Int refl (mark_writable m.Int) in
      completes_as (seq_full (name_completes n (ltb n MAX_PARAMETERS) refl) (λ name. preceded_full m.Colon (seq_full kinds (λ kind. ret_completes (a_param name kind))))) (param_to n)

  params_full : IsFull test Free params (IsParams l)
  params_full =
      let item = λ (n : ℕ). preceded_completes m.Comma (param_completes n) (λ t at e passes. about.after_comma t (the_is m.Comma t at e) passes (suc n)) (λ none. unlimited.parameters none (suc n)) in
      let more = λ (x : Param). seq_full (each_full (is m.Comma) item (x ∷ [])) (λ all. terminated_full m.ParenClose all) in
      completes_as (preceded_full m.ParenOpen (either_first (terminated_full m.ParenClose []) (seq_full (param_completes 0) more) (is m.ParenClose))) params_to

  function_full : IsFull test Free function (IsFunction l)
  unfolding function
  function_full =
      let may : Within l.nesting 1 = about.nesting_kept 1 (omega arith) in
      let body = with_room (block_completes MAX_NESTING 1 refl) (λ (room : Unit {0}). block_some 1 may) in
      completes_as (preceded_full m.Fn (seq_full declared_full (λ name. seq_full params_full (λ ps. seq_full body (λ body. ret_completes (a_function name ps body)))))) function_to

  whole_contract : IsFull test Free contract (IsContract l)
  unfolding contract
  whole_contract = completes_as (seq_full function_full (λ f. each_full is_no_end (λ n. function_full) (f ∷ []))) contract_to

pub contract_full : {l : Limits} {test : Token → Bool} {E : Obstacle → Type 0} {U : Type 0}
    → IsAbout l test → IsFair no_limits E U → U → IsFull test ⊥ contract (IsContract l)
contract_full about free u = whole_contract about (record { nesting = λ none n. absurd none; parameters = λ none n. absurd none }) (expression_full about) free u

about_none : IsAbout no_limits none
about_none = record {
  pending_kept = λ n h. tt;
  nesting_kept = λ n h. tt;
  parameters_kept = λ n h. tt;
  height_free = λ n. tt;
  after_builtin = λ t h i n. tt;
  after_no_brace = λ t h i n. tt;
  after_comma = λ t h i n. tt;
}

-- if an expression is too high, it is the last tokens that were taken
pub contract_high : {E F : Obstacle → Type 0} {U V : Type 0} → IsFair no_limits E U → U
    → IsFair heights_only F V → IsHigh contract (IsContract no_limits)
unfolding expression
contract_high free u tall =
    let ex : IsSeen expression (IsExpression no_limits) = with_high (expression_full about_none) (λ room. (expression_seen free u tall).high tt) in
    let all : IsSeen contract (IsContract no_limits) = whole_contract about_none (record { nesting = λ room n. tt; parameters = λ room n. tt }) ex free u in
    all.high tt
