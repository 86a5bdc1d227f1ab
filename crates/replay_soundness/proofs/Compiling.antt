-- The literals of what the compiler makes are values, as the tokens of a source are within limits.
use Rattle.std.proofs.Common.{ℕ, List, [], ◌∷◌, ◌++◌, Option, None, Some, Ok, Err, sym, subst}
use Rattle.std.specs.Prelude.{IfSome}
use Rattle.std.specs.List.{AllByRecursion}
use Rattle.std.proofs.lemmas.List.Elements.{All-nil, All-cons}
use Rattle.contract_tokens.specs.declared.token.Token.{Token}
use Rattle.contract_tree.specs.Tree.{FunctionTree, StatementTree, StatementTrees}
use Rattle.contract_tree.specs.Tree as tree
use Rattle.contract_check.specs.declared.fault.Fault.{Fault}
use Rattle.contract_check.specs.Faults.{check_fault}
use Rattle.contract_grammar.specs.Grammar.{Limits, limits, IsStatement, Lets, Assigns, Ifs, IfElses, Whiles, Puts, Removes, Fails, Returns, IsFrom, NoFrom, FromThese, IsBlock, Block, IsStatements, Closes, Then, IsFunction, IsOneFunction, IsContract, LastFunction, MoreFunctions}
use Rattle.contract_parse.specs.Syntax.{Outcome, IsOutcome}
use Rattle.contract_parse.proofs.Outcomes.{some_outcome}
use Rattle.chain_input.specs.chain_exec.Compiled.{faultless, functions_of, compiled_in}
use Rattle.chain_input.proofs.chain_exec.TheLaws.{one_compiler}
use Rattle.replay_soundness.specs.Literals.{RunsValues, RunValues, PartsHaveValues, AreFunctionsOfValues}
use Rattle.replay_soundness.specs.TypedLaws.{CompilesValues, CompilersGiveValues}
use Rattle.replay_soundness.proofs.Literals.{IsGood, front, back, tokens_good, expr_values, more_values}

module _ (l : Limits) where
  from_values : (tokens : List Token) (parts : Option tree.Trees) → IsFrom l tokens parts
      → AllByRecursion IsGood tokens → PartsHaveValues parts
  from_values _ _ (NoFrom c end e) h = tt
  from_values _ _ (FromThese f p y x z xs e is more) h =
      (expr_values l _ _ y x is (front y z h.1), more_values l _ _ z xs more (back y z h.1))

  mutual
    statement_values : (d : ℕ) (tokens : List Token) (x : StatementTree) → IsStatement l d tokens x
        → AllByRecursion IsGood tokens → RunsValues x
    statement_values _ _ _ (Lets d t at n name a p y x c end e f g is i) h =
        expr_values l _ _ y x is (front y (c ∷ []) h.1.1.1)
    statement_values _ _ _ (Assigns d n name a p y x c end e f is i) h =
        expr_values l _ _ y x is (front y (c ∷ []) h.1.1)
    statement_values _ _ _ (Ifs d t at y x b first e is block) h =
        (expr_values l _ _ y x is (front y b h.1), block_values _ b first block (back y b h.1))
    statement_values _ _ _ (IfElses d t at y x b first e p c second f is block g other) h =
        let after = back y (b ++ e ∷ c) h.1 in
        (expr_values l _ _ y x is (front y (b ++ e ∷ c) h.1), block_values _ b first block (front b (e ∷ c) after), block_values _ c second other (back b (e ∷ c) after).1)
    statement_values _ _ _ (Whiles d t at y x b body e is block) h =
        (expr_values l _ _ y x is (front y b h.1), block_values _ b body block (back y b h.1))
    statement_values _ _ _ (Puts d t at y key a p z value f parts e is g more from) h =
        let after = (back y (a ∷ (z ++ f)) h.1).1 in
        (expr_values l _ _ y key is (front y (a ∷ (z ++ f)) h.1), expr_values l _ _ z value more (front z f after), from_values f parts from (back z f after))
    statement_values _ _ _ (Removes d t at y key f parts e is from) h =
        (expr_values l _ _ y key is (front y f h.1), from_values f parts from (back y f h.1))
    statement_values _ _ _ (Fails d t at c end e f) h = tt
    statement_values _ _ _ (Returns d t at c end e f) h = tt

    block_values : (d : ℕ) (tokens : List Token) (xs : StatementTrees) → IsBlock l d tokens xs
        → AllByRecursion IsGood tokens → RunValues xs
    block_values _ _ _ (Block d o at z ss e w is) h = statements_values _ z ss is h.1

    statements_values : (d : ℕ) (tokens : List Token) (xs : StatementTrees)
        → IsStatements l d tokens xs → AllByRecursion IsGood tokens → RunValues xs
    statements_values _ _ _ (Closes d c end e) h = tt
    statements_values _ _ _ (Then d y s z ss is more) h =
        (statement_values _ y s is (front y z h), statements_values _ z ss more (back y z h))

  function_values : (tokens : List Token) (f : FunctionTree) → IsFunction l tokens f
      → AllByRecursion IsGood tokens → RunValues f.body
  function_values _ _ (IsOneFunction t at n name y params z body e f is block) h =
      block_values _ z body block (back y z h.1.1)

  contract_values : (tokens : List Token) (all : List FunctionTree) → IsContract l tokens all
      → AllByRecursion IsGood tokens → AreFunctionsOfValues all
  contract_values _ _ (LastFunction y f is) h = All-cons (λ (function : FunctionTree). RunValues function.body) f [] (function_values y f is h) (All-nil (λ (function : FunctionTree). RunValues function.body))
  contract_values _ _ (MoreFunctions y f z fs is more) h = All-cons (λ (function : FunctionTree). RunValues function.body) f fs (function_values y f is (front y z h)) (contract_values z fs more (back y z h))

faultless_values : (functions : List FunctionTree) (o : Option Fault)
    → AreFunctionsOfValues functions → IfSome (faultless functions o) AreFunctionsOfValues
faultless_values functions None h = h
faultless_values functions (Some fault) h = tt

outcome_values : (edition : ℕ) (source : List ℕ) (outcome : Outcome)
    → IsOutcome edition source outcome → IfSome (functions_of outcome) AreFunctionsOfValues
outcome_values edition source (Ok functions) is = faultless_values functions (check_fault functions)
    (contract_values limits is.before functions is.is_contract (front is.before (is.end ∷ []) (tokens_good edition 0 source (Ok (is.before ++ is.end ∷ [])) is.tokens)))
outcome_values edition source (Err fault) is = tt

compiles_values : CompilesValues compiled_in
unfolding compiled_in
compiles_values edition source =
    let some = some_outcome edition source in
    outcome_values edition source some.0 some.1

pub compilers_give_values : CompilersGiveValues
compilers_give_values compile is =
    subst CompilesValues (sym (one_compiler.only compile is)) compiles_values
