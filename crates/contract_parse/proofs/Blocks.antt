-- An `if`, part by part, and its tree, given the blocks that were read.
use Rattle.std.proofs.Common.{◌≡◌, ℕ, List, map, Option, Some, None, Ok, Err, sym, ap, ◌∙◌}
use Rattle.std.specs.Global.{Vec}
use Rattle.contract_tree.specs.declared.tree.Expr.{Expr}
use Rattle.contract_tree.specs.declared.tree.Statement.{Statement, roll-Statement, fold-roll-Statement}
use Rattle.contract_tree.specs.declared.tree.Form.{fold-roll-Form, fold-Form}
use Rattle.contract_tree.specs.declared.tree.Form.TheOpen as o
use Rattle.contract_tree.specs.declared.tree.Form.TheVariants.{If, rolls-If}
use Rattle.contract_tree.specs.Tree.{Tree, tree_of, statement_of, statement_list, form_tree, StatementTree, StatementTrees}
use Rattle.contract_tree.proofs.Statements.{if_else_is}
use Rattle.contract_tokens.specs.declared.token.Token.{Token}
use Rattle.contract_tokens.specs.declared.token.Mark.TheVariants as m
use Rattle.contract_grammar.specs.declared.stop.ParseStop.{ParseStop}
use Rattle.contract_grammar.specs.declared.stop.ParseStop.TheVariants.{At, Memory}
use Rattle.contract_grammar.specs.Marks.{the}
use Rattle.contract_grammar.specs.Reading.{expression, else_part, if_statement}
use Rattle.contract_grammar.specs.Reads.{Gives}
use Rattle.contract_grammar.specs.Rules.{Read, Rule, one, next, seq}
use Rattle.contract_parse.specs.Blocks.{if_of}

-- what is left of an `if` after its first block was read
pub if_read : (block : Rule StatementTrees) (ts after_if after_test after_first : List Token) (at : ℕ) (test : Tree) (first : StatementTrees) → one (the m.If) ts ≡ (Ok at, after_if) → expression after_if ≡ (Ok test, after_test) → block after_test ≡ (Ok first, after_first) → if_statement block ts ≡ else_part block at test first after_first
if_read block ts after_if after_test after_first at test first e f g = ap (next (λ at. seq expression (λ x. seq block (else_part block at x)))) e ∙ ap (next (λ x. seq block (else_part block at x))) f ∙ ap (next (else_part block at test)) g

-- the same stop of an equal reader, whatever it would have returned
pub stops_by : {A B C : Type 0} (view : A → C) (other : B → C) (stop : ParseStop) (x y : Read C) (left : List Token) → x ≡ y → Gives other (Err stop) y left → Gives view (Err stop) x left
stops_by view other (At why) x y left e h = e ∙ h
stops_by view other Memory x y left e h = tt

pub if_of_is : (at : ℕ) (test : Expr) (first : Vec Statement) (second : Option (Vec Statement)) → statement_of (roll-Statement (record { at = at; form = If test first second })) ≡ if_of at (tree_of test) (statement_list (map statement_of first.items)) second
if_of_is at test first (Some second) = if_else_is at test first second
if_of_is at test first None =
    let whole = fold-roll-Statement (ℕ → StatementTree) StatementTree form_tree (λ x. x.form x.at) (record { at = at; form = If test first None }) in
    let form = rolls-If test first None in
    let inner = fold-roll-Form (ℕ → StatementTree) StatementTree form_tree (λ x. x.form x.at) (o.If test first None) in
    whole ∙ ap (λ f. fold-Form (ℕ → StatementTree) StatementTree form_tree (λ x. x.form x.at) f at) (sym form) ∙ ap (λ g. g at) inner
