-- The tree of a statement with two blocks.
use Rattle.std.proofs.Common.{◌≡◌, ℕ, List, map, Option, Some, None, sym, ap, ◌∙◌}
use Rattle.std.specs.Global.{Vec}
use Rattle.contract_tree.specs.declared.tree.Expr.{Expr}
use Rattle.contract_tree.specs.declared.tree.Statement.{Statement, roll-Statement, fold-roll-Statement}
use Rattle.contract_tree.specs.declared.tree.Form.{Form, fold-roll-Form, fold-Form}
use Rattle.contract_tree.specs.declared.tree.Form.TheOpen as o
use Rattle.contract_tree.specs.declared.tree.Form.TheVariants.{If, rolls-If, While, rolls-While, Put, rolls-Put, Fail, rolls-Fail, Return, rolls-Return, Let, rolls-Let, Assign, rolls-Assign}
use Rattle.contract_tree.specs.Tree.{tree_of, statement_of, statement_list, form_tree, StatementTree, IfElse, parts_of}
use Rattle.contract_tree.specs.Tree as tree

pub if_else_is : (at : ℕ) (test : Expr) (first second : Vec Statement) → statement_of (roll-Statement (record { at = at; form = If test first (Some second) })) ≡ IfElse at (tree_of test) (statement_list (map statement_of first.items)) (statement_list (map statement_of second.items))
if_else_is at test first second =
    let whole = fold-roll-Statement (ℕ → StatementTree) StatementTree form_tree (λ x. x.form x.at) (record { at = at; form = If test first (Some second) }) in
    let form = rolls-If test first (Some second) in
    let inner = fold-roll-Form (ℕ → StatementTree) StatementTree form_tree (λ x. x.form x.at) (o.If test first (Some second)) in
    whole ∙ ap (λ f. fold-Form (ℕ → StatementTree) StatementTree form_tree (λ x. x.form x.at) f at) (sym form) ∙ ap (λ g. g at) inner

-- ---- the tree of a statement by the variant of its form

form_at : Form → ℕ → StatementTree
form_at f at = fold-Form (ℕ → StatementTree) StatementTree form_tree (λ x. x.form x.at) f at

at_form : (x : Statement) → statement_of x ≡ form_at x.form x.at
unfolding form_at
at_form x = fold-roll-Statement (ℕ → StatementTree) StatementTree form_tree (λ x. x.form x.at) (record { at = x.at; form = x.form })

pub fail_is : (x : Statement) → x.form ≡ Fail → statement_of x ≡ tree.Fail x.at
unfolding form_at
fail_is x e = at_form x ∙ ap (λ f. form_at f x.at) (e ∙ sym rolls-Fail) ∙ ap (λ g. g x.at) (fold-roll-Form (ℕ → StatementTree) StatementTree form_tree (λ x. x.form x.at) o.Fail)

pub return_is : (x : Statement) → x.form ≡ Return → statement_of x ≡ tree.Return x.at
unfolding form_at
return_is x e = at_form x ∙ ap (λ f. form_at f x.at) (e ∙ sym rolls-Return) ∙ ap (λ g. g x.at) (fold-roll-Form (ℕ → StatementTree) StatementTree form_tree (λ x. x.form x.at) o.Return)

pub let_is : (x : Statement) (name_at : ℕ) (name : List ℕ) (value : Expr) → x.form ≡ Let name_at name value → statement_of x ≡ tree.Let x.at name_at name (tree_of value)
unfolding form_at
let_is x name_at name value e = at_form x ∙ ap (λ f. form_at f x.at) (e ∙ sym (rolls-Let name_at name value)) ∙ ap (λ g. g x.at) (fold-roll-Form (ℕ → StatementTree) StatementTree form_tree (λ x. x.form x.at) (o.Let name_at name value))

pub assign_is : (x : Statement) (name : List ℕ) (value : Expr) → x.form ≡ Assign name value → statement_of x ≡ tree.Assign x.at name (tree_of value)
unfolding form_at
assign_is x name value e = at_form x ∙ ap (λ f. form_at f x.at) (e ∙ sym (rolls-Assign name value)) ∙ ap (λ g. g x.at) (fold-roll-Form (ℕ → StatementTree) StatementTree form_tree (λ x. x.form x.at) (o.Assign name value))

pub put_is : (x : Statement) (key value : Expr) (parts : Option (Vec Expr)) → x.form ≡ Put key value parts → statement_of x ≡ tree.Put x.at (tree_of key) (tree_of value) (parts_of parts)
unfolding form_at
put_is x key value parts e = at_form x ∙ ap (λ f. form_at f x.at) (e ∙ sym (rolls-Put key value parts)) ∙ ap (λ g. g x.at) (fold-roll-Form (ℕ → StatementTree) StatementTree form_tree (λ x. x.form x.at) (o.Put key value parts))

pub while_is : (x : Statement) (test : Expr) (body : Vec Statement) → x.form ≡ While test body → statement_of x ≡ tree.While x.at (tree_of test) (statement_list (map statement_of body.items))
unfolding form_at
while_is x test body e = at_form x ∙ ap (λ f. form_at f x.at) (e ∙ sym (rolls-While test body)) ∙ ap (λ g. g x.at) (fold-roll-Form (ℕ → StatementTree) StatementTree form_tree (λ x. x.form x.at) (o.While test body))

pub if_is : (x : Statement) (test : Expr) (first : Vec Statement) → x.form ≡ If test first None → statement_of x ≡ tree.If x.at (tree_of test) (statement_list (map statement_of first.items))
unfolding form_at
if_is x test first e = at_form x ∙ ap (λ f. form_at f x.at) (e ∙ sym (rolls-If test first None)) ∙ ap (λ g. g x.at) (fold-roll-Form (ℕ → StatementTree) StatementTree form_tree (λ x. x.form x.at) (o.If test first None))

pub two_blocks_is : (x : Statement) (test : Expr) (first second : Vec Statement) → x.form ≡ If test first (Some second) → statement_of x ≡ tree.IfElse x.at (tree_of test) (statement_list (map statement_of first.items)) (statement_list (map statement_of second.items))
unfolding form_at
two_blocks_is x test first second e = at_form x ∙ ap (λ f. form_at f x.at) (e ∙ sym (rolls-If test first (Some second))) ∙ ap (λ g. g x.at) (fold-roll-Form (ℕ → StatementTree) StatementTree form_tree (λ x. x.form x.at) (o.If test first (Some second)))
