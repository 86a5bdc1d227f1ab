-- An operator of the tree, once its left side has been evaluated.
use Rattle.std.proofs.Common.{◌≡◌, ℕ, List, Result, sym, ap, subst, ◌∙◌}
use Rattle.std.specs.Global.{Box}
use Rattle.lc_base.specs.declared.value.Value.{Value}
use Rattle.contract_tree.specs.declared.tree.Sign.{Sign}
use Rattle.contract_tree.specs.declared.tree.Expr.{Expr, fold-roll-Expr}
use Rattle.contract_tree.specs.declared.tree.ExprNode.{ExprNode, fold-ExprNode, fold-roll-ExprNode}
use Rattle.contract_tree.specs.declared.tree.ExprNode.TheOpen as o
use Rattle.contract_tree.specs.declared.tree.ExprNode.TheVariants.{Binary, rolls-Binary}
use Rattle.contract_tree.specs.Tree.{Tree, tree_of, node_tree}
use Rattle.contract_tree.specs.Tree as tree
use Rattle.contract_semantics.specs.declared.stop.EvalStop.{EvalStop}
use Rattle.contract_semantics.specs.declared.variable.Variable.{Variable}
use Rattle.contract_semantics.specs.Scenes.{Scene}
use Rattle.contract_semantics.specs.Steps.{Machine, Step, Done, and_then}
use Rattle.contract_semantics.specs.Expressions.{value_of, node_value, right_value}
use Rattle.contract_semantics.specs.Answers.{Gives}

node_at : ExprNode → ℕ → Tree
node_at node at = fold-ExprNode (ℕ → Tree) Tree node_tree (λ x. x.node x.at) node at

at_node : (x : Expr) → tree_of x ≡ node_at x.node x.at
unfolding node_at
at_node x = fold-roll-Expr (ℕ → Tree) Tree node_tree (λ x. x.node x.at) (record { at = x.at; node = x.node })

binary_tree : (x : Expr) (sign : Sign) (left right : Box Expr) → x.node ≡ Binary sign left right → tree_of x ≡ tree.Binary x.at sign (tree_of left.value) (tree_of right.value)
unfolding node_at
binary_tree x sign left right e =
    at_node x ∙ ap (λ node. node_at node x.at) (e ∙ sym (rolls-Binary sign left right)) ∙ ap (λ g. g x.at) (fold-roll-ExprNode (ℕ → Tree) Tree node_tree (λ x. x.node x.at) (o.Binary sign left right))

pub binary_gives : (s : Scene) (variables : List Variable) (x : Expr) (sign : Sign) (left right : Box Expr) (p q : Expr) (m n k : Machine) (first : Value) (result : Result Value EvalStop)
    → x.node ≡ Binary sign left right → p ≡ left.value → q ≡ right.value
    → value_of s variables (tree_of p) m ≡ Done first n
    → Gives (λ value. value) (right_value s variables sign first (tree_of q) n) result k
    → Gives (λ value. value) (node_value s variables (tree_of x) m) result k
binary_gives s variables x sign left right p q m n k first result is left_is right_is one two =
    let rest : Value → Machine → Step Value = λ first m. right_value s variables sign first (tree_of right.value) m in
    let begun : node_value s variables (tree_of x) m ≡ and_then (value_of s variables (tree_of left.value) m) rest = ap (λ (t : Tree). node_value s variables t m) (binary_tree x sign left right is) in
    let left_done : value_of s variables (tree_of left.value) m ≡ Done first n = ap (λ (e : Expr). value_of s variables (tree_of e) m) (sym left_is) ∙ one in
    let whole : node_value s variables (tree_of x) m ≡ right_value s variables sign first (tree_of q) n =
    begun ∙ ap (λ (step : Step Value). and_then step rest) left_done ∙ ap (λ (e : Expr). right_value s variables sign first (tree_of e) n) (sym right_is) in
    subst (λ (step : Step Value). Gives (λ value. value) step result k) (sym whole) two
