-- The tree of a contract as clauses see it: without boxes and vectors, so that definitions can go
-- by its cases. `at` is an offset, the number of bytes before a part in the source.
use Rattle.std.specs.Prelude.{ℕ, ℤ, ◌+◌, max, List, [], ◌∷◌, map, Option, Some, None}
use Rattle.std.specs.Global.{Vec}
use Rattle.contract_tree.specs.declared.tree.Expr.{Expr, fold-Expr}
use Rattle.contract_tree.specs.declared.tree.ExprNode.TheOpen as o
use Rattle.contract_tree.specs.declared.tree.Statement.{Statement, fold-Statement}
use Rattle.contract_tree.specs.declared.tree.Form.TheOpen as p
use Rattle.contract_tree.specs.declared.tree.Function.{Function}
use Rattle.contract_tree.specs.declared.tree.Param.{Param}
use Rattle.contract_tree.specs.declared.tree.Contract.{Contract}
use Rattle.contract_tree.specs.declared.tree.Sign.{Sign}

mutual
  -- An expression. The first number of each case is its offset.
  pub data Tree : Type 0 where
    Int : ℕ → ℤ → Tree
    Text : ℕ → List ℕ → Tree
    Name : ℕ → List ℕ → Tree
    Call : ℕ → List ℕ → Trees → Tree
    Prefix : ℕ → Sign → Tree → Tree
    Binary : ℕ → Sign → Tree → Tree → Tree

  -- Expressions, one after another.
  pub data Trees : Type 0 where
    none : Trees
    more : Tree → Trees → Trees

-- The offset of an expression.
abbrev pub offset_of : Tree → ℕ
offset_of (Int at value) = at
offset_of (Text at text) = at
offset_of (Name at name) = at
offset_of (Call at name args) = at
offset_of (Prefix at sign operand) = at
offset_of (Binary at sign left right) = at

-- A list of expressions, as one tree.
abbrev pub trees : List Tree → Trees
trees [] = none
trees (x ∷ xs) = more x (trees xs)

-- What an expression is, as a tree at this offset.
abbrev pub node_tree : o.ExprNode-F (ℕ → Tree) Tree → ℕ → Tree
node_tree (o.Int value) at = Int at value
node_tree (o.Text text) at = Text at text
node_tree (o.Name name) at = Name at name
node_tree (o.Call name args) at = Call at name (trees args.items)
node_tree (o.Prefix sign operand) at = Prefix at sign operand.value
node_tree (o.Binary sign left right) at = Binary at sign left.value right.value

-- An expression of the program, as a tree.
abbrev pub tree_of : Expr → Tree
tree_of = fold-Expr (ℕ → Tree) Tree node_tree (λ x. x.node x.at)

mutual
  -- A statement. The first number of each case is its offset, and the second number of a `Let` is
  -- the offset of the name.
  pub data StatementTree : Type 0 where
    Let : ℕ → ℕ → List ℕ → Tree → StatementTree
    Assign : ℕ → List ℕ → Tree → StatementTree
    If : ℕ → Tree → StatementTrees → StatementTree
    IfElse : ℕ → Tree → StatementTrees → StatementTrees → StatementTree
    While : ℕ → Tree → StatementTrees → StatementTree
    Put : ℕ → Tree → Tree → Option Trees → StatementTree
    Remove : ℕ → Tree → Option Trees → StatementTree
    Fail : ℕ → StatementTree
    Return : ℕ → StatementTree

  -- Statements, one after another.
  pub data StatementTrees : Type 0 where
    no_statement : StatementTrees
    statements : StatementTree → StatementTrees → StatementTrees

-- A list of statements, as one tree.
abbrev pub statement_list : List StatementTree → StatementTrees
statement_list [] = no_statement
statement_list (x ∷ xs) = statements x (statement_list xs)

-- The parts of a `from`, if there is one.
abbrev pub parts_of : Option (Vec Expr) → Option Trees
parts_of None = None
parts_of (Some parts) = Some (trees (map tree_of parts.items))

-- What a statement does, as a tree at this offset.
abbrev pub form_tree : p.Form-F (ℕ → StatementTree) StatementTree → ℕ → StatementTree
form_tree (p.Let name_at name value) at = Let at name_at name (tree_of value)
form_tree (p.Assign name value) at = Assign at name (tree_of value)
form_tree (p.If test first None) at = If at (tree_of test) (statement_list first.items)
form_tree (p.If test first (Some second)) at =
    IfElse at (tree_of test) (statement_list first.items) (statement_list second.items)
form_tree (p.While test body) at = While at (tree_of test) (statement_list body.items)
form_tree (p.Put key value parts) at = Put at (tree_of key) (tree_of value) (parts_of parts)
form_tree (p.Remove key parts) at = Remove at (tree_of key) (parts_of parts)
form_tree p.Fail at = Fail at
form_tree p.Return at = Return at

-- A statement of the program, as a tree.
abbrev pub statement_of : Statement → StatementTree
statement_of = fold-Statement (ℕ → StatementTree) StatementTree form_tree (λ x. x.form x.at)

-- A function: the offset of its name, its name, its parameters, its statements.
pub record FunctionTree : Type 0 where
  pub at : ℕ
  pub name : List ℕ
  pub params : List Param
  pub body : StatementTrees

-- A function of the program, as a tree.
abbrev pub function_of : Function → FunctionTree
function_of f =
    record {
      at = f.at;
      name = f.name;
      params = f.params.items;
      body = statement_list (map statement_of f.body.items);
    }

-- The functions of a contract, in order.
abbrev pub contract_of : Contract → List FunctionTree
contract_of c = map function_of c.functions.items

abbrev mutual
  -- The height of an expression: 1 for a number, text, name or call without arguments, else one
  -- more than the greatest height of its operands.
  pub height : Tree → ℕ
  height (Int at value) = 1
  height (Text at text) = 1
  height (Name at name) = 1
  height (Call at name args) = heights args + 1
  height (Prefix at sign operand) = height operand + 1
  height (Binary at sign left right) = max (height left) (height right) + 1

  -- The greatest height of the expressions, 0 if there are none.
  pub heights : Trees → ℕ
  heights none = 0
  heights (more x xs) = max (height x) (heights xs)

abbrev mutual
  -- An expression with each offset set to 0. Two expressions are equal but for their offsets if
  -- these are equal.
  pub erase : Tree → Tree
  erase (Int at value) = Int 0 value
  erase (Text at text) = Text 0 text
  erase (Name at name) = Name 0 name
  erase (Call at name args) = Call 0 name (erase_all args)
  erase (Prefix at sign operand) = Prefix 0 sign (erase operand)
  erase (Binary at sign left right) = Binary 0 sign (erase left) (erase right)

  -- Expressions with each offset set to 0.
  pub erase_all : Trees → Trees
  erase_all none = none
  erase_all (more x xs) = more (erase x) (erase_all xs)

-- The parts of a `from` with each offset set to 0.
abbrev pub erase_from : Option Trees → Option Trees
erase_from None = None
erase_from (Some parts) = Some (erase_all parts)

abbrev mutual
  -- A statement with each offset set to 0.
  pub erase_statement : StatementTree → StatementTree
  erase_statement (Let at name_at name value) = Let 0 0 name (erase value)
  erase_statement (Assign at name value) = Assign 0 name (erase value)
  erase_statement (If at test first) = If 0 (erase test) (erase_statements first)
  erase_statement (IfElse at test first second) =
      IfElse 0 (erase test) (erase_statements first) (erase_statements second)
  erase_statement (While at test body) = While 0 (erase test) (erase_statements body)
  erase_statement (Put at key value parts) = Put 0 (erase key) (erase value) (erase_from parts)
  erase_statement (Remove at key parts) = Remove 0 (erase key) (erase_from parts)
  erase_statement (Fail at) = Fail 0
  erase_statement (Return at) = Return 0

  -- Statements with each offset set to 0.
  pub erase_statements : StatementTrees → StatementTrees
  erase_statements no_statement = no_statement
  erase_statements (statements x xs) = statements (erase_statement x) (erase_statements xs)

-- A parameter with its offset set to 0.
abbrev pub erase_param : Param → Param
erase_param p = record p { at = 0 }

-- A function with each offset set to 0.
abbrev pub erase_function : FunctionTree → FunctionTree
erase_function f =
    record {
      at = 0;
      name = f.name;
      params = map erase_param f.params;
      body = erase_statements f.body;
    }

-- The functions of a contract with each offset set to 0. Two contracts are equal but for their
-- offsets if these are equal.
abbrev pub erase_contract : List FunctionTree → List FunctionTree
erase_contract functions = map erase_function functions
