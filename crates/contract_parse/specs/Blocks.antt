-- Statements, put together from the blocks that were read.
use Rattle.std.specs.Prelude.{ℕ, map, Option, Some, None}
use Rattle.std.specs.Global.{Vec}
use Rattle.contract_tree.specs.declared.tree.Statement.{Statement}
use Rattle.contract_tree.specs.Tree.{Tree, StatementTree, StatementTrees, If, IfElse, statement_of, statement_list}

-- An `if` with this first block, and a second if one was read.
abbrev pub if_of : ℕ → Tree → StatementTrees → Option (Vec Statement) → StatementTree
if_of at test first None = If at test first
if_of at test first (Some second) = IfElse at test first (statement_list (map statement_of second.items))
