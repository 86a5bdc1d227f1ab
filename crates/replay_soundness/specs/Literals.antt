-- What the literals of contracts may be. In a contract tree a literal is a plain number or list of
-- bytes, which may be anything; what a compiler makes of a source stays within the limits of
-- values.
use Rattle.std.specs.Prelude.{List, Option, Some, None}
use Rattle.std.specs.Int.{w64}
use Rattle.std.specs.Int.RustNames.{FitsSigned}
use Rattle.std.specs.List.{All}
use Rattle.lc_base.specs.TextBytes.{IsText}
use Rattle.contract_tree.specs.Tree.{Tree, Trees, none, more, FunctionTree, StatementTree, StatementTrees, no_statement, statements}
use Rattle.contract_tree.specs.Tree as tree

abbrev mutual
  -- The literals of an expression are values: its numbers fit 64 bits, and its texts are texts.
  pub HasValues : Tree → Type 0
  HasValues (tree.Int at z) = FitsSigned w64 z
  HasValues (tree.Text at text) = IsText text
  HasValues (tree.Name at name) = Unit {0}
  HasValues (tree.Call at name args) = HaveValues args
  HasValues (tree.Prefix at sign operand) = HasValues operand
  HasValues (tree.Binary at sign left right) = HasValues left × HasValues right

  -- The literals of expressions are values.
  pub HaveValues : Trees → Type 0
  HaveValues none = Unit {0}
  HaveValues (more x xs) = HasValues x × HaveValues xs

-- The literals of the parts of a `from` are values, if there is one.
abbrev pub PartsHaveValues : Option Trees → Type 0
PartsHaveValues None = Unit {0}
PartsHaveValues (Some parts) = HaveValues parts

abbrev mutual
  -- The literals of a statement are values.
  pub RunsValues : StatementTree → Type 0
  RunsValues (tree.Let at name_at name value) = HasValues value
  RunsValues (tree.Assign at name value) = HasValues value
  RunsValues (tree.If at test first) = HasValues test × RunValues first
  RunsValues (tree.IfElse at test first second) = HasValues test × RunValues first × RunValues second
  RunsValues (tree.While at test body) = HasValues test × RunValues body
  RunsValues (tree.Put at key value parts) = HasValues key × HasValues value × PartsHaveValues parts
  RunsValues (tree.Remove at key parts) = HasValues key × PartsHaveValues parts
  RunsValues (tree.Fail at) = Unit {0}
  RunsValues (tree.Return at) = Unit {0}

  -- The literals of statements are values.
  pub RunValues : StatementTrees → Type 0
  RunValues no_statement = Unit {0}
  RunValues (statements x xs) = RunsValues x × RunValues xs

-- The literals of the functions of a contract are values.
abbrev pub AreFunctionsOfValues : List FunctionTree → Type 0
AreFunctionsOfValues functions = All (λ (function : FunctionTree). RunValues function.body) functions
