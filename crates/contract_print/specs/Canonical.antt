-- The canonical text of a contract, and what reading it again yields.
use Rattle.std.specs.Prelude.{◌≡◌, ℕ, Bool, true, false, List, [], ◌∷◌, ◌++◌, Option, Some, None, codes}
use Rattle.std.specs.Fmt.{signed_decimal}
use Rattle.std.specs.List.{flat_map}
use Rattle.contract_tokens.specs.declared.token.Mark.{Mark}
use Rattle.contract_tokens.specs.declared.token.Mark.TheVariants as m
use Rattle.contract_tokens.specs.Lexemes.{in_quotes, literal_body}
use Rattle.contract_tokens.specs.Spelling.{spelling}
use Rattle.contract_tree.specs.declared.tree.Param.{Param}
use Rattle.contract_tree.specs.declared.tree.Sign.{Sign}
use Rattle.contract_tree.specs.declared.tree.Sign.TheVariants as s
use Rattle.contract_tree.specs.declared.tree.ValueKind.{ValueKind}
use Rattle.contract_tree.specs.declared.tree.ValueKind.TheVariants as k
use Rattle.contract_tree.specs.Tree.{Tree, Trees, none, more, StatementTree, StatementTrees, no_statement, statements, FunctionTree, erase_contract}
use Rattle.contract_parse.specs.Syntax.{ReadsAs}
use Rattle.contract_tree.specs.Tree as tree

-- The token of a sign.
abbrev pub mark_of_sign : Sign → Mark
mark_of_sign s.Or = m.Or
mark_of_sign s.And = m.And
mark_of_sign s.Equal = m.Equal
mark_of_sign s.NotEqual = m.NotEqual
mark_of_sign s.Less = m.Less
mark_of_sign s.LessEqual = m.LessEqual
mark_of_sign s.Greater = m.Greater
mark_of_sign s.GreaterEqual = m.GreaterEqual
mark_of_sign s.Concat = m.Concat
mark_of_sign s.Plus = m.Plus
mark_of_sign s.Minus = m.Minus
mark_of_sign s.Star = m.Star
mark_of_sign s.Slash = m.Slash
mark_of_sign s.Percent = m.Percent
mark_of_sign s.Not = m.Not

-- The text of a sign: that of its token.
abbrev pub sign_text : Sign → List ℕ
sign_text sign = spelling (mark_of_sign sign)

-- The token of a kind.
abbrev pub mark_of_kind : ValueKind → Mark
mark_of_kind k.Int = m.Int
mark_of_kind k.Text = m.Text

-- The text of a kind: that of its token.
abbrev pub kind_text : ValueKind → List ℕ
kind_text kind = spelling (mark_of_kind kind)

-- Whether an operand is put in parentheses: prefix and binary expressions are.
abbrev pub is_compound : Tree → Bool
is_compound (tree.Int at value) = false
is_compound (tree.Text at text) = false
is_compound (tree.Name at name) = false
is_compound (tree.Call at name args) = false
is_compound (tree.Prefix at sign operand) = true
is_compound (tree.Binary at sign left right) = true

-- A text, in parentheses if it needs them.
abbrev pub in_parentheses : Bool → List ℕ → List ℕ
in_parentheses true text = codes "(" ++ text ++ codes ")"
in_parentheses false text = text

-- An expression. Its operands are put in parentheses if they have operands themselves.
abbrev mutual
  -- An expression.
  pub expression_text : Tree → List ℕ
  expression_text (tree.Int at value) = signed_decimal value
  expression_text (tree.Text at text) = in_quotes (literal_body text)
  expression_text (tree.Name at name) = name
  expression_text (tree.Call at name args) = name ++ codes "(" ++ args_text args ++ codes ")"
  expression_text (tree.Prefix at sign operand) =
      sign_text sign ++ in_parentheses (is_compound operand) (expression_text operand)
  expression_text (tree.Binary at sign left right) =
      in_parentheses (is_compound left) (expression_text left) ++ codes " " ++ sign_text sign ++ codes " "
      ++ in_parentheses (is_compound right) (expression_text right)

  -- Expressions with a comma and a blank between them.
  pub args_text : Trees → List ℕ
  args_text none = []
  args_text (more x xs) = expression_text x ++ more_args_text xs

  -- Expressions, each after a comma and a blank.
  pub more_args_text : Trees → List ℕ
  more_args_text none = []
  more_args_text (more x xs) = codes ", " ++ expression_text x ++ more_args_text xs

-- The keys that a version is said to be derived from, if there are any.
abbrev pub from_text : Option Trees → List ℕ
from_text None = []
from_text (Some parts) = codes " from " ++ args_text parts

-- A name and the value that is assigned to it.
abbrev pub assigned_text : List ℕ → Tree → List ℕ
assigned_text name value = name ++ codes " = " ++ expression_text value ++ codes ";\n"

-- A `put` with its key, its value, and the keys that the value is said to be derived from.
abbrev pub put_text : Tree → Tree → Option Trees → List ℕ
put_text key value parts =
    codes "put " ++ expression_text key ++ codes " = " ++ expression_text value ++ from_text parts
    ++ codes ";\n"

-- A `drop` with its key, and the keys that its version is said to be derived from.
abbrev pub remove_text : Tree → Option Trees → List ℕ
remove_text key parts = codes "drop " ++ expression_text key ++ from_text parts ++ codes ";\n"

-- The margin of a block inside a block with this margin: two blanks more.
abbrev pub deeper : List ℕ → List ℕ
deeper margin = margin ++ codes "  "

-- A keyword and its condition, then the brace that opens the block.
abbrev pub test_text : List ℕ → Tree → List ℕ
test_text word test = word ++ expression_text test ++ codes " {\n"

-- A declaration of a name and its value.
abbrev pub let_text : List ℕ → Tree → List ℕ
let_text name value = codes "let " ++ assigned_text name value

-- A statement, or several, on lines of their own, each after the margin.
abbrev mutual
  pub statement_text : List ℕ → StatementTree → List ℕ
  statement_text margin (tree.Let at name_at name value) = margin ++ let_text name value
  statement_text margin (tree.Assign at name value) = margin ++ assigned_text name value
  statement_text margin (tree.If at test first) =
      margin ++ test_text (codes "if ") test ++ statements_text (deeper margin) first
      ++ (margin ++ codes "}\n")
  statement_text margin (tree.IfElse at test first second) =
      margin ++ test_text (codes "if ") test ++ statements_text (deeper margin) first
      ++ (margin ++ codes "} else {\n") ++ statements_text (deeper margin) second
      ++ (margin ++ codes "}\n")
  statement_text margin (tree.While at test body) =
      margin ++ test_text (codes "while ") test ++ statements_text (deeper margin) body
      ++ (margin ++ codes "}\n")
  statement_text margin (tree.Put at key value parts) = margin ++ put_text key value parts
  statement_text margin (tree.Remove at key parts) = margin ++ remove_text key parts
  statement_text margin (tree.Fail at) = margin ++ codes "fail;\n"
  statement_text margin (tree.Return at) = margin ++ codes "return;\n"

  -- Statements one after another.
  pub statements_text : List ℕ → StatementTrees → List ℕ
  statements_text margin no_statement = []
  statements_text margin (statements x xs) = statement_text margin x ++ statements_text margin xs

-- A parameter and its kind.
abbrev pub param_text : Param → List ℕ
param_text p = p.name ++ codes ": " ++ kind_text p.kind

-- Parameters, each after a comma and a blank.
abbrev pub more_params_text : List Param → List ℕ
more_params_text params = flat_map (λ p. codes ", " ++ param_text p) params

-- Parameters with a comma and a blank between them.
abbrev pub params_text : List Param → List ℕ
params_text [] = []
params_text (p ∷ ps) = param_text p ++ more_params_text ps

-- A function on lines of its own.
abbrev pub function_text : FunctionTree → List ℕ
function_text f =
    codes "fn " ++ f.name ++ codes "(" ++ params_text f.params ++ codes ") {\n"
    ++ statements_text (codes "  ") f.body ++ codes "}\n"

-- Functions, each after an empty line.
abbrev pub more_functions_text : List FunctionTree → List ℕ
more_functions_text functions = flat_map (λ f. codes "\n" ++ function_text f) functions

-- The canonical text of functions, with one empty line between them.
abbrev pub contract_text : List FunctionTree → List ℕ
contract_text [] = []
contract_text (f ∷ fs) = function_text f ++ more_functions_text fs

-- In this edition the text is a source that reads as functions that differ from these in their
-- offsets only.
abbrev pub ReadsAgain : ℕ → List ℕ → List FunctionTree → Type 0
ReadsAgain edition text all =
    (other : List FunctionTree) × ReadsAs edition text other
    × (erase_contract other ≡ erase_contract all)

-- Functions that differ from these in their offsets only have the same canonical text.
abbrev pub HasOneText : List FunctionTree → Type 0
HasOneText all =
    (other : List FunctionTree) → erase_contract other ≡ erase_contract all
    → contract_text other ≡ contract_text all

-- The text is the canonical text of whatever it reads as in this edition.
abbrev pub IsFixed : ℕ → List ℕ → Type 0
IsFixed edition text =
    (other : List FunctionTree) → ReadsAs edition text other → contract_text other ≡ text
