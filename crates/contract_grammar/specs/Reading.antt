-- How the grammar is read, token by token and without going back. Each reader is that of a rule of
-- the grammar, or of the rest of one.
use Rattle.std.specs.Prelude.{ℕ, zero, suc, Bool, true, false, nat_lt, nat_le, List, [], ◌∷◌, Option, Some, None}
use Rattle.contract_tokens.specs.declared.token.Mark.{Mark}
use Rattle.contract_tokens.specs.declared.token.Mark.TheVariants as m
use Rattle.contract_tree.specs.Tree.{Tree, Trees, trees, height, StatementTree, StatementTrees, statement_list, FunctionTree}
use Rattle.contract_tree.specs.Tree as tree
use Rattle.contract_tree.specs.declared.tree.Param.{Param}
use Rattle.contract_tree.specs.declared.tree.ValueKind.{ValueKind}
use Rattle.contract_tree.specs.declared.tree.Sign.{Sign}
use Rattle.contract_grammar.specs.declared.Obstacle.TheVariants.{Surplus, Pending, Nesting, Height}
use Rattle.contract_grammar.specs.Grammar.{is_chained}
use Rattle.contract_grammar.specs.Marks.{is_not, is_no_end, the, is, has, int_of, text_of, name_of, builtin_of, prefix_of, sign_of, declared_of, kind_of}
use Rattle.contract_grammar.specs.Rules.{Rule, ret, guard, one, refuse, seq, either_by, either, turns, each}
use Rattle.contract_grammar.specs.declared.limits.TheConstants.{MAX_PENDING, MAX_NESTING, MAX_HEIGHT, MAX_PARAMETERS, WHOLE}

-- A node that was just put together, unless it is too high.
abbrev pub node : ℕ → Tree → Rule Tree
node at x = guard (nat_le (height x) MAX_HEIGHT) (Height at) x

-- A call of this name with these arguments.
abbrev pub call_of : ℕ × List ℕ → List Tree → Rule Tree
call_of n args = node n.0 (tree.Call n.0 n.1 (trees args))

-- This prefix before an operand.
abbrev pub prefix_node : ℕ × Sign → Tree → Rule Tree
prefix_node s x = node s.0 (tree.Prefix s.0 s.1 x)

-- This operator between two operands.
abbrev pub binary_node : ℕ × Sign → Tree → Tree → Rule Tree
binary_node s x w = node s.0 (tree.Binary s.0 s.1 x w)

-- A keyword or sign, then what follows.
abbrev pub after_mark : {A : Type 0} → Mark → Rule A → Rule A
after_mark mark p = seq (one (the mark)) (λ at. p)

-- What was read, then a keyword or sign.
abbrev pub before_mark : {A : Type 0} → Mark → A → Rule A
before_mark mark a = seq (one (the mark)) (λ at. ret a)

-- A comma, then the next part, regardless of the number of parts before.
abbrev pub comma_then : {A : Type 0} → Rule A → ℕ → Rule A
comma_then p n = after_mark m.Comma p

-- The other parts after the first, each after a comma, then the closing sign.
abbrev pub more_of : Rule Tree → Mark → Tree → Rule (List Tree)
more_of expression mark x =
    seq (each (is m.Comma) (comma_then expression) (x ∷ [])) (before_mark mark)

-- Arguments after the opening parenthesis.
abbrev pub args : Rule Tree → Rule (List Tree)
args expression =
    either (is m.ParenClose)
    (before_mark m.ParenClose [])
    (seq expression (more_of expression m.ParenClose))

-- A number.
abbrev pub number : Rule Tree
number = seq (one int_of) (λ n. ret (tree.Int n.0 n.1))

-- A text literal.
abbrev pub text : Rule Tree
text = seq (one text_of) (λ n. ret (tree.Text n.0 n.1))

-- A text literal or a number.
abbrev pub literal : Rule Tree
literal = either (has text_of) text number

-- What follows a name: its arguments, or nothing.
abbrev pub name_rest : Rule (List Tree) → ℕ × List ℕ → Rule Tree
name_rest arguments n =
    either (is m.ParenOpen) (seq arguments (call_of n)) (ret (tree.Name n.0 n.1))

-- A name, or a call of one.
abbrev pub name_or_call : Rule (List Tree) → Rule Tree
name_or_call arguments = seq (one name_of) (name_rest arguments)

-- A call of the builtin that a keyword names.
abbrev pub builtin_call : Rule (List Tree) → Rule Tree
builtin_call arguments = seq (one builtin_of) (λ n. seq arguments (call_of n))

-- An operand, given the readers of its parts.
abbrev pub operand_of : Rule (List Tree) → Rule Tree → Rule Tree → Rule Tree
operand_of arguments prefixed grouped =
    either (has name_of) (name_or_call arguments)
    (either (has builtin_of) (builtin_call arguments)
    (either (has prefix_of) prefixed
    (either (is m.ParenOpen) grouped literal)))

-- After a left operand, an operator of this level and its right operand.
abbrev pub binary : ℕ → Rule Tree → Tree → Rule Tree
binary level tighter x = seq (one (sign_of level)) (λ s. seq tighter (binary_node s x))

-- After the first operand, the operators of a level and their right operands: any number of them if
-- the level is chained, else at most one.
abbrev pub rest_of_level : Bool → ℕ → Rule Tree → Tree → Rule Tree
rest_of_level true level tighter = turns (has (sign_of level)) (binary level tighter)
rest_of_level false level tighter =
    λ x. either (has (sign_of level)) (binary level tighter x) (ret x)

-- Expressions of a level, given those of level 0.
unfoldable pub level_of : Rule Tree → ℕ → Rule Tree
level_of operand zero = operand
level_of operand (suc level) =
    seq (level_of operand level)
    (rest_of_level (is_chained (suc level)) (suc level) (level_of operand level))

-- Arguments, given the operands that they may have, if any may be there.
abbrev pub arguments_in : Option (Rule Tree) → Rule (List Tree)
arguments_in None = refuse Pending (is m.ParenOpen)
arguments_in (Some operand) = after_mark m.ParenOpen (args (level_of operand WHOLE))

-- A prefix and its operand, given the operands that may follow it, if any may.
abbrev pub prefix_operand_in : Option (Rule Tree) → Rule Tree
prefix_operand_in None = refuse Pending (has prefix_of)
prefix_operand_in (Some operand) = seq (one prefix_of) (λ s. seq operand (prefix_node s))

-- An expression in parentheses, given the operands that it may have, if any may be there.
abbrev pub group_in : Option (Rule Tree) → Rule Tree
group_in None = refuse Pending (is m.ParenOpen)
group_in (Some operand) =
    after_mark m.ParenOpen (seq (level_of operand WHOLE) (before_mark m.ParenClose))

-- An operand, given those that may follow one more parenthesis or prefix, if any may.
abbrev pub operand_in : Option (Rule Tree) → Rule Tree
operand_in inner = operand_of (arguments_in inner) (prefix_operand_in inner) (group_in inner)

-- An operand, if this many more parentheses and prefixes may be pending.
unfoldable pub operand : ℕ → Rule Tree
operand zero = operand_in None
operand (suc n) = operand_in (Some (operand n))

-- The operands after one more parenthesis or prefix, or `None` if no more may be pending.
abbrev pub inner_operand : ℕ → Option (Rule Tree)
inner_operand zero = None
inner_operand (suc n) = Some (operand n)

-- A whole expression.
unfoldable pub expression : Rule Tree
expression = level_of (operand MAX_PENDING) WHOLE

-- The end of a statement that assigns a value.
abbrev pub value_of : (Tree → StatementTree) → Rule StatementTree
value_of f = after_mark m.Assign (seq expression (λ x. before_mark m.Semicolon (f x)))

-- A `let`.
abbrev pub let_statement : Rule StatementTree
let_statement =
    seq (one (the m.Let)) (λ at. seq (one declared_of) (λ n. value_of (tree.Let at n.0 n.1)))

-- An assignment.
abbrev pub assign_statement : Rule StatementTree
assign_statement = seq (one name_of) (λ n. value_of (tree.Assign n.0 n.1))

-- What follows the first block of an `if`: an `else` and its block, or nothing.
abbrev pub else_part : Rule StatementTrees → ℕ → Tree → StatementTrees → Rule StatementTree
else_part block at x first =
    either (is m.Else)
    (after_mark m.Else (seq block (λ second. ret (tree.IfElse at x first second))))
    (ret (tree.If at x first))

-- An `if`.
abbrev pub if_statement : Rule StatementTrees → Rule StatementTree
if_statement block =
    seq (one (the m.If)) (λ at. seq expression (λ x. seq block (else_part block at x)))

-- A `while`.
abbrev pub while_statement : Rule StatementTrees → Rule StatementTree
while_statement block =
    seq (one (the m.While))
    (λ at. seq expression (λ x. seq block (λ body. ret (tree.While at x body))))

-- A `from` and its parts, then the semicolon.
abbrev pub from_parts : Rule (Option Trees)
from_parts =
    after_mark m.From
    (seq expression (λ x. seq (more_of expression m.Semicolon x) (λ xs. ret (Some (trees xs)))))

-- The end of a `put` or of a `drop`: an optional `from`, then the semicolon.
abbrev pub from_part : Rule (Option Trees)
from_part = either (is m.Semicolon) (before_mark m.Semicolon None) from_parts

-- A `put`.
abbrev pub put_statement : Rule StatementTree
put_statement =
    seq (one (the m.Put))
    (λ at. seq expression
    (λ key. after_mark m.Assign
    (seq expression (λ value. seq from_part (λ parts. ret (tree.Put at key value parts))))))

-- A `drop`.
abbrev pub remove_statement : Rule StatementTree
remove_statement =
    seq (one (the m.Drop))
    (λ at. seq expression (λ key. seq from_part (λ parts. ret (tree.Remove at key parts))))

-- A statement that is one keyword.
abbrev pub short_statement : Mark → (ℕ → StatementTree) → Rule StatementTree
short_statement mark f = seq (one (the mark)) (λ at. before_mark m.Semicolon (f at))

-- A statement, given the reader of the blocks in it.
abbrev pub statement : Rule StatementTrees → Rule StatementTree
statement block =
    either (is m.Let) let_statement
    (either (is m.If) (if_statement block)
    (either (is m.While) (while_statement block)
    (either (is m.Put) put_statement
    (either (is m.Drop) remove_statement
    (either (is m.Fail) (short_statement m.Fail tree.Fail)
    (either (is m.Return) (short_statement m.Return tree.Return) assign_statement))))))

-- A block, given the reader of the blocks in it.
abbrev pub block_of : Rule StatementTrees → Rule StatementTrees
block_of inner =
    after_mark m.BraceOpen
    (seq (each (is_not m.BraceClose) (λ n. statement inner) [])
    (λ ss. before_mark m.BraceClose (statement_list ss)))

-- A block, if this many more may be nested, itself included.
unfoldable pub block : ℕ → Rule StatementTrees
block zero = refuse Nesting (is m.BraceOpen)
block (suc n) = block_of (block n)

-- The name of a parameter after `n` others.
abbrev pub param_name : ℕ → Rule (ℕ × List ℕ)
param_name n =
    either_by (nat_lt n MAX_PARAMETERS) (one declared_of) (refuse Surplus (has declared_of))

-- A parameter with this name, its offset, and this kind.
abbrev pub a_param : ℕ × List ℕ → ValueKind → Param
a_param name kind = record { at = name.0; name = name.1; kind = kind }

-- A parameter after `n` others.
abbrev pub param : ℕ → Rule Param
param n =
    seq (param_name n)
    (λ name. after_mark m.Colon (seq (one kind_of) (λ kind. ret (a_param name kind))))

-- The parameters after the first, then the closing parenthesis.
abbrev pub more_params : Param → Rule (List Param)
more_params p =
    seq (each (is m.Comma) (λ n. after_mark m.Comma (param n)) (p ∷ [])) (before_mark m.ParenClose)

-- Parameters with their parentheses.
abbrev pub params : Rule (List Param)
params =
    after_mark m.ParenOpen
    (either (is m.ParenClose) (before_mark m.ParenClose []) (seq (param 0) more_params))

-- A function with this name, its offset, these parameters and these statements.
abbrev pub a_function : ℕ × List ℕ → List Param → StatementTrees → FunctionTree
a_function name params body =
    record { at = name.0; name = name.1; params = params; body = body }

-- A function.
unfoldable pub function : Rule FunctionTree
function =
    after_mark m.Fn
    (seq (one declared_of)
    (λ name. seq params
    (λ ps. seq (block MAX_NESTING) (λ body. ret (a_function name ps body)))))

-- A contract: functions up to the end of the source.
unfoldable pub contract : Rule (List FunctionTree)
contract = seq function (λ f. each is_no_end (λ n. function) (f ∷ []))
