-- The first fault of a contract, in the order of checking: function by function, statement by
-- statement, operands from left to right before what they belong to, an expression before the name
-- that it declares or assigns.
use Rattle.std.specs.Prelude.{ℕ, Bool, ◌==◌, if◌then◌else◌, List, [], ◌∷◌, ◌++◌, length, Option, None, Some, Result, Ok, Err}
use Rattle.std.specs.List.{list_any}
use Rattle.std.specs.Option.{option_or}
use Rattle.std.specs.Cmp.Lexicographic.{pointwise}
use denote.Enum.Bare.{sameb}
use Rattle.contract_tree.specs.contracts.tree.ValueKind.{the_type}
use Rattle.contract_tree.specs.declared.tree.ValueKind.{ValueKind}
use Rattle.contract_tree.specs.declared.tree.ValueKind.TheVariants.{Int, Text}
use Rattle.contract_tree.specs.declared.tree.Param.{Param}
use Rattle.contract_tree.specs.Tree.{Tree, Trees, none, more, StatementTree, StatementTrees, no_statement, statements, FunctionTree}
use Rattle.contract_tree.specs.Tree as tree
use Rattle.contract_tree.specs.declared.builtin.Builtin.{Builtin}
use Rattle.contract_check.specs.declared.fault.Fault.{Fault}
use Rattle.contract_check.specs.declared.fault.CheckKind.{CheckKind}
use Rattle.contract_check.specs.declared.fault.CheckKind.TheVariants.{Unknown, Again, Count, Kind}
use Rattle.contract_check.specs.declared.fault.CheckError.{CheckError}
use Rattle.contract_check.specs.declared.fault.CheckError.TheVariants as errors
use Rattle.contract_check.specs.declared.expression.KindAt.{KindAt}
use Rattle.contract_tree.specs.Builtins.{params_of, kind_given, builtin_of}
use Rattle.contract_check.specs.Names.{Names, kind_in}
use Rattle.contract_check.specs.WellKinded.{Operands, Numbers, Texts, Alike, operands_of, with_name}

-- The fault that an error reports, or `None` if it is out of memory.
abbrev pub fault_of : CheckError → Option Fault
fault_of (errors.Refused at kind) = Some (record { at = at; kind = kind })
fault_of errors.Memory = None

-- A check that finds a fault of this kind at this offset.
abbrev pub fault_at : {A : Type 0} → ℕ → CheckKind → Result A Fault
fault_at at kind = Err (record { at = at; kind = kind })

-- The second check on the result of the first, or the fault of the first.
abbrev pub and_then : {A B : Type 0} → Result A Fault → (A → Result B Fault) → Result B Fault
and_then (Ok a) next = next a
and_then (Err fault) next = Err fault

-- The fault that a check found, if any.
abbrev pub fault_in : {A : Type 0} → Result A Fault → Option Fault
fault_in (Ok _) = None
fault_in (Err fault) = Some fault

-- A value, unless there is a fault.
abbrev pub unless_fault : {A : Type 0} → A → Option Fault → Result A Fault
unless_fault a None = Ok a
unless_fault a (Some fault) = Err fault

-- ---- expressions

-- Whether two kinds are the same, as the program's `==` returns it.
abbrev pub is_same_kind : ValueKind → ValueKind → Bool
is_same_kind = sameb the_type

-- A kind, and the offset of the expression that has it.
abbrev pub kind_at : ℕ → ValueKind → KindAt
kind_at at kind = record { at = at; kind = kind }

-- The value, if it has this kind; else a fault at its offset.
abbrev pub require_kind : ValueKind → KindAt → Result KindAt Fault
require_kind kind value = if is_same_kind value.kind kind then Ok value else fault_at value.at Kind

-- The kind of a visible name, at the offset of the name; else a fault there.
abbrev pub name_kind : ℕ → Option ValueKind → Result KindAt Fault
name_kind at None = fault_at at Unknown
name_kind at (Some kind) = Ok (kind_at at kind)

-- The offset of an argument that has another kind than its parameter, or `None` if there is no such
-- parameter.
abbrev pub wrong_argument : Option ValueKind → KindAt → Option ℕ
wrong_argument None arg = None
wrong_argument (Some kind) arg = if is_same_kind arg.kind kind then None else Some arg.at

-- The offset of the first argument that has another kind than its parameter.
abbrev pub first_wrong_argument : List KindAt → List ValueKind → Option ℕ
first_wrong_argument [] kinds = None
first_wrong_argument (arg ∷ args) [] = None
first_wrong_argument (arg ∷ args) (kind ∷ kinds) =
    option_or (wrong_argument (Some kind) arg) (first_wrong_argument args kinds)

-- The kind of a call's value, unless one of its arguments is wrong.
abbrev pub unless_wrong_argument : Option ℕ → KindAt → Result KindAt Fault
unless_wrong_argument None value = Ok value
unless_wrong_argument (Some offset) value = fault_at offset Kind

-- The kinds of a builtin's parameters; none if the name is no builtin's.
abbrev pub parameter_kinds : Option Builtin → List ValueKind
parameter_kinds None = []
parameter_kinds (Some builtin) = params_of builtin

-- The kind of a call's value, given the number of its arguments and the first wrong one.
abbrev pub call_kind_by : ℕ → Option Builtin → ℕ → Option ℕ → Result KindAt Fault
call_kind_by at None count wrong = fault_at at Unknown
call_kind_by at (Some builtin) count wrong =
    if count == length (params_of builtin)
    then unless_wrong_argument wrong (kind_at at (kind_given builtin)) else fault_at at Count

-- The kind of the value of a call whose arguments were checked: the name is tested first, then the
-- number of arguments, then their kinds.
abbrev pub call_kind : ℕ → Option Builtin → List KindAt → Result KindAt Fault
call_kind at builtin args =
    call_kind_by at builtin (length args) (first_wrong_argument args (parameter_kinds builtin))

-- The kind of a prefix operator's value; its operand must be a number.
abbrev pub prefix_kind : ℕ → KindAt → Result KindAt Fault
prefix_kind at operand = and_then (require_kind Int operand) (λ _. Ok (kind_at at Int))

-- The kind of an operator's value, if its operands and its value have this kind.
abbrev pub operation_kind : ValueKind → ℕ → KindAt → KindAt → Result KindAt Fault
operation_kind kind at left right =
    and_then (require_kind kind left)
    (λ _. and_then (require_kind kind right) (λ _. Ok (kind_at at kind)))

-- The kind of the value of an operator that compares two operands of the same kind.
abbrev pub equality_kind : ℕ → KindAt → KindAt → Result KindAt Fault
equality_kind at left right = and_then (require_kind left.kind right) (λ _. Ok (kind_at at Int))

-- The kind of an operator's value, given the operands that it takes.
abbrev pub binary_kind : ℕ → Operands → KindAt → KindAt → Result KindAt Fault
binary_kind at Numbers left right = operation_kind Int at left right
binary_kind at Texts left right = operation_kind Text at left right
binary_kind at Alike left right = equality_kind at left right

-- The kind of an expression and its offset, or its first fault; and the same for each of a list of
-- expressions.
abbrev mutual
  pub expression_kind : Names → Tree → Result KindAt Fault
  expression_kind names (tree.Int at value) = Ok (kind_at at Int)
  expression_kind names (tree.Text at text) = Ok (kind_at at Text)
  expression_kind names (tree.Name at name) = name_kind at (kind_in names name)
  expression_kind names (tree.Call at name args) =
      and_then (expression_kinds names args) (call_kind at (builtin_of name))
  expression_kind names (tree.Prefix at sign operand) =
      and_then (expression_kind names operand) (prefix_kind at)
  expression_kind names (tree.Binary at sign left right) =
      and_then (expression_kind names left)
      (λ left. and_then (expression_kind names right)
      (λ right. binary_kind at (operands_of sign) left right))

  -- The kinds of expressions and their offsets, in order, or their first fault.
  pub expression_kinds : Names → Trees → Result (List KindAt) Fault
  expression_kinds names none = Ok []
  expression_kinds names (more x xs) =
      and_then (expression_kind names x)
      (λ kind. and_then (expression_kinds names xs) (λ kinds. Ok (kind ∷ kinds)))

-- The kind of an expression that must have this kind.
abbrev pub expression_of_kind : ValueKind → Names → Tree → Result KindAt Fault
expression_of_kind kind names x = and_then (expression_kind names x) (require_kind kind)

-- The same names, if each of the expressions is a text.
abbrev pub text_expressions : Names → Trees → Result Names Fault
text_expressions names none = Ok names
text_expressions names (more x xs) =
    and_then (expression_of_kind Text names x) (λ _. text_expressions names xs)

-- The same names, if the keys that a version is said to be derived from are texts.
abbrev pub source_expressions : Names → Option Trees → Result Names Fault
source_expressions names None = Ok names
source_expressions names (Some parts) = text_expressions names parts

-- The same names after a `put` of a key, a value and the keys that it is said to be derived from.
abbrev pub names_after_put : Names → Tree → Tree → Option Trees → Result Names Fault
names_after_put names key value parts =
    and_then (expression_of_kind Text names key)
    (λ _. and_then (expression_kind names value) (λ _. source_expressions names parts))

-- The same names after a `drop` of a key, and the keys that its version is said to be derived from.
abbrev pub names_after_remove : Names → Tree → Option Trees → Result Names Fault
names_after_remove names key parts =
    and_then (expression_of_kind Text names key) (λ _. source_expressions names parts)

-- ---- statements

-- The names with a new one, unless it is visible.
abbrev pub with_new_name : Option ValueKind → Names → ℕ → List ℕ → ValueKind → Result Names Fault
with_new_name None names at name kind = Ok (with_name names name kind)
with_new_name (Some _) names at name kind = fault_at at Again

-- The names after a declaration.
abbrev pub names_after_declaration : Names → ℕ → List ℕ → ValueKind → Result Names Fault
names_after_declaration names at name kind = with_new_name (kind_in names name) names at name kind

-- The same names after an assignment, given the kind of its name, after its value was checked.
abbrev pub names_after_assignment : Option ValueKind → Names → ℕ → KindAt → Result Names Fault
names_after_assignment None names at value = fault_at at Unknown
names_after_assignment (Some kind) names at value =
    and_then (require_kind kind value) (λ _. Ok names)

-- The names after a block are those before it.
abbrev pub names_after_block : Names → Result Names Fault → Result Names Fault
names_after_block names (Ok _) = Ok names
names_after_block names (Err fault) = Err fault

-- The names that are visible after a statement, or after several, or their first fault.
abbrev mutual
  pub names_after_statement : Names → StatementTree → Result Names Fault
  names_after_statement names (tree.Let at name_at name value) =
      and_then (expression_kind names value)
      (λ value. names_after_declaration names name_at name value.kind)
  names_after_statement names (tree.Assign at name value) =
      and_then (expression_kind names value)
      (λ value. names_after_assignment (kind_in names name) names at value)
  names_after_statement names (tree.If at test first) =
      and_then (expression_of_kind Int names test)
      (λ _. names_after_block names (names_after_statements names first))
  names_after_statement names (tree.IfElse at test first second) =
      and_then (expression_of_kind Int names test)
      (λ _. and_then (names_after_block names (names_after_statements names first))
      (λ _. names_after_block names (names_after_statements names second)))
  names_after_statement names (tree.While at test body) =
      and_then (expression_of_kind Int names test)
      (λ _. names_after_block names (names_after_statements names body))
  names_after_statement names (tree.Put at key value parts) = names_after_put names key value parts
  names_after_statement names (tree.Remove at key parts) = names_after_remove names key parts
  names_after_statement names (tree.Fail at) = Ok names
  names_after_statement names (tree.Return at) = Ok names

  -- The names that are visible after statements, one after another, or their first fault.
  pub names_after_statements : Names → StatementTrees → Result Names Fault
  names_after_statements names no_statement = Ok names
  names_after_statements names (statements x xs) =
      and_then (names_after_statement names x) (λ names. names_after_statements names xs)

-- ---- functions

-- The names after parameters, each of which declares one.
abbrev pub names_after_params : Names → List Param → Result Names Fault
names_after_params names [] = Ok names
names_after_params names (param ∷ params) =
    and_then (names_after_declaration names param.at param.name param.kind)
    (λ names. names_after_params names params)

-- The names that are visible at the end of a function.
abbrev pub names_after_function : FunctionTree → Result Names Fault
names_after_function function =
    and_then (names_after_params [] function.params)
    (λ names. names_after_statements names function.body)

-- The names of functions that are taken, with that of one more function.
abbrev pub used_after_name : List (List ℕ) → FunctionTree → Result (List (List ℕ)) Fault
used_after_name used function =
    if list_any (pointwise ◌==◌ function.name) used then fault_at function.at Again
    else Ok (used ++ function.name ∷ [])

-- The names that are taken after functions, or the functions' first fault.
abbrev pub used_after_functions : List (List ℕ) → List FunctionTree → Result (List (List ℕ)) Fault
used_after_functions used [] = Ok used
used_after_functions used (function ∷ functions) =
    and_then (used_after_name used function)
    (λ used. and_then (names_after_function function) (λ _. used_after_functions used functions))

-- The first fault of a contract's functions.
unfoldable pub check_fault : List FunctionTree → Option Fault
check_fault functions = fault_in (used_after_functions [] functions)
