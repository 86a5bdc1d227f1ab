-- Well kinded contracts: names are declared once and before use, and each part has the kind that it
-- must have.
use Rattle.std.specs.Prelude.{◌≡◌, ◌≢◌, ℕ, ℤ, List, [], ◌∷◌, ◌++◌, Option, None, Some}
use Rattle.contract_tree.specs.declared.tree.ValueKind.{ValueKind}
use Rattle.contract_tree.specs.declared.tree.ValueKind.TheVariants.{Int, Text}
use Rattle.contract_tree.specs.declared.tree.Param.{Param}
use Rattle.contract_tree.specs.declared.tree.Sign.{Sign}
use Rattle.contract_tree.specs.declared.tree.Sign.TheVariants as signs
use Rattle.contract_tree.specs.Tree.{Tree, Trees, none, more, StatementTree, StatementTrees, no_statement, statements, FunctionTree, erase_contract}
use Rattle.contract_tree.specs.Tree as tree
use Rattle.contract_tree.specs.declared.builtin.Builtin.{Builtin}
use Rattle.contract_tree.specs.Builtins.{builtin_name, params_of, kind_given}
use Rattle.contract_check.specs.Names.{Names, kind_in}

-- ---- expressions

-- The operands that an operator takes: two numbers, two texts, or two of the same kind.
pub data Operands : Type 0 where
  Numbers : Operands
  Texts : Operands
  Alike : Operands

-- The operands of each operator.
abbrev pub operands_of : Sign → Operands
operands_of signs.Equal = Alike
operands_of signs.NotEqual = Alike
operands_of signs.Concat = Texts
operands_of _ = Numbers

-- The expression has this kind, if these names are visible.
mutual
  pub data IsKinded (names : Names) : Tree → ValueKind → Type 0 where
    Number : (at : ℕ) (value : ℤ) → IsKinded names (tree.Int at value) Int
    Literal : (at : ℕ) (text : List ℕ) → IsKinded names (tree.Text at text) Text
    Named :
        (at : ℕ) (name : List ℕ) (kind : ValueKind) → kind_in names name ≡ Some kind
        → IsKinded names (tree.Name at name) kind
    Called :
        (at : ℕ) (builtin : Builtin) (args : Trees) → AreKinded names args (params_of builtin)
        → IsKinded names (tree.Call at (builtin_name builtin) args) (kind_given builtin)
    Prefixed :
        (at : ℕ) (sign : Sign) (operand : Tree) → IsKinded names operand Int
        → IsKinded names (tree.Prefix at sign operand) Int
    OfNumbers :
        (at : ℕ) (sign : Sign) (left right : Tree) → operands_of sign ≡ Numbers
        → IsKinded names left Int → IsKinded names right Int
        → IsKinded names (tree.Binary at sign left right) Int
    OfTexts :
        (at : ℕ) (sign : Sign) (left right : Tree) → operands_of sign ≡ Texts
        → IsKinded names left Text → IsKinded names right Text
        → IsKinded names (tree.Binary at sign left right) Text
    OfAlike :
        (at : ℕ) (sign : Sign) (left right : Tree) (kind : ValueKind) → operands_of sign ≡ Alike
        → IsKinded names left kind → IsKinded names right kind
        → IsKinded names (tree.Binary at sign left right) Int

  -- The expressions have these kinds, one by one.
  pub data AreKinded (names : Names) : Trees → List ValueKind → Type 0 where
    NoneLeft : AreKinded names none []
    OneMore :
        (x : Tree) (xs : Trees) (kind : ValueKind) (kinds : List ValueKind) → IsKinded names x kind
        → AreKinded names xs kinds → AreKinded names (more x xs) (kind ∷ kinds)

-- Each of the expressions is a text.
pub data AreTexts (names : Names) : Trees → Type 0 where
  NoText : AreTexts names none
  MoreText :
      (x : Tree) (xs : Trees) → IsKinded names x Text → AreTexts names xs
      → AreTexts names (more x xs)

-- The keys that a version is said to be derived from, if any, are texts.
abbrev pub AreSources : Names → Option Trees → Type 0
AreSources names None = Unit {0}
AreSources names (Some parts) = AreTexts names parts

-- ---- statements

-- The names, and one more.
abbrev pub with_name : Names → List ℕ → ValueKind → Names
with_name names name kind = names ++ (name, kind) ∷ []

-- The statement is good if the first names are visible; after it the second ones are.
mutual
  pub data IsGood : Names → StatementTree → Names → Type 0 where
    Let :
        (names : Names) (at name_at : ℕ) (name : List ℕ) (value : Tree) (kind : ValueKind)
        → IsKinded names value kind → kind_in names name ≡ None
        → IsGood names (tree.Let at name_at name value) (with_name names name kind)
    Assign :
        (names : Names) (at : ℕ) (name : List ℕ) (value : Tree) (kind : ValueKind)
        → kind_in names name ≡ Some kind → IsKinded names value kind
        → IsGood names (tree.Assign at name value) names
    If :
        (names : Names) (at : ℕ) (test : Tree) (first : StatementTrees) (inner : Names)
        → IsKinded names test Int → AreGood names first inner
        → IsGood names (tree.If at test first) names
    IfElse :
        (names : Names) (at : ℕ) (test : Tree) (first second : StatementTrees) (inner other : Names)
        → IsKinded names test Int → AreGood names first inner → AreGood names second other
        → IsGood names (tree.IfElse at test first second) names
    While :
        (names : Names) (at : ℕ) (test : Tree) (body : StatementTrees) (inner : Names)
        → IsKinded names test Int → AreGood names body inner
        → IsGood names (tree.While at test body) names
    Put :
        (names : Names) (at : ℕ) (key value : Tree) (parts : Option Trees) (kind : ValueKind)
        → IsKinded names key Text → IsKinded names value kind → AreSources names parts
        → IsGood names (tree.Put at key value parts) names
    Remove :
        (names : Names) (at : ℕ) (key : Tree) (parts : Option Trees) → IsKinded names key Text
        → AreSources names parts → IsGood names (tree.Remove at key parts) names
    Fail : (names : Names) (at : ℕ) → IsGood names (tree.Fail at) names
    Return : (names : Names) (at : ℕ) → IsGood names (tree.Return at) names

  -- The statements are good, each with the names that are visible after the one before it.
  pub data AreGood : Names → StatementTrees → Names → Type 0 where
    Done : (names : Names) → AreGood names no_statement names
    Then :
        (names between last : Names) (x : StatementTree) (xs : StatementTrees)
        → IsGood names x between → AreGood between xs last → AreGood names (statements x xs) last

-- ---- functions

-- Each parameter has a name of its own; after them these names are visible.
pub data AreDeclared : Names → List Param → Names → Type 0 where
  NoParam : (names : Names) → AreDeclared names [] names
  Declares :
      (names last : Names) (param : Param) (params : List Param) → kind_in names param.name ≡ None
      → AreDeclared (with_name names param.name param.kind) params last
      → AreDeclared names (param ∷ params) last

-- The function is good. Its statements see its parameters, and no name from outside.
pub record IsGoodFunction (function : FunctionTree) : Type 0 where
  pub params : Names
  pub names_at_end : Names
  pub are_declared : AreDeclared [] function.params params
  pub are_good : AreGood params function.body names_at_end

-- The name is none of these.
abbrev pub IsNew : List ℕ → List (List ℕ) → Type 0
IsNew name [] = Unit {0}
IsNew name (other ∷ others) = (other ≢ name) × IsNew name others

-- Each function is good and has a name that no function before it has.
pub data AreGoodFunctions : List (List ℕ) → List FunctionTree → Type 0 where
  NoFunction : (used : List (List ℕ)) → AreGoodFunctions used []
  NextFunction :
      (used : List (List ℕ)) (function : FunctionTree) (functions : List FunctionTree)
      → IsNew function.name used → IsGoodFunction function
      → AreGoodFunctions (used ++ function.name ∷ []) functions
      → AreGoodFunctions used (function ∷ functions)

-- The functions of a contract are well kinded.
abbrev pub WellKinded : List FunctionTree → Type 0
WellKinded functions = AreGoodFunctions [] functions

-- Functions that differ from these in their offsets only are well kinded exactly if these are.
abbrev pub IsKindedAnywhere : List FunctionTree → Type 0
IsKindedAnywhere all =
    (other : List FunctionTree) → erase_contract other ≡ erase_contract all
    → (WellKinded all → WellKinded other) × (WellKinded other → WellKinded all)
