-- Whether functions are well kinded doesn't depend on the offsets in them.
use Rattle.std.proofs.Common.{◌≡◌, ℕ, List, [], ◌∷◌, map, Option, Some, None, sym, subst}
use Rattle.contract_tree.specs.declared.tree.ValueKind.{ValueKind}
use Rattle.contract_tree.specs.declared.tree.ValueKind.TheVariants.{Int, Text}
use Rattle.contract_tree.specs.declared.tree.Param.{Param}
use Rattle.contract_tree.specs.Tree.{Tree, Trees, none, more, StatementTree, StatementTrees, no_statement, statements, FunctionTree, erase, erase_all, erase_from, erase_statement, erase_statements, erase_param, erase_function, erase_contract}
use Rattle.contract_tree.specs.Tree as tree
use Rattle.contract_tree.specs.Builtins.{params_of}
use Rattle.contract_check.specs.Names.{Names}
use Rattle.contract_check.specs.WellKinded.{with_name, IsKinded, Number, Literal, Named, Called, Prefixed, OfNumbers, OfTexts, OfAlike, AreKinded, NoneLeft, OneMore, AreTexts, NoText, MoreText, AreSources, IsGood, Let, Assign, If, IfElse, While, Put, Remove, Fail, Return, AreGood, Done, Then, AreDeclared, NoParam, Declares, IsGoodFunction, AreGoodFunctions, NoFunction, NextFunction, WellKinded, IsKindedAnywhere}

-- ---- setting offsets to 0

mutual
  kinded_out : (names : Names) (x : Tree) (kind : ValueKind) → IsKinded names x kind
      → IsKinded names (erase x) kind
  kinded_out names _ _ (Number at value) = Number 0 value
  kinded_out names _ _ (Literal at text) = Literal 0 text
  kinded_out names _ _ (Named at name kind e) = Named 0 name kind e
  kinded_out names _ _ (Called at builtin args h) =
      Called 0 builtin (erase_all args) (all_out names args (params_of builtin) h)
  kinded_out names _ _ (Prefixed at sign operand h) =
      Prefixed 0 sign (erase operand) (kinded_out names operand Int h)
  kinded_out names _ _ (OfNumbers at sign left right e h k) = OfNumbers 0 sign (erase left) (erase right) e (kinded_out names left Int h) (kinded_out names right Int k)
  kinded_out names _ _ (OfTexts at sign left right e h k) = OfTexts 0 sign (erase left) (erase right) e (kinded_out names left Text h) (kinded_out names right Text k)
  kinded_out names _ _ (OfAlike at sign left right kind e h k) = OfAlike 0 sign (erase left) (erase right) kind e (kinded_out names left kind h) (kinded_out names right kind k)

  all_out : (names : Names) (xs : Trees) (kinds : List ValueKind) → AreKinded names xs kinds
      → AreKinded names (erase_all xs) kinds
  all_out names _ _ NoneLeft = NoneLeft
  all_out names _ _ (OneMore x xs kind kinds h k) = OneMore (erase x) (erase_all xs) kind kinds (kinded_out names x kind h) (all_out names xs kinds k)

texts_out : (names : Names) (xs : Trees) → AreTexts names xs → AreTexts names (erase_all xs)
texts_out names _ NoText = NoText
texts_out names _ (MoreText x xs h k) =
    MoreText (erase x) (erase_all xs) (kinded_out names x Text h) (texts_out names xs k)

sources_out : (names : Names) (parts : Option Trees) → AreSources names parts
    → AreSources names (erase_from parts)
sources_out names None h = tt
sources_out names (Some parts) h = texts_out names parts h

mutual
  good_out : (x : StatementTree) (names last : Names) → IsGood names x last
      → IsGood names (erase_statement x) last
  good_out _ _ _ (Let names at name_at name value kind h e) =
      Let names 0 0 name (erase value) kind (kinded_out names value kind h) e
  good_out _ _ _ (Assign names at name value kind e h) =
      Assign names 0 name (erase value) kind e (kinded_out names value kind h)
  good_out _ _ _ (If names at test first inner h k) = If names 0 (erase test) (erase_statements first) inner (kinded_out names test Int h) (body_out first names inner k)
  good_out _ _ _ (IfElse names at test first second inner other h k l) =
      IfElse names 0 (erase test) (erase_statements first) (erase_statements second) inner other (kinded_out names test Int h) (body_out first names inner k) (body_out second names other l)
  good_out _ _ _ (While names at test body inner h k) = While names 0 (erase test) (erase_statements body) inner (kinded_out names test Int h) (body_out body names inner k)
  good_out _ _ _ (Put names at key value parts kind h k s) =
      Put names 0 (erase key) (erase value) (erase_from parts) kind (kinded_out names key Text h) (kinded_out names value kind k) (sources_out names parts s)
  good_out _ _ _ (Remove names at key parts h s) =
      Remove names 0 (erase key) (erase_from parts) (kinded_out names key Text h) (sources_out names parts s)
  good_out _ _ _ (Fail names at) = Fail names 0
  good_out _ _ _ (Return names at) = Return names 0

  body_out : (xs : StatementTrees) (names last : Names) → AreGood names xs last
      → AreGood names (erase_statements xs) last
  body_out _ _ _ (Done names) = Done names
  body_out _ _ _ (Then names between last x xs h k) = Then names between last (erase_statement x) (erase_statements xs) (good_out x names between h) (body_out xs between last k)

params_out : (params : List Param) (names last : Names) → AreDeclared names params last
    → AreDeclared names (map erase_param params) last
params_out _ _ _ (NoParam names) = NoParam names
params_out _ _ _ (Declares names last param params e h) = Declares names last (erase_param param) (map erase_param params) e (params_out params (with_name names param.name param.kind) last h)

function_out : (function : FunctionTree) → IsGoodFunction function
    → IsGoodFunction (erase_function function)
function_out function g = record {
  params = g.params;
  names_at_end = g.names_at_end;
  are_declared = params_out function.params [] g.params g.are_declared;
  are_good = body_out function.body g.params g.names_at_end g.are_good;
}

functions_out : (used : List (List ℕ)) (functions : List FunctionTree)
    → AreGoodFunctions used functions → AreGoodFunctions used (erase_contract functions)
functions_out _ _ (NoFunction used) = NoFunction used
functions_out _ _ (NextFunction used function functions new good h) = NextFunction used (erase_function function) (erase_contract functions) new (function_out function good) (functions_out _ functions h)

-- ---- restoring offsets

mutual
  kinded_in : (names : Names) (x : Tree) (kind : ValueKind) → IsKinded names (erase x) kind
      → IsKinded names x kind
  kinded_in names (tree.Int at value) _ (Number _ _) = Number at value
  kinded_in names (tree.Text at text) _ (Literal _ _) = Literal at text
  kinded_in names (tree.Name at name) _ (Named _ _ kind e) = Named at name kind e
  kinded_in names (tree.Call at _ args) _ (Called _ builtin _ h) =
      Called at builtin args (all_in names args (params_of builtin) h)
  kinded_in names (tree.Prefix at sign operand) _ (Prefixed _ _ _ h) =
      Prefixed at sign operand (kinded_in names operand Int h)
  kinded_in names (tree.Binary at sign left right) _ (OfNumbers _ _ _ _ e h k) =
      OfNumbers at sign left right e (kinded_in names left Int h) (kinded_in names right Int k)
  kinded_in names (tree.Binary at sign left right) _ (OfTexts _ _ _ _ e h k) =
      OfTexts at sign left right e (kinded_in names left Text h) (kinded_in names right Text k)
  kinded_in names (tree.Binary at sign left right) _ (OfAlike _ _ _ _ kind e h k) =
      OfAlike at sign left right kind e (kinded_in names left kind h) (kinded_in names right kind k)

  all_in : (names : Names) (xs : Trees) (kinds : List ValueKind)
      → AreKinded names (erase_all xs) kinds → AreKinded names xs kinds
  all_in names none _ NoneLeft = NoneLeft
  all_in names (more x xs) _ (OneMore _ _ kind kinds h k) =
      OneMore x xs kind kinds (kinded_in names x kind h) (all_in names xs kinds k)

texts_in : (names : Names) (xs : Trees) → AreTexts names (erase_all xs) → AreTexts names xs
texts_in names none NoText = NoText
texts_in names (more x xs) (MoreText _ _ h k) =
    MoreText x xs (kinded_in names x Text h) (texts_in names xs k)

sources_in : (names : Names) (parts : Option Trees) → AreSources names (erase_from parts)
    → AreSources names parts
sources_in names None h = tt
sources_in names (Some parts) h = texts_in names parts h

mutual
  good_in : (x : StatementTree) (names last : Names) → IsGood names (erase_statement x) last
      → IsGood names x last
  good_in (tree.Let at name_at name value) _ _ (Let names _ _ _ _ kind h e) =
      Let names at name_at name value kind (kinded_in names value kind h) e
  good_in (tree.Assign at name value) _ _ (Assign names _ _ _ kind e h) =
      Assign names at name value kind e (kinded_in names value kind h)
  good_in (tree.If at test first) _ _ (If names _ _ _ inner h k) =
      If names at test first inner (kinded_in names test Int h) (body_in first names inner k)
  good_in (tree.IfElse at test first second) _ _ (IfElse names _ _ _ _ inner other h k l) =
      IfElse names at test first second inner other (kinded_in names test Int h) (body_in first names inner k) (body_in second names other l)
  good_in (tree.While at test body) _ _ (While names _ _ _ inner h k) =
      While names at test body inner (kinded_in names test Int h) (body_in body names inner k)
  good_in (tree.Put at key value parts) _ _ (Put names _ _ _ _ kind h k s) = Put names at key value parts kind (kinded_in names key Text h) (kinded_in names value kind k) (sources_in names parts s)
  good_in (tree.Remove at key parts) _ _ (Remove names _ _ _ h s) =
      Remove names at key parts (kinded_in names key Text h) (sources_in names parts s)
  good_in (tree.Fail at) _ _ (Fail names _) = Fail names at
  good_in (tree.Return at) _ _ (Return names _) = Return names at

  body_in : (xs : StatementTrees) (names last : Names) → AreGood names (erase_statements xs) last
      → AreGood names xs last
  body_in no_statement _ _ (Done names) = Done names
  body_in (statements x xs) _ _ (Then names between last _ _ h k) =
      Then names between last x xs (good_in x names between h) (body_in xs between last k)

params_in : (params : List Param) (names last : Names)
    → AreDeclared names (map erase_param params) last → AreDeclared names params last
params_in [] _ _ (NoParam names) = NoParam names
params_in (param ∷ params) _ _ (Declares names last _ _ e h) = Declares names last param params e (params_in params (with_name names param.name param.kind) last h)

function_in : (function : FunctionTree) → IsGoodFunction (erase_function function)
    → IsGoodFunction function
function_in function g = record {
  params = g.params;
  names_at_end = g.names_at_end;
  are_declared = params_in function.params [] g.params g.are_declared;
  are_good = body_in function.body g.params g.names_at_end g.are_good;
}

functions_in : (used : List (List ℕ)) (functions : List FunctionTree)
    → AreGoodFunctions used (erase_contract functions) → AreGoodFunctions used functions
functions_in _ [] (NoFunction used) = NoFunction used
functions_in _ (function ∷ functions) (NextFunction used _ _ new good h) = NextFunction used function functions new (function_in function good) (functions_in _ functions h)

moved : (a b : List FunctionTree) → erase_contract a ≡ erase_contract b → WellKinded a
    → WellKinded b
moved a b e h = functions_in [] b (subst (λ l. AreGoodFunctions [] l) e (functions_out [] a h))

pub kinded_anywhere : (all : List FunctionTree) → IsKindedAnywhere all
kinded_anywhere all = λ other e. (moved all other (sym e), moved other all e)
