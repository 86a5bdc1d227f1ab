-- A contract has no fault exactly if it is well kinded.
use Rattle.std.proofs.Common.{◌≡◌, ℕ, Bool, true, false, cond, ◌==◌, List, [], ◌∷◌, ◌++◌, Option, Some, None, Result, Ok, Err, sym, ap, subst, refl, ◌∙◌}
use Rattle.std.specs.Prelude.{IfSome}
use Rattle.std.specs.List.{list_any}
use Rattle.std.specs.Cmp.Lexicographic.{pointwise}
use Rattle.std.proofs.lemmas.Bool.{or_parts, or_from, false_from_ne_true}
use Rattle.std.proofs.lemmas.Slice.Eq.{bytes_eq-Decides}
use Rattle.contract_tree.specs.declared.tree.ValueKind.{ValueKind}
use Rattle.contract_tree.specs.declared.tree.ValueKind.TheVariants.{Int, Text}
use Rattle.contract_tree.specs.declared.tree.Param.{Param}
use Rattle.contract_tree.specs.Tree.{Tree, Trees, none, more, StatementTree, StatementTrees, no_statement, statements, FunctionTree}
use Rattle.contract_tree.specs.Tree as tree
use Rattle.contract_check.specs.declared.fault.Fault.{Fault}
use Rattle.contract_check.specs.declared.fault.CheckError.{CheckError}
use Rattle.contract_check.specs.declared.fault.CheckError.TheVariants as errors
use Rattle.contract_check.specs.declared.expression.KindAt.{KindAt}
use Rattle.contract_check.specs.Names.{Names, kind_in}
use Rattle.contract_check.specs.WellKinded.{with_name, IsKinded, AreTexts, NoText, MoreText, AreSources, IsGood, Let, Assign, If, IfElse, While, Put, Remove, Fail, Return, AreGood, Done, Then, AreDeclared, NoParam, Declares, IsGoodFunction, IsNew, AreGoodFunctions, NoFunction, NextFunction, WellKinded}
use Rattle.contract_check.specs.Faults.{fault_of, unless_fault, and_then, kind_at, require_kind, expression_kind, expression_of_kind, text_expressions, source_expressions, with_new_name, names_after_declaration, names_after_assignment, names_after_block, names_after_statement, names_after_statements, names_after_params, names_after_function, used_after_name, used_after_functions, fault_in, check_fault}
use Rattle.contract_check.proofs.Scopes.{and_then_ok, left_is, assigned_is, sources_is}
use Rattle.contract_check.proofs.KindLaws.{require_kind_is, require_kind_good, expression_kind_sound, expression_kind_complete}

-- ---- parts of statements

must_sound : (wanted : ValueKind) (names : Names) (x : Tree) (f : KindAt)
    → expression_of_kind wanted names x ≡ Ok f → IsKinded names x wanted
must_sound wanted names x f e =
    let p = and_then_ok (expression_kind names x) (require_kind wanted) f e in
    let P : ValueKind → Type 0 = λ kind. IsKinded names x kind in
    subst P (require_kind_is wanted p.value f p.second).0 (expression_kind_sound names x p.value p.first)

must_complete : (wanted : ValueKind) (names : Names) (x : Tree) → IsKinded names x wanted
    → (at : ℕ) × (expression_of_kind wanted names x ≡ Ok (kind_at at wanted))
must_complete wanted names x h =
    let f = expression_kind_complete names x wanted h in
    (f.at, ap (λ r. and_then r (require_kind wanted)) f.is ∙ require_kind_good wanted (kind_at f.at wanted) refl)

texts_sound : (names : Names) (xs : Trees) (left : Names) → text_expressions names xs ≡ Ok left
    → AreTexts names xs
texts_sound names none left e = NoText
texts_sound names (more x xs) left e =
    let p = and_then_ok (expression_of_kind Text names x) (λ _. text_expressions names xs) left e in
    MoreText x xs (must_sound Text names x p.value p.first) (texts_sound names xs left p.second)

texts_complete : (names : Names) (xs : Trees) → AreTexts names xs
    → text_expressions names xs ≡ Ok names
texts_complete names _ NoText = refl
texts_complete names _ (MoreText x xs h k) =
    let m = must_complete Text names x h in
    ap (λ r. and_then r (λ _. text_expressions names xs)) m.1 ∙ texts_complete names xs k

sources_sound : (names : Names) (parts : Option Trees) (left : Names)
    → source_expressions names parts ≡ Ok left → AreSources names parts
sources_sound names None left e = tt
sources_sound names (Some parts) left e = texts_sound names parts left e

sources_complete : (names : Names) (parts : Option Trees) → AreSources names parts
    → source_expressions names parts ≡ Ok names
sources_complete names None h = refl
sources_complete names (Some parts) h = texts_complete names parts h

visible_is : (o : Option ValueKind) (names : Names) (at : ℕ) (name : List ℕ) (kind : ValueKind) (left : Names) → with_new_name o names at name kind ≡ Ok left → (o ≡ None) × (left ≡ with_name names name kind)
visible_is None names at name kind left e =
    (refl, (let f : with_name names name kind ≡ left = cc in sym f))
visible_is (Some other) names at name kind left e = cc

declared_good : (names : Names) (at : ℕ) (name : List ℕ) (kind : ValueKind)
    → kind_in names name ≡ None
    → names_after_declaration names at name kind ≡ Ok (with_name names name kind)
declared_good names at name kind e = ap (λ o. with_new_name o names at name kind) e

-- what an assignment without a fault says
assign_sound : (names : Names) (at : ℕ) (name : List ℕ) (value : Tree) (f : KindAt) (left : Names)
    → IsKinded names value f.kind → (o : Option ValueKind) → kind_in names name ≡ o
    → names_after_assignment o names at f ≡ Ok left → IsGood names (tree.Assign at name value) names
assign_sound names at name value f left h None is e = cc
assign_sound names at name value f left h (Some kind) is e =
    let p = and_then_ok (require_kind kind f) (λ _. Ok names) left e in
    let P : ValueKind → Type 0 = λ k. IsKinded names value k in
    Assign names at name value kind is (subst P (require_kind_is kind f p.value p.first).0 h)

-- the inside of a block without a fault
record IsBlock (names : Names) (body : StatementTrees) : Type 0 where
  inner : Names
  is : names_after_statements names body ≡ Ok inner

block_is : (names : Names) (body : StatementTrees) (r : Result Names Fault) (left : Names)
    → names_after_statements names body ≡ r → names_after_block names r ≡ Ok left
    → IsBlock names body
block_is names body (Ok inner) left e h = record { inner = inner; is = e }
block_is names body (Err fault) left e h = cc

-- ---- statements, both ways

abbrev Good : Names → StatementTree → Names → Type 0
Good names x left = IsGood names x left

mutual
  pub after_sound : (x : StatementTree) (names left : Names)
      → names_after_statement names x ≡ Ok left → IsGood names x left
  after_sound (tree.Let at name_at name value) names left e =
      let p = and_then_ok (expression_kind names value) (λ value. names_after_declaration names name_at name value.kind) left e in
      let v = visible_is (kind_in names name) names name_at name p.value.kind left p.second in
      subst (Good names (tree.Let at name_at name value)) (sym v.1) (Let names at name_at name value p.value.kind (expression_kind_sound names value p.value p.first) v.0)
  after_sound (tree.Assign at name value) names left e =
      let p = and_then_ok (expression_kind names value) (λ value. names_after_assignment (kind_in names name) names at value) left e in
      subst (Good names (tree.Assign at name value)) (sym (assigned_is (kind_in names name) names at p.value left p.second))
      (assign_sound names at name value p.value left (expression_kind_sound names value p.value p.first) (kind_in names name) refl p.second)
  after_sound (tree.If at test first) names left e =
      let p = and_then_ok (expression_of_kind Int names test) (λ _. names_after_block names (names_after_statements names first)) left e in
      let i = block_is names first (names_after_statements names first) left refl p.second in
      subst (Good names (tree.If at test first)) (sym (left_is names (names_after_statements names first) left p.second))
      (If names at test first i.inner (must_sound Int names test p.value p.first) (all_sound first names i.inner i.is))
  after_sound (tree.IfElse at test first second) names left e =
      let p = and_then_ok (expression_of_kind Int names test) (λ _. and_then (names_after_block names (names_after_statements names first)) (λ _. names_after_block names (names_after_statements names second))) left e in
      let q = and_then_ok (names_after_block names (names_after_statements names first)) (λ _. names_after_block names (names_after_statements names second)) left p.second in
      let i = block_is names first (names_after_statements names first) q.value refl q.first in
      let j = block_is names second (names_after_statements names second) left refl q.second in
      subst (Good names (tree.IfElse at test first second)) (sym (left_is names (names_after_statements names second) left q.second))
      (IfElse names at test first second i.inner j.inner (must_sound Int names test p.value p.first) (all_sound first names i.inner i.is) (all_sound second names j.inner j.is))
  after_sound (tree.While at test body) names left e =
      let p = and_then_ok (expression_of_kind Int names test) (λ _. names_after_block names (names_after_statements names body)) left e in
      let i = block_is names body (names_after_statements names body) left refl p.second in
      subst (Good names (tree.While at test body)) (sym (left_is names (names_after_statements names body) left p.second))
      (While names at test body i.inner (must_sound Int names test p.value p.first) (all_sound body names i.inner i.is))
  after_sound (tree.Put at key value parts) names left e =
      let p = and_then_ok (expression_of_kind Text names key) (λ _. and_then (expression_kind names value) (λ _. source_expressions names parts)) left e in
      let q = and_then_ok (expression_kind names value) (λ _. source_expressions names parts) left p.second in
      subst (Good names (tree.Put at key value parts)) (sym (sources_is parts names left q.second))
      (Put names at key value parts q.value.kind (must_sound Text names key p.value p.first) (expression_kind_sound names value q.value q.first) (sources_sound names parts left q.second))
  after_sound (tree.Remove at key parts) names left e =
      let p = and_then_ok (expression_of_kind Text names key) (λ _. source_expressions names parts) left e in
      subst (Good names (tree.Remove at key parts)) (sym (sources_is parts names left p.second))
      (Remove names at key parts (must_sound Text names key p.value p.first) (sources_sound names parts left p.second))
  after_sound (tree.Fail at) names left e =
      (let f : names ≡ left = cc in subst (Good names (tree.Fail at)) f (Fail names at))
  after_sound (tree.Return at) names left e =
      (let f : names ≡ left = cc in subst (Good names (tree.Return at)) f (Return names at))

  pub all_sound : (xs : StatementTrees) (names left : Names)
      → names_after_statements names xs ≡ Ok left → AreGood names xs left
  all_sound no_statement names left e = (let f : names ≡ left = cc in let P : Names → Type 0 = λ n. AreGood names no_statement n in subst P f (Done names))
  all_sound (statements x xs) names left e =
      let p = and_then_ok (names_after_statement names x) (λ names. names_after_statements names xs) left e in
      Then names p.value left x xs (after_sound x names p.value p.first) (all_sound xs p.value left p.second)

mutual
  pub after_complete : (x : StatementTree) (names left : Names) → IsGood names x left
      → names_after_statement names x ≡ Ok left
  after_complete _ _ _ (Let names at name_at name value kind h e) =
      let f = expression_kind_complete names value kind h in
      ap (λ r. and_then r (λ value. names_after_declaration names name_at name value.kind)) f.is ∙ declared_good names name_at name kind e
  after_complete _ _ _ (Assign names at name value kind e h) =
      let f = expression_kind_complete names value kind h in
      ap (λ r. and_then r (λ value. names_after_assignment (kind_in names name) names at value)) f.is ∙ ap (λ o. names_after_assignment o names at (kind_at f.at kind)) e ∙ ap (λ r. and_then r (λ _. Ok names)) (require_kind_good kind (kind_at f.at kind) refl)
  after_complete _ _ _ (If names at test first inner h k) =
      let m = must_complete Int names test h in
      ap (λ r. and_then r (λ _. names_after_block names (names_after_statements names first))) m.1 ∙ ap (names_after_block names) (all_complete first names inner k)
  after_complete _ _ _ (IfElse names at test first second inner other h k l) =
      let m = must_complete Int names test h in
      ap (λ r. and_then r (λ _. and_then (names_after_block names (names_after_statements names first)) (λ _. names_after_block names (names_after_statements names second)))) m.1
      ∙ ap (λ r. and_then (names_after_block names r) (λ _. names_after_block names (names_after_statements names second))) (all_complete first names inner k)
      ∙ ap (names_after_block names) (all_complete second names other l)
  after_complete _ _ _ (While names at test body inner h k) =
      let m = must_complete Int names test h in
      ap (λ r. and_then r (λ _. names_after_block names (names_after_statements names body))) m.1 ∙ ap (names_after_block names) (all_complete body names inner k)
  after_complete _ _ _ (Put names at key value parts kind h k s) =
      let m = must_complete Text names key h in
      let f = expression_kind_complete names value kind k in
      ap (λ r. and_then r (λ _. and_then (expression_kind names value) (λ _. source_expressions names parts))) m.1 ∙ ap (λ r. and_then r (λ _. source_expressions names parts)) f.is ∙ sources_complete names parts s
  after_complete _ _ _ (Remove names at key parts h s) =
      let m = must_complete Text names key h in
      ap (λ r. and_then r (λ _. source_expressions names parts)) m.1 ∙ sources_complete names parts s
  after_complete _ _ _ (Fail names at) = refl
  after_complete _ _ _ (Return names at) = refl

  pub all_complete : (xs : StatementTrees) (names left : Names) → AreGood names xs left
      → names_after_statements names xs ≡ Ok left
  all_complete _ _ _ (Done names) = refl
  all_complete _ _ _ (Then names between left x xs h k) =
      ap (λ r. and_then r (λ names. names_after_statements names xs)) (after_complete x names between h) ∙ all_complete xs between left k

-- ---- functions, both ways

params_sound : (params : List Param) (names left : Names)
    → names_after_params names params ≡ Ok left → AreDeclared names params left
params_sound [] names left e = (let f : names ≡ left = cc in let P : Names → Type 0 = λ n. AreDeclared names [] n in subst P f (NoParam names))
params_sound (param ∷ params) names left e =
    let p = and_then_ok (names_after_declaration names param.at param.name param.kind) (λ names. names_after_params names params) left e in
    let v = visible_is (kind_in names param.name) names param.at param.name param.kind p.value p.first in
    let P : Names → Type 0 = λ n. names_after_params n params ≡ Ok left in
    Declares names left param params v.0 (params_sound params (with_name names param.name param.kind) left (subst P v.1 p.second))

params_complete : (params : List Param) (names left : Names) → AreDeclared names params left
    → names_after_params names params ≡ Ok left
params_complete _ _ _ (NoParam names) = refl
params_complete _ _ _ (Declares names left param params e h) =
    ap (λ r. and_then r (λ names. names_after_params names params)) (declared_good names param.at param.name param.kind e) ∙ params_complete params (with_name names param.name param.kind) left h

function_sound : (function : FunctionTree) (left : Names) → names_after_function function ≡ Ok left
    → IsGoodFunction function
function_sound function left e =
    let p = and_then_ok (names_after_params [] function.params) (λ names. names_after_statements names function.body) left e in
    record { params = p.value; names_at_end = left; are_declared = params_sound function.params [] p.value p.first; are_good = all_sound function.body p.value left p.second }

function_complete : (function : FunctionTree) → (g : IsGoodFunction function)
    → names_after_function function ≡ Ok g.names_at_end
function_complete function g =
    ap (λ r. and_then r (λ names. names_after_statements names function.body)) (params_complete function.params [] g.params g.are_declared) ∙ all_complete function.body g.params g.names_at_end g.are_good

new_sound : (name : List ℕ) (used : List (List ℕ)) → list_any (pointwise ◌==◌ name) used ≡ false
    → IsNew name used
new_sound name [] e = tt
new_sound name (other ∷ others) e =
    let p = or_parts (pointwise ◌==◌ name other) (list_any (pointwise ◌==◌ name) others) e in
    ((λ same. let f = (bytes_eq-Decides name other).1 (sym same) in let g = p.0 in cc), new_sound name others p.1)

new_complete : (name : List ℕ) (used : List (List ℕ)) → IsNew name used
    → list_any (pointwise ◌==◌ name) used ≡ false
new_complete name [] h = refl
new_complete name (other ∷ others) h =
    or_from (pointwise ◌==◌ name other) (list_any (pointwise ◌==◌ name) others) (false_from_ne_true (pointwise ◌==◌ name other) (λ e. h.0 (sym ((bytes_eq-Decides name other).0 e)))) (new_complete name others h.1)

-- a name that was taken before, or is new
again_is : (t : Bool) (fault : Fault) (next left : List (List ℕ))
    → cond t (Err fault) (Ok next) ≡ Ok left → (t ≡ false) × (left ≡ next)
again_is true fault next left e = cc
again_is false fault next left e = (refl, (let f : next ≡ left = cc in sym f))

functions_sound : (functions : List FunctionTree) (used left : List (List ℕ))
    → used_after_functions used functions ≡ Ok left → AreGoodFunctions used functions
functions_sound [] used left e = NoFunction used
functions_sound (function ∷ functions) used left e =
    let p = and_then_ok (used_after_name used function) (λ used. and_then (names_after_function function) (λ _. used_after_functions used functions)) left e in
    let q = and_then_ok (names_after_function function) (λ _. used_after_functions p.value functions) left p.second in
    let n = again_is (list_any (pointwise ◌==◌ function.name) used) _ (used ++ function.name ∷ []) p.value p.first in
    let P : List (List ℕ) → Type 0 = λ l. used_after_functions l functions ≡ Ok left in
    NextFunction used function functions (new_sound function.name used n.0) (function_sound function q.value q.first) (functions_sound functions (used ++ function.name ∷ []) left (subst P n.1 q.second))

functions_complete : (functions : List FunctionTree) (used : List (List ℕ))
    → AreGoodFunctions used functions
    → (left : List (List ℕ)) × (used_after_functions used functions ≡ Ok left)
functions_complete _ _ (NoFunction used) = (used, refl)
functions_complete _ _ (NextFunction used function functions new good h) =
    let rest = functions_complete functions (used ++ function.name ∷ []) h in
    let named : used_after_name used function ≡ Ok (used ++ function.name ∷ []) = rw (new_complete function.name used new) refl in
    (rest.0, ap (λ r. and_then r (λ used. and_then (names_after_function function) (λ _. used_after_functions used functions))) named ∙ ap (λ r. and_then r (λ _. used_after_functions (used ++ function.name ∷ []) functions)) (function_complete function good) ∙ rest.1)

-- ---- contracts

no_fault : {A : Type 0} (r : Result A Fault) → fault_in r ≡ None → (a : A) × (r ≡ Ok a)
no_fault (Ok a) e = (a, refl)
no_fault (Err fault) e = cc

pub well_kinded : (functions : List FunctionTree) → check_fault functions ≡ None
    → WellKinded functions
unfolding check_fault
well_kinded functions e =
    let p = no_fault (used_after_functions [] functions) e in functions_sound functions [] p.0 p.1

pub no_check_fault : (functions : List FunctionTree) → WellKinded functions
    → check_fault functions ≡ None
unfolding check_fault
no_check_fault functions h = ap fault_in (functions_complete functions [] h).1

-- the check of a well kinded contract can only fail by running out of memory
pub only_memory : (functions : List FunctionTree) (error : CheckError) → IfSome (fault_of error) (λ fault. unless_fault {A = Unit {0}} tt (check_fault functions) ≡ Err fault) → WellKinded functions → error ≡ errors.Memory
only_memory functions (errors.Refused at what) h good =
    let e : ◌≡◌ {A = Result (Unit {0}) Fault} (Ok tt) (Err (record { at = at; kind = what })) = ap (unless_fault tt) (sym (no_check_fault functions good)) ∙ h in
    absurd (cc)
only_memory functions errors.Memory h good = refl

-- what is returned has no fault
pub unless_none : {A : Type 0} (a b : A) (fault : Option Fault) → unless_fault a fault ≡ Ok b
    → fault ≡ None
unless_none a b None e = refl
unless_none a b (Some fault) e = absurd (cc)
