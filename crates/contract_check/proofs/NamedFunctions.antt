-- Each function of a well kinded contract is good.
use Rattle.std.proofs.Common.{ℕ, Bool, true, false, cond, List, [], ◌∷◌, map, Option, Some}
use Rattle.std.specs.Prelude.{find, IfSome}
use Rattle.contract_tree.specs.declared.tree.Function.{Function}
use Rattle.contract_tree.specs.Tree.{function_of}
use Rattle.contract_check.specs.WellKinded.{IsGoodFunction, AreGoodFunctions, NextFunction}

abbrev IsGoodIf : Option Function → Type 0
IsGoodIf found = IfSome found (λ function. IsGoodFunction (function_of function))

pub good_if_found : (test : Function → Bool) (used : List (List ℕ)) (functions : List Function) → AreGoodFunctions used (map function_of functions) → IsGoodIf (find test functions)
good_if_found test used [] h = tt
good_if_found test _ (function ∷ functions) (NextFunction used _ _ new good h) =
    elim (test function) as (λ b. IsGoodIf (cond b (Some function) (find test functions))) [
      | true ↦ good
      | false ↦ good_if_found test _ functions h
    ]
