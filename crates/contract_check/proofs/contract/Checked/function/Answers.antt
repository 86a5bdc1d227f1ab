use Rattle.std.proofs.Common.{◌∙◌, [], Option, sym, ap, subst}
use Rattle.std.specs.Prelude.{find, IfSome}
use Rattle.contract_tree.specs.declared.tree.Function.{Function}
use Rattle.contract_tree.specs.Tree.{function_of, contract_of}
use Rattle.contract_check.specs.Functions.{is_called}
use Rattle.contract_check.specs.WellKinded.{IsGoodFunction}
use Rattle.contract_check.proofs.StatementLaws.{well_kinded}
use Rattle.contract_check.proofs.NamedFunctions.{good_if_found}
use Rattle.contract_check.proofs.contract.Checked.function.Goals as goal

pub returns-clause-good : goal.returns-clause-good
returns-clause-good c =
    let P : Option Function → Type 0 = λ found. IfSome found (λ function. IsGoodFunction (function_of function)) in
    let good = good_if_found (is_called c.args.name.now) [] c.self.inside.contract.functions.items (well_kinded (contract_of c.self.inside.contract) c.self.invariant) in
    subst P (sym (c.function_named.ensures ∙ ap (find (is_called c.args.name.now)) c.deref.ensures.value)) good
