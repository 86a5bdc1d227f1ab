use Rattle.contract_tree.specs.Tree.{contract_of}
use Rattle.contract_check.proofs.StatementLaws.{well_kinded}
use Rattle.contract_check.proofs.contract.Checked.contract.Goals as goal

pub returns-clause-well_kinded : goal.returns-clause-well_kinded
returns-clause-well_kinded c = well_kinded (contract_of c.self.inside.contract) c.self.invariant
