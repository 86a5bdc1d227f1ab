use Rattle.contract_tree.specs.Tree.{contract_of}
use Rattle.contract_check.specs.Faults.{check_fault}
use Rattle.contract_check.proofs.StatementLaws.{well_kinded, only_memory, unless_none}
use Rattle.contract_check.proofs.WithoutOffsets.{kinded_anywhere}
use Rattle.contract_check.proofs.contract.check.Goals as goal

pub returns-in-Ok-clause-well_kinded : goal.returns-in-Ok-clause-well_kinded
returns-in-Ok-clause-well_kinded c = well_kinded (contract_of c.args.contract) (unless_none _ _ (check_fault (contract_of c.args.contract)) c.in-Ok.ensures)

pub returns-in-Ok-clause-offsets : goal.returns-in-Ok-clause-offsets
returns-in-Ok-clause-offsets c = kinded_anywhere (contract_of c.args.contract)

pub returns-in-Err-clause-offsets : goal.returns-in-Err-clause-offsets
returns-in-Err-clause-offsets c = kinded_anywhere (contract_of c.args.contract)

pub returns-in-Err-clause-only : goal.returns-in-Err-clause-only
returns-in-Err-clause-only c = only_memory (contract_of c.args.contract) c.in-Err.error c.in-Err.ensures
