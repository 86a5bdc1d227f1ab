use Rattle.contract_semantics.proofs.TheLaws.{dependencies_are_newest_rows}
use Rattle.contract_semantics.proofs.versions.dependencies_are_newest_rows.Goals as goal

pub returns : goal.returns
returns c = dependencies_are_newest_rows
