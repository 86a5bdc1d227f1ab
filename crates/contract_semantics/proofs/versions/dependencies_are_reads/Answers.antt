use Rattle.contract_semantics.proofs.TheLaws.{dependencies_are_reads}
use Rattle.contract_semantics.proofs.versions.dependencies_are_reads.Goals as goal

pub returns : goal.returns
returns c = dependencies_are_reads
