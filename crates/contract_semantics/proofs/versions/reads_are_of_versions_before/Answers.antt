use Rattle.contract_semantics.proofs.TheLaws.{reads_are_of_versions_before}
use Rattle.contract_semantics.proofs.versions.reads_are_of_versions_before.Goals as goal

pub returns : goal.returns
returns c = reads_are_of_versions_before
