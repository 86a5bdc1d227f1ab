use Rattle.contract_semantics.proofs.TheLaws.{reads_are_only_added}
use Rattle.contract_semantics.proofs.versions.reads_are_only_added.Goals as goal

pub returns : goal.returns
returns c = reads_are_only_added
