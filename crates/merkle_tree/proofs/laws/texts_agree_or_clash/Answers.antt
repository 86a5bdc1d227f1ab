use Rattle.merkle_tree.proofs.Agreeing.{agree_or_clash}
use Rattle.merkle_tree.proofs.laws.texts_agree_or_clash.Goals as goal

pub returns-clause-either : goal.returns-clause-either
returns-clause-either c = agree_or_clash
