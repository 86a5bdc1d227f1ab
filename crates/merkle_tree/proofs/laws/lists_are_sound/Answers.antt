use Rattle.merkle_tree.proofs.Chained.{list_sound}
use Rattle.merkle_tree.proofs.laws.lists_are_sound.Goals as goal

pub returns : goal.returns
returns g c = list_sound
