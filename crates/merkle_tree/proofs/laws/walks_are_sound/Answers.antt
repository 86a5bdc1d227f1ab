use Rattle.merkle_tree.proofs.Chained.{walk_sound}
use Rattle.merkle_tree.proofs.laws.walks_are_sound.Goals as goal

pub returns : goal.returns
returns c = walk_sound
