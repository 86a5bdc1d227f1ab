use Rattle.merkle_tree.proofs.TheLaws.{paths_are_sound, paths_are_sound_or_clash}
use Rattle.merkle_tree.proofs.laws.paths_are_sound.Goals as goal

pub returns-clause-sound : goal.returns-clause-sound
returns-clause-sound c = paths_are_sound

pub returns-clause-sound_or_clash : goal.returns-clause-sound_or_clash
returns-clause-sound_or_clash c = paths_are_sound_or_clash
