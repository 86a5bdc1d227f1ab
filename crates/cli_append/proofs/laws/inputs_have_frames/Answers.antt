use Rattle.cli_append.proofs.Delivered.{have_frames}
use Rattle.cli_append.proofs.laws.inputs_have_frames.Goals as goal

pub returns : goal.returns
returns c = have_frames
