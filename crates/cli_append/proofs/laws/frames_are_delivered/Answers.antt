use Rattle.cli_append.proofs.Delivered.{frames_delivered}
use Rattle.cli_append.proofs.laws.frames_are_delivered.Goals as goal

pub returns : goal.returns
returns c = frames_delivered
