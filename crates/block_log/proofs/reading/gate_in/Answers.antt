use Rattle.std.proofs.Common.{arith}
use Rattle.std.proofs.lemmas.Grind.{common_steps}
use Rattle.block_log.specs.Reading.{gate_of}
use Rattle.block_log.proofs.reading.gate_in.Goals as goal

pub returns-in_default : goal.returns-in_default
unfolding gate_of
returns-in_default c = grind (arith, common_steps)
