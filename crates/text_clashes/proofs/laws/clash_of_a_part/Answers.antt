use Rattle.text_clashes.proofs.PartClash.{part_clashes}
use Rattle.text_clashes.proofs.laws.clash_of_a_part.Goals as goal

pub returns : goal.returns
returns c = part_clashes
