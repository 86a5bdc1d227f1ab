use Rattle.std.proofs.Common.{arith, ◌-◌}
use Rattle.std.proofs.lemmas.Nat.{one_shl}
use Rattle.state_tree.proofs.whole.half_of.Goals as goal

pub returns : goal.returns
returns c = one_shl (c.args.height - 1) 32 (omega arith)
