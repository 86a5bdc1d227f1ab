use Rattle.chain_exec.proofs.TheLaws.{one_compiler}
use Rattle.chain_exec.proofs.laws.one_compiler.Goals as goal

pub returns : goal.returns
returns c = one_compiler
