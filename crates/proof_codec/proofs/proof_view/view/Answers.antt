use Rattle.std.proofs.Common.{arith}
use Rattle.proof_codec.proofs.Viewed.{found_this, only_this, fault_this}
use Rattle.proof_codec.proofs.proof_view.view.Goals as goal

pub returns-clause-found : goal.returns-clause-found
returns-clause-found c = found_this c.args.bytes.now c.proof_in.result (λ i. omega (arith, c.type_inv.bytes i)) c.proof_in.ensures

pub returns-clause-only : goal.returns-clause-only
returns-clause-only c = λ proof is. only_this c.args.bytes.now c.proof_in.result c.proof_in.ensures proof is

pub returns-clause-fault : goal.returns-clause-fault
returns-clause-fault c = fault_this c.args.bytes.now c.proof_in.result (λ i. omega (arith, c.type_inv.bytes i)) c.proof_in.ensures
