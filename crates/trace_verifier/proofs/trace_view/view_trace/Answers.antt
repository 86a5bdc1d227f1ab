use Rattle.std.proofs.Common.{arith}
use Rattle.byte_fields.specs.Spelling.{IsBytes}
use Rattle.trace_verifier.proofs.Malformed.{fault_this}
use Rattle.trace_verifier.proofs.Viewed.{found_this, only_this}
use Rattle.trace_verifier.proofs.trace_view.view_trace.Goals as goal

pub returns-clause-found : goal.returns-clause-found
returns-clause-found c =
    let fits : IsBytes c.args.bytes.now = λ i. omega (arith, c.type_inv.bytes i) in
    found_this c.args.bytes.now c.trace_in.result fits c.trace_in.ensures

pub returns-clause-only : goal.returns-clause-only
returns-clause-only c =
    λ trace is. only_this c.args.bytes.now c.trace_in.result c.trace_in.ensures trace is

pub returns-clause-fault : goal.returns-clause-fault
returns-clause-fault c =
    let fits : IsBytes c.args.bytes.now = λ i. omega (arith, c.type_inv.bytes i) in
    fault_this c.args.bytes.now c.trace_in.result fits c.trace_in.ensures
