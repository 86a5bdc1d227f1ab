use Rattle.std.proofs.Common.{arith}
use Rattle.byte_fields.specs.Spelling.{IsBytes}
use Rattle.range_verifier.proofs.Viewed.{found_this, only_this, fault_this}
use Rattle.range_verifier.proofs.range_view.view_range.Goals as goal

pub returns-clause-found : goal.returns-clause-found
returns-clause-found c =
    let fits : IsBytes c.args.bytes.now = λ i. omega (arith, c.type_inv.bytes i) in
    found_this c.args.bytes.now c.range_in.result fits c.range_in.ensures

pub returns-clause-only : goal.returns-clause-only
returns-clause-only c =
    λ range is. only_this c.args.bytes.now c.range_in.result c.range_in.ensures range is

pub returns-clause-fault : goal.returns-clause-fault
returns-clause-fault c =
    let fits : IsBytes c.args.bytes.now = λ i. omega (arith, c.type_inv.bytes i) in
    fault_this c.args.bytes.now c.range_in.result fits c.range_in.ensures
