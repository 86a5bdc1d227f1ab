use Rattle.range_verifier.proofs.Faults.{few_by, shown_fails, shown_passes}
use Rattle.range_verifier.proofs.checks.fault_in.Goals as goal

pub returns-in-Some : goal.returns-in-Some
returns-in-Some c =
    shown_fails c.args.range.now c.args.root.now.0 c.in-Some.fault c.as_range_reject.result
    c.in-Some.ensures c.as_range_reject.ensures

pub bodies_fault-requires : goal.bodies_fault-requires
bodies_fault-requires c = few_by c.args.range.now c.of.result c.of.ensures c.requires

pub returns : goal.returns
returns c =
    shown_passes c.args.range.now c.args.root.now.0 c.of.result c.bodies_fault.result
    c.requires c.in_default.ensures c.of.ensures c.bodies_fault.ensures
