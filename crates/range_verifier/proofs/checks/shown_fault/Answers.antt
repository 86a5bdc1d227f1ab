use Rattle.range_verifier.proofs.Faults.{leaf_fails}
use Rattle.range_verifier.proofs.checks.shown_fault.Goals as goal

pub returns-in-Some : goal.returns-in-Some
returns-in-Some c =
    leaf_fails c.args.range.now c.args.root.now.0 c.key.result.now c.leaf_proof.result.now
    c.in-Some.fault c.key.ensures c.leaf_proof.ensures c.in-Some.ensures
