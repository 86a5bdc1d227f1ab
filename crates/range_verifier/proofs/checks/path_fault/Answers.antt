use Rattle.std.proofs.Common.{◌∙◌, ap, ap₂}
use Rattle.proof_codec.specs.declared.proof.LeafProof.{LeafProof}
use Rattle.proof_verifier.specs.proof_checks.Checks.{expected_first}
use Rattle.range_verifier.proofs.Faults.{path_by}
use Rattle.range_verifier.proofs.checks.path_fault.Goals as goal

pub returns : goal.returns
returns c =
    let leaf_is = c.leaf-leaf.ensures
    ∙ ap (λ (leaf_proof : LeafProof). leaf_proof.leaf) c.leaf_proof.ensures in
    c.err.ensures.value
    ∙ path_by c.args.range.now c.key-2.result.now c.from.result c.to.result
    c.expected_first-first.result c.claim_of_leaf-claim.result c.headers.result c.walk.result
    c.key-2.ensures c.from.ensures c.to.ensures
    (c.expected_first-first.ensures ∙ ap₂ expected_first c.key.ensures leaf_is)
    c.headers.ensures c.walk.ensures
