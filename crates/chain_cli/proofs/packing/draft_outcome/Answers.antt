use Rattle.chain_cli.proofs.Packs.{fault_wanted}
use Rattle.chain_cli.proofs.packing.draft_outcome.Goals as goal

pub returns-in-Err : goal.returns-in-Err
returns-in-Err c =
    let packed = rw c.version_number.ensures.number at c.in-Err.ensures.packed in
    fault_wanted c.refusal_outcome.result c.in-Err.error _ packed c.refusal_outcome.ensures
