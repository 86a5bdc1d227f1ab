use Rattle.range_proof.proofs.Leafed.{leaf_made}
use Rattle.range_proof.proofs.leaf.leaf_proof_of.Goals as goal

pub returns : goal.returns
returns c =
    leaf_made c.args.lineage.now.rows c.args.asked.now.root_at c.args.asked.now.key
    c.args.asked.now.block_digest c.tree-tree.result.now c.count.result
    c.covering-leaf_index.result c.leaf.result c.in_ok-audit.audit
    c.row_count-rows.ensures.typed.history c.as_bytes-key.ensures.is_key c.tree-tree.ensures
    c.count.ensures.count c.covering-leaf_index.ensures.covers c.leaf.ensures
    c.in_ok-audit.ensures
