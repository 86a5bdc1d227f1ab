use Rattle.answer_proof.proofs.Gathered.{gathered, gathered_always, gathered_lawful}
use Rattle.answer_proof.proofs.gathering.proof_with.Goals as goal

pub returns-clause-made : goal.returns-clause-made
returns-clause-made g c is =
    gathered c.args.lineage.now.rows c.args.asked.now.root_at c.args.asked.now.block_digest c.args.asked.now.query c.tree-tree.result.now c.count.result c.covering-leaf_index.result c.leaf.result c.in_ok-audit.audit
    c.in_ok-headers.headers c.args.answer c.args.body c.in_ok-uses.uses
    c.check_types.ensures.ledger.history c.check_types.ensures.key c.tree-tree.ensures c.count.ensures.count c.covering-leaf_index.ensures.covers c.leaf.ensures c.in_ok-audit.ensures
    c.in_ok-headers.ensures c.requires.answer c.in_ok-uses.ensures is

pub returns-clause-always : goal.returns-clause-always
returns-clause-always g c =
    gathered_always c.args.lineage.now.rows c.args.asked.now.root_at c.args.asked.now.block_digest
    c.args.asked.now.query c.tree-tree.result.now c.count.result c.covering-leaf_index.result
    c.leaf.result c.in_ok-audit.audit
    c.in_ok-headers.headers c.args.answer c.args.body c.in_ok-uses.uses
    c.check_types.ensures.ledger.history c.check_types.ensures.key c.tree-tree.ensures
    c.count.ensures.count c.covering-leaf_index.ensures.covers c.leaf.ensures
    c.in_ok-audit.ensures
    c.in_ok-headers.ensures c.requires.answer c.in_ok-uses.ensures

pub returns-clause-lawful : goal.returns-clause-lawful
returns-clause-lawful g c =
    gathered_lawful c.args.lineage.now.rows c.args.asked.now.root_at c.args.asked.now.block_digest c.args.asked.now.query c.tree-tree.result.now c.count.result c.covering-leaf_index.result c.leaf.result c.in_ok-audit.audit
    c.in_ok-headers.headers c.args.answer c.args.body c.in_ok-uses.uses
    c.check_types.ensures.ledger.history c.check_types.ensures.key c.tree-tree.ensures c.count.ensures.count c.covering-leaf_index.ensures.covers c.leaf.ensures c.in_ok-audit.ensures
    c.in_ok-headers.ensures c.requires.answer c.in_ok-uses.ensures c.requires.there c.requires.body
    c.check_types.ensures.block c.requires.early c.check_types.ensures.digest
