use Rattle.state_tree.proofs.Keys.{not_at}
use Rattle.state_tree.proofs.growth.add_index.Goals as goal

pub returns-clause-others : goal.returns-clause-others
returns-clause-others c other differ = c.in_ok-insert.ensures.updates.2 other (not_at c.args.key.now other differ)
