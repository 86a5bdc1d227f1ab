use Rattle.std.proofs.Common.{arith}
use Rattle.state_tree.proofs.Entries.{threaded_set, next_set}
use Rattle.state_tree.proofs.threaded.set_next.Goals as goal

pub returns-else-index-eq0-clause-threaded : goal.returns-else-index-eq0-clause-threaded
returns-else-index-eq0-clause-threaded c =
    threaded_set c.args.first.now c.args.entries.now.entries _ _ c.requires.threaded c.requires.next_within

pub returns-else-index-eq0-clause-set : goal.returns-else-index-eq0-clause-set
returns-else-index-eq0-clause-set c leaf held =
    next_set c.args.first.now c.args.entries.now.entries c.args.index c.index-entry.result.now c.args.next leaf (omega (arith, c.if-index-eq0.false)) c.index-entry.ensures held
