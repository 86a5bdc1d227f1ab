use Rattle.std.proofs.Common.{arith}
use Rattle.lineage_index.proofs.BlockSteps.{as_many_entries}
use Rattle.lineage_index.proofs.index.LineageIndex.header.Goals as goal

pub entry_header-requires : goal.entry_header-requires
entry_header-requires g c =
    let given = c.requires in
    omega (arith, given.3, as_many_entries given.0 c.args.self.now.store given.2.store.entries_are)

pub returns-clause-row : goal.returns-clause-row
returns-clause-row g c rows n row is at = c.in_ok-header.ensures.row rows row is.store.lawful is.store.entries_are at
