use Rattle.std.proofs.Common.{length}
use Rattle.merkle_dag.specs.Kept.{rows_kept}
use Rattle.merkle_dag.proofs.uses.users_of.Goals as goal

pub uses-requires : goal.uses-requires
uses-requires c =
    let kept = c.args.kept.now in
    (rows_kept kept.index, length kept.digests.items, c.requires.whole.index_is, c.requires.within)

pub returns : goal.returns
returns c row at =
    let kept = c.args.kept.now in
    c.uses.ensures.versions (rows_kept kept.index) (length kept.digests.items) row
    c.requires.whole.index_is
    at
