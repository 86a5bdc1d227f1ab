use Rattle.lc_base.specs.History.{up_to}
use Rattle.lineage_index.specs.root_laws.Root.{leaves}
use Rattle.lineage_rewind.proofs.LeavesAt.{are_leaves_at}
use Rattle.lineage_rewind.proofs.leaves_at.tree_hash_at.Goals as goal

pub tree_hash-requires : goal.tree_hash-requires
tree_hash-requires c =
    let given = c.requires in
    let rows = given.0 in (
      leaves (up_to rows c.args.at),
      are_leaves_at rows given.1 c.args.index.now c.args.at c.count_leaves-count.result given.2
          (c.count_leaves-count.ensures rows given.1 given.2),
    )

pub returns-clause-hash : goal.returns-clause-hash
returns-clause-hash c rows n is =
    c.tree_hash.ensures (leaves (up_to rows c.args.at))
    (are_leaves_at rows n c.args.index.now c.args.at c.count_leaves-count.result is
    (c.count_leaves-count.ensures rows n is))
