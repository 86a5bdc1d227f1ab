use Rattle.std.proofs.Common.{ap, arith, length}
use Rattle.lineage_index.specs.root_laws.Root.{keys_of}
use Rattle.lineage_index.specs.Leaves.{IsLeafIndex}
use Rattle.lineage_rewind.proofs.KeysAt.{as_many_leaves, key_read, keyless}
use Rattle.lineage_rewind.proofs.keys_at.key_of_leaf.Goals as goal

pub leaf-found-requires : goal.leaf-found-requires
leaf-found-requires c =
    let given = c.requires in
    let within : IsLeafIndex (keys_of given.0) c.args.leaf = given.3 in
    omega (arith, within.1, ap length (c.tree.ensures given.0 given.1 given.2), as_many_leaves given.0)

pub unreachable-requires : goal.unreachable-requires
unreachable-requires c =
    let given = c.requires in
    let within : IsLeafIndex (keys_of given.0) c.args.leaf = given.3 in
    keyless given.0 c.tree.result.now c.args.leaf c.leaf-found.result
    (c.tree.ensures given.0 given.1 given.2) within.0 c.leaf-found.ensures c.in-None.is

pub returns : goal.returns
returns c rows n is =
    let given = c.requires in
    let within : IsLeafIndex (keys_of given.0) c.args.leaf = given.3 in
    key_read rows c.tree.result.now c.args.leaf c.leaf-found.result (c.tree.ensures rows n is)
    within.0 c.leaf-found.ensures c.in-Some.key c.in-Some.is
