use Rattle.std.proofs.Common.{◌∙◌, [], ap, map, subst, sym}
use Rattle.std.specs.List.{All}
use Rattle.plain_rows.specs.root_laws.Root.{keys_of}
use Rattle.state_tree.specs.Leaves.{with_states}
use Rattle.lineage_index.specs.Growth.{keys_touched}
use Rattle.lineage_index.specs.Leaves.{IsLeafIndex, state_of}
use Rattle.lineage_index.proofs.LeafStates.{beside_leaves, touched_within, keys_within, leaves_renewed}
use Rattle.lineage_index.proofs.leaves.renew_leaves.Goals as goal

pub touched_indexes-requires : goal.touched_indexes-requires
touched_indexes-requires c = c.requires.touched

pub set_leaves-requires : goal.set_leaves-requires
set_leaves-requires c =
    let given = c.requires.renewing in (
      given.0,
      beside_leaves given.0 given.1 [] c.args.tree.now c.args.lists.now c.args.newest.now c.args.store.now given.2,
      subst (All (IsLeafIndex (keys_of given.0))) (sym c.deref.ensures.value)
          (touched_within given.0 given.1 c.args.tree.now c.args.lists.now c.args.newest.now c.args.store.now (keys_touched c.args.new.now) c.in_ok-indexes.indexes.items given.2 c.in_ok-indexes.ensures.all),
      keys_within given.0 given.1 c.args.tree.now c.args.lists.now c.args.newest.now c.args.store.now given.2,
    )

pub returns : goal.returns
returns c rows entry a =
    let within = subst (All (IsLeafIndex (keys_of rows))) (sym c.deref.ensures.value)
    (touched_within rows entry c.args.tree.now c.args.lists.now c.args.newest.now c.args.store.now (keys_touched c.args.new.now) c.in_ok-indexes.indexes.items a c.in_ok-indexes.ensures.all) in
    leaves_renewed rows entry c.args.tree.now c.set_leaves.new.tree c.args.lists.now c.args.newest.now c.args.store.now (keys_touched c.args.new.now) c.in_ok-indexes.indexes.items a c.in_ok-indexes.ensures.all
    (c.set_leaves.ensures rows (beside_leaves rows entry [] c.args.tree.now c.args.lists.now c.args.newest.now c.args.store.now a) within
    ∙ ap (λ indexes. with_states c.args.tree.now (map (state_of rows) indexes)) c.deref.ensures.value)
