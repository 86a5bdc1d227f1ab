use Rattle.std.proofs.Common.{◌∙◌, length, get_or, take, map, refl, ap, arith}
use Rattle.std.proofs.lemmas.List.{get_or_default}
use Rattle.state_tree.specs.declared.states.LeafState.{LeafState}
use Rattle.state_tree.specs.Leaves.{with_states}
use Rattle.state_tree.proofs.Together.{states_long, states_more}
use Rattle.lineage_index.specs.Leaves.{state_of}
use Rattle.lineage_index.proofs.NewEntries.{mapped_more}
use Rattle.lineage_index.proofs.leaves.set_leaves.Goals as goal

pub set_leaf-requires-clause-own : goal.set_leaf-requires-clause-own
set_leaf-requires-clause-own c =
    let given = c.requires in
    let within = given.2 c.loop-index.index-index 0 c.loop-index-test.true in
    omega (
      arith,
      within.0,
      ap (λ (state : LeafState). state.index) (c.leaf_state.ensures given.0 given.1 within),
    )

pub set_leaf-requires-clause-below : goal.set_leaf-requires-clause-below
set_leaf-requires-clause-below c =
    let given = c.requires in
    let i = c.loop-index.index-index in
    let within = given.2 i 0 c.loop-index-test.true in
    omega (
      arith,
      within.1,
      given.3,
      ap (λ (state : LeafState). state.index) (c.leaf_state.ensures given.0 given.1 within),
      ap length (c.loop-index.invariant given.0 given.1 given.2),
      states_long c.args.tree.now (map (state_of given.0) (take i c.args.indexes.now)),
    )

pub loop-index-preserved : goal.loop-index-preserved
loop-index-preserved c rows kept within =
    let i = c.loop-index.index-index in
    let index = get_or c.args.indexes.now i 0 in
    let done = map (state_of rows) (take i c.args.indexes.now) in
    c.set_leaf.ensures.set
    ∙ states_more c.args.tree.now c.loop-index.tree done c.leaf_state.result (c.loop-index.invariant rows kept within)
    ∙ ap (with_states c.args.tree.now)
    (mapped_more (state_of rows) c.args.indexes.now i index c.leaf_state.result done c.loop-index-test.true (get_or_default c.args.indexes.now i 0 index c.loop-index-test.true) refl
    (c.leaf_state.ensures rows kept (within i 0 c.loop-index-test.true)))
