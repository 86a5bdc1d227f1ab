use Rattle.std.proofs.Common.{◌≡◌, ◌∙◌, ◌+◌, ◌∷◌, [], ◌++◌, ℕ, length, map, ap, sym, arith}
use Rattle.std.specs.List.{range_with_len}
use Rattle.std.proofs.lemmas.List.FromFn.{map-range_with_len_more}
use Rattle.lineage_index.specs.root_laws.Root.{keys_of}
use Rattle.lineage_index.specs.state_tree.declared.states.LeafState.{LeafState}
use Rattle.lineage_index.specs.state_tree.Leaves.{with_states}
use Rattle.lineage_index.specs.Leaves.{state_of}
use Rattle.lineage_index.proofs.state_tree.Together.{states_long, states_more}
use Rattle.lineage_index.proofs.LeafStates.{beside_leaves, keys_within}
use Rattle.lineage_rewind.proofs.AllLeaves.{leaves_made}
use Rattle.lineage_rewind.proofs.Filled.{key_within}
use Rattle.lineage_rewind.proofs.leaves.renew_all.Goals as goal

pub overflow_cast-key : goal.overflow_cast-key
overflow_cast-key c =
    let given = c.requires in
    omega (
      arith,
      c.loop-key-test.true,
      (key_within given.0 c.args.newest.now given.2.heads.newest_are).1,
      given.2.store.lawful.few,
    )

pub overflow_add-key : goal.overflow_add-key
overflow_add-key c =
    let given = c.requires in
    omega (
      arith,
      c.loop-key-test.true,
      (key_within given.0 c.args.newest.now given.2.heads.newest_are).1,
      given.2.store.lawful.few,
    )

pub leaf_state-requires : goal.leaf_state-requires
leaf_state-requires c =
    let given = c.requires in (
      given.0,
      beside_leaves given.0 given.1 [] c.args.tree.now c.args.lists.now c.args.newest.now
          c.args.store.now given.2,
      (
        omega arith,
        omega (
          arith,
          c.loop-key-test.true,
          (key_within given.0 c.args.newest.now given.2.heads.newest_are).0,
        ),
      ),
    )

pub set_leaf-requires-clause-own : goal.set_leaf-requires-clause-own
set_leaf-requires-clause-own c =
    let given = c.requires in
    let few = key_within given.0 c.args.newest.now given.2.heads.newest_are in
    omega (
      arith,
      ap (λ (state : LeafState). state.index)
          (c.leaf_state.ensures given.0 (beside_leaves given.0 given.1 [] c.args.tree.now
          c.args.lists.now c.args.newest.now c.args.store.now given.2)
          (omega arith, omega (arith, c.loop-key-test.true, few.0))),
    )

pub set_leaf-requires-clause-below : goal.set_leaf-requires-clause-below
set_leaf-requires-clause-below c =
    let given = c.requires in
    let few = key_within given.0 c.args.newest.now given.2.heads.newest_are in
    omega (
      arith,
      c.loop-key-test.true,
      few.0,
      keys_within given.0 given.1 c.args.tree.now c.args.lists.now c.args.newest.now
          c.args.store.now given.2,
      ap (λ (state : LeafState). state.index)
          (c.leaf_state.ensures given.0 (beside_leaves given.0 given.1 [] c.args.tree.now
          c.args.lists.now c.args.newest.now c.args.store.now given.2)
          (omega arith, omega (arith, c.loop-key-test.true, few.0))),
      ap length (c.loop-key.invariant given.0 given.1 given.2),
      states_long c.args.tree.now (map (state_of given.0) (range_with_len 1 c.loop-key.key)),
    )

pub loop-key-preserved : goal.loop-key-preserved
loop-key-preserved c rows entry a =
    let i = c.loop-key.key in
    let few = key_within rows c.args.newest.now a.heads.newest_are in
    let next : 1 + i ≡ i + 1 = omega arith in
    let done = map (state_of rows) (range_with_len 1 i) in
    c.set_leaf.ensures.set
    ∙ states_more c.args.tree.now c.loop-key.tree done c.leaf_state.result
    (c.loop-key.invariant rows entry a)
    ∙ ap (λ (state : LeafState). with_states c.args.tree.now (done ++ state ∷ []))
    (c.leaf_state.ensures rows (beside_leaves rows entry [] c.args.tree.now c.args.lists.now
    c.args.newest.now c.args.store.now a)
    (omega arith, omega (arith, c.loop-key-test.true, few.0)))
    ∙ ap (with_states c.args.tree.now)
    (sym (map-range_with_len_more (state_of rows) 1 i (i + 1) next))

pub returns : goal.returns
returns c rows entry a =
    let few = key_within rows c.args.newest.now a.heads.newest_are in
    let all : c.loop-key.key ≡ length (keys_of rows) = omega (arith, c.loop-key-test.false, few.0) in
    record {
      apart = a.heads.apart;
      leaves_are =
          c.loop-key.invariant rows entry a
          ∙ ap (λ (n : ℕ). with_states c.args.tree.now (map (state_of rows) (range_with_len 1 n)))
          all
          ∙ leaves_made rows entry c.args.tree.now a.heads.apart a.heads.leaves_are;
      lists_are = a.heads.lists_are;
      newest_are = a.heads.newest_are;
    }
