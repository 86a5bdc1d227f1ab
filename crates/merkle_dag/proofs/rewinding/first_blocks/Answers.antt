use Rattle.std.proofs.Common.{◌∙◌, ◌+◌, [], ℕ, length, take, ap, arith}
use Rattle.lc_base.specs.History.{up_to}
use Rattle.body_store.specs.Bodies.{BodiesState}
use Rattle.lineage_rewind.proofs.lineage_index.StoreEntries.{as_many}
use Rattle.merkle_dag.specs.Kept.{rows_kept}
use Rattle.merkle_dag.specs.Lineage.{first_bodies}
use Rattle.merkle_dag.proofs.FirstBlocks.{count_within, first_keeps, first_typed}
use Rattle.merkle_dag.proofs.RowBodies.{keeps_at, rows_are}
use Rattle.merkle_dag.proofs.rewinding.first_blocks.Goals as goal

pub front-requires-2 : goal.front-requires-2
front-requires-2 c =
    let kept = c.args.kept.now in
    let rows = rows_kept kept.index in
    let whole = c.requires.whole in
    let first_is = c.in_ok-index.ensures rows (length kept.digests.items) whole.index_is in
    count_within rows kept.index c.in_ok-index.index kept.bodies
    kept.bodies kept.digests.items kept.roots.items c.args.at c.count.result whole
    c.requires.within first_is
    (c.count.ensures.count ∙ ap length
    (c.store.ensures (up_to rows c.args.at) (c.args.at + 1) first_is))

pub first_items-requires-2 : goal.first_items-requires-2
first_items-requires-2 c =
    let kept = c.args.kept.now in
    omega (
      arith,
      c.requires.within,
      ap length c.deref-2.ensures.value,
      c.requires.whole.roots_are.many,
    )

pub returns-clause-rows : goal.returns-clause-rows
returns-clause-rows c =
    let kept = c.args.kept.now in
    let rows = rows_kept kept.index in
    let whole = c.requires.whole in
    let first_is = c.in_ok-index.ensures rows (length kept.digests.items) whole.index_is in
    rows_are (up_to rows c.args.at) (c.args.at + 1) c.in_ok-index.index first_is
    (first_typed rows kept.index c.in_ok-index.index kept.bodies
    kept.bodies kept.digests.items kept.roots.items c.args.at c.count.result whole
    c.requires.within first_is
    (c.count.ensures.count ∙ ap length
    (c.store.ensures (up_to rows c.args.at) (c.args.at + 1) first_is)))

pub returns-clause-bodies : goal.returns-clause-bodies
returns-clause-bodies c =
    let kept = c.args.kept.now in
    let rows = rows_kept kept.index in
    let first = up_to rows c.args.at in
    let whole = c.requires.whole in
    let first_is = c.in_ok-index.ensures rows (length kept.digests.items) whole.index_is in
    c.in_ok-bodies.ensures.front
    ∙ ap (λ (count : ℕ). first_bodies count kept.bodies)
    (c.count.ensures.count ∙ ap length (c.store.ensures first (c.args.at + 1) first_is)
    ∙ as_many first [] first)

pub returns-clause-whole : goal.returns-clause-whole
returns-clause-whole c =
    let kept = c.args.kept.now in
    let rows = rows_kept kept.index in
    let whole = c.requires.whole in
    let first_is = c.in_ok-index.ensures rows (length kept.digests.items) whole.index_is in
    let count_is = c.count.ensures.count
    ∙ ap length (c.store.ensures (up_to rows c.args.at) (c.args.at + 1) first_is) in
    let typed = first_typed rows kept.index c.in_ok-index.index kept.bodies kept.bodies
    kept.digests.items kept.roots.items c.args.at c.count.result whole
    c.requires.within first_is count_is in
    keeps_at (up_to rows c.args.at) _ c.in_ok-index.index c.in_ok-bodies.bodies
    (take (c.args.at + 1) kept.digests.items) _ (take (c.args.at + 1) kept.roots.items) _
    (rows_are (up_to rows c.args.at) (c.args.at + 1) c.in_ok-index.index first_is typed)
    (c.in_ok-digests.ensures ∙ ap (take (c.args.at + 1)) c.deref.ensures.value)
    (c.in_ok-roots.ensures ∙ ap (take (c.args.at + 1)) c.deref-2.ensures.value)
    (first_keeps rows kept.index c.in_ok-index.index kept.bodies
    c.in_ok-bodies.bodies kept.digests.items kept.roots.items c.args.at c.count.result whole
    c.requires.within first_is count_is
    (ap (λ (s : BodiesState). s.kept) c.in_ok-bodies.ensures.front))
