use Rattle.std.proofs.Common.{◌∙◌, ◌++◌, ◌+◌, ℕ, List, ap, subst, take, arith}
use Rattle.lc_base.specs.declared.row.Row.{Row}
use Rattle.forward_links.specs.Lists.{Use}
use Rattle.lineage_index.specs.Growth.{deps_touched, keys_of_deps, used_by, used_by_row}
use Rattle.lineage_index.specs.Heads.{AreLists}
use Rattle.lineage_index.specs.Leaves.{leaf_indexes}
use Rattle.lineage_index.specs.NewEntries.{bytes_in}
use Rattle.lineage_index.proofs.Using.{one_row_used}
use Rattle.lineage_index.proofs.Touched.{indexes_more, one_row_touched}
use Rattle.lineage_index.proofs.NewEntries.{mapped_more}
use Rattle.lineage_index.proofs.spelling.spell_rows.Goals as goal

pub spell_row-requires-clause-lists : goal.spell_row-requires-clause-lists
spell_row-requires-clause-lists c =
    let given = c.requires.lists in (
      given.0,
      used_by given.1 c.args.first (take c.loop-row.row-index c.args.new.now),
      c.loop-row.invariant.lists given.0 given.1 given.2,
    )

pub loop-row-preserved : goal.loop-row-preserved
loop-row-preserved c = record {
  at = omega (arith, c.loop-row.invariant.at);
  spelled =
      c.in_ok-push.ensures.ok
      ∙ mapped_more (bytes_in c.args.tree.now) c.args.new.now c.loop-row.row-index
      c.row-item.result c.in_ok-body.body c.loop-row.bodies c.loop-row-test.true c.row-item.is
      c.loop-row.invariant.spelled c.in_ok-body.ensures.spelled;
  lists = λ keys list a.
      let i = c.loop-row.row-index in
      let rows = c.args.new.now in
      let n = c.args.first in
      let before = used_by list n (take i rows) in
      subst (λ (after : List ℕ → List Use). AreLists c.args.tree.now c.spell_row.new.lists keys
      after)
      (ap (λ (k : ℕ). used_by_row before k c.row-item.result) c.loop-row.invariant.at
      ∙ ap (λ (row : Row). used_by_row before (n + i) row) c.row-item.is
      ∙ one_row_used list n rows i c.row-item.result c.loop-row-test.true)
      (c.in_ok-body.ensures.lists keys before (c.loop-row.invariant.lists keys list a));
  touched =
      let tree = c.args.tree.now in
      let before = c.args.touched.now.items in
      let i = c.loop-row.row-index in
      let new = c.args.new.now in
      let row : Row = c.row-item.result in
      c.in_ok-body.ensures.touched
      ∙ ap (λ (indexes : List ℕ). indexes ++ leaf_indexes tree (keys_of_deps row))
      c.loop-row.invariant.touched
      ∙ indexes_more tree before (deps_touched (take i new)) (keys_of_deps row)
      ∙ ap (λ (keys : List (List ℕ)). before ++ leaf_indexes tree keys)
      (one_row_touched new i row c.loop-row-test.true c.row-item.is);
}
