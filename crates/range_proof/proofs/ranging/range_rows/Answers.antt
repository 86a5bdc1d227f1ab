use Rattle.std.proofs.Common.{◌∙◌}
use Rattle.root_laws.specs.Ranges.{rows_between}
use Rattle.range_proof.proofs.Told.{turned}
use Rattle.range_proof.proofs.ranging.range_rows.Goals as goal

pub versions_at-requires-clause-rows : goal.versions_at-requires-clause-rows
versions_at-requires-clause-rows g c =
    let rows = c.args.lineage.now.rows in
    let found = rows_between rows c.args.key.now c.args.from c.args.to in (
      found,
      turned rows c.in_ok-indexes.indexes c.as_slice.result.now found
          c.in_ok-indexes.ensures.between (c.as_slice.ensures ∙ c.reversed-rising.ensures),
    )

pub returns-clause-versions : goal.returns-clause-versions
returns-clause-versions g c known =
    let rows = c.args.lineage.now.rows in
    let found = rows_between rows c.args.key.now c.args.from c.args.to in
    c.versions_at.ensures.versions known found
    (turned rows c.in_ok-indexes.indexes c.as_slice.result.now found
    c.in_ok-indexes.ensures.between (c.as_slice.ensures ∙ c.reversed-rising.ensures))

pub returns-clause-always : goal.returns-clause-always
returns-clause-always g c =
    let rows = c.args.lineage.now.rows in
    let found = rows_between rows c.args.key.now c.args.from c.args.to in
    c.versions_at.ensures.always found
    (turned rows c.in_ok-indexes.indexes c.as_slice.result.now found
    c.in_ok-indexes.ensures.between (c.as_slice.ensures ∙ c.reversed-rising.ensures))
