use Rattle.std.proofs.Common.{◌≡◌, ◌∙◌, length, take, ap, subst, arith}
use Rattle.std.specs.List.{All}
use Rattle.std.proofs.Math.Seq.{take-length}
use Rattle.lineage_rewind.specs.root_laws.TypedLedger.{IsTypedRow}
use Rattle.merkle_dag.proofs.NextRows.{all_more}
use Rattle.merkle_dag.proofs.adding.check_rows.Goals as goal

pub loop-row-preserved : goal.loop-row-preserved
loop-row-preserved c = all_more IsTypedRow c.args.rows.now c.loop-row.row-index c.row-item.result
    c.loop-row-test.true c.row-item.is c.loop-row.invariant c.check_row.ensures

pub returns : goal.returns
returns c =
    let rows = c.args.rows.now in
    let all : c.loop-row.row-index ≡ length rows = omega
    (arith, c.loop-row-test.false, c.loop-row.auto.row-index-end) in
    subst (All IsTypedRow) (ap (λ n. take n rows) all ∙ take-length rows) c.loop-row.invariant
