use Rattle.std.proofs.Common.{rules, sym, refl, subst}
use Rattle.lc_base.specs.declared.row.Row.{Row}
use Rattle.contract_eval.specs.contract_semantics.Answers.{place_in}
use Rattle.chain_exec.specs.BlockRows.{AreTxRows}
use Rattle.chain_exec.specs.declared.staging.TxRun.{TxRun}
use Rattle.chain_exec.proofs.Told.{handed_on}
use Rattle.chain_exec.proofs.TxRows.{set_row}
use Rattle.chain_exec.proofs.setting.run_set.Goals as goal

pub returns-clause-lawful : goal.returns-clause-lawful
returns-clause-lawful c =
    let world = c.args.world.now in
    let row : Row = record { key = c.args.key.now; block = c.args.number; tx = c.args.at; value = c.in_ok-copy.field-0; deps = c.in_ok-deps_on.field-0 } in
    handed_on (λ (run : TxRun). AreTxRows (place_in world) c.args.number c.args.at run.rows) c.stage.result (record { receipt = c.free.result; rows = c.in_ok-one_row.field-0 }) c.stage.ensures.same
    (subst (AreTxRows (place_in world) c.args.number c.args.at) (sym c.in_ok-one_row.ensures)
    (set_row world c.args.number c.args.at row c.args.deps.now refl refl c.in_ok-deps_on.ensures c.requires (search rules)))
