use Rattle.std.proofs.Common.{ap}
use Rattle.contract_eval.specs.contract_semantics.Answers.{place_in}
use Rattle.chain_exec.specs.BlockRows.{AreTxRows}
use Rattle.chain_exec.specs.declared.staging.TxRun.{TxRun}
use Rattle.chain_exec.proofs.Told.{handed_on, unless_memory}
use Rattle.chain_exec.proofs.TxRows.{call_rows}
use Rattle.chain_exec.proofs.calling.run_call.Goals as goal

pub returns-clause-lawful : goal.returns-clause-lawful
returns-clause-lawful g c =
    let P : TxRun → Type 0 = λ run. AreTxRows (place_in c.args.world.now) c.args.site.now.number c.args.at run.rows in
    unless_memory P c.or_memory.result c.stage.result c.or_memory.ensures.same
    (handed_on P c.stage.result c.in_ok-run.run' c.stage.ensures.same
    (call_rows (place_in c.args.world.now) c.args.site.now.number c.args.at c.in_ok-outcome.outcome.status c.call.new.capture c.in_ok-run.run'.rows
    (ap (λ (r : TxRun). r.rows) c.in_ok-run.ensures.run) c.in_ok-run.ensures.lawful c.in_ok-outcome.ensures.faithful))
