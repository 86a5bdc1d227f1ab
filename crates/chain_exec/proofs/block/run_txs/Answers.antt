use Rattle.std.proofs.Common.{◌++◌, ◌+◌, map, sym, ap, ◌∙◌, subst}
use Rattle.std.proofs.lemmas.List.{map-append}
use Rattle.world_state.specs.Rows.{entry_of}
use Rattle.world_state.specs.World.{newest_of}
use Rattle.chain_exec.specs.BlockRows.{AreBlockRows}
use Rattle.chain_exec.proofs.BlockSteps.{more_rows, more_receipts, more_told}
use Rattle.chain_exec.proofs.Told.{unblamed_at_ok}
use Rattle.chain_exec.proofs.block.run_txs.Goals as goal

pub loop-at-preserved : goal.loop-at-preserved
loop-at-preserved g c =
    let start = c.args.world.now in
    let old = c.loop-at.world in
    let before = c.loop-at.run in
    let run = c.in_ok-done.done in
    let so_far = c.loop-at.invariant in
    let done = c.in_ok-done.ensures in
    let added = c.in_ok-add.ensures in
    record {
      same = g.met.H.Host.same_trans _ _ _ so_far.same done.same;
      no_fault = unblamed_at_ok (g.H.Host.host_faults c.loop-at.host) (g.H.Host.host_faults c.run_transaction.new.host) done.cause.told ∙ so_far.no_fault;
      newest = done.stages.newest ∙ so_far.newest;
      codes = done.stages.codes ∙ so_far.codes;
      staged = done.stages.staged ∙ ap (λ entries. entries ++ map entry_of run.rows) so_far.staged ∙ sym (map-append entry_of before.rows run.rows) ∙ ap (map entry_of) (sym added.rows);
      lawful = subst (AreBlockRows (newest_of start) c.args.number (c.loop-at.at + 1)) (sym added.rows) (more_rows start old c.args.number c.loop-at.at before.rows run.rows so_far.newest so_far.staged so_far.lawful done.lawful);
      costs = more_receipts c.args.txs.now before.receipts c.add.new.self.receipts c.loop-at.at c.index-txs-at.result run.receipt c.loop-at-test.true c.index-txs-at.is so_far.costs done.cost added.receipts;
      effects = more_told (g.H.Host.rows c.args.host.now) (g.H.Host.rows c.loop-at.host) start old c.run_transaction.new.world before c.add.new.self run c.args.edition c.args.number c.loop-at.at c.args.txs.now c.index-txs-at.result
          (g.met.H.Host.same_rows _ _ so_far.same) c.loop-at-test.true c.index-txs-at.is so_far.newest so_far.codes so_far.staged added.rows added.receipts c.requires.stands done.effect so_far.effects;
    }
