use Rattle.std.proofs.Common.{◌≡◌, map, take, drop}
use Rattle.std.specs.Prelude.{IfSome}
use Rattle.world_state.specs.Rows.{entry_of}
use Rattle.world_state.specs.World.{newest_of}
use Rattle.chain_exec.specs.BlockRows.{AreBlockRows, AreWithinBudgets}
use Rattle.chain_exec.specs.Compiled.{compiled_in}
use Rattle.chain_exec.specs.Fold.{nothing_staged, effects_after}
use Rattle.chain_exec.specs.Running.{history_in, staged_in}
use Rattle.chain_exec.proofs.block.run_txs.Given as goal

abbrev pub invariant-loop-at : goal.invariant-loop-at
invariant-loop-at g l =
    record {
      same : g.H.Host.same l.initial.host l.host;
      no_fault : g.H.Host.host_faults l.host ≡ g.H.Host.host_faults l.initial.host;
      newest : l.world.newest ≡ l.initial.world.newest;
      codes : l.world.codes ≡ l.initial.world.codes;
      staged : l.world.staged ≡ map entry_of l.run.rows;
      lawful : AreBlockRows (newest_of l.initial.world) l.number l.at l.run.rows;
      costs : AreWithinBudgets (take l.at l.txs) l.run.receipts;
      effects : IfSome (g.H.Host.rows l.initial.host) (λ rows. effects_after (compiled_in l.edition) (history_in rows l.initial.world) l.number l.at (staged_in l.world l.run) (drop l.at l.txs)
          ≡ effects_after (compiled_in l.edition) (history_in rows l.initial.world) l.number 0 nothing_staged l.txs);
    }
