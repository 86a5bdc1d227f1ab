use Rattle.std.proofs.Common.{Some, ap, ◌∙◌}
use Rattle.lc_io.specs.Scratch.{is_known}
use Rattle.block_log.specs.Standing.{standing}
use Rattle.cli_append.specs.recovery.Node.{next_in_chain}
use Rattle.merkle_dag.specs.Lineage.{LineageState, ledger_in}
use Rattle.cli_output.proofs.Ends.{no_start_ends}
use Rattle.cli_output.proofs.Found.{asked_found, no_start_found, asks_it, needs_disk, needs_scratch}
use Rattle.cli_output.proofs.Meets.{chain_of_node}
use Rattle.chain_cli.proofs.answering.ask_lineage.Goals as goal

pub returns-in-Ok-clause-found : goal.returns-in-Ok-clause-found
returns-in-Ok-clause-found g c =
    let keeps = needs_scratch (Some c.args.command.now) c.requires.asks in
    asked_found (g.M.Clock.disk c.args.machine.now (g.M.Clock.now c.args.machine.now)) c.args.command.now c.in-Ok.node.chain c.lineage_outcome-found.result (g.I.Source.left c.args.source.now) (g.I.Source.left c.lineage_outcome-found.new.source) (is_known (g.S.Scratch.state c.args.scratch.now))
    (asks_it (Some c.args.command.now) c.requires.asks)
    (λ heard content told. chain_of_node (g.M.Clock.disk c.start.new.machine (g.M.Clock.now c.start.new.machine)) c.in-Ok.node (standing next_in_chain content) (c.in-Ok.ensures.answer (heard keeps) content told))
    (λ heard. c.lineage_outcome-found.ensures.found (c.start.ensures.scratch.retains.known ∙ heard keeps) c.in-Ok.node.chain (ap (λ (l : LineageState). ledger_in l) c.into_lineage-lineage.ensures))

pub returns-in-Ok-clause-no_log : goal.returns-in-Ok-clause-no_log
returns-in-Ok-clause-no_log g c none = absurd (cc (none, c.lineage_outcome-found.ensures.has_log))

pub returns-in-Err-clause-found : goal.returns-in-Err-clause-found
returns-in-Err-clause-found g c =
    let keeps = needs_scratch (Some c.args.command.now) c.requires.asks in
    no_start_found (g.M.Clock.disk c.args.machine.now (g.M.Clock.now c.args.machine.now)) c.args.command.now c.in-Err.error c.start_outcome.result (g.I.Source.left c.args.source.now) (is_known (g.S.Scratch.state c.args.scratch.now))
    (asks_it (Some c.args.command.now) c.requires.asks) (λ heard. c.in-Err.ensures.answer (heard keeps)) c.start_outcome.ensures.outcome

pub returns-in-Err-clause-ends : goal.returns-in-Err-clause-ends
returns-in-Err-clause-ends g c = no_start_ends c.start_outcome.result c.in-Err.error (Some c.args.command.now) (needs_disk (Some c.args.command.now) (asks_it (Some c.args.command.now) c.requires.asks)) c.start_outcome.ensures.outcome c.start_outcome.ensures.reads
    (λ e. needs_scratch (Some c.args.command.now) c.requires.asks)
