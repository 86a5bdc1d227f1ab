use Rattle.std.proofs.Common.{Some, None, sym, ap, ◌∙◌}
use Rattle.lc_io.specs.Scratch.{is_known}
use Rattle.block_log.specs.Log.{next_in_log}
use Rattle.cli_append.specs.recovery.Node.{next_in_chain}
use Rattle.cli_output.specs.Telling.{status_of_result, status_of_usage}
use Rattle.chain_cli.proofs.Moments.{goes_by, log_goes_by}
use Rattle.chain_cli.proofs.Runs.{usage_run, with_status}
use Rattle.chain_cli.proofs.run.run_words.Goals as goal

pub returns-in-Ok-clause-run : goal.returns-in-Ok-clause-run
returns-in-Ok-clause-run g c =
    with_status g.M.Clock.now g.M.Clock.disk g.M.Clock.told c.args.machine.now c.tell_usage.new.machine (status_of_usage c.tell_usage.result) _ (g.I.Source.left c.args.source.now) (g.I.Source.left c.args.source.now) (is_known (g.S.Scratch.state c.args.scratch.now)) None c.args.command (ap status_of_usage c.in-Ok.is) c.in-None.is
    (usage_run g.M.Clock.now g.M.Clock.disk g.M.Clock.told c.args.machine.now c.tell_usage.new.machine c.tell_usage.result (g.I.Source.left c.args.source.now) (is_known (g.S.Scratch.state c.args.scratch.now)) c.requires.settled c.tell_usage.ensures.disk.stays (c.tell_usage.ensures.lines next_in_chain))

pub returns-in-Err-clause-run : goal.returns-in-Err-clause-run
returns-in-Err-clause-run g c =
    with_status g.M.Clock.now g.M.Clock.disk g.M.Clock.told c.args.machine.now c.tell_usage.new.machine (status_of_usage c.tell_usage.result) _ (g.I.Source.left c.args.source.now) (g.I.Source.left c.args.source.now) (is_known (g.S.Scratch.state c.args.scratch.now)) None c.args.command (ap status_of_usage c.in-Err.is ∙ sym c.status_of_stop.ensures) c.in-None.is
    (usage_run g.M.Clock.now g.M.Clock.disk g.M.Clock.told c.args.machine.now c.tell_usage.new.machine c.tell_usage.result (g.I.Source.left c.args.source.now) (is_known (g.S.Scratch.state c.args.scratch.now)) c.requires.settled c.tell_usage.ensures.disk.stays (c.tell_usage.ensures.lines next_in_chain))

pub returns-in-Ok-run_command-clause-run : goal.returns-in-Ok-run_command-clause-run
returns-in-Ok-run_command-clause-run g c =
    with_status g.M.Clock.now g.M.Clock.disk g.M.Clock.told c.args.machine.now c.run_command.new.machine (status_of_result c.run_command.result) _ (g.I.Source.left c.args.source.now) (g.I.Source.left c.run_command.new.source) (is_known (g.S.Scratch.state c.args.scratch.now)) (Some c.in-Some.command) c.args.command
    (ap status_of_result c.in-Ok-run_command.is ∙ sym c.status.ensures) c.in-Some.is c.run_command.ensures.run

pub returns-in-Err-run_command-clause-run : goal.returns-in-Err-run_command-clause-run
returns-in-Err-run_command-clause-run g c =
    with_status g.M.Clock.now g.M.Clock.disk g.M.Clock.told c.args.machine.now c.run_command.new.machine (status_of_result c.run_command.result) _ (g.I.Source.left c.args.source.now) (g.I.Source.left c.run_command.new.source) (is_known (g.S.Scratch.state c.args.scratch.now)) (Some c.in-Some.command) c.args.command
    (ap status_of_result c.in-Err-run_command.is ∙ sym c.status_of_stop-in-Err-run_command.ensures) c.in-Some.is c.run_command.ensures.run

pub returns-in-Ok-run_command-clause-goes_on : goal.returns-in-Ok-run_command-clause-goes_on
returns-in-Ok-run_command-clause-goes_on g c =
    goes_by g.M.Clock.now g.M.Clock.disk g.M.Clock.told next_in_chain
    (is_known (g.S.Scratch.state c.args.scratch.now)) (Some c.in-Some.command) c.args.command
    c.in-Some.is c.args.machine.now c.run_command.new.machine c.run_command.ensures.goes_on

pub returns-in-Ok-run_command-clause-log_goes_on : goal.returns-in-Ok-run_command-clause-log_goes_on
returns-in-Ok-run_command-clause-log_goes_on g c =
    log_goes_by g.M.Clock.now g.M.Clock.disk g.M.Clock.told next_in_log
    (Some c.in-Some.command) c.args.command c.in-Some.is c.args.machine.now
    c.run_command.new.machine c.run_command.ensures.log_goes_on

pub returns-in-Err-run_command-clause-goes_on : goal.returns-in-Err-run_command-clause-goes_on
returns-in-Err-run_command-clause-goes_on g c =
    goes_by g.M.Clock.now g.M.Clock.disk g.M.Clock.told next_in_chain
    (is_known (g.S.Scratch.state c.args.scratch.now)) (Some c.in-Some.command) c.args.command
    c.in-Some.is c.args.machine.now c.run_command.new.machine c.run_command.ensures.goes_on

pub returns-in-Err-run_command-clause-log_goes_on : goal.returns-in-Err-run_command-clause-log_goes_on
returns-in-Err-run_command-clause-log_goes_on g c =
    log_goes_by g.M.Clock.now g.M.Clock.disk g.M.Clock.told next_in_log
    (Some c.in-Some.command) c.args.command c.in-Some.is c.args.machine.now
    c.run_command.new.machine c.run_command.ensures.log_goes_on
