use Rattle.std.proofs.Common.{Err, Some, ap, refl, sym, ◌∙◌}
use Rattle.lc_io.specs.Scratch.{is_known}
use Rattle.cli_words.specs.declared.words.Command.TheVariants.{Append, Follow}
use Rattle.block_log.specs.Log.{next_in_log}
use Rattle.cli_append.specs.recovery.Node.{next_in_chain}
use Rattle.cli_output.specs.Telling.{run_answer, status_of_result}
use Rattle.cli_output.proofs.Ends.{no_start_ends}
use Rattle.chain_cli.proofs.Runs.{with_status}
use Rattle.chain_cli.proofs.LogRuns.{append_run, follow_run, refused_run}
use Rattle.chain_cli.proofs.Ends.{answer_ends, answer_has_log, of_given, uses_both}
use Rattle.cli_append.proofs.Causes.{carried, kept}
use Rattle.cli_append.specs.cli_promises.declared.ending.RunStop.TheVariants as stops
use Rattle.chain_cli.proofs.Blames.{none_blamed, taken_blames, unblamed}
use Rattle.chain_cli.proofs.Moments.{stays_twice, taken_any, taken_log}
use Rattle.chain_cli.proofs.over_log.extend_log.Goals as goal

pub returns-in-Append-clause-run : goal.returns-in-Append-clause-run
returns-in-Append-clause-run g c =
    with_status g.M.Clock.now g.M.Clock.disk g.M.Clock.told c.args.machine.now c.append.new.machine
    (status_of_result (run_answer c.append.result)) (status_of_result c.run_answer.result)
    (g.I.Source.left c.args.source.now) (g.I.Source.left c.append.new.source)
    (is_known (g.S.Scratch.state c.args.scratch.now)) (Some Append) (Some c.args.command.now)
    (ap status_of_result (sym c.run_answer.ensures)) (ap Some c.in-Append.is)
    (append_run g.M.Clock.now g.M.Clock.disk g.M.Clock.told c.args.machine.now c.start.new.machine
    c.append.new.machine c.in-Ok.node c.append.result (g.I.Source.left c.args.source.now)
    (g.I.Source.left c.append.new.source) (is_known (g.S.Scratch.state c.args.scratch.now))
    c.requires.settled (c.start.ensures.stays c.requires.settled) c.start.ensures.wire.told
    c.in-Ok.ensures.answer
    (λ told. c.append.ensures.appends (c.start.ensures.scratch.retains.known ∙ told)))

pub returns-in-Follow-clause-run : goal.returns-in-Follow-clause-run
returns-in-Follow-clause-run g c =
    with_status g.M.Clock.now g.M.Clock.disk g.M.Clock.told c.args.machine.now c.follow.new.machine
    (status_of_result (run_answer c.follow.result))
    (status_of_result c.run_answer-in-Follow.result)
    (g.I.Source.left c.args.source.now) (g.I.Source.left c.follow.new.source)
    (is_known (g.S.Scratch.state c.args.scratch.now)) (Some Follow) (Some c.args.command.now)
    (ap status_of_result (sym c.run_answer-in-Follow.ensures)) (ap Some c.in-Follow.is)
    (follow_run g.M.Clock.now g.M.Clock.disk g.M.Clock.told c.args.machine.now c.start.new.machine
    c.follow.new.machine c.in-Ok.node c.follow.result (g.I.Source.left c.args.source.now)
    (g.I.Source.left c.follow.new.source) (is_known (g.S.Scratch.state c.args.scratch.now))
    c.requires.settled (c.start.ensures.stays c.requires.settled) c.start.ensures.wire.told
    c.in-Ok.ensures.answer
    (λ told. c.follow.ensures.follows (c.start.ensures.scratch.retains.known ∙ told)))

pub returns-in-Err-clause-run : goal.returns-in-Err-clause-run
returns-in-Err-clause-run g c =
    refused_run g.M.Clock.now g.M.Clock.disk g.M.Clock.told c.args.command.now c.requires.appends
    c.args.machine.now c.start.new.machine c.tell.new.machine c.in-Err.error
    c.start_outcome.result c.tell.result (g.I.Source.left c.args.source.now)
    (is_known (g.S.Scratch.state c.args.scratch.now))
    c.requires.settled (c.start.ensures.stays c.requires.settled) c.start.ensures.wire.told
    c.in-Err.ensures.answer c.start_outcome.ensures.outcome c.tell.ensures.disk.stays
    (c.tell.ensures.tells next_in_chain)

pub returns-in-Append-clause-goes_on : goal.returns-in-Append-clause-goes_on
returns-in-Append-clause-goes_on g c given =
    let told = given (uses_both c.args.command.now c.requires.appends).1 in
    taken_any g.M.Clock.now g.M.Clock.disk g.M.Clock.told (Some c.args.command.now)
    c.requires.appends c.args.machine.now c.start.new.machine c.append.new.machine c.in-Ok.node
    c.requires.settled
    (c.start.ensures.stays c.requires.settled) (c.in-Ok.ensures.answer told)
    (c.append.ensures.goes_on (c.start.ensures.scratch.retains.known ∙ told))

pub returns-in-Follow-clause-goes_on : goal.returns-in-Follow-clause-goes_on
returns-in-Follow-clause-goes_on g c given =
    let told = given (uses_both c.args.command.now c.requires.appends).1 in
    taken_any g.M.Clock.now g.M.Clock.disk g.M.Clock.told (Some c.args.command.now)
    c.requires.appends c.args.machine.now c.start.new.machine c.follow.new.machine c.in-Ok.node
    c.requires.settled
    (c.start.ensures.stays c.requires.settled) (c.in-Ok.ensures.answer told)
    (c.follow.ensures.goes_on (c.start.ensures.scratch.retains.known ∙ told))

pub returns-in-Err-clause-goes_on : goal.returns-in-Err-clause-goes_on
returns-in-Err-clause-goes_on g c given =
    stays_twice g.M.Clock.now g.M.Clock.disk g.M.Clock.told next_in_chain (Some c.args.command.now)
    c.args.machine.now c.start.new.machine c.tell.new.machine c.requires.settled
    (c.start.ensures.stays c.requires.settled) c.tell.ensures.disk.stays

pub returns-in-Append-clause-log_goes_on : goal.returns-in-Append-clause-log_goes_on
returns-in-Append-clause-log_goes_on g c =
    taken_log g.M.Clock.now g.M.Clock.disk g.M.Clock.told (Some c.args.command.now)
    c.requires.appends c.args.machine.now c.start.new.machine c.append.new.machine
    c.in-Ok.node.log c.requires.settled
    (c.start.ensures.stays c.requires.settled) c.in-Ok.ensures.ready.log
    c.append.ensures.log_goes_on

pub returns-in-Follow-clause-log_goes_on : goal.returns-in-Follow-clause-log_goes_on
returns-in-Follow-clause-log_goes_on g c =
    taken_log g.M.Clock.now g.M.Clock.disk g.M.Clock.told (Some c.args.command.now)
    c.requires.appends c.args.machine.now c.start.new.machine c.follow.new.machine
    c.in-Ok.node.log c.requires.settled
    (c.start.ensures.stays c.requires.settled) c.in-Ok.ensures.ready.log
    c.follow.ensures.log_goes_on

pub returns-in-Err-clause-log_goes_on : goal.returns-in-Err-clause-log_goes_on
returns-in-Err-clause-log_goes_on g c =
    stays_twice g.M.Clock.now g.M.Clock.disk g.M.Clock.told next_in_log (Some c.args.command.now)
    c.args.machine.now c.start.new.machine c.tell.new.machine c.requires.settled
    (c.start.ensures.stays c.requires.settled) c.tell.ensures.disk.stays

pub returns-in-Append-clause-ends : goal.returns-in-Append-clause-ends
returns-in-Append-clause-ends g c = of_given (status_of_result c.run_answer.result)
    c.args.command.now Append c.in-Append.is
    (rw c.run_answer.ensures (answer_ends Append refl c.append.result))

pub returns-in-Follow-clause-ends : goal.returns-in-Follow-clause-ends
returns-in-Follow-clause-ends g c = of_given (status_of_result c.run_answer-in-Follow.result)
    c.args.command.now Follow c.in-Follow.is
    (rw c.run_answer-in-Follow.ensures (answer_ends Follow refl c.follow.result))

pub returns-in-Append-clause-no_log : goal.returns-in-Append-clause-no_log
returns-in-Append-clause-no_log g c none =
    absurd (cc (rw c.run_answer.ensures at none, answer_has_log c.append.result))

pub returns-in-Follow-clause-no_log : goal.returns-in-Follow-clause-no_log
returns-in-Follow-clause-no_log g c none =
    absurd (cc (rw c.run_answer-in-Follow.ensures at none, answer_has_log c.follow.result))

pub returns-in-Err-clause-ends : goal.returns-in-Err-clause-ends
returns-in-Err-clause-ends g c =
    let uses = uses_both c.args.command.now c.requires.appends in
    c.tell.ensures.ends (Some c.args.command.now)
    (no_start_ends c.start_outcome.result c.in-Err.error (Some c.args.command.now) uses.0
    c.start_outcome.ensures.outcome c.start_outcome.ensures.reads (λ failed. uses.1))

pub returns-in-Append-clause-unreadable : goal.returns-in-Append-clause-unreadable
returns-in-Append-clause-unreadable g c =
    taken_blames c.append.result c.run_answer.result stops.Unreadable _ _ _ c.run_answer.ensures
    refl c.append.ensures.unreadable

pub returns-in-Append-clause-disk_fault : goal.returns-in-Append-clause-disk_fault
returns-in-Append-clause-disk_fault g c =
    taken_blames c.append.result c.run_answer.result stops.DiskFault _ _ _ c.run_answer.ensures
    (unblamed _ _ c.in-Ok.ensures.disk_fault) c.append.ensures.disk_fault

pub returns-in-Append-clause-scratch_fault : goal.returns-in-Append-clause-scratch_fault
returns-in-Append-clause-scratch_fault g c =
    taken_blames c.append.result c.run_answer.result stops.ScratchFault _ _ _ c.run_answer.ensures
    (unblamed _ _ c.in-Ok.ensures.scratch.cause) c.append.ensures.scratch_fault

pub returns-in-Append-clause-untold : goal.returns-in-Append-clause-untold
returns-in-Append-clause-untold g c =
    taken_blames c.append.result c.run_answer.result stops.Untold _ _ _ c.run_answer.ensures
    c.start.ensures.wire.faults c.append.ensures.untold

pub returns-in-Follow-clause-unreadable : goal.returns-in-Follow-clause-unreadable
returns-in-Follow-clause-unreadable g c =
    taken_blames c.follow.result c.run_answer-in-Follow.result stops.Unreadable _ _ _
    c.run_answer-in-Follow.ensures
    refl c.follow.ensures.unreadable

pub returns-in-Follow-clause-disk_fault : goal.returns-in-Follow-clause-disk_fault
returns-in-Follow-clause-disk_fault g c =
    taken_blames c.follow.result c.run_answer-in-Follow.result stops.DiskFault _ _ _
    c.run_answer-in-Follow.ensures
    (unblamed _ _ c.in-Ok.ensures.disk_fault) c.follow.ensures.disk_fault

pub returns-in-Follow-clause-scratch_fault : goal.returns-in-Follow-clause-scratch_fault
returns-in-Follow-clause-scratch_fault g c =
    taken_blames c.follow.result c.run_answer-in-Follow.result stops.ScratchFault _ _ _
    c.run_answer-in-Follow.ensures
    (unblamed _ _ c.in-Ok.ensures.scratch.cause) c.follow.ensures.scratch_fault

pub returns-in-Follow-clause-untold : goal.returns-in-Follow-clause-untold
returns-in-Follow-clause-untold g c =
    taken_blames c.follow.result c.run_answer-in-Follow.result stops.Untold _ _ _
    c.run_answer-in-Follow.ensures
    c.start.ensures.wire.faults c.follow.ensures.untold

pub returns-in-Err-clause-unreadable : goal.returns-in-Err-clause-unreadable
returns-in-Err-clause-unreadable g c = none_blamed _ _ _ refl
    (λ blames. c.start_outcome.ensures.reads (c.tell.ensures.unreadable blames))

pub returns-in-Err-clause-disk_fault : goal.returns-in-Err-clause-disk_fault
returns-in-Err-clause-disk_fault g c =
    kept _ _ _ _ _ c.tell.ensures.disk.faults c.in-Err.ensures.disk_fault
    (λ blames. c.tell.ensures.disk_blamed (c.start_outcome.ensures.disk_blamed (cc blames)))
    (λ blames. ap Err (c.start_outcome.ensures.disk_fault (c.tell.ensures.disk_fault blames)))

pub returns-in-Err-clause-scratch_fault : goal.returns-in-Err-clause-scratch_fault
returns-in-Err-clause-scratch_fault g c =
    kept _ _ _ _ _ refl c.in-Err.ensures.scratch.cause
    (λ blames. c.tell.ensures.scratch_blamed (c.start_outcome.ensures.scratch_blamed (cc blames)))
    (λ blames. ap Err (c.start_outcome.ensures.scratch_fault (c.tell.ensures.scratch_fault blames)))

pub returns-in-Err-clause-untold : goal.returns-in-Err-clause-untold
returns-in-Err-clause-untold g c =
    carried _ _ _ _ _ c.start.ensures.wire.faults c.tell.ensures.cause (λ blames. blames)
    (λ blames. blames)
