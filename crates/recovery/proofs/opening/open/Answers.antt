use Rattle.std.proofs.Common.{Ok, Err, refl, sym, ap, subst, ◌∙◌}
use Rattle.std.proofs.lemmas.Result.{err_from_is_err_and}
use Rattle.lc_io.proofs.Retaining.{retains_refl}
use Rattle.disk_model.specs.Disk.{IsSettled, content_of}
use Rattle.rooted_chain.proofs.merkle_dag.Causes.{unblamed}
use Rattle.recovery.proofs.Leaving.{disk_failed, log_spares, ok_spares, reads_then, reads_unblamed}
use Rattle.recovery.proofs.Leaving.{runs_unblamed}
use Rattle.recovery.proofs.Started.{blank_read, blank_run, failed_start, has_log, has_node}
use Rattle.recovery.proofs.Started.{has_one_chain, started}
use Rattle.recovery.proofs.opening.open.Goals as goal

pub restore-requires : goal.restore-requires
restore-requires g c = record { none_read = rw c.in-Records.is at c.in_ok-reader.ensures.answer }

pub returns-in-Records-clause-answer : goal.returns-in-Records-clause-answer
returns-in-Records-clause-answer g c known content told =
    let same = c.restore.ensures.machine.stays.last ∙ c.start.ensures.disk.last in
    started g.C.Replay.kept (g.M.Clock.disk c.restore.new.machine
    (g.M.Clock.now c.restore.new.machine)) (subst IsSettled (sym same) c.requires.settled)
    c.restore.result (c.restore.ensures.restored known) content (ap content_of same ∙ told)

pub returns-in-Records-clause-blocks : goal.returns-in-Records-clause-blocks
returns-in-Records-clause-blocks g c known =
    let same = c.restore.ensures.machine.stays.last ∙ c.start.ensures.disk.last in
    has_node g.C.Replay.kept
    (g.M.Clock.disk c.restore.new.machine (g.M.Clock.now c.restore.new.machine))
    (subst IsSettled (sym same) c.requires.settled) c.restore.result
    (c.restore.ensures.restored known)

pub returns-in-Records-clause-log : goal.returns-in-Records-clause-log
returns-in-Records-clause-log g c =
    let same = c.restore.ensures.machine.stays.last ∙ c.start.ensures.disk.last in
    has_log g.C.Replay.kept (g.M.Clock.disk c.restore.new.machine
    (g.M.Clock.now c.restore.new.machine)) (subst IsSettled (sym same) c.requires.settled)
    c.restore.result c.restore.ensures.read

pub returns-in-Records-clause-one_chain : goal.returns-in-Records-clause-one_chain
returns-in-Records-clause-one_chain g c =
    let same = c.restore.ensures.machine.stays.last ∙ c.start.ensures.disk.last in
    has_one_chain g.C.Replay.kept
    (g.M.Clock.disk c.restore.new.machine (g.M.Clock.now c.restore.new.machine))
    (subst IsSettled (sym same) c.requires.settled) c.restore.result c.restore.ensures.read

pub returns-in_ok-chain-in-Blank-clause-answer : goal.returns-in_ok-chain-in-Blank-clause-answer
returns-in_ok-chain-in-Blank-clause-answer g c known content told =
    let state = g.M.Clock.disk c.start.new.machine (g.M.Clock.now c.start.new.machine) in
    let same = c.start.ensures.disk.last in
    let run = blank_run (g.C.Replay.kept c.in_ok-chain-in-Blank.chain) c.in-Blank.log
    (content_of state) c.in_ok-chain-in-Blank.ensures.kept
    (rw c.in-Blank.is at c.in_ok-reader.ensures.answer) in
    started g.C.Replay.kept state (subst IsSettled (sym same) c.requires.settled)
    (Ok (c.in_ok-chain-in-Blank.chain, c.in-Blank.log)) run content (ap content_of same ∙ told)

pub returns-in_ok-chain-in-Blank-clause-blocks : goal.returns-in_ok-chain-in-Blank-clause-blocks
returns-in_ok-chain-in-Blank-clause-blocks g c known =
    let state = g.M.Clock.disk c.start.new.machine (g.M.Clock.now c.start.new.machine) in
    let same = c.start.ensures.disk.last in
    let run = blank_run (g.C.Replay.kept c.in_ok-chain-in-Blank.chain) c.in-Blank.log
    (content_of state) c.in_ok-chain-in-Blank.ensures.kept
    (rw c.in-Blank.is at c.in_ok-reader.ensures.answer) in
    has_node g.C.Replay.kept state (subst IsSettled (sym same) c.requires.settled)
    (Ok (c.in_ok-chain-in-Blank.chain, c.in-Blank.log)) run

pub returns-in_ok-chain-in-Blank-clause-log : goal.returns-in_ok-chain-in-Blank-clause-log
returns-in_ok-chain-in-Blank-clause-log g c =
    let state = g.M.Clock.disk c.start.new.machine (g.M.Clock.now c.start.new.machine) in
    let same = c.start.ensures.disk.last in
    let read = blank_read (g.C.Replay.kept c.in_ok-chain-in-Blank.chain) c.in-Blank.log
    (content_of state) c.in_ok-chain-in-Blank.ensures.kept
    (rw c.in-Blank.is at c.in_ok-reader.ensures.answer) in
    has_log g.C.Replay.kept state (subst IsSettled (sym same) c.requires.settled)
    (Ok (c.in_ok-chain-in-Blank.chain, c.in-Blank.log)) read

pub returns-in_ok-chain-in-Blank-clause-one_chain :
    goal.returns-in_ok-chain-in-Blank-clause-one_chain
returns-in_ok-chain-in-Blank-clause-one_chain g c =
    let state = g.M.Clock.disk c.start.new.machine (g.M.Clock.now c.start.new.machine) in
    let same = c.start.ensures.disk.last in
    let read = blank_read (g.C.Replay.kept c.in_ok-chain-in-Blank.chain) c.in-Blank.log
    (content_of state) c.in_ok-chain-in-Blank.ensures.kept
    (rw c.in-Blank.is at c.in_ok-reader.ensures.answer) in
    has_one_chain g.C.Replay.kept state (subst IsSettled (sym same) c.requires.settled)
    (Ok (c.in_ok-chain-in-Blank.chain, c.in-Blank.log)) read

pub returns-in_err-reader-clause-answer : goal.returns-in_err-reader-clause-answer
returns-in_err-reader-clause-answer g c known content told =
    let state = g.M.Clock.disk c.start.new.machine (g.M.Clock.now c.start.new.machine) in
    let same = c.start.ensures.disk.last in
    let p = err_from_is_err_and c.from_residual.result c.from_residual.ensures.1 in
    rw p.1 (started g.C.Replay.kept state (subst IsSettled (sym same) c.requires.settled) (Err p.0)
    (failed_start g.C.Replay.kept (content_of state) c.in_err-reader.field-0.0 p.0 p.2
    c.in_err-reader.ensures.answer) content (ap content_of same ∙ told))

-- ---- what it does to the machine and to the scratch device

pub returns-in-Records-clause-agrees : goal.returns-in-Records-clause-agrees
returns-in-Records-clause-agrees g c = c.restore.ensures.agrees

pub returns-in-Records-clause-machine : goal.returns-in-Records-clause-machine
returns-in-Records-clause-machine g c = reads_then g.M.Clock.now g.M.Clock.disk
    g.M.Clock.disk_faults g.M.Clock.told g.M.Clock.wire_faults c.args.machine.now
    c.start.new.machine c.restore.new.machine _ c.start.ensures.disk c.start.ensures.told
    c.start.ensures.wire_faults (unblamed _ _ c.in_ok-reader.ensures.cause)
    c.restore.ensures.machine

pub returns-in-Records-clause-scratch : goal.returns-in-Records-clause-scratch
returns-in-Records-clause-scratch g c = c.restore.ensures.scratch

pub returns-in_ok-chain-in-Blank-clause-agrees : goal.returns-in_ok-chain-in-Blank-clause-agrees
returns-in_ok-chain-in-Blank-clause-agrees g c =
    c.in_ok-chain-in-Blank.ensures.agrees (g.S.Scratch.state c.args.scratch.now)

pub returns-in_ok-chain-in-Blank-clause-machine : goal.returns-in_ok-chain-in-Blank-clause-machine
returns-in_ok-chain-in-Blank-clause-machine g c = reads_unblamed g.M.Clock.now g.M.Clock.disk
    g.M.Clock.disk_faults g.M.Clock.told g.M.Clock.wire_faults c.args.machine.now
    c.start.new.machine _ c.start.ensures.disk c.start.ensures.told c.start.ensures.wire_faults
    (unblamed _ _ c.in_ok-reader.ensures.cause) ok_spares

pub returns-in_ok-chain-in-Blank-clause-scratch : goal.returns-in_ok-chain-in-Blank-clause-scratch
returns-in_ok-chain-in-Blank-clause-scratch g c = runs_unblamed g.C.Replay.calls_scratch
    g.S.Scratch.state g.S.Scratch.scratch_faults c.args.scratch.now c.args.scratch.now _
    (retains_refl (g.S.Scratch.state c.args.scratch.now)) refl (λ is. refl) ok_spares

pub returns-in_err-reader-clause-machine : goal.returns-in_err-reader-clause-machine
returns-in_err-reader-clause-machine g c =
    let p = err_from_is_err_and c.from_residual.result c.from_residual.ensures.1 in
    rw p.1 (record {
      stays = c.start.ensures.disk;
      wire = record { told = c.start.ensures.told; faults = c.start.ensures.wire_faults };
      cause = disk_failed c.in_err-reader.field-0.0 p.0 (g.M.Clock.disk_faults c.args.machine.now)
          (g.M.Clock.disk_faults c.args.machine.now) (g.M.Clock.disk_faults c.start.new.machine)
          p.2 refl c.in_err-reader.ensures.cause;
    })

pub returns-in_err-reader-clause-scratch : goal.returns-in_err-reader-clause-scratch
returns-in_err-reader-clause-scratch g c =
    let p = err_from_is_err_and c.from_residual.result c.from_residual.ensures.1 in
    rw p.1 (runs_unblamed g.C.Replay.calls_scratch g.S.Scratch.state g.S.Scratch.scratch_faults
    c.args.scratch.now c.args.scratch.now _ (retains_refl (g.S.Scratch.state c.args.scratch.now))
    refl (λ is. refl) (log_spares c.in_err-reader.field-0.0 p.0 p.2))
