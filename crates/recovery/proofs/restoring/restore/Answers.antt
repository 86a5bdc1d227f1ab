use Rattle.std.proofs.Common.{◌++◌, ◌∷◌, [], List, length, refl, sym, ap, subst, ◌∙◌, arith}
use Rattle.std.proofs.lemmas.List.{length-map, map_push}
use Rattle.std.proofs.lemmas.Result.{err_from_is_err_and}
use Rattle.lc_base.specs.declared.digest.Digest.{Digest}
use Rattle.lc_io.proofs.Retaining.{retains_refl, retains_trans}
use Rattle.rooted_chain.proofs.merkle_dag.Causes.{unblamed}
use Rattle.disk_model.specs.Disk.{content_of}
use Rattle.disk_model.proofs.Moments.{stays_on, stays_here}
use Rattle.block_log.specs.Standing.{Damaged, blocks_in}
use Rattle.block_log.specs.Log.{marks}
use Rattle.block_log.specs.declared.layout.Stored.{Stored}
use Rattle.rooted_chain.specs.chain_replay.Chain.{ChainState}
use Rattle.recovery.specs.declared.errors.StartError.TheVariants as starts
use Rattle.recovery.proofs.Leaving.{disk_failed, disk_spared, host_spares, is_disk, is_scratch}
use Rattle.recovery.proofs.Leaving.{log_spares, ok_spares, reads_unblamed, runs_then}
use Rattle.recovery.proofs.Leaving.{runs_unblamed, scratch_spared}
use Rattle.recovery.proofs.Replaying.{AreRun, none_run, one_run, not_run}
use Rattle.recovery.proofs.Started.{has_run, failed_turn}
use Rattle.recovery.proofs.restoring.restore.Goals as goal

pub loop-log-init : goal.loop-log-init
loop-log-init g c = record {
  stored = [];
  read = c.requires.none_read;
  run = λ known. subst (AreRun []) (sym c.in_ok-chain.ensures.kept) none_run;
  digests = ap (λ (kept : ChainState). kept.digests) c.in_ok-chain.ensures.kept;
  agrees = c.in_ok-chain.ensures.agrees (g.S.Scratch.state c.args.scratch.now);
  disk = stays_here g.M.Clock.now g.M.Clock.disk c.args.machine.now;
  told = refl;
  wire_faults = refl;
  no_fault = refl;
  retains = retains_refl (g.S.Scratch.state c.args.scratch.now);
  no_scratch_fault = refl;
  unused = λ is. refl;
}

pub loop-log-preserved : goal.loop-log-preserved
loop-log-preserved g c =
    let so_far = c.loop-log.invariant in
    let turn = rw c.in-Block.is at (c.in_ok-log.ensures.answer so_far.stored so_far.read) in
    let block = rw c.in-Block.is at c.in_ok-log.ensures.block in
    let digests = rw c.in-Ok-Ok.field-0-is at c.in-Ok-Ok.ensures.digests in
    record {
      stored = so_far.stored ++ c.in-Block.next ∷ [];
      read = turn;
      run = λ known.
          let is = rw c.in-Ok-Ok.field-0-is at
          (c.in-Ok-Ok.ensures.run (λ calls. so_far.retains.known ∙ known calls)
          (blocks_in so_far.stored) (so_far.run known).stands
          (rw c.marked-marked.ensures.is so_far.read.read.held.fits) block.digest_is) in
          one_run so_far.stored (g.C.Replay.kept c.loop-log.chain) (so_far.run known)
          c.marked-marked.result c.in-Block.next (g.C.Replay.kept c.in-Ok-Ok.longer)
          (rw c.marked-marked.ensures.is block.version_is) is.0 is.1;
      digests = digests ∙ ap (λ (ds : List Digest). ds ++ c.in-Block.next.digest ∷ [])
          so_far.digests ∙ sym (map_push (λ (one : Stored). one.digest) so_far.stored
          c.in-Block.next);
      agrees = rw c.in-Ok-Ok.field-0-is at c.in-Ok-Ok.ensures.agrees;
      disk = stays_on g.M.Clock.now g.M.Clock.disk c.args.machine.now c.loop-log.machine
          c.next.new.machine so_far.disk c.next.ensures.disk;
      told = c.next.ensures.told ∙ so_far.told;
      wire_faults = c.next.ensures.wire_faults ∙ so_far.wire_faults;
      no_fault = unblamed (g.M.Clock.disk_faults c.loop-log.machine)
          (g.M.Clock.disk_faults c.next.new.machine) c.in_ok-log.ensures.cause ∙ so_far.no_fault;
      retains = retains_trans (g.S.Scratch.state c.args.scratch.now)
          (g.S.Scratch.state c.loop-log.scratch) (g.S.Scratch.state c.run_stored.new.scratch)
          so_far.retains c.in-Ok-Ok.ensures.scratch.serves.retains;
      no_scratch_fault = unblamed (g.S.Scratch.scratch_faults c.loop-log.scratch)
          (g.S.Scratch.scratch_faults c.run_stored.new.scratch) c.in-Ok-Ok.ensures.scratch.serves.cause
          ∙ so_far.no_scratch_fault;
      unused = λ is. (c.in-Ok-Ok.ensures.scratch.unused is).0 ∙ so_far.unused is;
    }

pub loop-log-smaller : goal.loop-log-smaller
loop-log-smaller g c =
    let block = rw c.in-Block.is at c.in_ok-log.ensures.block in
    omega (arith, block.count_is, block.few, ap marks block.marked_is)

pub run_stored-requires-clause-is_block : goal.run_stored-requires-clause-is_block
run_stored-requires-clause-is_block g c =
    let block = rw c.in-Block.is at c.in_ok-log.ensures.block in
    block.lawful

pub run_stored-requires-clause-few : goal.run_stored-requires-clause-few
run_stored-requires-clause-few g c =
    let so_far = c.loop-log.invariant in
    let counted = ap (length {A = Digest}) so_far.digests in
    let as_many = length-map so_far.stored (λ (one : Stored). one.digest) in
    rw c.marked-marked.ensures.is (omega (
      arith,
      counted,
      as_many,
      so_far.read.read.held.count_is,
      c.marked-marked.ensures.few,
    ))

pub returns-in-End-clause-restored : goal.returns-in-End-clause-restored
returns-in-End-clause-restored g c known =
    let so_far = c.loop-log.invariant in
    let content = content_of (g.M.Clock.disk c.next.new.machine (g.M.Clock.now c.next.new.machine))
    in
    has_run so_far.stored (g.C.Replay.kept c.loop-log.chain) (so_far.run known) c.in-End.log content
    (rw c.in-End.is at (c.in_ok-log.ensures.answer so_far.stored so_far.read))

pub returns-in-End-clause-read : goal.returns-in-End-clause-read
returns-in-End-clause-read g c =
    let so_far = c.loop-log.invariant in
    record {
      stored = so_far.stored;
      all = rw c.in-End.is at
          (c.in_ok-log.ensures.answer so_far.stored so_far.read);
      digests_are = so_far.digests;
    }

pub returns-in-Ok-Err-clause-restored : goal.returns-in-Ok-Err-clause-restored
returns-in-Ok-Err-clause-restored g c known image told =
    let so_far = c.loop-log.invariant in
    let turn = rw c.in-Block.is at (c.in_ok-log.ensures.answer so_far.stored so_far.read) in
    let block = rw c.in-Block.is at c.in_ok-log.ensures.block in
    let run = rw c.in-Ok-Err.field-0-is at
    (c.in-Ok-Err.ensures.run (λ calls. so_far.retains.known ∙ known calls)
    (blocks_in so_far.stored) (so_far.run known).stands
    (rw c.marked-marked.ensures.is so_far.read.read.held.fits) block.digest_is) in
    let damaged = not_run so_far.stored (g.C.Replay.kept c.loop-log.chain) (so_far.run known)
    c.marked-marked.result _ c.in-Block.next image _ _ _
    (rw c.marked-marked.ensures.is block.version_is) run.0 (turn.read.stands image told) in
    (so_far.stored, damaged ∙ ap (Damaged so_far.stored) (sym run.1))

pub returns-in_err-log-clause-restored : goal.returns-in_err-log-clause-restored
returns-in_err-log-clause-restored g c known =
    let so_far = c.loop-log.invariant in
    let content = content_of (g.M.Clock.disk c.next.new.machine (g.M.Clock.now c.next.new.machine))
    in
    let p = err_from_is_err_and c.from_residual-in_err-log.result
    c.from_residual-in_err-log.ensures.1 in
    rw p.1 (failed_turn g.C.Replay.kept content so_far.stored (g.C.Replay.kept c.loop-log.chain)
    (so_far.run known) c.in_err-log.field-0.0 p.0 p.2
    (c.in_err-log.ensures.answer so_far.stored so_far.read))

-- ---- what it does to the machine and to the scratch device

pub loop-log-preserved-in-Mark : goal.loop-log-preserved-in-Mark
loop-log-preserved-in-Mark g c =
    let so_far = c.loop-log.invariant in
    record {
      stored = so_far.stored;
      read = rw c.in-Mark.is at (c.in_ok-log.ensures.answer so_far.stored so_far.read);
      run = so_far.run;
      digests = so_far.digests;
      agrees = so_far.agrees;
      disk = stays_on g.M.Clock.now g.M.Clock.disk c.args.machine.now c.loop-log.machine
          c.next.new.machine so_far.disk c.next.ensures.disk;
      told = c.next.ensures.told ∙ so_far.told;
      wire_faults = c.next.ensures.wire_faults ∙ so_far.wire_faults;
      no_fault = unblamed (g.M.Clock.disk_faults c.loop-log.machine)
          (g.M.Clock.disk_faults c.next.new.machine) c.in_ok-log.ensures.cause ∙ so_far.no_fault;
      retains = so_far.retains;
      no_scratch_fault = so_far.no_scratch_fault;
      unused = so_far.unused;
    }

pub returns-in_err-chain-clause-machine : goal.returns-in_err-chain-clause-machine
returns-in_err-chain-clause-machine g c =
    let p = err_from_is_err_and c.from_residual.result c.from_residual.ensures.1 in
    rw p.1 (reads_unblamed g.M.Clock.now g.M.Clock.disk g.M.Clock.disk_faults g.M.Clock.told
    g.M.Clock.wire_faults c.args.machine.now c.args.machine.now _
    (stays_here g.M.Clock.now g.M.Clock.disk c.args.machine.now) refl refl refl
    (disk_spared p.0 (ap is_disk p.2)))

pub returns-in_err-chain-clause-scratch : goal.returns-in_err-chain-clause-scratch
returns-in_err-chain-clause-scratch g c =
    let p = err_from_is_err_and c.from_residual.result c.from_residual.ensures.1 in
    rw p.1 (runs_unblamed g.C.Replay.calls_scratch g.S.Scratch.state g.S.Scratch.scratch_faults
    c.args.scratch.now c.args.scratch.now _ (retains_refl (g.S.Scratch.state c.args.scratch.now))
    refl (λ is. refl) (scratch_spared p.0 (ap is_scratch p.2)))

pub returns-in_err-log-clause-machine : goal.returns-in_err-log-clause-machine
returns-in_err-log-clause-machine g c =
    let so_far = c.loop-log.invariant in
    let p = err_from_is_err_and c.from_residual-in_err-log.result
    c.from_residual-in_err-log.ensures.1 in
    rw p.1 (record {
      stays = stays_on g.M.Clock.now g.M.Clock.disk c.args.machine.now c.loop-log.machine
          c.next.new.machine so_far.disk c.next.ensures.disk;
      wire = record {
        told = c.next.ensures.told ∙ so_far.told;
        faults = c.next.ensures.wire_faults ∙ so_far.wire_faults;
      };
      cause = disk_failed c.in_err-log.field-0.0 p.0 (g.M.Clock.disk_faults c.args.machine.now)
          (g.M.Clock.disk_faults c.loop-log.machine) (g.M.Clock.disk_faults c.next.new.machine)
          p.2 so_far.no_fault c.in_err-log.ensures.cause;
    })

pub returns-in_err-log-clause-scratch : goal.returns-in_err-log-clause-scratch
returns-in_err-log-clause-scratch g c =
    let so_far = c.loop-log.invariant in
    let p = err_from_is_err_and c.from_residual-in_err-log.result
    c.from_residual-in_err-log.ensures.1 in
    rw p.1 (runs_unblamed g.C.Replay.calls_scratch g.S.Scratch.state g.S.Scratch.scratch_faults
    c.args.scratch.now c.loop-log.scratch _ so_far.retains so_far.no_scratch_fault so_far.unused
    (log_spares c.in_err-log.field-0.0 p.0 p.2))

pub returns-in-End-clause-agrees : goal.returns-in-End-clause-agrees
returns-in-End-clause-agrees g c = c.loop-log.invariant.agrees

pub returns-in-End-clause-machine : goal.returns-in-End-clause-machine
returns-in-End-clause-machine g c =
    let so_far = c.loop-log.invariant in
    reads_unblamed g.M.Clock.now g.M.Clock.disk g.M.Clock.disk_faults g.M.Clock.told
    g.M.Clock.wire_faults c.args.machine.now c.next.new.machine _
    (stays_on g.M.Clock.now g.M.Clock.disk c.args.machine.now c.loop-log.machine
    c.next.new.machine so_far.disk c.next.ensures.disk) (c.next.ensures.told ∙ so_far.told)
    (c.next.ensures.wire_faults ∙ so_far.wire_faults)
    (unblamed _ _ c.in_ok-log.ensures.cause ∙ so_far.no_fault) ok_spares

pub returns-in-End-clause-scratch : goal.returns-in-End-clause-scratch
returns-in-End-clause-scratch g c =
    let so_far = c.loop-log.invariant in
    runs_unblamed g.C.Replay.calls_scratch g.S.Scratch.state g.S.Scratch.scratch_faults
    c.args.scratch.now c.loop-log.scratch _ so_far.retains so_far.no_scratch_fault so_far.unused
    ok_spares

pub returns-in-Ok-Err-clause-machine : goal.returns-in-Ok-Err-clause-machine
returns-in-Ok-Err-clause-machine g c =
    let so_far = c.loop-log.invariant in
    reads_unblamed g.M.Clock.now g.M.Clock.disk g.M.Clock.disk_faults g.M.Clock.told
    g.M.Clock.wire_faults c.args.machine.now c.next.new.machine _
    (stays_on g.M.Clock.now g.M.Clock.disk c.args.machine.now c.loop-log.machine
    c.next.new.machine so_far.disk c.next.ensures.disk) (c.next.ensures.told ∙ so_far.told)
    (c.next.ensures.wire_faults ∙ so_far.wire_faults)
    (unblamed _ _ c.in_ok-log.ensures.cause ∙ so_far.no_fault) (disk_spared (starts.Damaged c.in-Ok-Err.at) refl)

pub returns-in-Ok-Err-clause-scratch : goal.returns-in-Ok-Err-clause-scratch
returns-in-Ok-Err-clause-scratch g c =
    let so_far = c.loop-log.invariant in
    runs_then g.C.Replay.calls_scratch g.S.Scratch.state g.S.Scratch.scratch_faults
    c.args.scratch.now c.loop-log.scratch c.run_stored.new.scratch _ _ so_far.retains
    so_far.no_scratch_fault so_far.unused
    (rw c.in-Ok-Err.field-0-is at c.in-Ok-Err.ensures.scratch) (λ blames. absurd (ok_spares blames)) (λ blames. absurd (scratch_spared (starts.Damaged c.in-Ok-Err.at) refl blames))

pub returns-in-Err-Fault-clause-machine : goal.returns-in-Err-Fault-clause-machine
returns-in-Err-Fault-clause-machine g c =
    let so_far = c.loop-log.invariant in
    reads_unblamed g.M.Clock.now g.M.Clock.disk g.M.Clock.disk_faults g.M.Clock.told
    g.M.Clock.wire_faults c.args.machine.now c.next.new.machine _
    (stays_on g.M.Clock.now g.M.Clock.disk c.args.machine.now c.loop-log.machine
    c.next.new.machine so_far.disk c.next.ensures.disk) (c.next.ensures.told ∙ so_far.told)
    (c.next.ensures.wire_faults ∙ so_far.wire_faults)
    (unblamed _ _ c.in_ok-log.ensures.cause ∙ so_far.no_fault) (disk_spared starts.ScratchFault refl)

pub returns-in-Err-Fault-clause-scratch : goal.returns-in-Err-Fault-clause-scratch
returns-in-Err-Fault-clause-scratch g c =
    let so_far = c.loop-log.invariant in
    runs_then g.C.Replay.calls_scratch g.S.Scratch.state g.S.Scratch.scratch_faults
    c.args.scratch.now c.loop-log.scratch c.run_stored.new.scratch _ _ so_far.retains
    so_far.no_scratch_fault so_far.unused
    (rw c.in-Err-Fault.field-0-is at c.in-Err-Fault.ensures.scratch) (λ blames. refl) (λ blames. refl)

pub returns-in-Err-Memory-clause-machine : goal.returns-in-Err-Memory-clause-machine
returns-in-Err-Memory-clause-machine g c =
    let so_far = c.loop-log.invariant in
    reads_unblamed g.M.Clock.now g.M.Clock.disk g.M.Clock.disk_faults g.M.Clock.told
    g.M.Clock.wire_faults c.args.machine.now c.next.new.machine _
    (stays_on g.M.Clock.now g.M.Clock.disk c.args.machine.now c.loop-log.machine
    c.next.new.machine so_far.disk c.next.ensures.disk) (c.next.ensures.told ∙ so_far.told)
    (c.next.ensures.wire_faults ∙ so_far.wire_faults)
    (unblamed _ _ c.in_ok-log.ensures.cause ∙ so_far.no_fault) (disk_spared starts.Memory refl)

pub returns-in-Err-Memory-clause-scratch : goal.returns-in-Err-Memory-clause-scratch
returns-in-Err-Memory-clause-scratch g c =
    let so_far = c.loop-log.invariant in
    runs_then g.C.Replay.calls_scratch g.S.Scratch.state g.S.Scratch.scratch_faults
    c.args.scratch.now c.loop-log.scratch c.run_stored.new.scratch _ _ so_far.retains
    so_far.no_scratch_fault so_far.unused
    (rw c.in-Err-Memory.field-0-is at c.in-Err-Memory.ensures.scratch) (λ blames. absurd (host_spares blames)) (λ blames. absurd (scratch_spared starts.Memory refl blames))
