use Rattle.std.proofs.Common.{true, false, refl, arith, ◌∙◌}
use Rattle.disk_model.proofs.Moments.{stays_here, stays_on}
use Rattle.cli_promises.proofs.Tellings.{none_to_tell}
use Rattle.cli_output.proofs.Plain.{plain_ok, plain_err, one_more, cut_off, all_of}
use Rattle.cli_output.proofs.telling.tell_all.Goals as goal

pub loop-piece-init : goal.loop-piece-init
loop-piece-init g c = record {
  lines = λ next. none_to_tell next g.M.Clock.now g.M.Clock.disk g.M.Clock.told _ _ _ refl;
  disk = stays_here g.M.Clock.now g.M.Clock.disk c.args.machine.now;
  disk_faults = refl;
  wire_faults = refl;
}

pub returns-in-Err-clause-lines : goal.returns-in-Err-clause-lines
returns-in-Err-clause-lines g c next =
    cut_off g.M.Clock.now g.M.Clock.disk g.M.Clock.told next c.args.machine.now c.tell.new.self c.args.pieces.now _ false
    (one_more g.M.Clock.now g.M.Clock.disk g.M.Clock.told next c.args.machine.now c.loop-piece.machine c.tell.new.self c.args.pieces.now c.loop-piece.piece-index c.as_bytes.result.now c.piece-item.result false c.loop-piece-test.true c.as_bytes.ensures c.piece-item.is
    (c.loop-piece.invariant.lines next) c.in-Err.ensures.disk (λ text is. plain_err g.M.Clock.now g.M.Clock.disk g.M.Clock.told next c.loop-piece.machine c.tell.new.self c.as_bytes.result.now text is c.in-Err.ensures.disk c.in-Err.ensures.told))

pub loop-piece-preserved : goal.loop-piece-preserved
loop-piece-preserved g c = record {
  lines = λ next. one_more g.M.Clock.now g.M.Clock.disk g.M.Clock.told next c.args.machine.now c.loop-piece.machine c.tell.new.self c.args.pieces.now c.loop-piece.piece-index c.as_bytes.result.now c.piece-item.result true c.loop-piece-test.true c.as_bytes.ensures c.piece-item.is
      (c.loop-piece.invariant.lines next) c.in-Ok.ensures.disk (λ text is. plain_ok g.M.Clock.now g.M.Clock.disk g.M.Clock.told next c.loop-piece.machine c.tell.new.self c.as_bytes.result.now text is c.in-Ok.ensures.disk c.in-Ok.ensures.told);
  disk = stays_on g.M.Clock.now g.M.Clock.disk c.args.machine.now c.loop-piece.machine c.tell.new.self c.loop-piece.invariant.disk c.in-Ok.ensures.disk;
  disk_faults = c.in-Ok.ensures.disk_faults ∙ c.loop-piece.invariant.disk_faults;
  wire_faults = grind (arith, c.loop-piece.invariant.wire_faults, c.in-Ok.ensures.cause.told, c.in-Ok.ensures.cause.later);
}

pub returns-clause-lines : goal.returns-clause-lines
returns-clause-lines g c next =
    all_of g.M.Clock.now g.M.Clock.disk g.M.Clock.told next c.args.machine.now c.loop-piece.machine c.args.pieces.now c.loop-piece.piece-index true (omega (arith, c.loop-piece-test.false)) (c.loop-piece.invariant.lines next)
