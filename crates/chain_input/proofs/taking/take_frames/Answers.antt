use Rattle.std.proofs.Common.{arith, refl}
use Rattle.chain_input.proofs.Taken.{one_turn, one_more, malformed, stopped, ended}
use Rattle.chain_input.proofs.taking.take_frames.Goals as goal

pub turns-init : goal.turns-init
turns-init g c = rw c.new-frames.ensures (record {
  bound = omega arith;
  still = refl;
  ready = c.requires.ready;
  same = g.met.T.FrameTaker.same_refl _;
  taken = refl;
})

pub turns-preserved : goal.turns-preserved
turns-preserved g c =
    let count = rw c.in-Ok-Some.field-0-is at c.in-Ok-Some.ensures.count in
    let turn = rw (c.as_bytes.ensures, c.in-Ok-Taken.field-0-is) at c.in-Ok-Taken.ensures.turn in
    record {
      bound = count.1;
      still = grind (
        arith,
        c.turns.invariant.still,
        c.in-Ok-Some.ensures.cause.told,
        c.in-Ok-Some.ensures.cause.later,
      );
      ready = g.met.T.FrameTaker.turn_ready _ _ _ _ _ turn;
      same = g.met.T.FrameTaker.same_trans _ _ _ c.turns.invariant.same c.take.ensures.same;
      taken = one_more g.T.FrameTaker.turn _ _ _ _ _ count.0 c.turns.invariant.taken
          (one_turn g.T.FrameTaker.turn _ c.in-Ok-Some.more _ _ _ c.in-Ok-Some.bytes _ count.0
          (rw c.in-Ok-Some.field-0-is at c.in-Ok-Some.ensures.answer) turn);
    }

pub returns-in-Ok-None-clause-takes : goal.returns-in-Ok-None-clause-takes
returns-in-Ok-None-clause-takes g c =
    ended g.T.FrameTaker.turn _ _ _ _ _ _ c.turns.invariant.bound c.turns.invariant.taken
    (rw c.in-Ok-None.field-0-is at c.in-Ok-None.ensures.answer, refl, refl)

pub returns-in-Ok-Refused-clause-takes : goal.returns-in-Ok-Refused-clause-takes
returns-in-Ok-Refused-clause-takes g c =
    ended g.T.FrameTaker.turn _ _ _ _ _ _ c.turns.invariant.bound c.turns.invariant.taken (
      c.count-frame.ensures.count,
      one_turn g.T.FrameTaker.turn _ c.in-Ok-Some.more _ _ _
          c.in-Ok-Some.bytes _
          (rw c.in-Ok-Some.field-0-is at c.in-Ok-Some.ensures.count).0
          (rw c.in-Ok-Some.field-0-is at c.in-Ok-Some.ensures.answer)
          (rw (c.as_bytes.ensures, c.in-Ok-Refused.field-0-is) at c.in-Ok-Refused.ensures.turn),
    )

pub returns-in-Err-take-clause-takes : goal.returns-in-Err-take-clause-takes
returns-in-Err-take-clause-takes g c =
    ended g.T.FrameTaker.turn _ _ _ _ _ _ c.turns.invariant.bound c.turns.invariant.taken
    (one_turn g.T.FrameTaker.turn _ c.in-Ok-Some.more _ _ _ c.in-Ok-Some.bytes _
    (rw c.in-Ok-Some.field-0-is at c.in-Ok-Some.ensures.count).0
    (rw c.in-Ok-Some.field-0-is at c.in-Ok-Some.ensures.answer)
    (rw c.as_bytes.ensures at c.in-Err-take.ensures.turn))

pub returns-in-Ok-clause-takes : goal.returns-in-Ok-clause-takes
returns-in-Ok-clause-takes g c =
    ended g.T.FrameTaker.turn _ _ _ _ _ _ c.turns.invariant.bound c.turns.invariant.taken (
      c.count-frame.ensures.count,
      malformed g.T.FrameTaker.turn _ _ _ _ _ c.in-Err.ensures.answer c.in-Ok.ensures,
    )

pub returns-in-Err-cause_of-clause-takes : goal.returns-in-Err-cause_of-clause-takes
returns-in-Err-cause_of-clause-takes g c =
    ended g.T.FrameTaker.turn _ _ _ _ _ _ c.turns.invariant.bound c.turns.invariant.taken
    (stopped g.T.FrameTaker.turn _ _ _ _ _ c.in-Err-cause_of.ensures)
