use Rattle.std.proofs.Common.{refl, ◌+◌, arith}
use Rattle.std.specs.Prelude.{Ok, Err}
use Rattle.cli_append.proofs.follow_taking.DelivererFrameTaker.take.Goals as goal

pub returns-in-Ok-clause-turn : goal.returns-in-Ok-clause-turn
returns-in-Ok-clause-turn g c = record {
  answer = Ok c.in-Ok.follower;
  next = c.saturating_add-next.result;
  counts = λ less. omega (arith, less, c.saturating_add-next.ensures);
  answer_is = refl;
  delivers = c.in-Ok.ensures;
  ready = c.in-Ok.ensures.ready;
}

pub returns-in-Err-clause-turn : goal.returns-in-Err-clause-turn
returns-in-Err-clause-turn g c = record {
  answer = Err c.in-Err.stop;
  next = c.args.chain.next + 1;
  counts = λ less. refl;
  answer_is = refl;
  delivers = c.in-Err.ensures;
  ready = tt;
}
