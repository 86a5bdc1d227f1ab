use Rattle.std.proofs.Common.{◌≡◌, ◌∙◌, ◌++◌, ◌∷◌, [], ℕ, List, length, take, ap, arith}
use Rattle.std.proofs.Math.Seq.{take-length}
use Rattle.lc_io.proofs.Retaining.{retains_trans}
use Rattle.body_store.specs.Bodies.{bodies_in}
use Rattle.merkle_dag.proofs.Causes.{blameless, unblamed}
use Rattle.merkle_dag.proofs.NextRows.{bodies_more, one_longer}
use Rattle.merkle_dag.proofs.adding.add_bodies.Goals as goal

pub returns-in-Err-clause-cause : goal.returns-in-Err-clause-cause
returns-in-Err-clause-cause g c = rw (← c.loop-bytes.invariant.still) c.in-Err.ensures.cause

pub loop-bytes-preserved : goal.loop-bytes-preserved
loop-bytes-preserved g c =
    let more : bodies_in c.push.new.self ≡ bodies_in c.loop-bytes.bodies ++ c.bytes-item.result ∷ [] =
    c.in-Ok.ensures.pushed
    ∙ ap (λ (body : List ℕ). bodies_in c.loop-bytes.bodies ++ body ∷ [])
    (c.in_ok-body.ensures.ok ∙ c.as_slice.ensures) in
    record {
      bodies = bodies_more c.args.new.now c.loop-bytes.bytes-index c.bytes-item.result
          c.loop-bytes-test.true c.bytes-item.is (bodies_in c.args.bodies.now)
          (bodies_in c.loop-bytes.bodies) (bodies_in c.push.new.self)
          c.loop-bytes.invariant.bodies more;
      count = omega (
        arith,
        c.loop-bytes.invariant.count,
        one_longer c.loop-bytes.bodies c.push.new.self c.bytes-item.result more,
      );
      agrees = c.in-Ok.ensures.agrees;
      retains = retains_trans _ _ _ c.loop-bytes.invariant.retains c.in-Ok.ensures.retains;
      still = unblamed _ _ c.in-Ok.ensures.cause ∙ c.loop-bytes.invariant.still;
    }

pub returns-clause-bodies : goal.returns-clause-bodies
returns-clause-bodies g c =
    let new = c.args.new.now in
    let all : c.loop-bytes.bytes-index ≡ length new = omega
    (arith, c.loop-bytes-test.false, c.loop-bytes.auto.bytes-index-end) in
    c.loop-bytes.invariant.bodies
    ∙ ap (λ (done : List (List ℕ)). bodies_in c.args.bodies.now ++ done)
    (ap (λ n. take n new) all ∙ take-length new)

pub returns-clause-cause : goal.returns-clause-cause
returns-clause-cause g c = blameless _ _ c.loop-bytes.invariant.still
