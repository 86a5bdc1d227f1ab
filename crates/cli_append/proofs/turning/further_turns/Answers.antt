use Rattle.std.proofs.Common.{◌≡◌, ◌<◌, length, refl}
use Rattle.std.specs.Prelude.{Ok}
use Rattle.cli_promises.specs.recovery.Node.{stored_placement}
use Rattle.chain_exec.specs.Compiled.{compiled_in}
use Rattle.follow_core.specs.Turning.{due_in}
use Rattle.follower_steps.specs.Steps.{further_turn}
use Rattle.cli_promises.specs.Following.{nothing_done, after_any}
use Rattle.cli_append.specs.FollowSteps.{Makes}
use Rattle.cli_append.proofs.Done.{grown_any}
use Rattle.cli_append.proofs.Made.{fewer_wait, told_by}
use Rattle.cli_append.proofs.Makings.{told_makes, fault_makes, none_makes, log_any, begun, goes_on}
use Rattle.cli_append.proofs.Makings.{stops_at, ends_at, Progress}
use Rattle.cli_append.proofs.turning.further_turns.Given.{Over}
use Rattle.cli_append.proofs.turning.further_turns.Goals as goal
use Rattle.cli_append.proofs.turning.further_turns.Goals.{After-tell_turn}

pub turns-init : goal.turns-init
turns-init g c =
    begun g.M.Clock.now g.M.Clock.disk g.M.Clock.told g.M.Clock.disk_faults
    g.M.Clock.wire_faults g.S.Scratch.state g.S.Scratch.scratch_faults
    (c.args.machine.now, c.args.scratch.now) c.args.follower c.requires.ready

pub drain-requires : goal.drain-requires
drain-requires g c = record { ready = c.turns.invariant.makes.ready }

module _ (g : Over) (c : After-tell_turn g) where
  -- the turn was made, and its line printed, or its first bytes
  turn_made : Makes g.M.Clock.now g.M.Clock.disk g.M.Clock.told g.M.Clock.disk_faults
      g.M.Clock.wire_faults g.S.Scratch.state g.S.Scratch.scratch_faults
      (c.turns.machine, c.turns.scratch) c.turns.follower
      (λ state. after_any compiled_in (nothing_done state) (further_turn stored_placement state))
      (c.tell_turn.new.machine, c.drain.new.scratch) (told_by c.in-Ok.next c.tell_turn.result)
  turn_made =
      told_makes g.M.Clock.now g.M.Clock.disk g.M.Clock.told g.M.Clock.disk_faults
      g.M.Clock.wire_faults g.S.Scratch.state g.S.Scratch.scratch_faults c.turns.machine
      c.drain.new.machine c.turns.scratch c.drain.new.scratch c.turns.follower
      (further_turn stored_placement) grown_any
      (λ known state content is there. c.drain.ensures.images known state content is there)
      (log_any g.M.Clock.now g.M.Clock.disk g.M.Clock.told g.M.Clock.disk_faults
      g.M.Clock.wire_faults g.S.Scratch.state g.S.Scratch.scratch_faults c.turns.machine
      c.drain.new.machine c.turns.follower.node.log (due_in
      (length c.turns.follower.node.chain.digests) c.turns.follower.waiting)
      c.turns.invariant.makes.ready.log c.drain.ensures.log_images) c.drain.ensures.wire
      c.tell_turn.new.machine c.in-Ok.next c.in-Some.turn c.tell_turn.result
      (λ known state is. rw c.in-Some.is at c.in-Ok.ensures.answer known state is)
      c.in-Ok.ensures.ready (rw c.in-Some.is at c.in-Ok.ensures.untouched)
      c.in-Ok.ensures.disk_cause (λ b. absurd (cc b)) c.in-Ok.ensures.scratch
      (λ b. absurd (cc b)) c.tell_turn.ensures

  -- its line was printed
  turn_told : c.tell_turn.result ≡ Ok tt → Progress g.M.Clock.now g.M.Clock.disk g.M.Clock.told
      g.M.Clock.disk_faults g.M.Clock.wire_faults g.S.Scratch.state g.S.Scratch.scratch_faults
      (c.args.machine.now, c.args.scratch.now) (c.tell_turn.new.machine, c.drain.new.scratch)
      c.args.follower c.in-Ok.next
  turn_told is =
      goes_on g.M.Clock.now g.M.Clock.disk g.M.Clock.told g.M.Clock.disk_faults
      g.M.Clock.wire_faults g.S.Scratch.state g.S.Scratch.scratch_faults
      (c.args.machine.now, c.args.scratch.now) (c.turns.machine, c.turns.scratch)
      (c.tell_turn.new.machine, c.drain.new.scratch) c.args.follower c.turns.follower
      c.in-Ok.next c.turns.invariant (rw is at turn_made)

  fewer : length c.in-Ok.next.waiting < length c.turns.follower.waiting
  fewer =
      fewer_wait (length c.turns.follower.node.chain.digests) c.turns.follower.waiting
      c.in-Ok.next.waiting _ refl (rw c.in-Some.is at c.in-Ok.ensures.any) c.in-Ok.ensures.waiting

-- the receipts of an added block are dropped before the next turn, and of others there are none
pub turns-preserved-in-Ok-tell_turn : goal.turns-preserved-in-Ok-tell_turn
turns-preserved-in-Ok-tell_turn g c =
    turn_told g (goal.at.turns-preserved-in-Ok-tell_turn g c).After-tell_turn c.in-Ok-tell_turn.is

pub turns-preserved : goal.turns-preserved
turns-preserved g c =
    turn_told g (goal.at.turns-preserved g c).After-tell_turn c.in-Ok-tell_turn.is

pub turns-smaller-in-Ok-tell_turn : goal.turns-smaller-in-Ok-tell_turn
turns-smaller-in-Ok-tell_turn g c =
    fewer g (goal.at.turns-smaller-in-Ok-tell_turn g c).After-tell_turn

pub turns-smaller : goal.turns-smaller
turns-smaller g c = fewer g (goal.at.turns-smaller g c).After-tell_turn

pub returns-in-Err-tell_turn : goal.returns-in-Err-tell_turn
returns-in-Err-tell_turn g c =
    stops_at g.M.Clock.now g.M.Clock.disk g.M.Clock.told g.M.Clock.disk_faults
    g.M.Clock.wire_faults g.S.Scratch.state g.S.Scratch.scratch_faults
    (c.args.machine.now, c.args.scratch.now) (c.turns.machine, c.turns.scratch)
    (c.tell_turn.new.machine, c.drain.new.scratch) c.args.follower c.turns.follower
    c.in-Err-tell_turn.stop c.turns.invariant
    (rw c.in-Err-tell_turn.is at
    (turn_made g (goal.at.returns-in-Err-tell_turn g c).After-tell_turn))

pub returns-in-None : goal.returns-in-None
returns-in-None g c =
    let answer = rw c.in-None.is at c.in-Ok.ensures.answer in
    ends_at g.M.Clock.now g.M.Clock.disk g.M.Clock.told g.M.Clock.disk_faults
    g.M.Clock.wire_faults g.S.Scratch.state g.S.Scratch.scratch_faults
    (c.args.machine.now, c.args.scratch.now) (c.turns.machine, c.turns.scratch)
    (c.drain.new.machine, c.drain.new.scratch) c.args.follower c.turns.follower c.in-Ok.next
    c.turns.invariant
    (none_makes g.M.Clock.now g.M.Clock.disk g.M.Clock.told g.M.Clock.disk_faults
    g.M.Clock.wire_faults g.S.Scratch.state g.S.Scratch.scratch_faults c.turns.machine
    c.drain.new.machine c.turns.scratch c.drain.new.scratch c.turns.follower c.in-Ok.next
    (further_turn stored_placement) answer c.turns.invariant.makes.ready.log c.in-Ok.ensures.ready
    ((rw c.in-None.is at c.in-Ok.ensures.untouched) refl) c.drain.ensures.wire
    c.in-Ok.ensures.disk_cause (λ b. absurd (cc b)) c.in-Ok.ensures.scratch
    (λ b. absurd (cc b))) answer

pub returns-in-Err : goal.returns-in-Err
returns-in-Err g c =
    stops_at g.M.Clock.now g.M.Clock.disk g.M.Clock.told g.M.Clock.disk_faults
    g.M.Clock.wire_faults g.S.Scratch.state g.S.Scratch.scratch_faults
    (c.args.machine.now, c.args.scratch.now) (c.turns.machine, c.turns.scratch)
    (c.drain.new.machine, c.drain.new.scratch) c.args.follower c.turns.follower
    c.stop_of.result c.turns.invariant
    (fault_makes g.M.Clock.now g.M.Clock.disk g.M.Clock.told g.M.Clock.disk_faults
    g.M.Clock.wire_faults g.S.Scratch.state g.S.Scratch.scratch_faults c.turns.machine
    c.drain.new.machine c.turns.scratch c.drain.new.scratch c.turns.follower
    (further_turn stored_placement) grown_any
    (λ known state content is there. c.drain.ensures.images known state content is there)
    (log_any g.M.Clock.now g.M.Clock.disk g.M.Clock.told g.M.Clock.disk_faults
    g.M.Clock.wire_faults g.S.Scratch.state g.S.Scratch.scratch_faults c.turns.machine
    c.drain.new.machine c.turns.follower.node.log (due_in
    (length c.turns.follower.node.chain.digests) c.turns.follower.waiting)
    c.turns.invariant.makes.ready.log c.drain.ensures.log_images) c.drain.ensures.wire
    c.in-Err.fault c.stop_of.result c.stop_of.ensures c.in-Err.ensures.disk_cause
    c.in-Err.ensures.scratch)
