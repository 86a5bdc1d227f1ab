use Rattle.std.specs.Prelude.{Some}
use Rattle.block_codec.specs.Reading.{block_in}
use Rattle.cli_promises.specs.recovery.Node.{stored_placement}
use Rattle.chain_exec.specs.Compiled.{compiled_in}
use Rattle.cli_append.proofs.ByLog.{log_taken}
use Rattle.follower_steps.specs.Steps.{first_turn}
use Rattle.cli_promises.specs.Following.{nothing_done, after_step}
use Rattle.cli_append.specs.FollowSteps.{Makes}
use Rattle.cli_append.proofs.Done.{grown_first}
use Rattle.cli_append.proofs.Made.{told_by}
use Rattle.cli_append.proofs.Makings.{told_makes, fault_makes}
use Rattle.cli_append.proofs.turning.first_turn.Given.{Over}
use Rattle.cli_append.proofs.turning.first_turn.Goals as goal
use Rattle.cli_append.proofs.turning.first_turn.Goals.{After-tell_turn}

-- the turn was made, and its line printed, or its first bytes
turn_made : (g : Over) (c : After-tell_turn g) → Makes g.M.Clock.now g.M.Clock.disk g.M.Clock.told
    g.M.Clock.disk_faults g.M.Clock.wire_faults g.S.Scratch.state g.S.Scratch.scratch_faults
    (c.args.machine.now, c.args.scratch.now) c.args.follower
    (λ state. after_step compiled_in (nothing_done state)
    (first_turn stored_placement state c.args.index c.args.bytes))
    (c.tell_turn.new.machine, c.deliver.new.scratch) (told_by c.in-Ok.next c.tell_turn.result)
turn_made g c =
    told_makes g.M.Clock.now g.M.Clock.disk g.M.Clock.told g.M.Clock.disk_faults
    g.M.Clock.wire_faults g.S.Scratch.state g.S.Scratch.scratch_faults c.args.machine.now
    c.deliver.new.machine c.args.scratch.now c.deliver.new.scratch c.args.follower
    (λ state. Some (first_turn stored_placement state c.args.index c.args.bytes))
    (λ state. grown_first state c.args.index c.args.bytes)
    (λ known state content is there. c.deliver.ensures.images known state content is there)
    (λ content there. log_taken g.M.Clock.now g.M.Clock.disk c.args.machine.now
    c.deliver.new.machine c.args.follower.node.log content (block_in c.args.bytes)
    c.requires.ready.log there c.deliver.ensures.log_images) c.deliver.ensures.wire
    c.tell_turn.new.machine c.in-Ok.next c.in-Ok.turn c.tell_turn.result
    (λ known state is. c.in-Ok.ensures.answer known state is) c.in-Ok.ensures.ready
    c.in-Ok.ensures.untouched c.in-Ok.ensures.disk_cause (λ b. absurd (cc b))
    c.in-Ok.ensures.scratch (λ b. absurd (cc b)) c.tell_turn.ensures

pub returns-in-Ok-tell_turn : goal.returns-in-Ok-tell_turn
returns-in-Ok-tell_turn g c = rw c.in-Ok-tell_turn.is at
    (turn_made g (goal.at.returns-in-Ok-tell_turn g c).After-tell_turn)

pub returns-in-Ok : goal.returns-in-Ok
returns-in-Ok g c = rw c.in-Err-tell_turn.is at
    (turn_made g (goal.at.returns-in-Ok g c).After-tell_turn)

pub returns : goal.returns
returns g c =
    fault_makes g.M.Clock.now g.M.Clock.disk g.M.Clock.told g.M.Clock.disk_faults
    g.M.Clock.wire_faults g.S.Scratch.state g.S.Scratch.scratch_faults c.args.machine.now
    c.deliver.new.machine c.args.scratch.now c.deliver.new.scratch c.args.follower
    (λ state. Some (first_turn stored_placement state c.args.index c.args.bytes))
    (λ state. grown_first state c.args.index c.args.bytes)
    (λ known state content is there. c.deliver.ensures.images known state content is there)
    (λ content there. log_taken g.M.Clock.now g.M.Clock.disk c.args.machine.now
    c.deliver.new.machine c.args.follower.node.log content (block_in c.args.bytes)
    c.requires.ready.log there c.deliver.ensures.log_images) c.deliver.ensures.wire
    c.in-Err.fault c.stop_of.result c.stop_of.ensures c.in-Err.ensures.disk_cause
    c.in-Err.ensures.scratch
