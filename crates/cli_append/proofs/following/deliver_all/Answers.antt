use Rattle.std.proofs.Common.{refl, [], rules}
use Rattle.chain_input.specs.Taking.{TakesInput}
use Rattle.chain_input.proofs.Taken.{input_of}
use Rattle.cli_append.proofs.Turns.{same_input}
use Rattle.cli_append.specs.FollowSteps.{FollowsFrame}
use Rattle.follower_steps.specs.Steps.{started}
use Rattle.cli_append.proofs.FollowTurns.{log_ends, retains_ends, goes_ends, reads_ends, disk_ends}
use Rattle.cli_append.proofs.FollowTurns.{scratch_ends, wire_ends, same_follower}
use Rattle.cli_append.proofs.following.deliver_all.Given.{Over}
use Rattle.cli_append.proofs.following.deliver_all.Goals as goal
use Rattle.cli_append.proofs.following.deliver_all.Goals.{After-take_frames}

-- what was taken of the input, by the machine and the scratch device that were lent
taken : (g : Over) (c : After-take_frames g) → TakesInput (FollowsFrame g.M.Clock.now
    g.M.Clock.disk g.M.Clock.told g.M.Clock.disk_faults g.M.Clock.wire_faults g.S.Scratch.state
    g.S.Scratch.scratch_faults) (record {
      left = g.I.Source.left c.args.source.now;
      taker = (c.args.machine.now, c.args.scratch.now);
      chain = record { follower = record { node = c.args.node; waiting = [] }; next = 0 };
    }) (g.I.Source.left c.take_frames.new.source)
    (c.take_frames.new.taker.machine.now, c.take_frames.new.taker.scratch.now) c.take_frames.result
taken g c = same_follower (FollowsFrame g.M.Clock.now g.M.Clock.disk g.M.Clock.told
    g.M.Clock.disk_faults g.M.Clock.wire_faults g.S.Scratch.state g.S.Scratch.scratch_faults) _ _ _
    (record { node = c.args.node; waiting = [] }) _ _ _ c.new-follower.ensures
    (input_of _ (λ s. (s.machine.now, s.scratch.now))
    (FollowsFrame g.M.Clock.now g.M.Clock.disk g.M.Clock.told g.M.Clock.disk_faults
    g.M.Clock.wire_faults g.S.Scratch.state g.S.Scratch.scratch_faults)
    (λ s t chain frame turned has. has) _ _ _ _ c.take_frames.ensures.takes)

pub returns-clause-takes : goal.returns-clause-takes
returns-clause-takes g c =
    same_input (FollowsFrame g.M.Clock.now g.M.Clock.disk g.M.Clock.told g.M.Clock.disk_faults
    g.M.Clock.wire_faults g.S.Scratch.state g.S.Scratch.scratch_faults) _ _ _
    c.take_frames.new.taker.machine.now _ c.take_frames.new.taker.scratch.now _ (search rules)
    (search rules) (taken g (goal.at.returns-clause-takes g c).After-take_frames)

pub returns-clause-goes_on : goal.returns-clause-goes_on
returns-clause-goes_on g c known blocks is is_told = search (
  rules,
  goes_ends g.M.Clock.now g.M.Clock.disk g.M.Clock.told g.M.Clock.disk_faults
      g.M.Clock.wire_faults g.S.Scratch.state g.S.Scratch.scratch_faults _ _ _ refl
      c.requires.ready _ (taken g (goal.at.returns-clause-goes_on g c).After-take_frames) known
      (started blocks c.args.node.log.is_marked)
      (record { node = is; marked = refl; waiting = refl }) is_told,
)

pub returns-clause-log_goes_on : goal.returns-clause-log_goes_on
returns-clause-log_goes_on g c content content_is = search (
  rules,
  log_ends g.M.Clock.now g.M.Clock.disk g.M.Clock.told g.M.Clock.disk_faults
      g.M.Clock.wire_faults g.S.Scratch.state g.S.Scratch.scratch_faults _ _ _ refl
      c.requires.ready _ (taken g (goal.at.returns-clause-log_goes_on g c).After-take_frames)
      content content_is,
)

pub returns-clause-retains : goal.returns-clause-retains
returns-clause-retains g c = search (
  rules,
  retains_ends g.M.Clock.now g.M.Clock.disk g.M.Clock.told g.M.Clock.disk_faults
      g.M.Clock.wire_faults g.S.Scratch.state g.S.Scratch.scratch_faults _ _ _ refl
      c.requires.ready _ (taken g (goal.at.returns-clause-retains g c).After-take_frames),
)

pub returns-clause-disk_fault : goal.returns-clause-disk_fault
returns-clause-disk_fault g c = search (
  rules,
  disk_ends g.M.Clock.now g.M.Clock.disk g.M.Clock.told g.M.Clock.disk_faults
      g.M.Clock.wire_faults g.S.Scratch.state g.S.Scratch.scratch_faults _ _ _ refl
      c.requires.ready _ (taken g (goal.at.returns-clause-disk_fault g c).After-take_frames),
)

pub returns-clause-scratch_fault : goal.returns-clause-scratch_fault
returns-clause-scratch_fault g c = search (
  rules,
  scratch_ends g.M.Clock.now g.M.Clock.disk g.M.Clock.told g.M.Clock.disk_faults
      g.M.Clock.wire_faults g.S.Scratch.state g.S.Scratch.scratch_faults _ _ _ refl
      c.requires.ready _ (taken g (goal.at.returns-clause-scratch_fault g c).After-take_frames),
)

pub returns-clause-untold : goal.returns-clause-untold
returns-clause-untold g c = search (
  rules,
  wire_ends g.M.Clock.now g.M.Clock.disk g.M.Clock.told g.M.Clock.disk_faults
      g.M.Clock.wire_faults g.S.Scratch.state g.S.Scratch.scratch_faults _ _ _ refl
      c.requires.ready _ (taken g (goal.at.returns-clause-untold g c).After-take_frames),
)

pub returns-clause-reads : goal.returns-clause-reads
returns-clause-reads g c is =
    reads_ends g.M.Clock.now g.M.Clock.disk g.M.Clock.told g.M.Clock.disk_faults
    g.M.Clock.wire_faults g.S.Scratch.state g.S.Scratch.scratch_faults _ _ _ refl c.requires.ready _
    (taken g (goal.at.returns-clause-reads g c).After-take_frames) is
