use Rattle.std.proofs.Common.{◌≡◌, length, refl, sym, ap, ◌∙◌, arith}
use Rattle.recovery.specs.Node.{IsReady, stored_placement}
use Rattle.recovery.proofs.Nodes.{still_only}
use Rattle.follower_steps.specs.Steps.{further_turn, position_of, without}
use Rattle.follower_steps.specs.Events.{state_after}
use Rattle.follower_steps.proofs.Nearby.{ahead_without}
use Rattle.follow_core.specs.Follower.{FollowerState}
use Rattle.follow_core.proofs.Delivered.{still_turn}
use Rattle.follow_core.proofs.Drained.{IsTakenOut, with_parts, found_within, none_there}
use Rattle.follow_core.proofs.Drained.{taken_out, none_made, none_log, none_waiting, none_turn}
use Rattle.follow_core.proofs.Drained.{none_any, if_made, some_made, rest_free, rest_of, one_made}
use Rattle.follow_core.proofs.Drained.{one_images, one_log, one_turn, one_waiting, reaches_any}
use Rattle.follow_core.proofs.Drained.{cause_any, serves_any}
use Rattle.follow_core.proofs.follower.Follower.drain.Given.{Over}
use Rattle.follow_core.proofs.follower.Follower.drain.Goals as goal
use Rattle.follow_core.proofs.follower.Follower.drain.Goals.{After-drop-block}

-- ---- no block is due

pub returns-in-None-clause-answer : goal.returns-in-None-clause-answer
returns-in-None-clause-answer g c told state is = none_made c.args.self
    (none_there c.args.self c.self.inside.node c.self.inside.waiting.items c.as_slice.result.now
    c.blocks-held.result c.self.view_is c.blocks-held.ensures c.as_slice.ensures.value
    c.in-None.ensures) _ state is

pub returns-in-None-clause-images : goal.returns-in-None-clause-images
returns-in-None-clause-images g c told state content is shown = still_turn g.M.Clock.now
    g.M.Clock.disk c.args.machine.now c.args.self state
    (state_after state (further_turn stored_placement state)) content is shown

pub returns-in-None-clause-log_images : goal.returns-in-None-clause-log_images
returns-in-None-clause-log_images g c = none_log c.args.self
    (none_there c.args.self c.self.inside.node c.self.inside.waiting.items c.as_slice.result.now
    c.blocks-held.result c.self.view_is c.blocks-held.ensures c.as_slice.ensures.value
    c.in-None.ensures) g.M.Clock.now g.M.Clock.disk c.args.machine.now

pub returns-in-None-clause-waiting : goal.returns-in-None-clause-waiting
returns-in-None-clause-waiting g c = none_waiting c.args.self
    (none_there c.args.self c.self.inside.node c.self.inside.waiting.items c.as_slice.result.now
    c.blocks-held.result c.self.view_is c.blocks-held.ensures c.as_slice.ensures.value
    c.in-None.ensures)

pub returns-in-None-clause-turn : goal.returns-in-None-clause-turn
returns-in-None-clause-turn g c = none_turn c.args.self
    (none_there c.args.self c.self.inside.node c.self.inside.waiting.items c.as_slice.result.now
    c.blocks-held.result c.self.view_is c.blocks-held.ensures c.as_slice.ensures.value
    c.in-None.ensures)

pub returns-in-None-clause-any : goal.returns-in-None-clause-any
returns-in-None-clause-any g c = none_any c.args.self
    (none_there c.args.self c.self.inside.node c.self.inside.waiting.items c.as_slice.result.now
    c.blocks-held.result c.self.view_is c.blocks-held.ensures c.as_slice.ensures.value
    c.in-None.ensures)

pub returns-in-None-clause-only_image : goal.returns-in-None-clause-only_image
returns-in-None-clause-only_image g c unreached content shown = still_only g.M.Clock.now
    g.M.Clock.disk c.args.machine.now c.args.machine.now c.args.self.node.log refl
    c.requires.ready.log content shown

-- ---- a block is taken out

pub remove-block-requires : goal.remove-block-requires
remove-block-requires g c =
    let found = sym (c.in-Some.ensures
    ∙ ap (position_of c.blocks-held.result) c.as_slice.ensures.value) in
    omega (
      arith,
      c.self.inside.waiting.ok.0,
      found_within c.blocks-held.result c.self.inside.waiting.items c.in-Some.at found,
    )

pub invariant_of-rest : goal.invariant_of-rest
invariant_of-rest g c =
    let found = sym (c.in-Some.ensures
    ∙ ap (position_of c.blocks-held.result) c.as_slice.ensures.value) in
    rw c.remove-block.ensures.items (ahead_without (length c.self.inside.node.chain.digests)
    c.self.inside.waiting.items c.self.invariant c.in-Some.at
    (found_within c.blocks-held.result c.self.inside.waiting.items c.in-Some.at found))

pub decided-requires-clause-free : goal.decided-requires-clause-free
decided-requires-clause-free g c = rest_free c.args.self c.self.inside.node
    c.self.inside.waiting.items c.as_slice.result.now c.blocks-held.result c.self.view_is
    c.blocks-held.ensures c.as_slice.ensures.value c.remove-block.new.self.items c.in-Some.at
    c.self.invariant c.in-Some.ensures c.remove-block.ensures.items

-- the block at the index that was found, and what is left without it
taken : (g : Over) (c : After-drop-block g) → IsTakenOut c.args.self
    (with_parts c.self.inside.node c.remove-block.new.self.items) c.in-Some.at
    c.remove-block.result
taken g c = taken_out c.args.self c.self.inside.node c.self.inside.waiting.items
    c.as_slice.result.now c.blocks-held.result c.self.view_is c.blocks-held.ensures
    c.as_slice.ensures.value c.remove-block.new.self.items c.in-Some.at c.remove-block.result
    c.in-Some.ensures c.remove-block.ensures.items c.remove-block.ensures.value

pub returns-in-Some-clause-answer : goal.returns-in-Some-clause-answer
returns-in-Some-clause-answer g c told state is =
    let old = g.M.Clock.disk c.args.machine.now (g.M.Clock.now c.args.machine.now) in
    let rest = with_parts c.self.inside.node c.remove-block.new.self.items in
    rw c.made.ensures
    (one_made c.args.self rest c.in-Some.at c.remove-block.result (taken g c)
    c.as_bytes-bytes.result.now c.as_bytes-bytes.ensures old state is _ c.decided.result
    (c.decided.ensures.answer told (without state c.in-Some.at)
    (rest_of c.args.self rest c.in-Some.at c.remove-block.result (taken g c)
    c.as_bytes-bytes.result.now c.as_bytes-bytes.ensures old state is)))

pub returns-in-Some-clause-images : goal.returns-in-Some-clause-images
returns-in-Some-clause-images g c told state content is shown =
    let old = g.M.Clock.disk c.args.machine.now (g.M.Clock.now c.args.machine.now) in
    let rest = with_parts c.self.inside.node c.remove-block.new.self.items in
    one_images c.args.self rest c.in-Some.at c.remove-block.result (taken g c)
    c.as_bytes-bytes.result.now c.as_bytes-bytes.ensures old state is g.M.Clock.now
    g.M.Clock.disk c.args.machine.now c.decided.new.machine
    (c.decided.ensures.images told (without state c.in-Some.at) content
    (rest_of c.args.self rest c.in-Some.at c.remove-block.result (taken g c)
    c.as_bytes-bytes.result.now c.as_bytes-bytes.ensures old state is) shown)

pub returns-in-Some-clause-log_images : goal.returns-in-Some-clause-log_images
returns-in-Some-clause-log_images g c = one_log c.args.self
    (with_parts c.self.inside.node c.remove-block.new.self.items) c.in-Some.at
    c.remove-block.result (taken g c) c.as_bytes-bytes.result.now c.as_bytes-bytes.ensures
    g.M.Clock.now g.M.Clock.disk c.args.machine.now c.decided.new.machine
    c.decided.ensures.log_images

pub returns-in-Some-clause-ready : goal.returns-in-Some-clause-ready
returns-in-Some-clause-ready g c = rw c.made.ensures
    (if_made (λ (f : FollowerState). IsReady f.node
    (g.M.Clock.disk c.decided.new.machine (g.M.Clock.now c.decided.new.machine))
    (g.S.Scratch.state c.decided.new.scratch)) c.decided.result c.decided.ensures.ready)

pub returns-in-Some-clause-marked : goal.returns-in-Some-clause-marked
returns-in-Some-clause-marked g c = rw (c.made.ensures, ← c.self.view_is)
    (if_made (λ (f : FollowerState). f.node.log.is_marked ≡ c.self.inside.node.log.is_marked)
    c.decided.result c.decided.ensures.marked)

pub returns-in-Some-clause-waiting : goal.returns-in-Some-clause-waiting
returns-in-Some-clause-waiting g c = rw c.made.ensures
    (one_waiting c.args.self (with_parts c.self.inside.node c.remove-block.new.self.items)
    c.in-Some.at c.remove-block.result (taken g c) c.as_bytes-bytes.result.now
    c.as_bytes-bytes.ensures c.decided.result c.decided.ensures.waiting)

pub returns-in-Some-clause-none : goal.returns-in-Some-clause-none
returns-in-Some-clause-none g c none = absurd (cc ((taken g c).there, none))

pub returns-in-Some-clause-turn : goal.returns-in-Some-clause-turn
returns-in-Some-clause-turn g c = rw c.made.ensures
    (one_turn c.args.self (with_parts c.self.inside.node c.remove-block.new.self.items)
    c.in-Some.at c.remove-block.result (taken g c) c.as_bytes-bytes.result.now
    c.as_bytes-bytes.ensures c.decided.result c.decided.ensures.turn)

pub returns-in-Some-clause-any : goal.returns-in-Some-clause-any
returns-in-Some-clause-any g c = rw c.made.ensures
    (some_made c.decided.result _ c.in-Some.at (taken g c).there)

pub returns-in-Some-clause-untouched : goal.returns-in-Some-clause-untouched
returns-in-Some-clause-untouched g c unreached = c.decided.ensures.untouched
    (sym (reaches_any c.decided.result) ∙ (rw c.made.ensures at unreached))

pub returns-in-Some-clause-only_image : goal.returns-in-Some-clause-only_image
returns-in-Some-clause-only_image g c unreached = c.decided.ensures.only_image
    (sym (reaches_any c.decided.result) ∙ (rw c.made.ensures at unreached))

pub returns-in-Some-clause-disk_cause : goal.returns-in-Some-clause-disk_cause
returns-in-Some-clause-disk_cause g c = rw c.made.ensures
    (cause_any c.decided.result _ _ _ c.decided.ensures.disk_cause)

pub returns-in-Some-clause-scratch : goal.returns-in-Some-clause-scratch
returns-in-Some-clause-scratch g c = rw c.made.ensures
    (serves_any g.S.Scratch.state g.S.Scratch.scratch_faults _ _ c.decided.result _
    c.decided.ensures.scratch)
