use Rattle.std.proofs.Common.{◌≡◌, length, false, sym, subst, ◌∙◌}
use Rattle.std.specs.Prelude.{is_some}
use Rattle.follower_steps.specs.Steps.{position_of}
use Rattle.follow_core.specs.Follower.{FollowerState, IsFollowerOf}
use Rattle.follow_core.proofs.Decisions.{decided_made, decided_images, is_decided, node_made}
use Rattle.follow_core.proofs.Decisions.{still_ahead, waiting_made}
use Rattle.follow_core.proofs.Decisions.{reaches_made, disk_blamed, scratch_blamed}
use Rattle.follow_core.proofs.follower.Follower.decided.Goals as goal

pub returns-clause-answer : goal.returns-clause-answer
returns-clause-answer g c told state is = rw (c.with_waiting.ensures, c.node_turn.ensures)
    (decided_made c.self.inside.node c.self.inside.waiting.items state c.args.index c.args.bytes.now
    _ _ c.append-answer.result
    (subst (λ (f : FollowerState). IsFollowerOf f
    (g.M.Clock.disk c.args.machine.now (g.M.Clock.now c.args.machine.now)) state)
    (sym c.self.view_is) is)
    c.append-answer.ensures.marked (c.append-answer.ensures.answer told))

pub returns-clause-images : goal.returns-clause-images
returns-clause-images g c told state content is shown =
    let here = subst (λ (f : FollowerState). IsFollowerOf f
    (g.M.Clock.disk c.args.machine.now (g.M.Clock.now c.args.machine.now)) state)
    (sym c.self.view_is) is in
    decided_images c.self.inside.node c.self.inside.waiting.items state c.args.index
    c.args.bytes.now g.M.Clock.now g.M.Clock.disk _ _ here.marked
    (c.append-answer.ensures.images told state.blocks content here.node shown)

pub with_waiting-requires : goal.with_waiting-requires
with_waiting-requires g c = rw c.node_turn.ensures
    (still_ahead c.self.inside.node c.self.inside.waiting.items
    (subst (λ (f : FollowerState). is_some (position_of (length f.node.chain.digests) f.waiting)
    ≡ false) (sym c.self.view_is) c.requires.free)
    c.self.invariant c.args.index c.args.bytes.now c.append-answer.result
    c.append-answer.ensures.node)

pub returns-clause-turn : goal.returns-clause-turn
returns-clause-turn g c = rw (c.with_waiting.ensures, c.node_turn.ensures, ← c.self.view_is)
    (is_decided c.args.index c.self.inside.waiting.items c.self.inside.node c.args.bytes.now
    c.append-answer.result c.append-answer.ensures.node c.append-answer.ensures.kept)

pub returns-clause-ready : goal.returns-clause-ready
returns-clause-ready g c = rw (c.with_waiting.ensures, c.node_turn.ensures)
    (node_made c.args.index c.self.inside.waiting.items _ c.append-answer.result
    c.append-answer.ensures.ready)

pub returns-clause-marked : goal.returns-clause-marked
returns-clause-marked g c = rw (c.with_waiting.ensures, c.node_turn.ensures, ← c.self.view_is)
    (node_made c.args.index c.self.inside.waiting.items _ c.append-answer.result
    c.append-answer.ensures.marked)

pub returns-clause-waiting : goal.returns-clause-waiting
returns-clause-waiting g c = rw (c.with_waiting.ensures, c.node_turn.ensures, ← c.self.view_is)
    (waiting_made c.args.index c.self.inside.waiting.items c.append-answer.result)

pub returns-clause-untouched : goal.returns-clause-untouched
returns-clause-untouched g c unreached = c.append-answer.ensures.untouched
    (sym (reaches_made c.args.index c.self.inside.waiting.items c.append-answer.result)
    ∙ (rw (c.with_waiting.ensures, c.node_turn.ensures) at unreached))

pub returns-clause-only_image : goal.returns-clause-only_image
returns-clause-only_image g c unreached = c.append-answer.ensures.only_image
    (sym (reaches_made c.args.index c.self.inside.waiting.items c.append-answer.result)
    ∙ (rw (c.with_waiting.ensures, c.node_turn.ensures) at unreached))

pub returns-clause-disk_cause : goal.returns-clause-disk_cause
returns-clause-disk_cause g c = rw (c.with_waiting.ensures, c.node_turn.ensures)
    (disk_blamed c.args.index c.self.inside.waiting.items c.append-answer.result _ _
    c.append-answer.ensures.disk_cause)

pub returns-clause-scratch : goal.returns-clause-scratch
returns-clause-scratch g c = rw (c.with_waiting.ensures, c.node_turn.ensures)
    (scratch_blamed c.args.index c.self.inside.waiting.items g.S.Scratch.state
    g.S.Scratch.scratch_faults _ _ c.append-answer.result c.append-answer.ensures.scratch)
