use Rattle.std.proofs.Common.{◌≡◌, true≢false, length, refl, sym, ap, ◌∙◌}
use Rattle.std.specs.Prelude.{Ok}
use Rattle.block_codec.specs.Reading.{block_in}
use Rattle.lc_io.proofs.Retaining.{retains_refl}
use Rattle.recovery.specs.Node.{NodeState, IsReady, stored_placement}
use Rattle.recovery.proofs.ByLog.{still_log}
use Rattle.recovery.proofs.Nodes.{still_only}
use Rattle.follower_steps.specs.declared.waiting.Arrival.TheVariants.{Held, Due, Early, Dropped}
use Rattle.follower_steps.specs.Steps.{first_turn}
use Rattle.follower_steps.proofs.Arrivals.{held_is}
use Rattle.follower_steps.proofs.Nearby.{due_free}
use Rattle.follow_core.specs.declared.turn.Turn.TheVariants as turns
use Rattle.follow_core.specs.Turning.{is_due}
use Rattle.follow_core.proofs.Delivered.{arrival_told, due_made, due_images, dropped_made}
use Rattle.follow_core.proofs.Delivered.{held_made, kept_made, kept_keeps, kept_turn, still_turn}
use Rattle.follow_core.proofs.Delivered.{turn_is, waiting_is, unblamed}
use Rattle.follow_core.proofs.follower.Follower.deliver.Goals as goal

-- ---- a block whose number is held

pub known_or_fork-turn-requires : goal.known_or_fork-turn-requires
known_or_fork-turn-requires g c = record {
  held = (held_is (length c.args.self.node.chain.digests) c.args.self.waiting
      (block_in c.as_bytes.result.now) c.in-Ok-Held.number
      (sym c.in-Ok-Held.ensures ∙ c.in-Ok-Held.field-0-is)).3;
}

pub returns-in-Ok-Held-clause-answer : goal.returns-in-Ok-Held-clause-answer
returns-in-Ok-Held-clause-answer g c told state is =
    let (have, got, turn_as) = c.known_or_fork-turn.ensures.turn in
    held_made c.args.self _ state c.args.index c.in-Ok-Held.number c.args.bytes have
    c.known_or_fork-turn.result
    (rw c.as_bytes-in-Ok-Held.ensures at c.known_or_fork-turn.ensures.spelled) is
    (arrival_told c.args.self c.as_bytes.result.now c.args.bytes
    c.in-Ok-Held.field-0 (Held c.in-Ok-Held.number) c.as_bytes.ensures
    c.in-Ok-Held.field-0-is c.in-Ok-Held.ensures)
    got (rw c.as_bytes-in-Ok-Held.ensures at turn_as)

pub returns-in-Ok-Held-clause-turn : goal.returns-in-Ok-Held-clause-turn
returns-in-Ok-Held-clause-turn g c =
    let (have, got, turn_as) = c.known_or_fork-turn.ensures.turn in
    turn_is c.args.self c.args.index c.args.bytes (Held c.in-Ok-Held.number)
    (Ok (c.args.self, c.known_or_fork-turn.result))
    (arrival_told c.args.self c.as_bytes.result.now c.args.bytes
    c.in-Ok-Held.field-0 (Held c.in-Ok-Held.number) c.as_bytes.ensures
    c.in-Ok-Held.field-0-is c.in-Ok-Held.ensures)
    (refl, (have, got, rw c.as_bytes-in-Ok-Held.ensures at turn_as))

pub returns-in-Ok-Held-clause-waiting : goal.returns-in-Ok-Held-clause-waiting
returns-in-Ok-Held-clause-waiting g c = waiting_is c.args.self c.args.index c.args.bytes
    (Held c.in-Ok-Held.number) (Ok (c.args.self, c.known_or_fork-turn.result))
    (arrival_told c.args.self c.as_bytes.result.now c.args.bytes
    c.in-Ok-Held.field-0 (Held c.in-Ok-Held.number) c.as_bytes.ensures
    c.in-Ok-Held.field-0-is c.in-Ok-Held.ensures)
    refl

pub returns-in-Ok-Held-clause-images : goal.returns-in-Ok-Held-clause-images
returns-in-Ok-Held-clause-images g c told state content is shown = still_turn g.M.Clock.now
    g.M.Clock.disk c.args.machine.now c.args.self state
    (first_turn stored_placement state c.args.index c.args.bytes).state content is shown

pub returns-in-Ok-Held-clause-log_images : goal.returns-in-Ok-Held-clause-log_images
returns-in-Ok-Held-clause-log_images g c logged content told stands = still_log g.M.Clock.now
    g.M.Clock.disk c.args.machine.now c.args.self.node.log content logged (block_in c.args.bytes)
    c.requires.ready.log told stands

pub returns-in-Ok-Held-clause-only_image : goal.returns-in-Ok-Held-clause-only_image
returns-in-Ok-Held-clause-only_image g c unreached content shown = still_only g.M.Clock.now
    g.M.Clock.disk c.args.machine.now c.args.machine.now c.args.self.node.log refl
    c.requires.ready.log content shown

-- ---- a block that is due

pub decided-requires-clause-free : goal.decided-requires-clause-free
decided-requires-clause-free g c = due_free (length c.args.self.node.chain.digests)
    c.args.self.waiting c.as_bytes.result.now
    (sym c.in-Ok-Due.ensures ∙ c.in-Ok-Due.field-0-is)

pub returns-in-Ok-Due-clause-answer : goal.returns-in-Ok-Due-clause-answer
returns-in-Ok-Due-clause-answer g c told state is = due_made c.args.self
    (g.M.Clock.disk c.args.machine.now (g.M.Clock.now c.args.machine.now)) _ state c.args.index
    c.args.bytes c.decided.result is
    (arrival_told c.args.self c.as_bytes.result.now c.args.bytes
    c.in-Ok-Due.field-0 Due c.as_bytes.ensures c.in-Ok-Due.field-0-is c.in-Ok-Due.ensures)
    (rw c.as_bytes-in-Ok-Due.ensures at (c.decided.ensures.answer told state is))

pub returns-in-Ok-Due-clause-images : goal.returns-in-Ok-Due-clause-images
returns-in-Ok-Due-clause-images g c told state content is shown = due_images g.M.Clock.now
    g.M.Clock.disk c.args.machine.now c.decided.new.machine c.args.self state c.args.index
    c.args.bytes is
    (arrival_told c.args.self c.as_bytes.result.now c.args.bytes
    c.in-Ok-Due.field-0 Due c.as_bytes.ensures c.in-Ok-Due.field-0-is c.in-Ok-Due.ensures)
    (rw c.as_bytes-in-Ok-Due.ensures at (c.decided.ensures.images told state content is shown))

pub returns-in-Ok-Due-clause-log_images : goal.returns-in-Ok-Due-clause-log_images
returns-in-Ok-Due-clause-log_images g c =
    rw c.as_bytes-in-Ok-Due.ensures at c.decided.ensures.log_images

pub returns-in-Ok-Due-clause-turn : goal.returns-in-Ok-Due-clause-turn
returns-in-Ok-Due-clause-turn g c = turn_is c.args.self c.args.index c.args.bytes Due
    c.decided.result
    (arrival_told c.args.self c.as_bytes.result.now c.args.bytes
    c.in-Ok-Due.field-0 Due c.as_bytes.ensures c.in-Ok-Due.field-0-is c.in-Ok-Due.ensures)
    (rw c.as_bytes-in-Ok-Due.ensures at c.decided.ensures.turn)

pub returns-in-Ok-Due-clause-waiting : goal.returns-in-Ok-Due-clause-waiting
returns-in-Ok-Due-clause-waiting g c = waiting_is c.args.self c.args.index c.args.bytes Due
    c.decided.result
    (arrival_told c.args.self c.as_bytes.result.now c.args.bytes
    c.in-Ok-Due.field-0 Due c.as_bytes.ensures c.in-Ok-Due.field-0-is c.in-Ok-Due.ensures)
    c.decided.ensures.waiting

pub returns-in-Ok-Due-clause-unused : goal.returns-in-Ok-Due-clause-unused
returns-in-Ok-Due-clause-unused g c other = absurd (true≢false
    (ap is_due
    (arrival_told c.args.self c.as_bytes.result.now c.args.bytes
    c.in-Ok-Due.field-0 Due c.as_bytes.ensures c.in-Ok-Due.field-0-is c.in-Ok-Due.ensures)
    ∙ other))

-- ---- an early block

pub kept-requires : goal.kept-requires
kept-requires g c = record {
  early = sym (arrival_told c.args.self c.as_bytes.result.now c.args.bytes
      c.in-Ok-Early.field-0 (Early c.in-Ok-Early.number) c.as_bytes.ensures
      c.in-Ok-Early.field-0-is c.in-Ok-Early.ensures);
}

pub returns-in-Ok-Early-clause-answer : goal.returns-in-Ok-Early-clause-answer
returns-in-Ok-Early-clause-answer g c told state is = kept_made c.args.self _ state c.args.index
    c.in-Ok-Early.number c.args.bytes c.kept.result is
    (arrival_told c.args.self c.as_bytes.result.now c.args.bytes
    c.in-Ok-Early.field-0 (Early c.in-Ok-Early.number) c.as_bytes.ensures
    c.in-Ok-Early.field-0-is c.in-Ok-Early.ensures)
    c.kept.ensures.node c.kept.ensures.waiting c.kept.ensures.turn

pub returns-in-Ok-Early-clause-turn : goal.returns-in-Ok-Early-clause-turn
returns-in-Ok-Early-clause-turn g c = turn_is c.args.self c.args.index c.args.bytes
    (Early c.in-Ok-Early.number) c.kept.result
    (arrival_told c.args.self c.as_bytes.result.now c.args.bytes
    c.in-Ok-Early.field-0 (Early c.in-Ok-Early.number) c.as_bytes.ensures
    c.in-Ok-Early.field-0-is c.in-Ok-Early.ensures)
    (kept_turn c.args.self c.args.index c.in-Ok-Early.number c.args.bytes c.kept.result
    c.kept.ensures.node c.kept.ensures.turn)

pub returns-in-Ok-Early-clause-waiting : goal.returns-in-Ok-Early-clause-waiting
returns-in-Ok-Early-clause-waiting g c = waiting_is c.args.self c.args.index c.args.bytes
    (Early c.in-Ok-Early.number) c.kept.result
    (arrival_told c.args.self c.as_bytes.result.now c.args.bytes
    c.in-Ok-Early.field-0 (Early c.in-Ok-Early.number) c.as_bytes.ensures
    c.in-Ok-Early.field-0-is c.in-Ok-Early.ensures)
    c.kept.ensures.waiting

pub returns-in-Ok-Early-clause-ready : goal.returns-in-Ok-Early-clause-ready
returns-in-Ok-Early-clause-ready g c = kept_keeps
    (λ (n : NodeState). IsReady n
    (g.M.Clock.disk c.args.machine.now (g.M.Clock.now c.args.machine.now))
    (g.S.Scratch.state c.args.scratch.now)) c.args.self.node c.kept.result c.kept.ensures.node
    c.requires.ready

pub returns-in-Ok-Early-clause-marked : goal.returns-in-Ok-Early-clause-marked
returns-in-Ok-Early-clause-marked g c = kept_keeps
    (λ (n : NodeState). n.log.is_marked ≡ c.args.self.node.log.is_marked) c.args.self.node
    c.kept.result c.kept.ensures.node refl

pub returns-in-Ok-Early-clause-disk_cause : goal.returns-in-Ok-Early-clause-disk_cause
returns-in-Ok-Early-clause-disk_cause g c = unblamed _ _ c.kept.ensures.no_disk_fault

pub returns-in-Ok-Early-clause-scratch : goal.returns-in-Ok-Early-clause-scratch
returns-in-Ok-Early-clause-scratch g c = record {
  retains = retains_refl _;
  cause = unblamed _ _ c.kept.ensures.no_scratch_fault;
}

pub returns-in-Ok-Early-clause-images : goal.returns-in-Ok-Early-clause-images
returns-in-Ok-Early-clause-images g c told state content is shown = still_turn g.M.Clock.now
    g.M.Clock.disk c.args.machine.now c.args.self state
    (first_turn stored_placement state c.args.index c.args.bytes).state content is shown

pub returns-in-Ok-Early-clause-log_images : goal.returns-in-Ok-Early-clause-log_images
returns-in-Ok-Early-clause-log_images g c logged content told stands = still_log g.M.Clock.now
    g.M.Clock.disk c.args.machine.now c.args.self.node.log content logged (block_in c.args.bytes)
    c.requires.ready.log told stands

pub returns-in-Ok-Early-clause-only_image : goal.returns-in-Ok-Early-clause-only_image
returns-in-Ok-Early-clause-only_image g c unreached content shown = still_only g.M.Clock.now
    g.M.Clock.disk c.args.machine.now c.args.machine.now c.args.self.node.log refl
    c.requires.ready.log content shown

-- ---- a block that is dropped

pub returns-in-Ok-Dropped-clause-answer : goal.returns-in-Ok-Dropped-clause-answer
returns-in-Ok-Dropped-clause-answer g c told state is = dropped_made c.args.self _ state
    c.args.index c.args.bytes c.in-Ok-Dropped.cause is
    (arrival_told c.args.self c.as_bytes.result.now c.args.bytes
    c.in-Ok-Dropped.field-0 (Dropped c.in-Ok-Dropped.cause) c.as_bytes.ensures
    c.in-Ok-Dropped.field-0-is c.in-Ok-Dropped.ensures)

pub returns-in-Ok-Dropped-clause-turn : goal.returns-in-Ok-Dropped-clause-turn
returns-in-Ok-Dropped-clause-turn g c = turn_is c.args.self c.args.index c.args.bytes
    (Dropped c.in-Ok-Dropped.cause)
    (Ok (c.args.self, turns.Dropped c.args.index c.in-Ok-Dropped.cause))
    (arrival_told c.args.self c.as_bytes.result.now c.args.bytes
    c.in-Ok-Dropped.field-0 (Dropped c.in-Ok-Dropped.cause) c.as_bytes.ensures
    c.in-Ok-Dropped.field-0-is c.in-Ok-Dropped.ensures)
    (refl, refl)

pub returns-in-Ok-Dropped-clause-waiting : goal.returns-in-Ok-Dropped-clause-waiting
returns-in-Ok-Dropped-clause-waiting g c = waiting_is c.args.self c.args.index c.args.bytes
    (Dropped c.in-Ok-Dropped.cause)
    (Ok (c.args.self, turns.Dropped c.args.index c.in-Ok-Dropped.cause))
    (arrival_told c.args.self c.as_bytes.result.now c.args.bytes
    c.in-Ok-Dropped.field-0 (Dropped c.in-Ok-Dropped.cause) c.as_bytes.ensures
    c.in-Ok-Dropped.field-0-is c.in-Ok-Dropped.ensures)
    refl

pub returns-in-Ok-Dropped-clause-images : goal.returns-in-Ok-Dropped-clause-images
returns-in-Ok-Dropped-clause-images g c told state content is shown = still_turn g.M.Clock.now
    g.M.Clock.disk c.args.machine.now c.args.self state
    (first_turn stored_placement state c.args.index c.args.bytes).state content is shown

pub returns-in-Ok-Dropped-clause-log_images : goal.returns-in-Ok-Dropped-clause-log_images
returns-in-Ok-Dropped-clause-log_images g c logged content told stands = still_log g.M.Clock.now
    g.M.Clock.disk c.args.machine.now c.args.self.node.log content logged (block_in c.args.bytes)
    c.requires.ready.log told stands

pub returns-in-Ok-Dropped-clause-only_image : goal.returns-in-Ok-Dropped-clause-only_image
returns-in-Ok-Dropped-clause-only_image g c unreached content shown = still_only g.M.Clock.now
    g.M.Clock.disk c.args.machine.now c.args.machine.now c.args.self.node.log refl
    c.requires.ready.log content shown

-- ---- memory ran out

pub returns-in-Err-clause-images : goal.returns-in-Err-clause-images
returns-in-Err-clause-images g c told state content is shown = still_turn g.M.Clock.now
    g.M.Clock.disk c.args.machine.now c.args.self state
    (first_turn stored_placement state c.args.index c.args.bytes).state content is shown

pub returns-in-Err-clause-log_images : goal.returns-in-Err-clause-log_images
returns-in-Err-clause-log_images g c logged content told stands = still_log g.M.Clock.now
    g.M.Clock.disk c.args.machine.now c.args.self.node.log content logged (block_in c.args.bytes)
    c.requires.ready.log told stands

pub returns-in-Err-clause-only_image : goal.returns-in-Err-clause-only_image
returns-in-Err-clause-only_image g c unreached content shown = still_only g.M.Clock.now
    g.M.Clock.disk c.args.machine.now c.args.machine.now c.args.self.node.log refl
    c.requires.ready.log content shown
