use Rattle.std.proofs.Common.{sym, ◌∙◌}
use Rattle.std.specs.Prelude.{Ok}
use Rattle.cli_promises.specs.recovery.Node.{stored_placement}
use Rattle.chain_exec.specs.Compiled.{compiled_in}
use Rattle.cli_promises.specs.Following.{after_frame, nothing_done}
use Rattle.cli_append.proofs.Makings.{delivers, none_due, stops_first, not_begun}
use Rattle.cli_append.proofs.turning.deliver.Goals as goal

pub returns-else-has_due : goal.returns-else-has_due
returns-else-has_due g c =
    delivers g.M.Clock.now g.M.Clock.disk g.M.Clock.told g.M.Clock.disk_faults
    g.M.Clock.wire_faults g.S.Scratch.state g.S.Scratch.scratch_faults
    (c.args.machine.now, c.args.scratch.now)
    (c.first_turn.new.machine, c.first_turn.new.scratch)
    (c.first_turn.new.machine, c.first_turn.new.scratch) c.args.follower
    c.in-Ok-first_turn.next c.args.index c.from_vec-bytes.result c.args.frame.now
    (Ok c.in-Ok-first_turn.next) (c.from_vec-bytes.ensures ∙ c.in-Ok.ensures.items)
    c.in-Ok-first_turn.ensures
    (none_due g.M.Clock.now g.M.Clock.disk g.M.Clock.told g.M.Clock.disk_faults
    g.M.Clock.wire_faults g.S.Scratch.state g.S.Scratch.scratch_faults
    (c.first_turn.new.machine, c.first_turn.new.scratch) c.in-Ok-first_turn.next
    c.in-Ok-first_turn.ensures.ready
    (sym c.has_due.ensures ∙ c.if-has_due.false))

pub returns-then-has_due : goal.returns-then-has_due
returns-then-has_due g c =
    delivers g.M.Clock.now g.M.Clock.disk g.M.Clock.told g.M.Clock.disk_faults
    g.M.Clock.wire_faults g.S.Scratch.state g.S.Scratch.scratch_faults
    (c.args.machine.now, c.args.scratch.now)
    (c.first_turn.new.machine, c.first_turn.new.scratch)
    (c.further_turns.new.machine, c.further_turns.new.scratch) c.args.follower
    c.in-Ok-first_turn.next c.args.index c.from_vec-bytes.result c.args.frame.now
    c.further_turns.result (c.from_vec-bytes.ensures ∙ c.in-Ok.ensures.items)
    c.in-Ok-first_turn.ensures c.further_turns.ensures

pub returns-in-Err-first_turn : goal.returns-in-Err-first_turn
returns-in-Err-first_turn g c =
    stops_first g.M.Clock.now g.M.Clock.disk g.M.Clock.told g.M.Clock.disk_faults
    g.M.Clock.wire_faults g.S.Scratch.state g.S.Scratch.scratch_faults
    (c.args.machine.now, c.args.scratch.now)
    (c.first_turn.new.machine, c.first_turn.new.scratch) c.args.follower c.args.index
    c.from_vec-bytes.result c.args.frame.now _ (c.from_vec-bytes.ensures ∙ c.in-Ok.ensures.items)
    c.in-Err-first_turn.ensures

pub returns-in-Err : goal.returns-in-Err
returns-in-Err g c =
    not_begun g.M.Clock.now g.M.Clock.disk g.M.Clock.told g.M.Clock.disk_faults
    g.M.Clock.wire_faults g.S.Scratch.state g.S.Scratch.scratch_faults
    (c.args.machine.now, c.args.scratch.now) c.args.follower
    (λ state. after_frame compiled_in stored_placement (nothing_done state) c.args.index
    c.args.frame.now) c.requires.ready
