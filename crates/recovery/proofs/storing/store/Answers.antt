use Rattle.std.proofs.Common.{◌≡◌, true, false, sym, ◌∙◌}
use Rattle.block_codec.specs.Reading.{block_in}
use Rattle.block_log.specs.Standing.{next_block}
use Rattle.block_log.specs.Log.{log_placement, next_in_log}
use Rattle.recovery.proofs.Created.{no_block, only_created, then_appended, then_added, if_ok}
use Rattle.recovery.proofs.Placing.{next_headed}
use Rattle.recovery.proofs.ByLog.{next_by_log, none_by_log, made_then_appended}
use Rattle.recovery.proofs.storing.store.Goals as goal

pub returns-in_err-log-clause-images : goal.returns-in_err-log-clause-images
returns-in_err-log-clause-images g c place content logged block told next =
    let headless : c.args.log.is_ready ≡ false = sym c.ready.ensures ∙ c.if-ready.false in
    let none = no_block c.args.log _ place content c.args.bytes.now logged block headless
    c.requires.agrees told next in
    only_created g.M.Clock.now g.M.Clock.disk c.args.machine.now c.create.new.machine place logged
    block none (c.create.ensures.images (next_block block_in place) content told)

pub returns-clause-images : goal.returns-clause-images
returns-clause-images g c place content logged block told next =
    let headless : c.args.log.is_ready ≡ false = sym c.ready.ensures ∙ c.if-ready.false in
    let none = no_block c.args.log _ place content c.args.bytes.now logged block headless
    c.requires.agrees told next in
    then_appended g.M.Clock.now g.M.Clock.disk c.args.machine.now c.create.new.machine
    c.append-2.new.machine place content c.args.bytes.now logged block told next none
    (c.create.ensures.images (next_block block_in place) content told) c.in_ok-log.ensures.empty
    c.append-2.ensures.images

pub returns-clause-added : goal.returns-clause-added
returns-clause-added g c =
    if_ok c.append-2.result _ _ c.append-2.ensures.added
    (λ longer appended place content logged block told next.
    let headless : c.args.log.is_ready ≡ false = sym c.ready.ensures ∙ c.if-ready.false in
    let none = no_block c.args.log _ place content c.args.bytes.now logged block headless
    c.requires.agrees told next in
    then_added g.M.Clock.now g.M.Clock.disk c.args.machine.now c.create.new.machine
    c.append-2.new.machine place content c.args.bytes.now logged block told next none
    c.in_ok-log.ensures.still_known c.in_ok-log.ensures.empty appended)

pub returns-then-ready-clause-log_images : goal.returns-then-ready-clause-log_images
returns-then-ready-clause-log_images g c content logged block told stands decoded =
    let ready : c.args.log.is_ready ≡ true = sym c.ready.ensures ∙ c.if-ready.true in
    c.append.ensures.images log_placement content logged block told
    (next_by_log c.args.log _ content c.args.bytes.now logged block ready c.requires.agrees told
    stands c.requires.next decoded)

pub returns-in_err-log-clause-log_images : goal.returns-in_err-log-clause-log_images
returns-in_err-log-clause-log_images g c content logged block told stands decoded =
    let headless : c.args.log.is_ready ≡ false = sym c.ready.ensures ∙ c.if-ready.false in
    let none = none_by_log c.args.log _ content logged headless c.requires.agrees told stands in
    only_created g.M.Clock.now g.M.Clock.disk c.args.machine.now c.create.new.machine log_placement
    logged block none (c.create.ensures.images next_in_log content told)

pub returns-clause-log_images : goal.returns-clause-log_images
returns-clause-log_images g c content logged block told stands decoded =
    let headless : c.args.log.is_ready ≡ false = sym c.ready.ensures ∙ c.if-ready.false in
    let none = none_by_log c.args.log _ content logged headless c.requires.agrees told stands in
    made_then_appended g.M.Clock.now g.M.Clock.disk c.args.machine.now c.create.new.machine
    c.append-2.new.machine c.args.log c.in_ok-log.log content c.args.bytes.now logged block told none
    (c.create.ensures.images next_in_log content told) (c.in_ok-log.ensures.empty next_in_log)
    c.in_ok-log.ensures.created c.in_ok-log.ensures.agrees
    (next_headed c.args.log c.in_ok-log.log c.args.bytes.now (c.requires.headless headless)
    c.in_ok-log.ensures.created c.requires.next) decoded
    c.append-2.ensures.images

pub append-requires-2-clause-next : goal.append-requires-2-clause-next
append-requires-2-clause-next g c =
    let headless : c.args.log.is_ready ≡ false = sym c.ready.ensures ∙ c.if-ready.false in
    next_headed c.args.log c.in_ok-log.log c.args.bytes.now (c.requires.headless headless)
    c.in_ok-log.ensures.created c.requires.next
