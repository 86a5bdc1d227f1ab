use Rattle.std.proofs.Common.{◌≡◌, false, sym, ◌∙◌}
use Rattle.block_codec.specs.Reading.{block_in}
use Rattle.block_log.specs.Standing.{next_block}
use Rattle.recovery.proofs.Created.{no_log, if_ok}
use Rattle.recovery.proofs.Upgraded.{unmarked_created, then_marked, stands_marked}
use Rattle.recovery.proofs.upgrading.mark_log.Goals as goal

pub returns-in_err-log-clause-images : goal.returns-in_err-log-clause-images
returns-in_err-log-clause-images g c place content logged told by =
    let headless : c.args.log.is_ready ≡ false = sym c.ready.ensures ∙ c.if-ready.false in
    let none = no_log c.args.log _ place content logged headless c.requires.agrees told by in
    unmarked_created g.M.Clock.now g.M.Clock.disk c.args.machine.now c.create.new.machine place
    logged none (c.create.ensures.images (next_block block_in place) content told)

pub returns-clause-images : goal.returns-clause-images
returns-clause-images g c place content logged told by =
    let headless : c.args.log.is_ready ≡ false = sym c.ready.ensures ∙ c.if-ready.false in
    let none = no_log c.args.log _ place content logged headless c.requires.agrees told by in
    then_marked g.M.Clock.now g.M.Clock.disk c.args.machine.now c.create.new.machine
    c.mark-2.new.machine place content logged told by none
    (c.create.ensures.images (next_block block_in place) content told) c.in_ok-log.ensures.empty
    c.mark-2.ensures.images

pub returns-clause-stands : goal.returns-clause-stands
returns-clause-stands g c =
    if_ok c.mark-2.result _ _ c.mark-2.ensures.stands
    (λ marked stands place content logged told by.
    let headless : c.args.log.is_ready ≡ false = sym c.ready.ensures ∙ c.if-ready.false in
    let none = no_log c.args.log _ place content logged headless c.requires.agrees told by in
    stands_marked g.M.Clock.now g.M.Clock.disk c.args.machine.now c.create.new.machine
    c.mark-2.new.machine place content logged told by none
    c.in_ok-log.ensures.still_known c.in_ok-log.ensures.empty stands)
