use Rattle.std.proofs.Common.{refl}
use Rattle.cli_append.proofs.Told.{tells_fault, tells_after}
use Rattle.cli_append.proofs.telling.tell_held.Goals as goal

pub returns-in-Ok : goal.returns-in-Ok
returns-in-Ok g c =
    tells_after g.M.Clock.now g.M.Clock.disk g.M.Clock.told g.M.Clock.disk_faults
    g.M.Clock.wire_faults _ _ _ _ _ c.look.ensures.disk c.look.ensures.wire c.in-Ok.ensures.cause
    (λ b. absurd (cc b)) c.tell_done.ensures

pub returns-in-Err : goal.returns-in-Err
returns-in-Err g c =
    tells_fault g.M.Clock.now g.M.Clock.disk g.M.Clock.told g.M.Clock.disk_faults
    g.M.Clock.wire_faults _ _ _ c.look.ensures.disk c.look.ensures.wire c.in-Err.ensures.cause
    refl
