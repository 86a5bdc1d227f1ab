use Rattle.std.proofs.Common.{refl}
use Rattle.cli_append.proofs.Told.{tells_whole, tells_part}
use Rattle.cli_append.proofs.telling.tell_done.Goals as goal

pub returns-in-Ok : goal.returns-in-Ok
returns-in-Ok g c =
    tells_whole g.M.Clock.now g.M.Clock.disk g.M.Clock.told g.M.Clock.disk_faults
    g.M.Clock.wire_faults _ _ _ c.in-Ok.ensures.lines c.tell_line.ensures.disk
    c.in-Ok.ensures.cause (λ b. absurd (cc b))

pub returns-in-Err : goal.returns-in-Err
returns-in-Err g c =
    tells_part g.M.Clock.now g.M.Clock.disk g.M.Clock.told g.M.Clock.disk_faults
    g.M.Clock.wire_faults _ _ _ c.in-Err.ensures.lines c.tell_line.ensures.disk
    c.in-Err.ensures.cause refl
