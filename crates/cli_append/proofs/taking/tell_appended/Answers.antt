use Rattle.std.proofs.Common.{◌∙◌}
use Rattle.cli_append.proofs.Told.{tells_text, tells_none}
use Rattle.cli_append.proofs.taking.tell_appended.Goals as goal

pub returns-in-Ok : goal.returns-in-Ok
returns-in-Ok g c =
    tells_text g.M.Clock.now g.M.Clock.disk g.M.Clock.told g.M.Clock.disk_faults
    g.M.Clock.wire_faults _ _ _ _ _ (c.as_bytes.ensures ∙ c.in-Ok.ensures) c.tell_frame.ensures

pub returns-in-Err : goal.returns-in-Err
returns-in-Err g c = tells_none g.M.Clock.now g.M.Clock.disk g.M.Clock.told
    g.M.Clock.disk_faults g.M.Clock.wire_faults _ _
