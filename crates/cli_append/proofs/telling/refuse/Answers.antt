use Rattle.std.proofs.Common.{◌∙◌, refl}
use Rattle.cli_promises.proofs.Tellings.{none_told, plain_told}
use Rattle.cli_append.proofs.telling.refuse.Goals as goal

pub returns-in-Ok-tell_line-clause-lines : goal.returns-in-Ok-tell_line-clause-lines
returns-in-Ok-tell_line-clause-lines g c next =
    plain_told next g.M.Clock.now g.M.Clock.disk g.M.Clock.told _ _ _ _ _ (c.as_bytes.ensures
    ∙ c.in-Ok.ensures) (c.in-Ok-tell_line.ensures.lines next)

pub returns-in-Ok-clause-lines : goal.returns-in-Ok-clause-lines
returns-in-Ok-clause-lines g c next =
    plain_told next g.M.Clock.now g.M.Clock.disk g.M.Clock.told _ _ _ _ _ (c.as_bytes.ensures
    ∙ c.in-Ok.ensures) (c.in-Err-tell_line.ensures.lines next)

pub returns-clause-lines : goal.returns-clause-lines
returns-clause-lines g c next = none_told next g.M.Clock.now g.M.Clock.disk g.M.Clock.told _ _ _
    refl
