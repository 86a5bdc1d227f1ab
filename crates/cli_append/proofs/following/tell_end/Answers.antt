use Rattle.std.proofs.Common.{◌∙◌, refl, rules}
use Rattle.cli_promises.proofs.Tellings.{none_told, plain_told}
use Rattle.cli_append.proofs.Ended.{same_counts}
use Rattle.cli_append.proofs.following.tell_end.Goals as goal

pub returns-in-Ok-tell_held-clause-lines : goal.returns-in-Ok-tell_held-clause-lines
returns-in-Ok-tell_held-clause-lines g c next =
    plain_told next g.M.Clock.now g.M.Clock.disk g.M.Clock.told _ _ _ _ _ (c.as_bytes.ensures
    ∙ c.in-Ok.ensures
    ∙ same_counts _ _ _ _ (search rules) (search rules))
    ((rw c.in-Ok-tell_held.is at c.tell_held.ensures.lines) next)

pub returns-in-Ok-clause-lines : goal.returns-in-Ok-clause-lines
returns-in-Ok-clause-lines g c next =
    plain_told next g.M.Clock.now g.M.Clock.disk g.M.Clock.told _ _ _ _ _ (c.as_bytes.ensures
    ∙ c.in-Ok.ensures
    ∙ same_counts _ _ _ _ (search rules) (search rules))
    ((rw c.in-Err-tell_held.is at c.tell_held.ensures.lines) next)

pub returns-clause-lines : goal.returns-clause-lines
returns-clause-lines g c next = none_told next g.M.Clock.now g.M.Clock.disk g.M.Clock.told _ _ _
    refl
