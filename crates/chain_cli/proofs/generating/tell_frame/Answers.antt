use Rattle.std.proofs.Common.{refl, ◌∙◌}
use Rattle.cli_append.proofs.cli_promises.Tellings.{none_told}
use Rattle.cli_output.proofs.Plain.{plain_ok, plain_err}
use Rattle.chain_cli.proofs.generating.tell_frame.Goals as goal

pub returns-in-Ok-tell-clause-lines : goal.returns-in-Ok-tell-clause-lines
returns-in-Ok-tell-clause-lines g c next =
    plain_ok g.M.Clock.now g.M.Clock.disk g.M.Clock.told next c.args.machine.now c.tell.new.self c.as_bytes.result.now _ (c.as_bytes.ensures ∙ c.in-Ok.ensures) c.in-Ok-tell.ensures.disk c.in-Ok-tell.ensures.told

pub returns-in-Ok-clause-lines : goal.returns-in-Ok-clause-lines
returns-in-Ok-clause-lines g c next =
    plain_err g.M.Clock.now g.M.Clock.disk g.M.Clock.told next c.args.machine.now c.tell.new.self c.as_bytes.result.now _ (c.as_bytes.ensures ∙ c.in-Ok.ensures) c.in-Err-tell.ensures.disk c.in-Err-tell.ensures.told

pub returns-clause-lines : goal.returns-clause-lines
returns-clause-lines g c next = none_told next g.M.Clock.now g.M.Clock.disk g.M.Clock.told _ _ _ refl
