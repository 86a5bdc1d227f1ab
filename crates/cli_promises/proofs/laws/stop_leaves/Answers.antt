use Rattle.cli_promises.proofs.Runs.{leaves}
use Rattle.cli_promises.proofs.laws.stop_leaves.Goals as goal

pub returns : goal.returns
returns g c = λ next. leaves next g.M.Clock.now g.M.Clock.disk g.M.Clock.told c.args.old.now c.args.new.now
