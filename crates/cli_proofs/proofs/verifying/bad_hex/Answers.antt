use Rattle.std.proofs.Common.{◌∙◌}
use Rattle.cli_proofs.proofs.Verifies.{bad_at}
use Rattle.cli_proofs.proofs.verifying.bad_hex.Goals as goal

pub returns-in_ok-cause-in-At : goal.returns-in_ok-cause-in-At
returns-in_ok-cause-in-At c = bad_at c.bad_input-in-At.result c.args.fault.now c.in-At.at c.as_str.result.now c.in-At.is (c.as_str.ensures.value ∙ c.in_ok-cause-in-At.ensures.ok) c.bad_input-in-At.ensures
