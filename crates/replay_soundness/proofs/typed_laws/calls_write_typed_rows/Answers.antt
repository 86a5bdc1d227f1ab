use Rattle.replay_soundness.proofs.Calls.{calls_write_typed_rows}
use Rattle.replay_soundness.proofs.typed_laws.calls_write_typed_rows.Goals as goal

pub returns : goal.returns
returns c = calls_write_typed_rows
