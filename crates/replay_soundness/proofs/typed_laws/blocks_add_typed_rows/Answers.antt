use Rattle.replay_soundness.proofs.Replays.{blocks_add_typed_rows}
use Rattle.replay_soundness.proofs.typed_laws.blocks_add_typed_rows.Goals as goal

pub returns : goal.returns
returns c = blocks_add_typed_rows
