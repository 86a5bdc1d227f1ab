use Rattle.light_client.proofs.Made.{block_roots_are_of_their_blocks}
use Rattle.light_client.proofs.made_laws.block_roots_are_of_their_blocks.Goals as goal

pub returns : goal.returns
returns c = block_roots_are_of_their_blocks
