use Rattle.light_client.proofs.Pieces.{pieces_make_the_file}
use Rattle.light_client.proofs.made_laws.pieces_make_the_file.Goals as goal

pub returns : goal.returns
returns c = pieces_make_the_file
