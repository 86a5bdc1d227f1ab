use Rattle.root_laws.proofs.Headers.{row_is_named}
use Rattle.root_laws.proofs.laws.rows_are_named.Goals as goal

pub returns : goal.returns
returns c = row_is_named
