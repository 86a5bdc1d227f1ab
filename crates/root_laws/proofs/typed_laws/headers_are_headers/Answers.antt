use Rattle.root_laws.proofs.Spellings.{headers_spelled}
use Rattle.root_laws.proofs.typed_laws.headers_are_headers.Goals as goal

pub returns : goal.returns
returns c = headers_spelled
