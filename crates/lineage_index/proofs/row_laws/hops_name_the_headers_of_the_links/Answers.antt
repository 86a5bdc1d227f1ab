use Rattle.std.proofs.Common.{◌∷◌, ◌++◌, refl}
use Rattle.lineage_index.proofs.NextEntries.{header_links}
use Rattle.lineage_index.proofs.row_laws.hops_name_the_headers_of_the_links.Goals as goal

pub returns : goal.returns
returns c = λ before after row lawful. header_links (before ++ row ∷ after) before row after before lawful refl (λ index older at. at)
