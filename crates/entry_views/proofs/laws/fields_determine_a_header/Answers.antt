use Rattle.entry_views.specs.Headers.{header_field}
use Rattle.entry_views.proofs.Determined.{determined}
use Rattle.entry_views.proofs.laws.fields_determine_a_header.Goals as goal

pub returns : goal.returns
returns c = determined header_field
