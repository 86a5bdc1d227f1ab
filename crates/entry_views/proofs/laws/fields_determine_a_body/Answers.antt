use Rattle.entry_views.specs.Bodies.{body_field}
use Rattle.entry_views.proofs.Determined.{determined}
use Rattle.entry_views.proofs.laws.fields_determine_a_body.Goals as goal

pub returns : goal.returns
returns c = determined body_field
