use Rattle.entry_views.specs.Leaves.{leaf_field}
use Rattle.entry_views.proofs.Determined.{determined}
use Rattle.entry_views.proofs.laws.fields_determine_a_leaf.Goals as goal

pub returns : goal.returns
returns c = determined leaf_field
