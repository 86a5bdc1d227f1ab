use Rattle.std.proofs.Common.{refl}
use Rattle.skip_links.specs.Paths.{path, path_from}
use Rattle.root_laws.specs.Ancestors.{reached_from}
use Rattle.root_laws.specs.AncestorExamples.{four_rows}
use Rattle.root_laws.proofs.ancestor_examples.two_ways_to_one.Goals as goal

pub returns-clause-traced : goal.returns-clause-traced
unfolding four_rows reached_from
returns-clause-traced c = refl

pub returns-clause-steps : goal.returns-clause-steps
unfolding four_rows reached_from path path_from
returns-clause-steps c = refl

pub returns-clause-early : goal.returns-clause-early
unfolding four_rows
returns-clause-early c = refl
