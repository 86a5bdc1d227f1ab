use Rattle.std.proofs.Common.{refl}
use Rattle.skip_links.specs.Links.{links, height_to, link}
use Rattle.skip_links.specs.Paths.{path, path_from}
use Rattle.root_laws.specs.RangeExamples.{four_rows}
use Rattle.root_laws.proofs.range_examples.looked_at_once.Goals as goal

pub returns-clause-all : goal.returns-clause-all
unfolding four_rows path path_from
returns-clause-all c = refl

pub returns-clause-one : goal.returns-clause-one
unfolding four_rows path path_from links height_to link
returns-clause-one c = refl

pub returns-clause-none : goal.returns-clause-none
unfolding four_rows path path_from links height_to link
returns-clause-none c = refl

pub returns-clause-unwritten : goal.returns-clause-unwritten
unfolding four_rows path path_from
returns-clause-unwritten c = refl
