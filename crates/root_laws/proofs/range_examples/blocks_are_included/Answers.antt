use Rattle.std.proofs.Common.{refl}
use Rattle.root_laws.specs.RangeExamples.{four_rows}
use Rattle.root_laws.proofs.range_examples.blocks_are_included.Goals as goal

pub returns-clause-all : goal.returns-clause-all
unfolding four_rows
returns-clause-all c = refl

pub returns-clause-one : goal.returns-clause-one
unfolding four_rows
returns-clause-one c = refl

pub returns-clause-none : goal.returns-clause-none
unfolding four_rows
returns-clause-none c = refl

pub returns-clause-other : goal.returns-clause-other
unfolding four_rows
returns-clause-other c = refl
