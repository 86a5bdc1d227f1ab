use Rattle.skip_links.proofs.OverRows.{low_step}
use Rattle.skip_links.proofs.path_laws.answers_are_reached_by_the_lowest_link.Goals as goal

pub returns : goal.returns
returns c = low_step
