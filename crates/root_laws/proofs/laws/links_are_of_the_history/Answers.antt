use Rattle.skip_links.proofs.Towers.{links_up_to}
use Rattle.root_laws.proofs.laws.links_are_of_the_history.Goals as goal

pub returns : goal.returns
returns c = links_up_to
