use Rattle.root_laws.proofs.Ends.{ends_at_latest}
use Rattle.root_laws.proofs.range_laws.ranges_end_at_the_latest.Goals as goal

pub returns : goal.returns
returns c = ends_at_latest
