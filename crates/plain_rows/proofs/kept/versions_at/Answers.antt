use Rattle.std.proofs.Common.{◌∙◌}
use Rattle.plain_rows.proofs.Lists.{same_versions}
use Rattle.plain_rows.proofs.kept.versions_at.Goals as goal

pub returns : goal.returns
returns c all deps are at = c.from_vec.ensures ∙ same_versions all c.args.indexes.now _ deps (c.in_ok-collect_versions.ensures all are) at
