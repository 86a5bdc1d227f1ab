use Rattle.std.proofs.Common.{◌∙◌, ap}
use Rattle.std.specs.Prelude.{slice_get}
use Rattle.lineage_rewind.proofs.leaves_at.leaf_at.Goals as goal

pub returns-then-leaf-eq0 : goal.returns-then-leaf-eq0
returns-then-leaf-eq0 c list a within = ap (slice_get list) c.if-leaf-eq0.true
    ∙ c.sentinel_at.ensures c.args.at list a
