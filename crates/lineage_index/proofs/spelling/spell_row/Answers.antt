use Rattle.std.proofs.Common.{◌++◌, ◌∙◌, List, map, ap}
use Rattle.lc_base.specs.declared.row.Dep.{Dep}
use Rattle.lineage_index.specs.Leaves.{leaf_indexes}
use Rattle.lineage_index.proofs.spelling.spell_row.Goals as goal

pub returns-clause-touched : goal.returns-clause-touched
returns-clause-touched c =
    c.in_ok-deps.ensures.touched
    ∙ ap (λ (deps : List Dep). c.args.touched.now.items ++
    leaf_indexes c.args.tree.now (map (λ (dep : Dep). dep.key) deps)) c.as_slice.ensures
