use Rattle.std.proofs.Common.{◌∙◌, List, ap}
use Rattle.lc_base.specs.declared.row.Dep.{Dep}
use Rattle.lc_base.specs.History.{latest}
use Rattle.root_laws.specs.Ancestors.{all_inserted, itself}
use Rattle.row_walks.specs.Finding.{deps_told}
use Rattle.row_walks.proofs.Answered.{deps_back}
use Rattle.lineage_trace.proofs.finding.insert_deps_of.Goals as goal

pub returns-in_ok-insert_found-in-Ok-clause-wanted :
    goal.returns-in_ok-insert_found-in-Ok-clause-wanted
returns-in_ok-insert_found-in-Ok-clause-wanted g c known =
    let version = c.args.version.now in
    c.in_ok-insert_found-in-Ok.ensures
    ∙ ap (λ (deps : List Dep). all_inserted itself deps c.args.wanted.now)
    (ap deps_told (c.in-Ok.ensures.derived known)
    ∙ deps_back (latest c.args.lineage.now.rows version.key version.block))
