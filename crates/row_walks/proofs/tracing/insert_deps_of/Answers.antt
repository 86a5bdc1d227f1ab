use Rattle.std.proofs.Common.{◌≡◌, ◌∙◌, List, ap, subst}
use Rattle.std.specs.Prelude.{OnOk}
use Rattle.lc_base.specs.declared.row.Dep.{Dep}
use Rattle.lc_base.specs.History.{latest}
use Rattle.root_laws.specs.Ancestors.{all_inserted, itself}
use Rattle.row_walks.specs.Finding.{deps_told}
use Rattle.row_walks.proofs.Answered.{deps_back}
use Rattle.row_walks.proofs.tracing.insert_deps_of.Goals as goal

pub returns-clause-wanted : goal.returns-clause-wanted
returns-clause-wanted c =
    let version = c.args.version.now in
    subst (λ (deps : List Dep). OnOk c.insert_found.result
    (c.insert_found.new.wanted ≡ all_inserted itself deps c.args.wanted.now))
    (ap deps_told c.in_ok-found.ensures.derived
    ∙ deps_back (latest c.args.rows.now version.key version.block))
    c.insert_found.ensures
