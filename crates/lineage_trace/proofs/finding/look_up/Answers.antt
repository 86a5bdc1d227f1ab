use Rattle.std.proofs.Common.{◌∙◌, ap, subst, sym}
use Rattle.lc_base.specs.History.{latest}
use Rattle.row_walks.specs.Finding.{derived_in}
use Rattle.lineage_trace.specs.Finding.{IsButForDeps}
use Rattle.row_walks.proofs.Answered.{derived_told}
use Rattle.lineage_trace.proofs.Answered.{but_for_deps}
use Rattle.lineage_trace.proofs.finding.look_up.Goals as goal

pub returns-in-Ok-clause-derived : goal.returns-in-Ok-clause-derived
returns-in-Ok-clause-derived g c known =
    c.derived_in.ensures ∙ ap derived_in (c.in-Ok.ensures.answer known)
    ∙ derived_told c.args.lineage.now.rows c.args.key.now c.args.at

pub returns-in-Ok-clause-always : goal.returns-in-Ok-clause-always
returns-in-Ok-clause-always g c =
    subst (IsButForDeps (latest c.args.lineage.now.rows c.args.key.now c.args.at))
    (sym c.derived_in.ensures)
    (but_for_deps c.args.lineage.now.rows c.args.key.now c.args.at c.in-Ok.told
    c.in-Ok.ensures.always)
