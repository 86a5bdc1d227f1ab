use Rattle.std.proofs.Common.{◌≡◌, IfOk, subst}
use Rattle.lc_base.specs.declared.answer.Answer.{Answer}
use Rattle.prov_query.specs.Bodiless.{IsButForBody}
use Rattle.prov_query.proofs.Finding.{about_row}
use Rattle.prov_query.proofs.answers.answer.Goals as goal

pub returns-in-Some-clause-answer : goal.returns-in-Some-clause-answer
returns-in-Some-clause-answer g c told =
    let found = c.in-Some.ensures.latest in
    subst (λ (wanted : Answer). IfOk c.about.result (λ answer. answer ≡ wanted))
    (about_row c.args.lineage.now.rows c.args.query.now found.0 found.1)
    (c.about.ensures.answer found.0 found.2 told)

pub returns-in-Some-clause-always : goal.returns-in-Some-clause-always
returns-in-Some-clause-always g c =
    let found = c.in-Some.ensures.latest in
    subst (λ (wanted : Answer). IfOk c.about.result (IsButForBody wanted))
    (about_row c.args.lineage.now.rows c.args.query.now found.0 found.1)
    (c.about.ensures.always found.0 found.2)
