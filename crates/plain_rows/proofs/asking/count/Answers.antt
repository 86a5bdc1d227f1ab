use Rattle.std.proofs.Common.{◌≡◌, Some, subst, arith}
use Rattle.lc_base.specs.declared.answer.Kind.{Kind}
use Rattle.lc_base.specs.History.{scan}
use Rattle.lc_base.specs.Parts.{list_in, question}
use Rattle.plain_rows.specs.Kept.{rows_of}
use Rattle.plain_rows.proofs.AnswerParts.{few_sources}
use Rattle.plain_rows.proofs.Lists.{as_long}
use Rattle.plain_rows.proofs.asking.count.Goals as goal

pub returns-in-Some-clause-few : goal.returns-in-Some-clause-few
returns-in-Some-clause-few c back =
    let rows = rows_of c.args.rows.now in
    let query = c.args.query.now in
    let list = c.in-Some.ensures in
    let is = subst (λ (kind : Kind). list_in (scan rows (question kind query.key query.at)) ≡ Some list.0) back list.1 in
    omega (arith, as_long rows c.in-Some.list.now list.0 list.2, few_sources rows query.key query.at list.0 c.requires.lawful is)
