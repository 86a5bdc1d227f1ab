use Rattle.std.proofs.Common.{◌∙◌}
use Rattle.answer_proof.proofs.Bodies.{row_body}
use Rattle.range_proof.proofs.Written.{body_put, one_body}
use Rattle.range_proof.proofs.writing.put_body.Goals as goal

pub returns-clause-own : goal.returns-clause-own
returns-clause-own g c known =
    let rows = c.args.lineage.now.rows in
    body_put rows c.args.index c.in_ok-body.body c.args.out.now.items c.as_bytes.result.now
    c.extend_from_slice.new.self.items c.requires.within
    (λ row at. row_body rows c.args.index row c.deref.result.now c.in_ok-body.body
    c.row_count-typed.ensures.typed.history at
    (c.deref.ensures.value ∙ c.in_ok-kept.ensures.body row at known) c.in_ok-body.ensures.body)
    (c.as_bytes.ensures ∙ c.in_ok-bytes.ensures.spelled) c.in_ok-extend_from_slice.ensures.items

pub returns-clause-one : goal.returns-clause-one
returns-clause-one g c =
    one_body c.in_ok-body.body c.args.out.now.items c.as_bytes.result.now
    c.extend_from_slice.new.self.items c.in_ok-body.ensures.lawful
    (c.as_bytes.ensures ∙ c.in_ok-bytes.ensures.spelled) c.in_ok-extend_from_slice.ensures.items
