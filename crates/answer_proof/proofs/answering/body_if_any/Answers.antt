use Rattle.std.proofs.Common.{◌∙◌, ℕ, Option, Some, ap, subst, sym}
use Rattle.std.specs.Option.{option_map}
use Rattle.root_laws.specs.Naming.{body_of}
use Rattle.plain_rows.specs.Places.{IsRowAt}
use Rattle.answer_proof.proofs.Bodies.{row_body}
use Rattle.answer_proof.proofs.answering.body_if_any.Goals as goal

pub returns-clause-body : goal.returns-clause-body
returns-clause-body g c told version at =
    let rows = c.args.lineage.now.rows in
    let there = subst (λ (index : Option ℕ). IsRowAt rows index version) c.in-Some.is at in
    let bytes = c.deref.ensures.value ∙ c.in_ok-bytes.ensures.body there.0 there.2 told in
    ap Some (row_body rows c.in-Some.index there.0 c.deref.result.now c.in_ok-body.body
    c.row_count-typed.ensures.typed.history there.2 bytes c.in_ok-body.ensures.body)
    ∙ sym (ap (option_map (body_of rows)) there.1)
