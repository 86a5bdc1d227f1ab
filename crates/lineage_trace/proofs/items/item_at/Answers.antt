use Rattle.std.proofs.Common.{◌∙◌}
use Rattle.answer_proof.proofs.Bodies.{row_body}
use Rattle.lineage_trace.proofs.Itemed.{is_header, item_made}
use Rattle.lineage_trace.proofs.items.item_at.Goals as goal

pub returns-clause-item : goal.returns-clause-item
returns-clause-item g c known row at =
    let rows = c.args.lineage.now.rows in
    item_made rows row c.in_ok-header.header c.in_ok-body.body (c.in_ok-header.ensures.row row at)
    (row_body rows c.args.index row c.deref.result.now c.in_ok-body.body
    c.row_count-typed.ensures.typed.history at
    (c.deref.ensures.value ∙ c.in_ok-bytes.ensures.body row at known) c.in_ok-body.ensures.body)

pub returns-clause-lawful : goal.returns-clause-lawful
returns-clause-lawful g c = record {
  header_is_header = is_header c.args.lineage.now.rows c.args.index c.in_ok-header.header
      c.row_count-typed.ensures.typed.history c.requires.within c.in_ok-header.ensures.row;
  body_is_body = c.in_ok-body.ensures.lawful;
}
