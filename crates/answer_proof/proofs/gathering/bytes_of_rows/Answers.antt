use Rattle.std.proofs.Common.{◌∙◌, List, ap, sym, subst}
use Rattle.std.specs.List.{concat}
use Rattle.std.specs.Option.{option_map}
use Rattle.lc_base.specs.History.{latest}
use Rattle.lc_base.specs.declared.row.Row.{Row}
use Rattle.proof_codec.specs.declared.proof.Proof.{Proof}
use Rattle.proof_codec.specs.Spelling.{proof_fields}
use Rattle.proof_codec.specs.Viewing.{Spells}
use Rattle.proof_checks.specs.Making.{made_of}
use Rattle.root_laws.specs.Naming.{body_of}
use Rattle.answer_proof.proofs.Gathered.{some_body}
use Rattle.answer_proof.proofs.gathering.bytes_of_rows.Goals as goal

pub returns-clause-bytes : goal.returns-clause-bytes
returns-clause-bytes g c told =
    let query = c.args.asked.now.query in
    let same = c.in_ok-body.ensures.leaves.same.rows in
    let own = c.in_ok-body.ensures.body told (latest c.args.lineage.now.rows query.key query.at)
    c.latest_row-answer.ensures.latest in
    let made = c.in_ok-proof.ensures.made (own ∙ ap (λ (rows : List Row).
    option_map (body_of rows) (latest rows query.key query.at)) (sym same)) in
    c.in_ok-bytes.ensures ∙ ap (λ (p : Proof). concat (proof_fields p))
    (made ∙ ap (λ (rows : List Row). made_of rows c.args.asked.now.root_at c.args.asked.now.block_digest.0 query)
    same)

pub returns-clause-always : goal.returns-clause-always
returns-clause-always g c =
    let query = c.args.asked.now.query in
    let rows = c.args.lineage.now.rows in
    let version = latest rows query.key query.at in
    let made = c.in_ok-proof.ensures.always
    ∙ ap (λ (rows : List Row).
    record (made_of rows c.args.asked.now.root_at c.args.asked.now.block_digest.0 query)
    { body = c.in_ok-body.body }) c.in_ok-body.ensures.leaves.same.rows in (
      c.in_ok-body.body,
      c.in_ok-body.ensures.there version c.latest_row-answer.ensures.latest
          ∙ sym (some_body rows version),
      subst (Spells c.in_ok-bytes.bytes) made (record {
        lawful = c.in_ok-proof.ensures.lawful;
        spelled = c.in_ok-bytes.ensures;
      }),
    )
