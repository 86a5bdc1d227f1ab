use Rattle.std.proofs.Common.{sym}
use Rattle.std.proofs.lemmas.Option.{slice_get_within}
use Rattle.merkle_dag.specs.Lineage.{ledger_in}
use Rattle.answer_proof.proofs.Shown.{shows}
use Rattle.answer_proof.proofs.proving.prove.Goals as goal

pub returns-clause-accepted : goal.returns-clause-accepted
returns-clause-accepted g c told =
    shows (ledger_in c.args.lineage.now) c.args.query.now c.args.root_at c.in_ok-bytes_at.field-0
    c.check_types.ensures.ledger
    (slice_get_within c.args.lineage.now.digests c.args.root_at c.in-Some.block_digest
    (sym c.in-Some.ensures)) c.check_types.ensures.key c.if-root_at-query.false
    (c.in_ok-bytes_at.ensures.bytes told)

pub returns-clause-beyond : goal.returns-clause-beyond
returns-clause-beyond g c = (
  slice_get_within c.args.lineage.now.digests c.args.root_at c.in-Some.block_digest
      (sym c.in-Some.ensures),
  c.if-root_at-query.false,
)
