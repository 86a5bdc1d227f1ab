use Rattle.std.proofs.Common.{sym}
use Rattle.std.proofs.lemmas.Option.{slice_get_within}
use Rattle.prov_query.specs.merkle_dag.Lineage.{ledger_in}
use Rattle.range_proof.proofs.Made.{shows}
use Rattle.range_proof.proofs.proving.prove_range.Goals as goal

pub returns-clause-accepted : goal.returns-clause-accepted
returns-clause-accepted g c known =
    shows (ledger_in c.args.lineage.now) c.args.key.now c.args.from c.args.to c.args.root_at
    c.in_ok-bytes_at.field-0 c.made_ranges_are_proofs.ensures
    c.made_ranges_are_accepted.ensures c.row_count-rows.ensures.typed
    (slice_get_within c.args.lineage.now.digests c.args.root_at c.in-Some.block_digest
    (sym c.in-Some.ensures)) c.as_bytes-key.ensures.is_key c.requires.in_order
    c.if-root_at-to.false (c.in_ok-bytes_at.ensures.bytes known)

pub returns-clause-beyond : goal.returns-clause-beyond
returns-clause-beyond g c = (
  slice_get_within c.args.lineage.now.digests c.args.root_at c.in-Some.block_digest
      (sym c.in-Some.ensures),
  c.if-root_at-to.false,
)
