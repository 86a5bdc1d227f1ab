use Rattle.std.proofs.Common.{sym}
use Rattle.std.proofs.lemmas.Option.{slice_get_within}
use Rattle.prov_query.specs.merkle_dag.Lineage.{ledger_in}
use Rattle.lineage_trace.proofs.Made.{shows}
use Rattle.lineage_trace.proofs.proving.prove_trace.Goals as goal

pub returns-clause-accepted : goal.returns-clause-accepted
returns-clause-accepted g c known =
    shows (ledger_in c.args.lineage.now) c.args.key.now c.args.at c.args.root_at
    c.in_ok-bytes_at.field-0 c.made_traces_are_proofs.ensures
    c.made_traces_are_accepted.ensures
    c.row_count-rows.ensures.typed
    (slice_get_within c.args.lineage.now.digests c.args.root_at c.in-Some.field-0
    (sym c.in-Some.ensures)) c.as_bytes-key.ensures.is_key c.if-root_at-at.false
    (c.in_ok-bytes_at.ensures.bytes known)

pub returns-clause-beyond : goal.returns-clause-beyond
returns-clause-beyond g c = (
  slice_get_within c.args.lineage.now.digests c.args.root_at c.in-Some.field-0
      (sym c.in-Some.ensures),
  c.if-root_at-at.false,
)
