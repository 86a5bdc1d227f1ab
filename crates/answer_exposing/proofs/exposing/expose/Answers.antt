use Rattle.std.proofs.Common.{sym}
use Rattle.std.proofs.lemmas.Option.{slice_get_within}
use Rattle.merkle_dag.specs.Lineage.{ledger_in}
use Rattle.answer_exposing.proofs.Exposed.{clears}
use Rattle.answer_exposing.proofs.exposing.expose.Goals as goal

pub returns-clause-clears : goal.returns-clause-clears
returns-clause-clears g c told =
    clears (ledger_in c.args.lineage.now) c.args.root_at c.args.view.now
    c.in_ok-exposed_at.field-0 c.row_count-typed.ensures.typed
    (slice_get_within c.args.lineage.now.digests c.args.root_at c.in-Some.block_digest
    (sym c.in-Some.ensures)) (c.in_ok-exposed_at.ensures.found told)

pub returns-clause-beyond : goal.returns-clause-beyond
returns-clause-beyond g c =
    slice_get_within c.args.lineage.now.digests c.args.root_at c.in-Some.block_digest
    (sym c.in-Some.ensures)
