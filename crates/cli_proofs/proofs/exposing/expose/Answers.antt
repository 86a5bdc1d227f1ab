use Rattle.std.proofs.Common.{List, ℕ, subst}
use Rattle.std.specs.Prelude.{IfOk}
use Rattle.merkle_dag.specs.Lineage.{ledger_in}
use Rattle.cli_proofs.specs.Exposing.{IsHeld}
use Rattle.cli_proofs.proofs.Exposes.{past_told, long_told, whole_result}
use Rattle.cli_proofs.proofs.exposing.expose.Goals as goal

pub returns-then-not-reaches-clause-outcome : goal.returns-then-not-reaches-clause-outcome
returns-then-not-reaches-clause-outcome g c told kept same =
    past_told (ledger_in c.args.lineage.now) kept same c.args.root.now.0 c.args.query.now c.args.root_at c.head.result (g.I.Source.left c.args.source.now) c.in_ok-beyond.field-0 (cc c.if-not-reaches.ensures)
    c.head.ensures c.in_ok-beyond.ensures.outcome

pub returns-in_ok-bad_input-in-None-clause-outcome : goal.returns-in_ok-bad_input-in-None-clause-outcome
returns-in_ok-bad_input-in-None-clause-outcome g c told kept same =
    long_told (ledger_in c.args.lineage.now) kept same c.args.root.now.0 c.args.query.now c.args.root_at (g.I.Source.left c.args.source.now) (g.I.Source.left c.read_whole.new.source) c.in_ok-read_whole.field-0 c.in_ok-bad_input-in-None.field-0 (cc c.if-not-reaches.ensures)
    c.in-None.is c.in_ok-read_whole.ensures.whole c.in_ok-bad_input-in-None.ensures

pub returns-in-Some-clause-outcome : goal.returns-in-Some-clause-outcome
returns-in-Some-clause-outcome g c told kept same =
    whole_result (ledger_in c.args.lineage.now) kept same c.args.root.now.0 c.args.query.now c.args.root_at (g.I.Source.left c.args.source.now) (g.I.Source.left c.read_whole.new.source) c.in_ok-read_whole.field-0 c.in-Some.bytes c.input_outcome.result (cc c.if-not-reaches.ensures)
    c.in-Some.is c.in_ok-read_whole.ensures.whole
    (subst (λ (b : List ℕ). IfOk c.input_outcome.result (IsHeld (ledger_in c.args.lineage.now) c.args.root.now.0 c.args.query.now c.args.root_at b)) c.as_bytes-input.ensures (c.input_outcome.ensures.outcome told))
