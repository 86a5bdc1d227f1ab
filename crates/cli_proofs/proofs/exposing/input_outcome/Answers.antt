use Rattle.std.proofs.Common.{◌∙◌, Ok, List, ℕ, ap, sym}
use Rattle.merkle_dag.specs.Lineage.{ledger_in}
use Rattle.cli_proofs.proofs.Exposes.{accepted_held, refused_held, bad_hex_held, decoded_is}
use Rattle.cli_proofs.proofs.exposing.input_outcome.Goals as goal

pub returns-in-Ok-accept-clause-outcome : goal.returns-in-Ok-accept-clause-outcome
returns-in-Ok-accept-clause-outcome g c told = accepted_held (ledger_in c.args.lineage.now) c.args.root.now.0 c.args.query.now c.args.root_at c.as_bytes.result.now c.in-Ok-accept.proof c.accepted_outcome.result c.in-Ok-accept.ensures.spelled c.in-Ok-accept.ensures.passes
    (c.accepted_outcome.ensures.outcome told) c.args.input.now (decoded_is _ _ (sym c.in_ok-bytes.ensures ∙ c.in-Ok.is) ∙ ap (λ (b : List ℕ). Ok b) (sym c.as_bytes.ensures))

pub returns-in-Ok-clause-outcome : goal.returns-in-Ok-clause-outcome
returns-in-Ok-clause-outcome g c told =
    refused_held (ledger_in c.args.lineage.now) c.args.root.now.0 c.args.query.now c.args.root_at c.as_bytes.result.now c.in-Err-accept.reject c.in_ok-rejected_outcome-in-Err-accept.field-0 c.in-Err-accept.ensures.fails c.in_ok-rejected_outcome-in-Err-accept.ensures
    c.args.input.now (decoded_is _ _ (sym c.in_ok-bytes.ensures ∙ c.in-Ok.is) ∙ ap (λ (b : List ℕ). Ok b) (sym c.as_bytes.ensures))

pub returns-clause-outcome : goal.returns-clause-outcome
returns-clause-outcome g c told =
    bad_hex_held (ledger_in c.args.lineage.now) c.args.root.now.0 c.args.query.now c.args.root_at c.args.input.now c.in-Err.fault c.in_ok-bad_hex-in-Err.field-0 (sym c.in_ok-bytes.ensures ∙ c.in-Err.is) c.in_ok-bad_hex-in-Err.ensures
