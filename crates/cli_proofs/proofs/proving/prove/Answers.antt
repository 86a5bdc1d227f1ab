use Rattle.std.proofs.Common.{◌∙◌}
use Rattle.merkle_dag.specs.Lineage.{ledger_in}
use Rattle.cli_proofs.proofs.Proves.{proved_told}
use Rattle.cli_proofs.proofs.proving.prove.Goals as goal

pub returns-in_ok-from_line-in-Ok-clause-outcome : goal.returns-in_ok-from_line-in-Ok-clause-outcome
returns-in_ok-from_line-in-Ok-clause-outcome g c held kept same =
    proved_told (ledger_in c.args.lineage.now) kept c.args.question.now c.args.root_at
    c.as_bytes.result.now c.in_ok-line-in-Ok.line c.in_ok-from_line-in-Ok.field-0 same
    c.in-Ok.ensures.beyond (c.as_bytes.ensures ∙ c.in-Ok.ensures.made held)
    c.in_ok-line-in-Ok.ensures c.in_ok-from_line-in-Ok.ensures
