use Rattle.std.proofs.Common.{sym, ap, ◌∙◌, subst}
use Rattle.cli_lines.specs.Outcome.{bad_input}
use Rattle.contract_parse.specs.Syntax.{IsOutcome}
use Rattle.cli_output.specs.Output.{edition_number, source_outcome}
use Rattle.chain_cli.proofs.Fmts.{source_wanted}
use Rattle.chain_cli.proofs.fmt.source_outcome.Goals as goal

pub returns-in_ok-outcome-in-Ok : goal.returns-in_ok-outcome-in-Ok
returns-in_ok-outcome-in-Ok c =
    let found = c.in-Ok.ensures.outcome in
    let is = subst (λ edition. IsOutcome edition c.args.source.now found.0) c.edition_number.ensures found.1 in
    source_wanted (edition_number c.args.edition) c.args.source.now found.0 c.in_ok-outcome-in-Ok.outcome c.requires is (c.in_ok-outcome-in-Ok.ensures ∙ ap source_outcome (sym found.2))

pub returns-in_ok-outcome-in-Err-Refused : goal.returns-in_ok-outcome-in-Err-Refused
returns-in_ok-outcome-in-Err-Refused c =
    let found = rw c.in-Err-Refused.field-0-is at c.in-Err-Refused.ensures.outcome in
    let is = subst (λ edition. IsOutcome edition c.args.source.now found.0) c.edition_number.ensures found.1 in
    source_wanted (edition_number c.args.edition) c.args.source.now found.0 c.in_ok-outcome-in-Err-Refused.outcome c.requires is
    (c.in_ok-outcome-in-Err-Refused.ensures ∙ ap bad_input (c.as_str.ensures.value ∙ c.in_ok-cause-in-Err-Refused.ensures) ∙ ap source_outcome (sym found.2))
