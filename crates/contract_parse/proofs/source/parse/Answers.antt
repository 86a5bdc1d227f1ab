-- Each clause, if there are tokens and if there are none.
use Rattle.contract_grammar.specs.Reading.{contract}
use Rattle.contract_parse.specs.Syntax.{reading_outcome}
use Rattle.contract_parse.proofs.Parsed.{has_one_outcome, reads_outcome, tells_outcome}
use Rattle.contract_parse.proofs.Sources.{has_one_obstacle}
use Rattle.contract_parse.proofs.source.parse.Goals as goal

pub returns-in-Ok-clause-outcome : goal.returns-in-Ok-clause-outcome
returns-in-Ok-clause-outcome c =
    let found = c.in-Ok.ensures.outcome in
    (reading_outcome (contract c.in-Ok.tokens), reads_outcome c.args.edition c.args.source.now found.0 c.in-Ok.tokens found.1 found.2, c.read.ensures.outcome)

pub returns-in-Ok-clause-once : goal.returns-in-Ok-clause-once
returns-in-Ok-clause-once c = has_one_outcome c.args.edition c.args.source.now c.in-Ok.ensures.once c.in-Ok.ensures.outcome.0 c.in-Ok.ensures.outcome.1

pub returns-in-Err-clause-outcome : goal.returns-in-Err-clause-outcome
returns-in-Err-clause-outcome c =
    let found = c.in-Err.ensures.outcome in
    rw c.refusal.ensures (tells_outcome c.args.edition c.args.source.now found.0 c.in-Err.error found.1 found.2)

pub returns-in-Err-clause-once : goal.returns-in-Err-clause-once
returns-in-Err-clause-once c = has_one_outcome c.args.edition c.args.source.now c.in-Err.ensures.once c.in-Err.ensures.outcome.0 c.in-Err.ensures.outcome.1

pub returns-in-Ok-clause-one_fault : goal.returns-in-Ok-clause-one_fault
returns-in-Ok-clause-one_fault c = has_one_obstacle c.args.edition c.args.source.now

pub returns-in-Err-clause-one_fault : goal.returns-in-Err-clause-one_fault
returns-in-Err-clause-one_fault c = has_one_obstacle c.args.edition c.args.source.now
