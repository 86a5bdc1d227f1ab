use Rattle.std.proofs.Common.{Some, Ok, refl}
use Rattle.cli_words.specs.declared.words.Command.TheVariants.{Root, Prove, Expose}
use Rattle.chain_exec.specs.Compiled.{compiled_in}
use Rattle.cli_output.specs.Output.{root_outcome, prove_outcome, at_or_last}
use Rattle.cli_output.specs.Telling.{status_of_found}
use Rattle.cli_output.specs.declared.stop.OutcomeStop.{OutcomeStop}
use Rattle.cli_output.proofs.Ends.{asked_ends, may_end}
use Rattle.cli_proofs.proofs.Exposes.{outcome_may, asked_has_log, found_has_log}
use Rattle.chain_cli.proofs.Ends.{of_given, lineage_ends, proved_in_order}
use Rattle.chain_cli.proofs.Runs.{asked_over, expose_over, of_over}
use Rattle.chain_cli.proofs.answering.lineage_outcome.Goals as goal

pub returns-in_ok-root_outcome-in-Root-clause-found : goal.returns-in_ok-root_outcome-in-Root-clause-found
returns-in_ok-root_outcome-in-Root-clause-found g c held kept same =
    of_over kept (Ok c.in_ok-root_outcome-in-Root.field-0) (g.I.Source.left c.args.source.now)
    (g.I.Source.left c.args.source.now) c.args.command.now (Root c.in-Root.at) c.in-Root.is
    (asked_over kept (Ok c.in_ok-root_outcome-in-Root.field-0)
    (λ blocks. root_outcome compiled_in (at_or_last c.in-Root.at blocks) blocks)
    (g.I.Source.left c.args.source.now) (c.in_ok-root_outcome-in-Root.ensures.outcome kept same))

pub returns-in_ok-root_outcome-in-Root-clause-ends : goal.returns-in_ok-root_outcome-in-Root-clause-ends
returns-in_ok-root_outcome-in-Root-clause-ends g c = of_given (status_of_found (Ok c.in_ok-root_outcome-in-Root.field-0)) c.args.command.now (Root c.in-Root.at) c.in-Root.is
    (asked_ends {E = OutcomeStop} (Ok c.in_ok-root_outcome-in-Root.field-0) (Some (Root c.in-Root.at)) refl c.in_ok-root_outcome-in-Root.ensures.ends)

pub returns-in_ok-root_outcome-in-Root-clause-has_log : goal.returns-in_ok-root_outcome-in-Root-clause-has_log
returns-in_ok-root_outcome-in-Root-clause-has_log g c = asked_has_log (Ok c.in_ok-root_outcome-in-Root.field-0) c.in_ok-root_outcome-in-Root.ensures.ends

pub prove-requires-clause-in_order : goal.prove-requires-clause-in_order
prove-requires-clause-in_order g c = proved_in_order c.args.command.now c.in-Prove.question
    c.in-Prove.root_at c.in-Prove.is c.requires.given

pub returns-in-Prove-clause-found : goal.returns-in-Prove-clause-found
returns-in-Prove-clause-found g c held kept same =
    of_over kept c.prove.result (g.I.Source.left c.args.source.now)
    (g.I.Source.left c.args.source.now) c.args.command.now
    (Prove c.in-Prove.question c.in-Prove.root_at) c.in-Prove.is
    (asked_over kept c.prove.result
    (prove_outcome compiled_in c.in-Prove.question c.in-Prove.root_at)
    (g.I.Source.left c.args.source.now) (c.prove.ensures.outcome held kept same))

pub returns-in-Prove-clause-ends : goal.returns-in-Prove-clause-ends
returns-in-Prove-clause-ends g c = lineage_ends c.prove.result c.args.command.now
    (Prove c.in-Prove.question c.in-Prove.root_at) c.in-Prove.is refl
    c.prove.ensures.ends c.prove.ensures.reads

pub returns-in-Prove-clause-has_log : goal.returns-in-Prove-clause-has_log
returns-in-Prove-clause-has_log g c = asked_has_log c.prove.result c.prove.ensures.ends

pub returns-in-Expose-clause-found : goal.returns-in-Expose-clause-found
returns-in-Expose-clause-found g c held kept same =
    of_over kept c.expose.result (g.I.Source.left c.args.source.now) (g.I.Source.left c.expose.new.source) c.args.command.now (Expose c.in-Expose.root c.in-Expose.query c.in-Expose.root_at) c.in-Expose.is
    (expose_over kept c.expose.result c.in-Expose.root c.in-Expose.query c.in-Expose.root_at (g.I.Source.left c.args.source.now) (g.I.Source.left c.expose.new.source) (c.expose.ensures.outcome held kept same))

pub returns-in-Expose-clause-ends : goal.returns-in-Expose-clause-ends
returns-in-Expose-clause-ends g c = of_given (status_of_found c.expose.result) c.args.command.now (Expose c.in-Expose.root c.in-Expose.query c.in-Expose.root_at) c.in-Expose.is
    (may_end c.expose.result (Some (Expose c.in-Expose.root c.in-Expose.query c.in-Expose.root_at)) (outcome_may c.in-Expose.root c.in-Expose.query c.in-Expose.root_at c.expose.result c.expose.ensures.ends) (λ e. refl) (λ e. refl) (λ e. refl))

pub returns-in-Expose-clause-has_log : goal.returns-in-Expose-clause-has_log
returns-in-Expose-clause-has_log g c = found_has_log c.expose.result c.expose.ensures.ends
