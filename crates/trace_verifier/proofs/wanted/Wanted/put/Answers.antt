use Rattle.std.proofs.Common.{◌∙◌, map, sym, ap}
use Rattle.std.specs.List.{list_any}
use Rattle.proof_verifier.specs.proof_checks.Checks.{dep_of}
use Rattle.root_laws.specs.Ancestors.{inserted}
use Rattle.proof_verifier.specs.proof_checks.TraceChecks.{has_other_digest}
use Rattle.root_laws.specs.Places.{Place}
use Rattle.trace_verifier.specs.Places.{dep_at}
use Rattle.root_laws.specs.Naming.{is_named}
use Rattle.trace_verifier.proofs.Placed.{put_in, none_named}
use Rattle.trace_verifier.proofs.Adding.{on_error}
use Rattle.trace_verifier.proofs.wanted.Wanted.put.Goals as goal

pub returns-clause-ok : goal.returns-clause-ok
returns-clause-ok c =
    let dep = c.args.dep.now in
    let place : Place = record { 0 = (dep.block, dep.key) } in
    let none = ap (list_any (has_other_digest dep)) c.self.view_is ∙ c.requires in
    ap (map dep_at) c.in_ok-insert.ensures.entries
    ∙ put_in place dep.digest c.self.inside.entries.entries none
    ∙ ap (inserted dep_of dep) c.self.view_is

pub returns-in_err-insert-clause-short : goal.returns-in_err-insert-clause-short
returns-in_err-insert-clause-short c =
    let dep = c.args.dep.now in
    let place : Place = record { 0 = (dep.block, dep.key) } in
    on_error c.from_residual.result _
    (sym (ap (list_any (is_named dep.key dep.block)) c.self.view_is)
    ∙ none_named place dep.digest c.self.inside.entries.entries c.in_err-insert.ensures.absent)
