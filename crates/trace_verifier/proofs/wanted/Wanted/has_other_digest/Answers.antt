use Rattle.std.proofs.Common.{◌∙◌, ap}
use Rattle.std.specs.List.{list_any}
use Rattle.proof_verifier.specs.proof_checks.TraceChecks.{has_other_digest}
use Rattle.root_laws.specs.Places.{Place}
use Rattle.trace_verifier.proofs.Placed.{differs, found_other}
use Rattle.trace_verifier.proofs.wanted.Wanted.has_other_digest.Goals as goal

pub returns-in-None : goal.returns-in-None
returns-in-None c =
    let dep = c.args.dep.now in
    let place : Place = record { 0 = (dep.block, dep.key) } in
    let sorted = c.len-count.ensures.ordered in
    ap (differs place dep.digest) c.in-None.ensures.value
    ∙ found_other place dep.digest c.self.inside.entries.entries sorted
    ∙ ap (list_any (has_other_digest dep)) c.self.view_is

pub returns-in-Some : goal.returns-in-Some
returns-in-Some c =
    let dep = c.args.dep.now in
    let place : Place = record { 0 = (dep.block, dep.key) } in
    let sorted = c.len-count.ensures.ordered in
    c.ne.ensures
    ∙ ap (differs place dep.digest) c.in-Some.ensures.value
    ∙ found_other place dep.digest c.self.inside.entries.entries sorted
    ∙ ap (list_any (has_other_digest dep)) c.self.view_is
