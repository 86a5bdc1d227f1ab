use Rattle.std.proofs.Common.{◌≡◌, ◌≢◌, ◌∙◌, List, ap, sym, subst}
use Rattle.std.specs.Prelude.{filter_map}
use Rattle.std.specs.List.{AllPairs}
use Rattle.std.specs.Option.{option_copied}
use Rattle.lc_base.specs.declared.row.Dep.{Dep}
use Rattle.lc_base.specs.Deps.{without_repeats}
use Rattle.lc_base.proofs.Repeats.{apart_once}
use Rattle.dep_capture.specs.Capture.{dep_of_read, deps_of}
use Rattle.dep_capture.proofs.Apart.{reads_apart}
use Rattle.dep_capture.proofs.dependencies.deps_of.Goals as goal

pub returns-in_ok-deps-in-None-clause-deps : goal.returns-in_ok-deps-in-None-clause-deps
returns-in_ok-deps-in-None-clause-deps c =
    c.from_vec.ensures ∙ c.in_ok-deps-in-None.ensures ∙ ap (filter_map dep_of_read) c.as_slice.ensures
    ∙ sym (reads_apart c.args.reads.now c.requires)
    ∙ sym (ap (λ named. deps_of c.args.reads.now (option_copied named)) c.in-None.is)

pub returns-in_ok-deps-in-None-clause-once : goal.returns-in_ok-deps-in-None-clause-once
returns-in_ok-deps-in-None-clause-once c =
    let are : c.from_vec.result ≡ without_repeats (filter_map dep_of_read c.args.reads.now) =
    c.from_vec.ensures ∙ c.in_ok-deps-in-None.ensures ∙ ap (filter_map dep_of_read) c.as_slice.ensures
    ∙ sym (reads_apart c.args.reads.now c.requires) in
    subst (AllPairs {X = Dep} ◌≢◌) (sym are) (apart_once (filter_map dep_of_read c.args.reads.now))
