use Rattle.std.proofs.Common.{◌≡◌, ◌∙◌, Option, ap, subst, sym}
use Rattle.std.specs.List.{Contains}
use Rattle.std.specs.Option.{option_map}
use Rattle.std.proofs.Common.{List}
use Rattle.lc_base.specs.declared.row.Row.{Row}
use Rattle.lc_base.specs.History.{latest}
use Rattle.row_walks.specs.declared.finding.Derived.{Derived}
use Rattle.row_walks.specs.Finding.{derived_of}
use Rattle.row_walks.proofs.OneMore.{all_reached}
use Rattle.row_walks.proofs.Whole.{row_of_found, traced}
use Rattle.row_walks.proofs.tracing.trace.Goals as goal

pub returns-in_ok-ancestors-in-Some-clause-traced :
    goal.returns-in_ok-ancestors-in-Some-clause-traced
returns-in_ok-ancestors-in-Some-clause-traced c =
    let rows = c.args.rows.now in
    let key = c.args.key.now in
    let found = row_of_found rows key c.args.at c.in-Some.derived
    (subst (λ (o : Option Derived). o ≡ option_map derived_of (latest rows key c.args.at))
    c.in-Some.is c.in_ok-look_up.ensures.derived) in
    let same = c.look_up.ensures.unchanged in
    let told = c.in_ok-ancestors-in-Some.ancestors in
    traced rows key c.args.at c.in-Some.derived found.0 found.2 found.3 told c.reversed.result
    (subst (λ (rs : List Row). told ≡ all_reached rs found.0.deps) same
    (c.in_ok-ancestors-in-Some.ensures.reached found.0
    (subst (λ (rs : List Row). Contains rs found.0) (sym same) found.1)
    (c.as_slice.ensures ∙ ap (λ (d : Derived). d.deps) found.3))) c.reversed.ensures
