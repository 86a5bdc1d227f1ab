use Rattle.std.proofs.Common.{◌≡◌, ◌∙◌, Some, [], ap, sym, get_or, arith}
use Rattle.std.specs.List.{slice_get}
use Rattle.std.proofs.lemmas.Option.{slice_get-get_or, slice_get_past}
use Rattle.lc_base.specs.declared.row.Dep.{Dep}
use Rattle.plain_rows.proofs.Lists.{as_long, none_at, version_there, within}
use Rattle.plain_rows.proofs.kept.nth_version.Goals as goal

pub version_at-requires : goal.version_at-requires
version_at-requires c =
    let all = c.requires.0 in
    let deps = c.requires.1 in
    let place = c.args.place in
    let row = c.in-Some.row.now in
    let indexes = c.args.indexes.now in
    let d : Dep = record { key = []; block = 0 } in
    let low = c.in-Some.ensures.lookup.3.0 in
    let at : Some row ≡ slice_get indexes place = ap Some c.in-Some.ensures.lookup.1 ∙ sym (slice_get-get_or indexes place row low) in
    let here = version_there all indexes deps place row c.requires.3 at ∙ slice_get-get_or deps place d (omega (arith, low, as_long all indexes deps c.requires.3)) in
    (all, c.requires.2, within all row (get_or deps place d) here)

pub returns-in-None : goal.returns-in-None
returns-in-None c all deps are at = none_at all c.args.indexes.now deps c.args.place at (sym (slice_get_past c.args.indexes.now c.args.place c.in-None.ensures.lookup.3))

pub returns-in-Some : goal.returns-in-Some
returns-in-Some c all deps are at =
    let indexes = c.args.indexes.now in
    let row = c.in-Some.row.now in
    let here : Some row ≡ slice_get indexes c.args.place = ap Some c.in-Some.ensures.lookup.1 ∙ sym (slice_get-get_or indexes c.args.place row c.in-Some.ensures.lookup.3.0) in
    sym (c.version_at.ensures all are) ∙ version_there all indexes deps c.args.place row at here
