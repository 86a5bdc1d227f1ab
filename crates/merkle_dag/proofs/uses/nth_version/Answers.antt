use Rattle.std.proofs.Common.{◌∙◌, Some, ap, sym, arith}
use Rattle.std.proofs.lemmas.Option.{slice_get-get_or, slice_get_past, slice_get_within}
use Rattle.lineage_rewind.proofs.plain_rows.Lists.{as_long}
use Rattle.merkle_dag.proofs.Versions.{version_row}
use Rattle.merkle_dag.proofs.uses.nth_version.Goals as goal

pub version_at-requires : goal.version_at-requires
version_at-requires c =
    let given = c.requires in
    let place = c.in-Some.place.now in
    let at = version_row given.0 c.args.places.now given.1 c.args.item place given.3
    (slice_get-get_or c.args.places.now c.args.item place c.in-Some.ensures.lookup.3.0
    ∙ ap Some (sym c.in-Some.ensures.lookup.1)) in
    (given.0, given.2, slice_get_within given.0 place at.0 at.1)

pub returns-in-None : goal.returns-in-None
returns-in-None c rows deps is are =
    sym (slice_get_past deps c.args.item
    (omega (arith, c.in-None.ensures.lookup.3, as_long rows c.args.places.now deps are)))

pub returns-in-Some : goal.returns-in-Some
returns-in-Some c rows deps is are =
    let place = c.in-Some.place.now in
    let made = c.version_at.result in
    let at = version_row rows c.args.places.now deps c.args.item place are
    (slice_get-get_or c.args.places.now c.args.item place c.in-Some.ensures.lookup.3.0
    ∙ ap Some (sym c.in-Some.ensures.lookup.1)) in
    ap Some (c.version_at.ensures rows at.0 is at.1 ∙ at.3 made)
    ∙ sym (slice_get-get_or deps c.args.item made at.2)
