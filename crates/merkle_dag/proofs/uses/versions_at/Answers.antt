use Rattle.std.proofs.Common.{◌≡◌, ◌∙◌, length, get_or, take, ap, arith}
use Rattle.std.proofs.Math.Seq.{take-length}
use Rattle.std.proofs.lemmas.Option.{slice_get-get_or, slice_get_within}
use Rattle.lineage_rewind.proofs.plain_rows.Lists.{as_long}
use Rattle.merkle_dag.proofs.Versions.{version_row}
use Rattle.merkle_dag.proofs.Versions.{one_more}
use Rattle.merkle_dag.proofs.uses.versions_at.Goals as goal

pub version_at-requires : goal.version_at-requires
version_at-requires c =
    let given = c.requires in
    let i = c.loop-place.place-index in
    let place = get_or c.args.places.now i 0 in
    let at = version_row given.0 c.args.places.now given.1 i place given.3
    (slice_get-get_or c.args.places.now i 0 c.loop-place-test.true) in
    (given.0, given.2, slice_get_within given.0 place at.0 at.1)

pub loop-place-preserved : goal.loop-place-preserved
loop-place-preserved c rows deps is are =
    let i = c.loop-place.place-index in
    let place = get_or c.args.places.now i 0 in
    c.in_ok-push.ensures.ok
    ∙ one_more rows c.args.places.now deps i place c.loop-place.list c.version_at.result are
    (slice_get-get_or c.args.places.now i 0 c.loop-place-test.true)
    (λ row at. c.version_at.ensures rows row is at) (c.loop-place.invariant rows deps is are)

pub returns : goal.returns
returns c rows deps is are =
    let all : c.loop-place.place-index ≡ length deps = omega (
      arith,
      c.loop-place-test.false,
      c.loop-place.auto.place-index-end,
      as_long rows
          c.args.places.now deps are,
    ) in
    c.loop-place.invariant rows deps is are ∙ ap (λ n. take n deps) all ∙ take-length deps
