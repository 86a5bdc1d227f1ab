use Rattle.std.proofs.Common.{◌≡◌, ◌∙◌, ◌<◌, List, [], ◌∷◌, length, map, get_or, slice_get}
use Rattle.std.proofs.Common.{take, ap, subst, sym, arith}
use Rattle.std.proofs.Math.Seq.{take-length}
use Rattle.std.proofs.lemmas.List.{map-append}
use Rattle.std.proofs.lemmas.Option.{slice_get-get_or, slice_get_within}
use Rattle.lc_base.specs.declared.row.Row.{Row}
use Rattle.root_laws.proofs.Lists.{map_map}
use Rattle.prov_query.specs.merkle_dag.Staying.{stays_trans}
use Rattle.prov_query.proofs.merkle_dag.Causes.{unblamed}
use Rattle.root_laws.specs.Ranges.{as_version}
use Rattle.range_proof.specs.Telling.{place_of}
use Rattle.range_proof.proofs.Told.{row_there, one_more_told, as_long, place_told}
use Rattle.range_proof.proofs.reading.versions_at.Goals as goal

pub version_at-requires-clause-within : goal.version_at-requires-clause-within
version_at-requires-clause-within g c =
    let given = c.requires.rows in
    let rows = c.args.lineage.now.rows in
    let i = c.loop-index.index-index in
    let index = get_or c.args.indexes.now i 0 in
    let there = row_there rows c.args.indexes.now given.0 i index given.1
    (slice_get-get_or c.args.indexes.now i 0 c.loop-index-test.true) in
    subst (λ (rs : List Row). index < length rs) (sym c.loop-index.invariant.same.rows)
    (slice_get_within rows index there.0 there.1)

pub loop-index-preserved : goal.loop-index-preserved
loop-index-preserved g c =
    let so_far = c.loop-index.invariant in
    let rows = c.args.lineage.now.rows in
    let i = c.loop-index.index-index in
    let index = get_or c.args.indexes.now i 0 in
    let at = slice_get-get_or c.args.indexes.now i 0 c.loop-index-test.true in
    record {
      same = stays_trans _ _ _ _ _ _ so_far.same c.version_at.ensures.leaves.same;
      no_fault = unblamed _ _ c.in-Ok.ensures.leaves.cause ∙ so_far.no_fault;
      versions = λ known found are.
          let there = row_there rows c.args.indexes.now found i index are at in
          one_more_told as_version found i there.0 c.loop-index.versions c.push.new.self
          c.in-Ok.version there.2 c.in_ok-push-in-Ok.ensures.ok
          (c.in-Ok.ensures.version (so_far.same.retains.known ∙ known) there.0
          (ap (λ (rs : List Row). slice_get rs index) so_far.same.rows ∙ there.1))
          (so_far.versions known found are);
      always = λ found are.
          let there = row_there rows c.args.indexes.now found i index are at in
          one_more_told place_told found i there.0 (map place_of c.loop-index.versions)
          (map place_of c.push.new.self) (place_of c.in-Ok.version) there.2
          (ap (map place_of) c.in_ok-push-in-Ok.ensures.ok
          ∙ map-append place_of c.loop-index.versions (c.in-Ok.version ∷ []))
          (c.in-Ok.ensures.always there.0
          (ap (λ (rs : List Row). slice_get rs index) so_far.same.rows ∙ there.1))
          (so_far.always found are);
    }

pub returns-clause-always : goal.returns-clause-always
returns-clause-always g c found are =
    let all : c.loop-index.index-index ≡ length found = omega (
      arith,
      c.loop-index-test.false,
      c.loop-index.auto.index-index-end,
      as_long c.args.lineage.now.rows c.args.indexes.now found are,
    ) in
    c.loop-index.invariant.always found are
    ∙ ap (λ (rs : List Row). map place_told rs) (ap (λ n. take n found) all ∙ take-length found)
    ∙ sym (map_map place_of as_version found)
