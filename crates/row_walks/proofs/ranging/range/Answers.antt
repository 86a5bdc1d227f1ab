use Rattle.std.proofs.Common.{◌≡◌, ◌∙◌, List, Option, Some, ap, subst}
use Rattle.std.specs.Option.{option_map}
use Rattle.lc_base.specs.declared.row.Row.{Row}
use Rattle.lc_base.specs.declared.row.Version.{Version}
use Rattle.lc_base.specs.History.{latest}
use Rattle.root_laws.specs.Ranges.{as_version}
use Rattle.row_walks.specs.Finding.{unless_earlier}
use Rattle.row_walks.proofs.Versions.{IsRanging, found_low, one_ranged, all_ranged, none_ranged}
use Rattle.row_walks.proofs.Versions.{block_before, fewer_turns}
use Rattle.row_walks.proofs.ranging.range.Goals.{in-Some+in_ok-version+in_default-2, in_default}
use Rattle.row_walks.proofs.ranging.range.Goals as goal

pub loop-up_to-smaller : goal.loop-up_to-smaller
loop-up_to-smaller c =
    let rows = c.args.rows.now in
    let version = c.in-Some-2.version in
    let found : Some version
    ≡ unless_earlier c.args.from (option_map as_version (latest rows c.args.key.now c.in-Some.at)) =
    subst (λ (o : Option Version). o
    ≡ unless_earlier c.args.from (option_map as_version (latest rows c.args.key.now c.in-Some.at)))
    c.in-Some-2.is (c.in_ok-version.ensures.last
    ∙ ap (λ (rs : List Row). unless_earlier c.args.from
    (option_map as_version (latest rs c.args.key.now c.in-Some.at))) c.loop-up_to.invariant.same) in
    fewer_turns c.in-Some.at c.loop-up_to.up_to version.block c.checked_sub-up_to.result
    c.in-Some.is (found_low rows c.args.key.now c.args.from c.in-Some.at version found)
    (block_before version.block c.checked_sub-up_to.result c.checked_sub-up_to.ensures)

pub loop-up_to-preserved : goal.loop-up_to-preserved
loop-up_to-preserved c =
    let rows = c.args.rows.now in
    let version = c.in-Some-2.version in
    let so_far = c.loop-up_to.invariant in
    let found : Some version
    ≡ unless_earlier c.args.from (option_map as_version (latest rows c.args.key.now c.in-Some.at)) =
    subst (λ (o : Option Version). o
    ≡ unless_earlier c.args.from (option_map as_version (latest rows c.args.key.now c.in-Some.at)))
    c.in-Some-2.is (c.in_ok-version.ensures.last
    ∙ ap (λ (rs : List Row). unless_earlier c.args.from
    (option_map as_version (latest rs c.args.key.now c.in-Some.at))) so_far.same) in
    record {
      same = c.last.ensures.unchanged ∙ so_far.same;
      so_far = one_ranged rows c.args.key.now c.args.from c.args.to c.loop-up_to.found.items
          c.push.new.self.items c.in-Some.at version c.checked_sub-up_to.result
          c.len-count.ensures.lawful found
          (block_before version.block c.checked_sub-up_to.result c.checked_sub-up_to.ensures)
          c.in_ok-push.ensures.items
          (subst (IsRanging rows c.args.key.now c.args.from c.args.to c.loop-up_to.found.items)
          c.in-Some.is so_far.so_far);
    }

pub returns-clause-versions : goal.returns-clause-versions
returns-clause-versions c =
    let rows = c.args.rows.now in
    let so_far = c.loop-up_to.invariant in
    let told = c.from_vec.ensures ∙ c.reverse.ensures.items in
    elim c.match-up_to.branch [
      | in-Some+in_ok-version+in_default-2 w ↦
          none_ranged rows c.args.key.now c.args.from c.args.to c.loop-up_to.found.items
          c.from_vec.result w.in-Some.at c.len-count.ensures.lawful
          (subst (λ (o : Option Version). o ≡ unless_earlier c.args.from
          (option_map as_version (latest rows c.args.key.now w.in-Some.at))) w.in_default-2.is
          (w.in_ok-version.ensures.last
          ∙ ap (λ (rs : List Row). unless_earlier c.args.from
          (option_map as_version (latest rs c.args.key.now w.in-Some.at))) so_far.same))
          told
          (subst (IsRanging rows c.args.key.now c.args.from c.args.to c.loop-up_to.found.items)
          w.in-Some.is so_far.so_far)
      | in_default w ↦
          all_ranged rows c.args.key.now c.args.from c.args.to c.loop-up_to.found.items
          c.from_vec.result c.loop-up_to.up_to w.in_default.is told so_far.so_far
    ]
