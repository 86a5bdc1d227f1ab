use Rattle.std.proofs.Common.{◌∙◌, ◌+◌, ◌∷◌, [], ◌++◌, ℕ, List, take, get_or, sym, subst, arith}
use Rattle.std.proofs.lemmas.List.{take_more}
use Rattle.std.proofs.lemmas.Option.{slice_get-get_or}
use Rattle.lc_base.specs.declared.row.Dep.{Dep}
use Rattle.plain_rows.specs.Users.{AreVersionsAt}
use Rattle.plain_rows.proofs.Lists.{as_long, version_there, version_more, within}
use Rattle.plain_rows.proofs.kept.collect_versions.Goals as goal

pub version_at-dep-requires : goal.version_at-dep-requires
version_at-dep-requires c =
    let all = c.requires.0 in
    let deps = c.requires.1 in
    let i = c.loop-row.row-index in
    let indexes = c.args.indexes.now in
    let row = get_or indexes i 0 in
    let d : Dep = record { key = []; block = 0 } in
    let here = version_there all indexes deps i row c.requires.3 (sym (slice_get-get_or indexes i 0 c.loop-row-test.true)) ∙ slice_get-get_or deps i d (omega (arith, c.loop-row-test.true, as_long all indexes deps c.requires.3)) in
    (all, c.requires.2, within all row (get_or deps i d) here)

pub loop-row-preserved : goal.loop-row-preserved
loop-row-preserved c all are =
    let i = c.loop-row.row-index in
    let indexes = c.args.indexes.now in
    let row = get_or indexes i 0 in
    let more = version_more all (take i indexes) c.loop-row.deps.items row c.version_at-dep.result (c.loop-row.invariant all are) (c.version_at-dep.ensures all are) in
    subst (λ (ds : List Dep). AreVersionsAt all (take (i + 1) indexes) ds) (sym c.in_ok-push.ensures.items)
    (subst (λ (is : List ℕ). AreVersionsAt all is (c.loop-row.deps.items ++ c.version_at-dep.result ∷ [])) (sym (take_more indexes i 0 c.loop-row-test.true)) more)
