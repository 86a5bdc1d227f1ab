use Rattle.std.proofs.Common.{◌∷◌, [], ◌++◌, ℕ, List, take, ◌∙◌, ap, sym, subst, arith}
use Rattle.std.proofs.lemmas.List.{take_more}
use Rattle.std.proofs.lemmas.Option.{slice_get_within}
use Rattle.lc_base.specs.declared.row.Dep.{Dep}
use Rattle.plain_rows.specs.Places.{StandsAt}
use Rattle.plain_rows.specs.Users.{AreUsersWith, AreVersionsAt}
use Rattle.plain_rows.proofs.UsedMore.{used_more, apart_before}
use Rattle.plain_rows.proofs.Using.{versions_more}
use Rattle.plain_rows.proofs.users.add_to_versions.Goals as goal

pub row_of_version-index-requires : goal.row_of_version-index-requires
row_of_version-index-requires c =
    let rows = c.requires.0 in
    let can = c.requires.1 in
    let stands = subst (λ (d : Dep). (index : ℕ) × StandsAt rows d index) (sym c.dep-item.is)
    (can.stand c.loop-dep.dep-index c.dep-item.result c.loop-dep-test.true) in
    (rows, can.ordered, can.kept, stands)

pub push_user-requires : goal.push_user-requires
push_user-requires c =
    let rows = c.requires.0 in
    let can = c.requires.1 in
    let stands = subst (λ (d : Dep). (index : ℕ) × StandsAt rows d index) (sym c.dep-item.is)
    (can.stand c.loop-dep.dep-index c.dep-item.result c.loop-dep-test.true) in
    let same = c.row_of_version-index.ensures rows stands.0 can.ordered can.kept stands.1 in
    omega (
      arith,
      same,
      slice_get_within rows stands.0 stands.1.0 stands.1.1,
      (c.loop-dep.invariant.users rows can).long,
    )

pub loop-dep-preserved : goal.loop-dep-preserved
loop-dep-preserved c = record {
  users = λ rows can.
      let i = c.loop-dep.dep-index in
      let deps = c.args.deps.now in
      let dep = c.dep-item.result in
      let stands = subst (λ (d : Dep). (index : ℕ) × StandsAt rows d index) (sym c.dep-item.is)
      (can.stand i dep c.loop-dep-test.true) in
      let same = c.row_of_version-index.ensures rows stands.0 can.ordered can.kept stands.1 in
      let here = subst (StandsAt rows dep) (sym same) stands.1 in
      let done = ap (λ (d : Dep). take i deps ++ d ∷ []) c.dep-item.is
      ∙ sym (take_more deps i dep c.loop-dep-test.true) in
      let more = used_more rows (take i deps) dep c.args.row c.row_of_version-index.result
      c.loop-dep.users.items can.ordered (c.loop-dep.invariant.users rows can) here
      (apart_before deps i dep can.once c.loop-dep-test.true c.dep-item.is) in
      subst (λ (all : List Dep). AreUsersWith rows all c.args.row c.push_user.new.users.items) done
      (subst (AreUsersWith rows (take i deps ++ dep ∷ []) c.args.row)
      (sym c.in_ok-push_user.ensures) more);
  indexes = λ rows can.
      let i = c.loop-dep.dep-index in
      let deps = c.args.deps.now in
      let dep = c.dep-item.result in
      let stands = subst (λ (d : Dep). (index : ℕ) × StandsAt rows d index) (sym c.dep-item.is)
      (can.stand i dep c.loop-dep-test.true) in
      let same = c.row_of_version-index.ensures rows stands.0 can.ordered can.kept stands.1 in
      let here = subst (StandsAt rows dep) (sym same) stands.1 in
      let done = ap (λ (d : Dep). take i deps ++ d ∷ []) c.dep-item.is
      ∙ sym (take_more deps i dep c.loop-dep-test.true) in
      let more = versions_more rows c.loop-dep.indexes.items (take i deps)
      c.row_of_version-index.result dep (c.loop-dep.invariant.indexes rows can) here in
      subst (λ (all : List Dep). AreVersionsAt rows c.push.new.self.items all) done
      (subst (λ (is : List ℕ). AreVersionsAt rows is (take i deps ++ dep ∷ []))
      (sym c.in_ok-push.ensures.items) more);
}
