use Rattle.std.proofs.Common.{◌++◌, ◌∷◌, [], ◌∙◌, ◌+◌, ℕ, List, ap, map, take}
use Rattle.lc_base.specs.declared.row.Dep.{Dep}
use Rattle.forward_links.specs.Lists.{Use}
use Rattle.lineage_index.specs.Growth.{changed_at, list_with_uses}
use Rattle.lineage_index.specs.NewEntries.{dep_in}
use Rattle.lineage_index.proofs.Using.{one_use_more}
use Rattle.lineage_index.proofs.KeyLists.{lists_same}
use Rattle.lineage_index.proofs.NewEntries.{mapped_more}
use Rattle.lineage_index.specs.Leaves.{leaf_indexes}
use Rattle.lineage_index.proofs.Touched.{indexes_more, one_key_touched}
use Rattle.lineage_index.proofs.spelling.name_deps.Goals as goal

pub name_dep-requires : goal.name_dep-requires
name_dep-requires c =
    let given = c.requires.lists in
    let use_ : Use = record { version = c.args.user.now.version; row = c.args.user.now.row } in (
      given.0,
      list_with_uses given.1 use_ (take c.loop-dep.dep-index c.args.deps.now),
      c.loop-dep.invariant.lists given.0 given.1 given.2,
    )

pub loop-dep-preserved : goal.loop-dep-preserved
loop-dep-preserved c = record {
  named =
      c.in_ok-push.ensures.ok
      ∙ mapped_more (dep_in c.args.tree.now) c.args.deps.now c.loop-dep.dep-index c.dep-item.result
      c.in_ok-named.named c.loop-dep.list c.loop-dep-test.true c.dep-item.is
      c.loop-dep.invariant.named c.in_ok-named.ensures.named;
  lists = λ keys list a.
      let use_ : Use = record { version = c.args.user.now.version; row = c.args.user.now.row } in
      let before = list_with_uses list use_ (take c.loop-dep.dep-index c.args.deps.now) in
      let dep : Dep = c.dep-item.result in
      lists_same c.args.tree.now c.name_dep.new.lists keys (changed_at before dep.key (before
      dep.key ++ use_ ∷ [])) (list_with_uses list use_
      (take (c.loop-dep.dep-index + 1) c.args.deps.now))
      (c.in_ok-named.ensures.lists keys before (c.loop-dep.invariant.lists keys list a))
      (λ key. ap (λ (d : Dep). changed_at before d.key (before d.key ++ use_ ∷ []) key)
      c.dep-item.is ∙ one_use_more list use_ c.args.deps.now
      c.loop-dep.dep-index dep key c.requires.distinct c.loop-dep-test.true);
  touched =
      let tree = c.args.tree.now in
      let before = c.args.touched.now.items in
      let i = c.loop-dep.dep-index in
      let deps = c.args.deps.now in
      let dep : Dep = c.dep-item.result in
      let key_of : Dep → List ℕ = λ (d : Dep). d.key in
      c.in_ok-named.ensures.touched
      ∙ ap (λ (indexes : List ℕ). indexes ++ leaf_indexes tree (dep.key ∷ []))
      c.loop-dep.invariant.touched
      ∙ indexes_more tree before (map key_of (take i deps)) (dep.key ∷ [])
      ∙ ap (λ (keys : List (List ℕ)). before ++ leaf_indexes tree keys)
      (one_key_touched key_of deps i dep c.loop-dep-test.true c.dep-item.is);
}
