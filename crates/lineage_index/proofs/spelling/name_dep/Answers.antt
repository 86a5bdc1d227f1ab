use Rattle.std.proofs.Common.{◌++◌, ◌∷◌, [], ◌+◌, ◌∙◌, Some, None, ap, map, sym}
use Rattle.std.proofs.lemmas.List.{append-nil}
use Rattle.forward_links.specs.Lists.{Use}
use Rattle.lineage_index.specs.NewEntries.{dep_with_digest}
use Rattle.lineage_index.proofs.KeyLists.{lists_within, use_added, use_nowhere}
use Rattle.lineage_index.proofs.NewEntries.{leaf_within, newest_found, newest_nowhere}
use Rattle.lineage_index.proofs.Touched.{key_added}
use Rattle.lineage_index.proofs.spelling.name_dep.Goals as goal

pub add-requires : goal.add-requires
add-requires c =
    let given = c.requires in
    lists_within c.args.tree.now c.args.lists.now given.0 given.1 c.args.dep.now.key c.in-Some.index
    given.2
    (c.in-Some.ensures.place given.0 given.2.entry given.2.leaves_are)

pub leaf-requires : goal.leaf-requires
leaf-requires c =
    let given = c.requires in
    leaf_within c.args.tree.now given.0 given.2.entry c.args.dep.now.key c.in-Some.index
    given.2.leaves_are (c.in-Some.ensures.place given.0 given.2.entry given.2.leaves_are)

pub returns-in-None-clause-named : goal.returns-in-None-clause-named
returns-in-None-clause-named c =
    let given = c.requires in
    c.with_digest.ensures ∙ ap (dep_with_digest c.args.dep.now)
    (newest_nowhere c.args.tree.now given.0 given.2.entry c.args.dep.now.key given.2.leaves_are
    (c.in-None.ensures.place given.0 given.2.entry given.2.leaves_are))

pub returns-in-None-clause-lists : goal.returns-in-None-clause-lists
returns-in-None-clause-lists c keys list a =
    let use_ : Use = record { version = c.args.user.now.version; row = c.args.user.now.row } in
    use_nowhere c.args.tree.now c.args.lists.now keys list c.args.dep.now.key (list c.args.dep.now.key ++
    use_ ∷ []) a (c.in-None.ensures.place keys a.entry a.leaves_are)

pub returns-in_ok-push-in-Some-clause-named : goal.returns-in_ok-push-in-Some-clause-named
returns-in_ok-push-in-Some-clause-named c =
    let given = c.requires in
    c.with_digest-in-Some.ensures ∙ ap (dep_with_digest c.args.dep.now)
    (newest_found c.args.tree.now given.0 given.2.entry c.args.dep.now.key c.in-Some.index c.leaf.result
    given.2.leaves_are (c.in-Some.ensures.place given.0 given.2.entry given.2.leaves_are)
    c.leaf.ensures)

pub returns-in_ok-push-in-Some-clause-lists : goal.returns-in_ok-push-in-Some-clause-lists
returns-in_ok-push-in-Some-clause-lists c keys list a =
    let use_ : Use = record { version = c.args.user.now.version; row = c.args.user.now.row } in
    use_added c.args.tree.now c.args.lists.now c.add.new.self keys list c.args.dep.now.key
    c.in-Some.index use_ a (c.in-Some.ensures.place keys a.entry a.leaves_are)
    (c.in_ok-add-in-Some.ensures.uses (map list keys) a.lists_are)

pub returns-in-None-clause-touched : goal.returns-in-None-clause-touched
returns-in-None-clause-touched c = key_added c.args.tree.now c.args.touched.now.items
    c.args.touched.now.items c.args.dep.now.key None (sym (append-nil c.args.touched.now.items))
    c.in-None.ensures.leaf

pub returns-in_ok-push-in-Some-clause-touched : goal.returns-in_ok-push-in-Some-clause-touched
returns-in_ok-push-in-Some-clause-touched c = key_added c.args.tree.now c.args.touched.now.items
    c.push.new.self.items c.args.dep.now.key (Some (c.in-Some.index + 1)) c.in_ok-push-in-Some.ensures.items
    c.in-Some.ensures.leaf
