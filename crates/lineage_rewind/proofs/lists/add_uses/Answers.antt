use Rattle.std.proofs.Common.{◌<◌, ◌∙◌, List, [], get_or, length, take, map, ap, sym, arith}
use Rattle.std.specs.Prelude.{slice_set}
use Rattle.std.proofs.lemmas.List.{take_all}
use Rattle.std.proofs.lemmas.Option.{slice_get_within}
use Rattle.lineage_index.specs.forward_links.Lists.{Use, kept_of, versions_of}
use Rattle.lineage_rewind.proofs.Reading.{version_there}
use Rattle.lineage_rewind.proofs.Filled.{
  as_many_uses,
  lists_within,
  no_dep,
  no_use,
  set_same,
  use_more,
  use_there,
}
use Rattle.lineage_rewind.proofs.lists.add_uses.Goals as goal

pub loop-user-init : goal.loop-user-init
loop-user-init c rows uses all f = f.is_empty.lists_are
    ∙ ap (map kept_of) (sym (set_same all c.args.list [] f.is_empty.empty))

pub version_of-requires : goal.version_of-requires
version_of-requires c =
    let given = c.requires in
    let i = c.loop-user.user-index in (
      given.0,
      get_or (versions_of given.1) i no_dep,
      given.3.store,
      version_there given.0 c.args.users.now (versions_of given.1)
          i no_dep given.3.versions_are c.loop-user-test.true,
    )

pub add-requires : goal.add-requires
add-requires c =
    let given = c.requires in
    lists_within given.2 c.args.list (take c.loop-user.user-index given.1) c.loop-user.lists
    (slice_get_within given.2 c.args.list [] given.3.is_empty.empty)
    (c.loop-user.invariant given.0 given.1 given.2 given.3)

pub loop-user-preserved : goal.loop-user-preserved
loop-user-preserved c rows uses all f =
    let i = c.loop-user.user-index in
    let within : i < length uses = omega
    (arith, as_many_uses c.args.users.now uses f.users_are, c.loop-user-test.true) in
    let version = c.version_of.ensures rows (get_or (versions_of uses) i no_dep) f.store
    (version_there rows c.args.users.now (versions_of uses) i no_dep f.versions_are
    c.loop-user-test.true) in
    let use_ : Use = record
    { version = c.version_of.result; row = get_or c.args.users.now i 0 } in
    c.in_ok-add.ensures.uses (slice_set all c.args.list (take i uses))
    (c.loop-user.invariant rows uses all f)
    ∙ ap (map kept_of) (use_more all c.args.list i uses use_ no_use
    (slice_get_within all c.args.list [] f.is_empty.empty) within
    (use_there c.args.users.now uses i c.version_of.result f.users_are within version))

pub returns : goal.returns
returns c rows uses all f =
    let i = c.loop-user.user-index in
    let many = as_many_uses c.args.users.now uses f.users_are in
    c.loop-user.invariant rows uses all f
    ∙ ap (λ (done : List Use). map kept_of (slice_set all c.args.list done))
    (take_all i uses (omega (arith, many, c.loop-user-test.false)))
