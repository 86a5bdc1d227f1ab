use Rattle.std.proofs.Common.{◌∙◌, ◌<◌, List, ap, arith, get_or, length, take}
use Rattle.std.proofs.lemmas.List.{take_all}
use Rattle.lc_base.specs.declared.row.Dep.{Dep}
use Rattle.lineage_index.specs.forward_links.declared.open_list.OpenList.{OpenList}
use Rattle.lineage_rewind.specs.LeavesAt.{told_of, versions_up_to}
use Rattle.lineage_rewind.proofs.Filled.{no_dep}
use Rattle.lineage_rewind.proofs.Reading.{as_many_versions, version_there}
use Rattle.lineage_rewind.proofs.UsesAt.{few_up_to, first_up_to}
use Rattle.lineage_rewind.proofs.uses_at.told_of_users.Goals as goal

pub version_of-requires : goal.version_of-requires
version_of-requires c =
    let given = c.requires in
    let i = c.loop-user.user-index in (
      given.0,
      get_or given.1 i no_dep,
      given.2,
      version_there given.0 c.args.users.now given.1 i no_dep given.3 c.loop-user-test.true,
    )

pub told_with-told-requires : goal.told_with-told-requires
told_with-told-requires c =
    let given = c.requires in
    let i = c.loop-user.user-index in
    let many = as_many_versions given.0 c.args.users.now given.1 given.3 in
    omega (
      arith,
      ap (λ (told : OpenList). told.count) (c.loop-user.invariant given.0 given.1 given.2 given.3),
      few_up_to given.1 c.args.at i (omega (arith, many, c.loop-user-test.true)),
      many,
      c.loop-user-test.true,
      given.4,
    )

pub loop-user-preserved : goal.loop-user-preserved
loop-user-preserved c rows versions store are =
    let i = c.loop-user.user-index in
    let within : i < length versions = omega
    (arith, as_many_versions rows c.args.users.now versions are, c.loop-user-test.true) in
    let version = c.version_of.ensures rows (get_or versions i no_dep) store
    (version_there rows c.args.users.now versions i no_dep are c.loop-user-test.true) in
    c.told_with-told.ensures (versions_up_to c.args.at (take i versions))
    (c.loop-user.invariant rows versions store are)
    ∙ ap told_of (first_up_to versions c.version_of.result no_dep c.args.at i within version)

pub returns : goal.returns
returns c rows versions store are =
    let i = c.loop-user.user-index in
    c.loop-user.invariant rows versions store are
    ∙ ap (λ (first : List Dep). told_of (versions_up_to c.args.at first))
    (take_all i versions (omega
    (arith, as_many_versions rows c.args.users.now versions are, c.loop-user-test.false)))
