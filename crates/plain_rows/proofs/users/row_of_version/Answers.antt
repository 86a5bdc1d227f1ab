use Rattle.std.proofs.Common.{◌∙◌, sym}
use Rattle.std.proofs.lemmas.Option.{none-some, same_Some}
use Rattle.plain_rows.proofs.Versions.{version_index}
use Rattle.plain_rows.proofs.users.row_of_version.Goals as goal

pub unreachable-requires : goal.unreachable-requires
unreachable-requires c =
    let rows = c.requires.0 in
    let stands = c.requires.3.1 in
    let found = c.row_up_to.ensures rows c.requires.2
    ∙ version_index rows c.requires.3.0 stands.0 c.args.dep.now c.requires.1 stands.1 stands.2
    stands.3 in
    absurd (none-some c.requires.3.0 (sym c.in-None.is ∙ found))

pub returns : goal.returns
returns c rows index ordered kept stands =
    let found = c.row_up_to.ensures rows kept
    ∙ version_index rows index stands.0 c.args.dep.now ordered stands.1 stands.2 stands.3 in
    same_Some c.in-Some.index index (sym c.in-Some.is ∙ found)
