use Rattle.std.proofs.Common.{ap}
use Rattle.lc_base.specs.declared.answer.Kind.TheVariants.{Fwd}
use Rattle.lc_base.specs.History.{uses}
use Rattle.lc_base.specs.Parts.{list_in}
use Rattle.plain_rows.specs.Kept.{rows_of}
use Rattle.plain_rows.proofs.AnswerParts.{answer_found}
use Rattle.plain_rows.proofs.asking.list_of_row.Goals as goal

pub returns-in-Fwd : goal.returns-in-Fwd
returns-in-Fwd c =
    let rows = rows_of c.args.rows.now in
    let found = c.requires.found in
    let row = found.0 in (
      uses rows row.key row.block,
      ap list_in (answer_found rows c.args.query.now Fwd row c.in-Fwd.is found.1),
      c.uses.ensures rows row c.requires.holds.index_is found.2,
    )
