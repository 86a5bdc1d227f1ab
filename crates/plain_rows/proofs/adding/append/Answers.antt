use Rattle.std.proofs.Common.{◌∙◌, List, Option, refl, ap, sym, subst}
use Rattle.plain_rows.specs.declared.index.RowsIndex.{RowsIndex}
use Rattle.plain_rows.specs.declared.kept.KeptRow.{KeptRow}
use Rattle.plain_rows.specs.Kept.{KeepsRows, rows_of}
use Rattle.plain_rows.proofs.Keeping.{keeps_more, rows_of_more}
use Rattle.plain_rows.proofs.adding.append.Goals as goal

pub returns-clause-ok : goal.returns-clause-ok
returns-clause-ok c =
    let kept = c.args.kept.now.items in
    let rows = rows_of kept in
    let keeps = subst (λ (index : Option RowsIndex). KeepsRows rows c.as_slice.result.now index) (sym c.take.ensures.value) (subst (λ (ks : List KeptRow). KeepsRows rows ks c.args.index.now) (sym c.as_slice.ensures.value) c.requires.keeps) in
    let index = c.in_ok-grown.ensures rows keeps in
    ap rows_of c.in_ok-append.ensures.items ∙ rows_of_more kept c.in_ok-more.more.items ∙ c.in_ok-more.ensures.rows rows c.requires.lawful index

pub returns-clause-keeps : goal.returns-clause-keeps
returns-clause-keeps c =
    let kept = c.args.kept.now.items in
    let rows = rows_of kept in
    let keeps = subst (λ (index : Option RowsIndex). KeepsRows rows c.as_slice.result.now index) (sym c.take.ensures.value) (subst (λ (ks : List KeptRow). KeepsRows rows ks c.args.index.now) (sym c.as_slice.ensures.value) c.requires.keeps) in
    let index = c.in_ok-grown.ensures rows keeps in
    keeps_more rows c.args.new.now kept c.in_ok-more.more.items c.append.new.self.items c.add_to_index.new.index refl c.in_ok-append.ensures.items
    (c.in_ok-more.ensures.rows rows c.requires.lawful index) c.requires.lawful c.requires.keeps.typed c.in_ok-more.ensures.typed (c.in_ok-more.ensures.kept rows kept c.requires.lawful index c.requires.keeps.kept_are) (c.in_ok-more.ensures.index rows c.requires.lawful index)
