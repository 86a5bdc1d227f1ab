use Rattle.std.proofs.Common.{◌∙◌, ◌+◌, List, [], ◌∷◌, ◌++◌, take, drop, ap, sym, subst}
use Rattle.std.proofs.lemmas.List.{take_more}
use Rattle.std.proofs.lemmas.Option.{get_or_from_slice_get, slice_get_within}
use Rattle.lc_base.specs.declared.row.Row.{Row}
use Rattle.lc_base.specs.History.{IsLawful}
use Rattle.plain_rows.specs.Index.{IsIndexOf, IsNext}
use Rattle.plain_rows.proofs.OneRow.{split_at}
use Rattle.plain_rows.proofs.Keeping.{kept_at}
use Rattle.plain_rows.proofs.adding.index_over.Goals as goal

pub row_of-requires : goal.row_of-requires
row_of-requires c =
    let all = c.requires.0 in
    let so = kept_at all c.args.rows.now c.loop-kept.kept-index c.kept-item.result c.requires.2 c.loop-kept-test.true c.kept-item.is in
    (all, so.0, c.requires.2, so.2)

pub add-requires : goal.add-requires
add-requires c =
    let all = c.requires.0 in
    let i = c.loop-kept.kept-index in
    let so = kept_at all c.args.rows.now i c.kept-item.result c.requires.2 c.loop-kept-test.true c.kept-item.is in
    let same = c.in_ok-row.ensures all so.0 c.requires.2 so.2 in
    let here = sym (get_or_from_slice_get all i so.0 so.0 so.1) in
    let next : IsNext (take i all) so.0 = record { rest = drop (i + 1) all; lawful = subst IsLawful (sym (split_at [] all i so.0 (slice_get_within all i so.0 so.1) here)) c.requires.1 } in
    (take i all, subst (IsNext (take i all)) (sym same) next, c.loop-kept.invariant all c.requires.1 c.requires.2)

pub loop-kept-preserved : goal.loop-kept-preserved
loop-kept-preserved c all lawful are =
    let i = c.loop-kept.kept-index in
    let so = kept_at all c.args.rows.now i c.kept-item.result are c.loop-kept-test.true c.kept-item.is in
    let same = c.in_ok-row.ensures all so.0 are so.2 in
    let here = sym (get_or_from_slice_get all i so.0 so.0 so.1) in
    let low = slice_get_within all i so.0 so.1 in
    let next : IsNext (take i all) so.0 = record { rest = drop (i + 1) all; lawful = subst IsLawful (sym (split_at [] all i so.0 low here)) lawful } in
    let after = c.in_ok-add.ensures.index (take i all) (subst (IsNext (take i all)) (sym same) next) (c.loop-kept.invariant all lawful are) in
    subst (λ (rows : List Row). IsIndexOf rows c.add.new.self) (ap (λ (r : Row). take i all ++ r ∷ []) (same ∙ here) ∙ sym (take_more all i so.0 low)) after
