use Rattle.std.proofs.Common.{◌∙◌, sym, subst, List, ℕ}
use Rattle.std.proofs.lemmas.Option.{get_or_from_slice_get}
use Rattle.lc_base.specs.History.{uses}
use Rattle.plain_rows.specs.Users.{users, AreVersionsAt}
use Rattle.plain_rows.proofs.Using.{uses_at}
use Rattle.plain_rows.proofs.index.uses_of.Goals as goal

pub returns : goal.returns
returns c rows row kept is =
    let here = get_or_from_slice_get c.args.users.now c.args.index (users rows row)
    c.index-users-index.result (kept.each c.args.index row is) in
    subst (λ (indexes : List ℕ). AreVersionsAt rows indexes (uses rows row.key row.block))
    (sym (c.as_slice.ensures ∙ c.index-users-index.is ∙ here)) (uses_at rows row)
