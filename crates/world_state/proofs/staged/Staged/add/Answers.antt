use Rattle.std.proofs.Common.{◌==◌, ◌||◌, ◌++◌, ◌∙◌, ap, sym}
use Rattle.std.specs.List.{list_any}
use Rattle.std.specs.Cmp.Lexicographic.{pointwise}
use Rattle.lc_base.specs.declared.row.Row.{Row}
use Rattle.world_state.specs.Rows.{is_staged}
use Rattle.world_state.proofs.StagedKeys.{staged_more}
use Rattle.world_state.proofs.staged.Staged.add.Goals as goal

pub invariant_of-self-2 : goal.invariant_of-self-2
invariant_of-self-2 c =
    let items = c.in_ok-append.ensures.items ∙ ap (λ more. c.self.inside.entries.items ++ more) c.in_ok-more.ensures in
    λ key. c.add_keys.ensures key
    ∙ ap (λ keys. list_any (pointwise ◌==◌ key) keys || list_any
    (λ (row : Row). pointwise ◌==◌ row.key key) c.args.rows.now) c.in_ok-reserve.ensures.keys
    ∙ ap (λ b. b || list_any (λ (row : Row). pointwise ◌==◌ row.key key) c.args.rows.now)
    (c.self.invariant key)
    ∙ sym (staged_more c.self.inside.entries.items c.args.rows.now key)
    ∙ ap (λ entries. is_staged entries key) (sym items)
