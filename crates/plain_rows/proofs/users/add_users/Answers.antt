use Rattle.std.proofs.Common.{◌∷◌, [], ◌++◌, ◌∙◌, ap, sym, subst, List, ℕ}
use Rattle.lc_base.specs.declared.row.Dep.{Dep}
use Rattle.plain_rows.specs.Users.{AreUsers, AreUsersWith, AreVersionsAt, CanUse}
use Rattle.plain_rows.proofs.UsedEnd.{used_end}
use Rattle.plain_rows.proofs.users.add_users.Goals as goal

pub returns-clause-users : goal.returns-clause-users
returns-clause-users c rows can len unused =
    let row = c.args.row.now in
    let before = c.add_to_versions.new.users.items in
    let deps = c.as_slice.ensures in
    let used = c.in_ok-deps.ensures.users rows
    (subst (λ (ds : List Dep). CanUse rows ds c.args.places.now c.args.users.now.items)
    (sym deps) can) in
    let used_by = subst (λ (ds : List Dep). AreUsersWith rows ds c.args.index before) deps used in
    let items = c.in_ok-push.ensures.items ∙ ap (λ (l : List ℕ). before ++ l ∷ []) c.new.ensures in
    subst (AreUsers (rows ++ row ∷ [])) (sym items)
    (used_end rows row c.args.index before len used_by unused)

pub returns-clause-deps : goal.returns-clause-deps
returns-clause-deps c rows can =
    let deps = c.as_slice.ensures in
    subst (λ (ds : List Dep). AreVersionsAt rows c.in_ok-deps.deps ds) deps
    (c.in_ok-deps.ensures.indexes rows
    (subst (λ (ds : List Dep). CanUse rows ds c.args.places.now c.args.users.now.items)
    (sym deps) can))
