use Rattle.std.proofs.Common.{◌∷◌, [], ◌++◌, cond, is_some, Some, sym, ap, ◌∙◌, ℕ, List}
use Rattle.std.specs.BTreeMap.{BTreeMap, get}
use Rattle.std.specs.Ordering.{nat_cmp, is_eq}
use Rattle.std.specs.Cmp.Lexicographic.{slice_cmp}
use Rattle.plain_rows.specs.declared.places.Place.{Place}
use Rattle.plain_rows.specs.Places.{list_or_empty}
use Rattle.plain_rows.proofs.IndexKept.{kept_more}
use Rattle.plain_rows.proofs.places.push_place.Goals as goal

pub returns-in_ok-push-in-Some : goal.returns-in_ok-push-in-Some
returns-in_ok-push-in-Some c = λ other.
    let list = c.push.new.self in
    let value = c.in-Some.ensures.value in
    kept_more c.args.places.now (c.get_mut.follows.lender list) c.args.key.now other c.args.place
    list
    (c.in_ok-push-in-Some.ensures.ok ∙ ap (λ kept. list_or_empty kept ++ c.args.place ∷ []) value)
    (((c.get_mut.follows.holds list).3 (ap is_some (sym value))).0 other)

pub returns-in_ok-insert-in-None : goal.returns-in_ok-insert-in-None
returns-in_ok-insert-in-None c = λ other.
    kept_more c.args.places.now c.insert.new.self c.args.key.now other c.args.place
    c.push-in-None.new.self
    (c.in_ok-push-in-None.ensures.ok
    ∙ ap (λ (list : List Place). list ++ c.args.place ∷ [])
    (c.new-list.ensures ∙ ap list_or_empty c.in-None.ensures.value))
    (c.in_ok-insert-in-None.ensures.updates.0 other
    ∙ ap (λ (kept : BTreeMap (List ℕ) (List Place)). cond
    (is_eq (slice_cmp nat_cmp c.args.key.now other)) (Some c.push-in-None.new.self)
    (get (slice_cmp nat_cmp) kept other)) c.get_mut.follows.holds-at-none)
