use Rattle.std.proofs.Common.{◌≡◌, ◌∷◌, ◌<◌, length, List, arith}
use Rattle.std.proofs.lemmas.List.{length-append}
use Rattle.lc_base.specs.declared.row.Row.{Row}
use Rattle.plain_rows.specs.Index.{IsNext}
use Rattle.plain_rows.proofs.Marked.{places_more}
use Rattle.plain_rows.proofs.OneRow.{can_use, unused_here}
use Rattle.plain_rows.proofs.index.add_row.Goals as goal

few : (rows : List Row) (row : Row) → IsNext rows row → length rows < 4294967296
few rows row next = omega (arith, next.lawful.few, length-append rows (row ∷ next.rest))

pub add_users-requires : goal.add_users-requires
add_users-requires c =
    let rows = c.requires.0 in
    let next = c.requires.1 in (
      rows,
      can_use rows next.rest c.args.row.now next.lawful c.args.places.now
          c.args.users.now.items c.requires.2 c.requires.3,
    )

pub returns-clause-places : goal.returns-clause-places
returns-clause-places c rows next kept used =
    let long : length rows ≡ c.len-index.result = omega
    (arith, few rows c.args.row.now next, used.long, c.len-index.ensures) in
    places_more rows c.args.places.now c.push_place.new.places c.args.row.now c.len-index.result
    long kept c.in_ok-push_place.ensures

pub returns-clause-users : goal.returns-clause-users
returns-clause-users c rows next kept used =
    let long : c.len-index.result ≡ length rows = omega
    (arith, few rows c.args.row.now next, used.long, c.len-index.ensures) in
    c.in_ok-deps.ensures.users rows
    (can_use rows next.rest c.args.row.now next.lawful _ _ kept used) long
    (unused_here rows next.rest c.args.row.now next.lawful)

pub returns-clause-deps : goal.returns-clause-deps
returns-clause-deps c rows next kept used = c.in_ok-deps.ensures.deps rows
    (can_use rows next.rest c.args.row.now next.lawful _ _ kept used)
