use Rattle.std.proofs.Common.{◌≡◌, ◌∙◌, ◌++◌, ◌∷◌, [], List, ℕ, ap, arith, get_or, length}
use Rattle.std.specs.Prelude.{slice_set}
use Rattle.std.proofs.lemmas.List.{length-append}
use Rattle.forward_links.specs.Lists.{kept_at}
use Rattle.lineage_index.proofs.KeptStates.{
  closed_filled,
  closed_place,
  heads_added,
  heads_replaced,
  index_among,
  key_last,
  key_stays,
  no_leaf,
  version_new,
  version_old,
}
use Rattle.lineage_index.proofs.heads.set_newest.Goals as goal

pub add_key-requires-clause-new : goal.add_key-requires-clause-new
add_key-requires-clause-new c =
    let states = c.requires.heads.0 in
    let heads = c.requires.heads.1 in
    no_leaf c.args.tree.now states.keys states.entry c.args.key.now heads.leaves_are (c.in-None.ensures.place states.keys states.entry heads.leaves_are)

pub replace_newest-requires-clause-closed : goal.replace_newest-requires-clause-closed
replace_newest-requires-clause-closed c =
    let states = c.requires.heads.0 in
    let heads = c.requires.heads.1 in
    let at = c.in-Some.ensures.place states.keys states.entry heads.leaves_are in
    let place = closed_place c.args.tree.now c.args.lists.now c.args.newest.now.items states
    c.args.key.now c.in-Some.index heads at in
    let low = c.requires.heads.2 (index_among states.keys c.args.key.now c.in-Some.index at) in
    let new : List ℕ = c.new.result in
    omega (
      arith,
      place,
      low,
      ap length c.in_ok-push.ensures.items,
      length-append
          c.args.closed.now.items (new ∷ []),
    )

pub returns-in_ok-push-in-None-clause-heads : goal.returns-in_ok-push-in-None-clause-heads
returns-in_ok-push-in-None-clause-heads c states heads =
    let none = c.in-None.ensures.place states.keys states.entry heads.leaves_are in
    rw (
      c.in_ok-add_key-in-None.ensures.added,
      c.in_ok-index-in-None.ensures.ok,
      c.in_ok-push-in-None.ensures.items,
      version_new states c.args.key.now c.args.row none,
    )
    (heads_added c.args.tree.now c.args.lists.now c.args.newest.now.items states c.args.key.now c.args.row heads none)

pub returns-in_ok-push-in-None-clause-index : goal.returns-in_ok-push-in-None-clause-index
returns-in_ok-push-in-None-clause-index c states heads =
    key_last c.args.tree.now c.args.lists.now c.args.newest.now.items states c.args.key.now
    c.args.row c.in_ok-index-in-None.index heads
    (c.in-None.ensures.place states.keys states.entry heads.leaves_are)
    c.in_ok-index-in-None.ensures.index

pub returns-in-Some-clause-heads : goal.returns-in-Some-clause-heads
returns-in-Some-clause-heads c states heads =
    let at = c.in-Some.ensures.place states.keys states.entry heads.leaves_are in
    rw (c.replace_newest.ensures.lists, c.replace_newest.ensures.newest, version_old states c.args.key.now c.args.row (index_among states.keys c.args.key.now c.in-Some.index at))
    (heads_replaced c.args.tree.now c.args.lists.now c.args.newest.now.items states c.args.key.now c.in-Some.index c.args.row heads at)

pub returns-in-Some-clause-closed : goal.returns-in-Some-clause-closed
returns-in-Some-clause-closed c states heads =
    let at = c.in-Some.ensures.place states.keys states.entry heads.leaves_are in
    let lists = c.args.lists.now in
    let place = get_or c.args.newest.now.items c.in-Some.index 0 in
    let before : c.push.new.self.items ≡ c.args.closed.now.items ++ [] ∷ [] =
    c.in_ok-push.ensures.items
    ∙ ap (λ (list : List ℕ). c.args.closed.now.items ++ list ∷ []) c.new.ensures in
    c.replace_newest.ensures.closed
    ∙ ap (λ (closed : List (List ℕ)). slice_set closed place (kept_at lists c.in-Some.index).rows)
    before
    ∙ closed_filled c.args.tree.now lists c.args.newest.now.items states c.args.key.now
    c.in-Some.index c.args.closed.now.items heads at

pub returns-in-Some-clause-index : goal.returns-in-Some-clause-index
returns-in-Some-clause-index c states heads = key_stays states c.args.key.now c.args.row
    c.in-Some.index (c.in-Some.ensures.place states.keys states.entry heads.leaves_are)
