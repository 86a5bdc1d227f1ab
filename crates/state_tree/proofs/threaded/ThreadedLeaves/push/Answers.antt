use Rattle.std.proofs.Common.{◌≡◌, ◌≤◌, ◌<◌, ◌+◌, ◌∙◌, ◌∷◌, [], ◌++◌, ℕ, List, length, Some, ap, sym, subst, arith}
use Rattle.std.proofs.Math.ListN.{set}
use Rattle.std.specs.Prelude.{slice_get}
use Rattle.std.specs.Map.{keys_of}
use Rattle.root_laws.specs.merkle_tree.declared.limits.TheConstants.{MAX_LEAVES}
use Rattle.root_laws.specs.prov_entry.declared.entry.Leaf.{Leaf}
use Rattle.state_tree.specs.Leaves.{with_leaf_after}
use Rattle.state_tree.specs.Entries.{KeyEntry, key_at, next_at, fresh_entry, leaves_of, AreThreaded}
use Rattle.state_tree.proofs.Entries.{leaves_length, none_kept, next_within, threaded_more, entry_threaded}
use Rattle.state_tree.proofs.threaded.ThreadedLeaves.push.Goals as goal

pub add_entry-requires : goal.add_entry-requires
add_entry-requires c = none_kept c.self.inside.first c.self.inside.entries.entries c.args.key
    (rw (← c.self.view_is) at c.requires.new)

pub set_next-requires-clause-threaded : goal.set_next-requires-clause-threaded
set_next-requires-clause-threaded c =
    let first = c.self.inside.first in
    let entries = c.self.inside.entries.entries in
    let long = leaves_length first entries in
    let seen = ap length c.self.view_is in
    let within : next_at first entries c.args.cover ≤ length entries = next_within first entries c.args.cover c.self.invariant (omega (arith, c.requires.cover, seen, long)) in
    let room : length entries + 1 < MAX_LEAVES = omega (arith, c.requires.room, seen, long) in
    subst (AreThreaded first) (sym (c.in_ok-add_entry.ensures.ok
    ∙ ap (λ (n : ℕ). entries ++ (c.args.key, fresh_entry n) ∷ []) c.next_at-next.ensures))
    (threaded_more first entries c.args.key
    (next_at first entries c.args.cover) c.self.invariant within room)

pub returns-clause-ok : goal.returns-clause-ok
returns-clause-ok c before held =
    let first = c.self.inside.first in
    let entries = c.self.inside.entries.entries in
    let index = c.count-index.result in
    let cover = c.args.cover in
    let seen : slice_get (leaves_of first entries) cover ≡ Some before = ap (λ (leaves : List Leaf). slice_get leaves cover) c.self.view_is
    ∙ held in
    let last : index ≡ length (leaves_of first entries) = c.count-index.ensures.count
    ∙ sym (ap length c.self.view_is) in
    let now = leaves_of c.set_next.new.first c.set_next.new.entries.entries in
    let so = subst (λ (es : List KeyEntry). (leaf : Leaf) → slice_get (leaves_of first es) cover ≡ Some leaf → now ≡ set (leaves_of first es) cover (record leaf { next = key_at (keys_of es) index }))
    (c.in_ok-add_entry.ensures.ok
    ∙ ap (λ (n : ℕ). entries ++
    (c.args.key, fresh_entry n) ∷ []) c.next_at-next.ensures) c.set_next.ensures.set in
    entry_threaded first entries c.args.key cover index before now c.self.invariant seen last so
    ∙ ap (λ (leaves : List Leaf). with_leaf_after leaves c.args.key cover before) c.self.view_is
