use Rattle.std.proofs.Common.{◌≡◌, ℕ, ◌-◌, List}
use Rattle.byte_fields.specs.Reading.{Field, items_at}
use Rattle.byte_fields.proofs.Loops.{with_prefix}
use Rattle.entry_views.proofs.list_view.skip_items.Given as goal

-- the items that were read, before those that still are
abbrev pub Passed : {A : Type 0} → (List ℕ → Field A) → ℕ → ℕ → List ℕ → List ℕ → Type 0
Passed {A = A} item count i rest bytes = (read : List A) × (with_prefix read (items_at item (count - i) rest) ≡ items_at item count bytes)

abbrev pub invariant-loop : goal.invariant-loop
invariant-loop g l = Passed g.T.ListItem.item_at l.count l.counter l.reader l.initial.reader
