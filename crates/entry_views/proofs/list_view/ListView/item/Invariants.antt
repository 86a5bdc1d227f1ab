use Rattle.std.proofs.Common.{◌≡◌, drop}
use Rattle.entry_views.proofs.list_view.ListView.item.Given as goal

abbrev pub invariant-loop : goal.invariant-loop
invariant-loop g l = l.rest ≡ drop l.counter l.self
