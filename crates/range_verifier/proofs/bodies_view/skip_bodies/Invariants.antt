use Rattle.std.proofs.Common.{◌≡◌, ◌-◌, List}
use Rattle.byte_fields.specs.Reading.{items_at}
use Rattle.byte_fields.proofs.Loops.{with_prefix}
use Rattle.prov_entry.specs.declared.entry.Body.{Body}
use Rattle.entry_views.specs.Reading.{body_at}
use Rattle.range_verifier.proofs.bodies_view.skip_bodies.Given as goal

abbrev pub invariant-loop : goal.invariant-loop
invariant-loop l =
    (read : List Body)
    × (with_prefix read (items_at body_at (l.count - l.counter) l.reader)
    ≡ items_at body_at l.count l.initial.reader)
