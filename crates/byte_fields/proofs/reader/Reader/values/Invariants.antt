use Rattle.std.proofs.Common.{◌≡◌, ◌-◌}
use Rattle.byte_fields.specs.Reading.{items_at, value_at}
use Rattle.byte_fields.proofs.Loops.{with_prefix}
use Rattle.byte_fields.proofs.reader.Reader.values.Given as goal

abbrev pub invariant-loop : goal.invariant-loop
invariant-loop l =
    with_prefix l.values (items_at (value_at l.most) (l.count - l.counter) l.self)
    ≡ items_at (value_at l.most) l.count l.initial.self
