use Rattle.std.proofs.Common.{◌≡◌, ◌-◌}
use Rattle.byte_fields.specs.Reading.{items_at, key_at}
use Rattle.byte_fields.proofs.Loops.{with_prefix}
use Rattle.byte_fields.proofs.reader.Reader.keys.Given as goal

abbrev pub invariant-loop : goal.invariant-loop
invariant-loop l = with_prefix l.keys (items_at key_at (l.count - l.counter) l.self) ≡ items_at key_at l.count l.initial.self
