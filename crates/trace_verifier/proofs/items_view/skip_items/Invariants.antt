use Rattle.std.proofs.Common.{◌≡◌, ◌-◌, List}
use Rattle.byte_fields.specs.Reading.{items_at}
use Rattle.byte_fields.proofs.Loops.{with_prefix}
use Rattle.proof_verifier.specs.proof_checks.declared.trace_proof.TraceItem.{TraceItem}
use Rattle.trace_verifier.specs.Reading.{item_at}
use Rattle.trace_verifier.proofs.items_view.skip_items.Given as goal

abbrev pub invariant-loop : goal.invariant-loop
invariant-loop l =
    (read : List TraceItem)
    × (with_prefix read (items_at item_at (l.count - l.counter) l.reader)
    ≡ items_at item_at l.count l.initial.reader)
