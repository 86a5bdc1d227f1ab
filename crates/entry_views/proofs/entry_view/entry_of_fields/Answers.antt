use Rattle.std.proofs.Common.{drop, Ok, Err, refl, ap, sym, length, arith}
use Rattle.entry_views.proofs.Placing.{reads_this, left_after, is_spelled}
use Rattle.entry_views.proofs.entry_view.entry_of_fields.Goals as goal

pub overflow_sub-length : goal.overflow_sub-length
overflow_sub-length g c =
    let read = reads_this c.args.fields (Ok c.in-Ok.fields) _ c.args.reader.now c.in-Ok.is c.requires in
    let within = left_after g.F.EntryFields.codec.agrees c.args.bytes.now c.args.at (λ i. omega (arith, c.type_inv.bytes i)) (drop c.args.at c.args.bytes.now) refl _ read in
    omega (arith, within, c.remaining.ensures, ap length c.tail-rest.ensures)

pub invariant_of-result : goal.invariant_of-result
invariant_of-result g c =
    let read = reads_this c.args.fields (Ok c.in-Ok.fields) _ c.args.reader.now c.in-Ok.is c.requires in
    is_spelled g.F.EntryFields.codec.agrees c.args.bytes.now c.args.at (λ i. omega (arith, c.type_inv.bytes i)) c.tail-rest.result.now c.tail-rest.ensures (drop c.args.at c.args.bytes.now) (sym c.tail-rest.ensures) c.in-Ok.fields _ read c.remaining.result c.remaining.ensures

pub overflow_sub-result : goal.overflow_sub-result
overflow_sub-result g c =
    let read = reads_this c.args.fields (Err c.in-Err.fault) _ c.args.reader.now c.in-Err.is c.requires in
    let within = left_after g.F.EntryFields.codec.agrees c.args.bytes.now c.args.at (λ i. omega (arith, c.type_inv.bytes i)) (drop c.args.at c.args.bytes.now) refl _ read in
    omega (arith, within, ap length c.tail-rest.ensures)
