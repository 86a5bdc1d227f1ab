use Rattle.std.proofs.Common.{◌∙◌, sym, ap, arith}
use Rattle.byte_fields.specs.Spelling.{IsBytes}
use Rattle.range_verifier.specs.Reading.{range_at}
use Rattle.range_verifier.proofs.Viewed.{left_low}
use Rattle.range_verifier.proofs.range_view.range_in.Goals as goal

pub overflow_sub-result : goal.overflow_sub-result
overflow_sub-result c =
    let fits : IsBytes c.args.bytes.now = λ i. omega (arith, c.type_inv.bytes i) in
    let read = sym (ap range_at c.new-reader.ensures) ∙ c.in-Ok.ensures in
    omega (arith, left_low c.args.bytes.now _ fits read, c.remaining-left.ensures)

pub overflow_sub-result-in-Err : goal.overflow_sub-result-in-Err
overflow_sub-result-in-Err c =
    let fits : IsBytes c.args.bytes.now = λ i. omega (arith, c.type_inv.bytes i) in
    let read = sym (ap range_at c.new-reader.ensures) ∙ c.in-Err.ensures in
    left_low c.args.bytes.now _ fits read
