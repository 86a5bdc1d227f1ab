use Rattle.std.proofs.Common.{◌∙◌, sym, ap, arith}
use Rattle.proof_codec.specs.Reading.{proof_at}
use Rattle.proof_codec.proofs.Viewed.{left_low}
use Rattle.proof_codec.proofs.proof_view.proof_in.Goals as goal

pub overflow_sub-result : goal.overflow_sub-result
overflow_sub-result c =
    let low = left_low c.args.bytes.now _ (λ i. omega (arith, c.type_inv.bytes i)) (sym (ap proof_at c.new-reader.ensures) ∙ c.in-Ok.ensures) in
    omega (arith, low, c.remaining-left.ensures)

pub overflow_sub-result-in-Err : goal.overflow_sub-result-in-Err
overflow_sub-result-in-Err c = left_low c.args.bytes.now _ (λ i. omega (arith, c.type_inv.bytes i)) (sym (ap proof_at c.new-reader.ensures) ∙ c.in-Err.ensures)
