use Rattle.std.proofs.Common.{◌-◌, length, arith}
use Rattle.contract_check.proofs.OneCode.{room, next_digit}
use Rattle.contract_check.proofs.code.code_of_bytes.Goals as goal

pub overflow_mul-code : goal.overflow_mul-code
overflow_mul-code c =
    let small = room (length c.args.bytes.now) c.loop-i.i c.loop-i.code c.requires.short c.loop-i-test.true c.loop-i.auto.i c.loop-i.invariant.1 in
    omega (arith, small)

pub overflow_add-code : goal.overflow_add-code
overflow_add-code c =
    let small = room (length c.args.bytes.now) c.loop-i.i c.loop-i.code c.requires.short c.loop-i-test.true c.loop-i.auto.i c.loop-i.invariant.1 in
    let digit = c.type_inv.bytes (c.loop-i.i - 1) in
    omega (arith, small, c.from.ensures, digit)

pub loop-i-preserved : goal.loop-i-preserved
loop-i-preserved c =
    let digit = c.type_inv.bytes (c.loop-i.i - 1) in
    next_digit c.args.bytes.now c.loop-i.i c.loop-i.code c.from.result c.loop-i-test.true c.loop-i.auto.i c.loop-i.invariant.0 c.loop-i.invariant.1 c.from.ensures (omega (arith, c.from.ensures, digit))
