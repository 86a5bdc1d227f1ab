use Rattle.std.proofs.Common.{◌∙◌, sym}
use Rattle.range_verifier.proofs.Counting.{one_less}
use Rattle.range_verifier.proofs.within.count_within.Goals as goal

pub overflow_sub-count : goal.overflow_sub-count
overflow_sub-count c =
    let outside = sym c.is_within.ensures ∙ c.if-not-is_within.true in
    (one_less c.args.from c.args.to c.args.headers.now c.loop-header.count c.loop-header.rest
    c.in-Some.header.value c.next.new.self c.in-Some.ensures outside c.loop-header.invariant).0

pub loop-header-preserved-then-not-is_within : goal.loop-header-preserved-then-not-is_within
loop-header-preserved-then-not-is_within c =
    let outside = sym c.is_within.ensures ∙ c.if-not-is_within.true in
    (one_less c.args.from c.args.to c.args.headers.now c.loop-header.count c.loop-header.rest
    c.in-Some.header.value c.next.new.self c.in-Some.ensures outside c.loop-header.invariant).1
