use Rattle.std.proofs.Common.{subst, sym, arith}
use Rattle.lc_base.specs.TextBytes.{IsText}
use Rattle.lc_base.proofs.TextBytes.{joined_is_text}
use Rattle.lc_base.proofs.text.Text.join.Goals as goal

pub invariant_of-result : goal.invariant_of-result
invariant_of-result c =
    let first = c.as_bytes-first in
    let second = c.as_bytes-second in
    subst IsText (sym c.in_ok-bytes.ensures)
    (joined_is_text first.result.now second.result.now
    (subst IsText (sym first.ensures.bytes) first.ensures.is_text)
    (subst IsText (sym second.ensures.bytes) second.ensures.is_text)
    (omega (arith, c.if-first-second-gt-MAX_JOINED_BYTES.false)))
