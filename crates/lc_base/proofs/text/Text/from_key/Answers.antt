use Rattle.std.proofs.Common.{subst, sym, ◌∙◌}
use Rattle.lc_base.specs.TextBytes.{IsText}
use Rattle.lc_base.proofs.TextBytes.{key_is_text}
use Rattle.lc_base.proofs.text.Text.from_key.Goals as goal

pub invariant_of-result : goal.invariant_of-result
invariant_of-result c =
    subst IsText (sym (c.in_ok-bytes.ensures.items ∙ c.as_bytes.ensures.bytes)) (key_is_text c.args.key.now c.as_bytes.ensures.is_key)
