use Rattle.std.proofs.Common.{subst, sym, ◌∙◌, ap, Vec, Global, ℕ}
use Rattle.std.proofs.lemmas.Int.{to_z-of_z}
use Rattle.lc_base.specs.TextBytes.{IsText}
use Rattle.lc_base.proofs.TextBytes.{number_is_text}
use Rattle.lc_base.proofs.text.Text.from_number.Goals as goal

pub invariant_of-result : goal.invariant_of-result
invariant_of-result c =
    let fits = c.ranges.number in
    subst IsText (sym (ap (λ (v : Vec ℕ Global). v.items) c.into_bytes-bytes.ensures.value ∙ c.in_ok-to_string.ensures.ok ∙ simp to_z-of_z)) (number_is_text c.args.number fits)
