-- Texts in parts clash if a part of them does.
use Rattle.std.specs.Prelude.{◌≡◌, ℕ, List, slice_get, Some}
use Rattle.merkle_tree.specs.Clash.{Clash}
use Rattle.proof_checks.specs.ProofTexts.{joined_texts}

-- If a part of some texts and a part of others clash, all of these texts and all of the others do.
abbrev pub ClashOfAPart : Type 0
ClashOfAPart =
    (given own : List (List (List ℕ))) (one other : ℕ) (part own_part : List (List ℕ)) → slice_get given one ≡ Some part → slice_get own other ≡ Some own_part
    → Clash part own_part → Clash (joined_texts given) (joined_texts own)
