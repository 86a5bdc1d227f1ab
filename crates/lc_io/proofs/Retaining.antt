-- What a scratch device keeps stays over several calls.
use Rattle.std.proofs.Common.{ℕ, List, length, refl, sym, ◌∙◌}
use Rattle.lc_io.specs.Scratch.{ScratchState, IsKeptAt, Retains}

pub retains_refl : (s : ScratchState) → Retains s s
retains_refl s = record { kept = λ place count k. k; known = refl; held = λ place count t k. refl }

pub retains_trans : (s t u : ScratchState) → Retains s t → Retains t u → Retains s u
retains_trans s t u p q = record {
  kept = λ place count k. q.kept place count (p.kept place count k);
  known = q.known ∙ p.known;
  held = λ place count is k.
      q.held place count (p.known ∙ is) (p.kept place count k) ∙ p.held place count is k;
}

-- what is kept at a place stays there
pub kept_stays : (s t : ScratchState) (place : ℕ) (bytes : List ℕ)
    → Retains s t → IsKeptAt s place bytes → IsKeptAt t place bytes
kept_stays s t place bytes p k = record {
  kept = p.kept place (length bytes) k.kept;
  held = λ is.
      let before = sym p.known ∙ is in
      p.held place (length bytes) before k.kept ∙ k.held before;
}
