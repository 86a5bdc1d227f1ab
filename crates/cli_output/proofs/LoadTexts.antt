-- The line of a load is the same however its text is grouped.
use Rattle.std.proofs.Common.{◌≡◌, ◌∙◌, ◌++◌, ℕ, List, ap, append_assoc}

-- a text that is joined from three
pub joined : (all front word head head_text hex back counts : List ℕ) → all ≡ front ++ back
    → front ≡ word ++ hex → word ≡ head → head ≡ head_text → (counts_text : List ℕ)
    → back ≡ counts → counts ≡ counts_text → all ≡ head_text ++ hex ++ counts_text
joined all front word head head_text hex back counts all_is front_is word_is head_is counts_text back_is counts_is =
    all_is
    ∙ ap (λ (t : List ℕ). t ++ back) (front_is ∙ ap (λ (t : List ℕ). t ++ hex) (word_is ∙ head_is))
    ∙ ap (λ (t : List ℕ). head_text ++ hex ++ t) (back_is ∙ counts_is)

-- the text of the line, grouped differently
pub load_text : (a b c d e hex f g h i j k : List ℕ)
    → (a ++ b ++ c ++ d ++ e) ++ hex ++ (f ++ g ++ h ++ i ++ j ++ k)
    ≡ a ++ b ++ c ++ d ++ e ++ hex ++ f ++ g ++ h ++ i ++ j ++ k
load_text a b c d e hex f g h i j k = simp append_assoc
