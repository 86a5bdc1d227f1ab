-- One more field is written after others.
use Rattle.std.proofs.Common.{◌≡◌, ℕ, List, [], ◌∷◌, ◌++◌, sym, ap, ◌∙◌, append_assoc}
use Rattle.std.specs.List.{concat}
use Rattle.std.proofs.lemmas.List.{append-nil}
use Rattle.byte_fields.proofs.Laws.{concat-append}

pub one_more : (old before new : List ℕ) (fields : List (List ℕ)) (field : List ℕ) → before ≡ old ++ concat fields → new ≡ before ++ field → new ≡ old ++ concat (fields ++ field ∷ [])
one_more old before new fields field written put =
    let all : concat (fields ++ field ∷ []) ≡ concat fields ++ field = concat-append fields (field ∷ []) ∙ ap (λ (t : List ℕ). concat fields ++ t) (append-nil field) in
    put ∙ ap (λ (t : List ℕ). t ++ field) written ∙ append_assoc old (concat fields) field ∙ ap (λ (t : List ℕ). old ++ t) (sym all)
