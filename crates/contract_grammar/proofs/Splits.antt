-- Lists of tokens that are split at two tokens.
use Rattle.std.proofs.Common.{◌≡◌, List, [], ◌∷◌, ◌++◌, drop, ◌⊎◌, inl, inr, refl, sym, ap, ◌∙◌}
use Rattle.contract_tokens.specs.declared.token.Token.{Token}

-- the token comes after these tokens, among the others
abbrev pub IsLater : List Token → Token → List Token → Type 0
IsLater before t others = (w : List Token) × (others ≡ before ++ t ∷ w)

same_head : {x s : Token} {u y : List Token} → x ∷ u ≡ s ∷ y → x ≡ s
same_head e = cc (e)

-- the two tokens are the same one, or one of them comes before the other
pub two_splits : (u v y z : List Token) (s t : Token) → u ++ s ∷ y ≡ v ++ t ∷ z → ((u ≡ v) × (s ≡ t) × (y ≡ z)) ⊎ (IsLater u s v ⊎ IsLater v t u)
two_splits [] [] y z s t e = inl (refl, same_head e, ap (drop 1) e)
two_splits [] (x ∷ v) y z s t e = inr (inl (v, ap (λ r. r ∷ v) (sym (same_head e))))
two_splits (x ∷ u) [] y z s t e = inr (inr (u, ap (λ r. r ∷ u) (same_head e)))
two_splits (x ∷ u) (r ∷ v) y z s t e =
    let head : x ≡ r = same_head e in
    let under : ◌≡◌ {A = List Token} (x ∷ v) (r ∷ v) = ap (λ q. q ∷ v) head in
    elim (two_splits u v y z s t (ap (drop 1) e)) [
      | inl k ↦ inl (ap (λ q. x ∷ q) k.0 ∙ under, k.1, k.2)
      | inr k ↦ elim k [
        | inl j ↦ inr (inl (j.0, sym under ∙ ap (λ q. x ∷ q) j.1))
        | inr j ↦ inr (inr (j.0, ap (λ q. x ∷ q) j.1 ∙ ap (λ q. q ∷ (v ++ t ∷ j.0)) head))
      ]
    ]
