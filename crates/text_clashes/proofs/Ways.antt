-- The texts of the nodes on the climb, for a height that is counted down from the top.
use Rattle.std.proofs.Common.{◌≡◌, ℕ, zero, suc, ◌-◌, ◌^◌, ◌<◌, ◌≤◌, [], ◌∷◌, ◌++◌, refl, ap, ◌∙◌, arith}
use Rattle.std.proofs.lemmas.Bool.{le-ltb}
use Rattle.merkle_tree.specs.Tree.{climb_to, climb_texts_to, Climb, text_on_left, text_on_right}
use Rattle.merkle_tree.proofs.Sound.{climb_texts-left, climb_texts-right}

pub texts_none : (j m n : ℕ) (s : Climb) → j ≡ 0 → climb_texts_to j m n s ≡ []
unfolding climb_texts_to
texts_none j m n s z = rw z refl

pub texts_to_left : (j half m n : ℕ) (s : Climb) → 0 < j → half ≡ 2 ^ (j - 1) → half < n → m < half
    → climb_texts_to j m n s ≡ climb_texts_to (j - 1) m half s ++ text_on_left (climb_to (j - 1) m half s) ∷ []
texts_to_left zero half m n s pos e big l = absurd (omega (arith, pos))
texts_to_left (suc j) half m n s pos e big l =
    let down : suc j - 1 ≡ j = omega arith in
    let is : half ≡ 2 ^ j = e ∙ ap (λ (k : ℕ). 2 ^ k) down in
    rw (down, is) (climb_texts-left j m n s (omega (arith, is, big)) (omega (arith, is, l)))

pub texts_to_right : (j half m n : ℕ) (s : Climb) → 0 < j → half ≡ 2 ^ (j - 1) → half < n → half ≤ m
    → climb_texts_to j m n s ≡ climb_texts_to (j - 1) (m - half) (n - half) s ++ text_on_right (climb_to (j - 1) (m - half) (n - half) s) ∷ []
texts_to_right zero half m n s pos e big l = absurd (omega (arith, pos))
texts_to_right (suc j) half m n s pos e big l =
    let down : suc j - 1 ≡ j = omega arith in
    let is : half ≡ 2 ^ j = e ∙ ap (λ (k : ℕ). 2 ^ k) down in
    rw (down, is) (climb_texts-right j m n s (omega (arith, is, big)) (omega (arith, is, l)))

pub texts_same : (j half m n : ℕ) (s : Climb) → 0 < j → half ≡ 2 ^ (j - 1) → n ≤ half → climb_texts_to j m n s ≡ climb_texts_to (j - 1) m n s
unfolding climb_texts_to
texts_same zero half m n s pos e small = absurd (omega (arith, pos))
texts_same (suc j) half m n s pos e small =
    let down : suc j - 1 ≡ j = omega arith in
    let is : half ≡ 2 ^ j = e ∙ ap (λ (k : ℕ). 2 ^ k) down in
    rw (down, le-ltb (2 ^ j) n (omega (arith, is, small))) refl

pub ruleset texts_upward = (texts_none, texts_to_left, texts_to_right, texts_same)
