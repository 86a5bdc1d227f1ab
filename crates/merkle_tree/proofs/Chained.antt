-- If their texts agree, lists with one digest are equal, and walks go through the texts that they
-- name.
use Rattle.std.proofs.Common.{◌≡◌, ℕ, suc, List, [], ◌∷◌, Some, None, refl, sym, ap, ap₂, ◌∙◌, arith}
use Rattle.std.specs.List.{Contains}
use Rattle.sha2.specs.Sha256.{sha256}
use Rattle.sha2.proofs.Facts256.{length-sha256}
use Rattle.merkle_tree.specs.Chains.{AreToldApart}
use Rattle.merkle_tree.specs.Laws.{ListsAreSound, WalksAreSound}
use Rattle.merkle_tree.proofs.Agreeing.{agree_rest, agree_heads}

heads : {A : Type 0} (x : A) (xs : List A) → Contains (x ∷ xs) x
heads x xs = (0, omega arith, refl)

tails : {A : Type 0} (x : A) (xs : List A) (y : A) → Contains xs y → Contains (x ∷ xs) y
tails x xs y (k, below, is) = (suc k, omega arith, is)

told_apart_rest : {A : Type 0} (text : List ℕ → A → List ℕ) (x y : A) (xs ys : List A) → AreToldApart text (x ∷ xs) (y ∷ ys) → AreToldApart text xs ys
told_apart_rest text x y xs ys told = record { apart = λ d e v w in_xs in_ys. told.apart d e v w (tails x xs v in_xs) (tails y ys w in_ys) }

pub list_sound : {A : Type 0} → ListsAreSound A
list_sound text d e [] [] told len d_len e_len agree same = (same, refl)
list_sound text d e [] (y ∷ ys) told len d_len e_len agree same = absurd (omega arith)
list_sound text d e (x ∷ xs) [] told len d_len e_len agree same = absurd (omega arith)
list_sound text d e (x ∷ xs) (y ∷ ys) told len d_len e_len agree same =
    let rest = list_sound text (sha256 (text d x)) (sha256 (text e y)) xs ys (told_apart_rest text x y xs ys told) (omega arith) (length-sha256 (text d x)) (length-sha256 (text e y)) (agree_rest _ _ _ _ agree) same in
    let texts = agree_heads (text d x) (text e y) _ _ agree rest.0 in
    let parts = told.apart d e x y (heads x xs) (heads y ys) d_len e_len texts in
    (parts.0, ap₂ (λ z zs. z ∷ zs) parts.1 rest.1)

pub walk_sound : WalksAreSound
walk_sound next text_at [] own first linked begun agree walks = tt
walk_sound next text_at (text ∷ given) own None linked begun agree walks = absurd walks
walk_sound next text_at (text ∷ given) own (Some expected) linked begun agree walks =
    let there = begun expected refl in
    let same : text ≡ there.0 = agree.same text there.0 (heads text given) (linked.listed expected.place there.0 there.1) (walks.0 ∙ sym there.2) in
    let has : text_at expected.place ≡ Some text = there.1 ∙ ap (λ (t : List ℕ). Some t) (sym same) in (
      has,
      walk_sound next text_at given own (next text) linked (λ further is. linked.onward expected.place text further has is)
          (record { same = λ one other in_given in_own. agree.same one other (tails text given one in_given) in_own }) walks.1,
    )
