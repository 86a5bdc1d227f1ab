-- The next row of a block, and the next body.
use Rattle.std.proofs.Common.{◌≡◌, ◌∙◌, ℕ, ◌+◌, ◌<◌, List, [], ◌∷◌, ◌++◌, length}
use Rattle.std.proofs.Common.{get_or, take, sym, ap, subst}
use Rattle.std.proofs.Common.{arith}
use Rattle.std.specs.List.{All}
use Rattle.std.proofs.lemmas.List.{append_assoc, length-append, length-map, take_more}
use Rattle.std.proofs.lemmas.List.Elements.{All-append, All-cons, All-nil}
use Rattle.body_store.specs.Bodies.{KeptBody, BodiesState, bodies_in}

-- what holds of the rows so far holds with the next row
pub all_more : {A : Type 0} (P : A → Type 0) (rows : List A) (i : ℕ) (row : A) → i < length rows
    → row ≡ get_or rows i row → All P (take i rows) → P row → All P (take (i + 1) rows)
all_more {A = A} P rows i row here is before now =
    let taken : take i rows ++ row ∷ [] ≡ take (i + 1) rows =
    ap (λ (r : A). take i rows ++ r ∷ []) is ∙ sym (take_more rows i row here) in
    subst (All P) taken
    (All-append P (take i rows) (row ∷ []) before (All-cons P row [] now (All-nil P)))

-- the bodies that are kept, with the next one
pub bodies_more : (new : List (List ℕ)) (i : ℕ) (body : List ℕ) → i < length new
    → body ≡ get_or new i body → (first before after : List (List ℕ))
    → before ≡ first ++ take i new → after ≡ before ++ body ∷ []
    → after ≡ first ++ take (i + 1) new
bodies_more new i body here is first before after so_far more =
    more ∙ ap (λ (l : List (List ℕ)). l ++ body ∷ []) so_far
    ∙ append_assoc first (take i new) (body ∷ [])
    ∙ ap (λ (l : List (List ℕ)). first ++ l)
    (ap (λ (b : List ℕ). take i new ++ b ∷ []) is ∙ sym (take_more new i body here))

pub one_longer : (old new : BodiesState) (body : List ℕ)
    → bodies_in new ≡ bodies_in old ++ body ∷ [] → length new.kept ≡ length old.kept + 1
one_longer old new body is =
    omega (
      arith,
      length-map new.kept (λ (one : KeptBody). one.body),
      ap length is,
      length-append
          (bodies_in old) (body ∷ []),
      length-map old.kept (λ (one : KeptBody). one.body),
    )
