-- An item of a prefix is the item of the list.
use Rattle.std.proofs.Common.{◌≡◌, ℕ, zero, suc, ◌<◌, List, [], ◌∷◌, take, refl, arith}
use Rattle.std.specs.Prelude.{slice_get}

pub get_take : {A : Type 0} (n i : ℕ) (xs : List A) → i < n → slice_get (take n xs) i ≡ slice_get xs i
get_take zero i xs low = absurd (omega (arith, low))
get_take (suc n) i [] low = refl
get_take (suc n) zero (x ∷ xs) low = refl
get_take (suc n) (suc i) (x ∷ xs) low = get_take n i xs (omega (arith, low))
