-- When bodies agree with the scratch device that keeps them.
use Rattle.std.specs.Prelude.{◌≡◌, ℕ, true, List, Some}
use Rattle.std.specs.List.{All}
use Rattle.lc_io.specs.Scratch.{ScratchState, is_known, IsKeptAt}
use Rattle.body_store.specs.Bodies.{KeptBody, BodiesState, body_at}

-- A body is kept at its place.
abbrev pub HasBody : ScratchState → KeptBody → Type 0
HasBody scratch one = IsKeptAt scratch one.place one.body

-- A body at hand is the one at its index.
abbrev pub IsBodyOf : List KeptBody → (ℕ × List ℕ) → Type 0
IsBodyOf kept cached = body_at kept cached.0 ≡ Some cached.1

-- Bodies agree with a scratch device: the device keeps each of them; and if it is known which bytes
-- it holds, each body at hand is the one at its index.
pub record Agrees (store : BodiesState) (scratch : ScratchState) : Type 0 where
  pub bodies : All (HasBody scratch) store.kept
  pub cached : is_known scratch ≡ true → All (IsBodyOf store.kept) store.cached
