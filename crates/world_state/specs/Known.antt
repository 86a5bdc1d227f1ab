-- What contracts see of a world.
use Rattle.std.specs.Prelude.{ℕ, List}
use Rattle.world_state.specs.declared.held.Held.{Held}

-- The newest version of each key before the block at work, the codes that can be called, and what
-- the block at work wrote and deployed, in order.
pub record Known (C : Type 0) : Type 0 where
  pub newest : List (List ℕ × Held)
  pub codes : List (List ℕ × C)
  pub staged : List (List ℕ × Held)
  pub staged_codes : List (List ℕ × C)
