-- The bodies of versions, and where they are kept.
use Rattle.std.specs.Prelude.{ℕ, List, map, Option, slice_get}
use Rattle.std.specs.Option.{option_map}

-- The place of a body on the device, and the body that was pushed.
pub record KeptBody : Type 0 where
  pub place : ℕ
  pub body : List ℕ

-- The bodies in the order in which they were pushed, and those at hand, each with its index in this
-- order, from 0.
pub record BodiesState : Type 0 where
  pub kept : List KeptBody
  pub cached : List (ℕ × List ℕ)

-- The bodies that are kept.
abbrev pub bodies_of : List KeptBody → List (List ℕ)
bodies_of kept = map (λ (one : KeptBody). one.body) kept

-- The bodies of a store.
abbrev pub bodies_in : BodiesState → List (List ℕ)
bodies_in bodies = bodies_of bodies.kept

-- The body at an index; `None` past the last one.
abbrev pub body_at : List KeptBody → ℕ → Option (List ℕ)
body_at kept index = option_map (λ (one : KeptBody). one.body) (slice_get kept index)

-- The body of a store at an index; `None` past the last one.
abbrev pub body_at_index : BodiesState → ℕ → Option (List ℕ)
body_at_index bodies index = body_at bodies.kept index
