-- A value that was read from bytes, with where it ends there.
use Rattle.std.specs.Prelude.{◌≡◌, ℕ, List}
use Rattle.std.specs.List.{concat}

-- The value, and the offset after its last byte.
pub record Placed (A : Type 0) : Type 0 where
  pub value : A
  pub end : ℕ

-- The value is lawful, and the bytes are its fields.
pub record IsSpelled {A : Type 0} (fields : A → List (List ℕ)) (Is : A → Type 0) (value : A) (bytes : List ℕ) : Type 0 where
  pub lawful : Is value
  pub spelled : bytes ≡ concat (fields value)
