-- How far bytes are fields: the longest prefix that the fields of some lawful value can begin with.
use Rattle.std.specs.Prelude.{◌≡◌, ℕ, ◌≤◌, List, length, take}
use Rattle.std.specs.List.{concat}

-- The first n bytes are the first fields, each whole, of some lawful value.
pub record IsGoodPrefix {A : Type 0} (fields : A → List (List ℕ)) (Is : A → Type 0) (bytes : List ℕ) (n : ℕ) : Type 0 where
  pub within : n ≤ length bytes
  pub value : A
  pub lawful : Is value
  pub whole : ℕ
  pub prefix : take n bytes ≡ concat (take whole (fields value))

-- The first n bytes are such a prefix, and no longer one is.
pub record IsLongestPrefix {A : Type 0} (fields : A → List (List ℕ)) (Is : A → Type 0) (bytes : List ℕ) (n : ℕ) : Type 0 where
  pub good : IsGoodPrefix fields Is bytes n
  pub longest : (m : ℕ) → IsGoodPrefix fields Is bytes m → m ≤ n
