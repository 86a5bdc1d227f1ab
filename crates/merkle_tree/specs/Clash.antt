-- Texts with equal digests.
use Rattle.std.specs.Prelude.{◌≡◌, ◌≢◌, ℕ, List, Contains}
use Rattle.sha2.specs.Sha256.{sha256}

-- A text of the first list and a text of the second differ and have one digest.
pub record Clash (given own : List (List ℕ)) : Type 0 where
  pub one : List ℕ
  pub other : List ℕ
  pub in_given : Contains given one
  pub in_own : Contains own other
  pub differ : one ≢ other
  pub same : sha256 one ≡ sha256 other

-- A text of the first list and a text of the second that have one digest are one text.
pub record Agree (given own : List (List ℕ)) : Type 0 where
  pub same : (one other : List ℕ) → Contains given one → Contains own other → sha256 one ≡ sha256 other → one ≡ other
