-- What a reader of a log keeps, and the bytes that it has read ahead.
use Rattle.std.specs.Prelude.{◌≡◌, ℕ, Bool, List, take, drop, Option, Some}
use Rattle.lc_base.specs.declared.digest.Digest.{Digest}

-- What a reader keeps: the offset of the next gate, the number of the blocks before it and the
-- digest of the last one, whether the mark was read, and the bytes that were read ahead.
pub record ReaderState : Type 0 where
  pub gate : ℕ
  pub count : ℕ
  pub last : Digest
  pub is_marked : Bool
  pub ahead : List ℕ

-- The first bytes, some number of them, are these.
pub record BeginsWith (front bytes : List ℕ) : Type 0 where
  pub count : ℕ
  pub is : front ≡ take count bytes

-- If the content is known, it goes on with these bytes at this offset.
abbrev pub IsAhead : ℕ → List ℕ → Option (List ℕ) → Type 0
IsAhead at ahead content = (image : List ℕ) → content ≡ Some image → BeginsWith ahead (drop at image)
