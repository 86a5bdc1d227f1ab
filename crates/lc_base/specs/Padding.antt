-- Bytes at the start of a wider array, which zeros fill up.
use Rattle.std.specs.Prelude.{◌≡◌, ℕ, ◌-◌, ◌%◌, ◌<◌, ◌≤◌, List, ◌++◌, length, get_or, take, replicate}
use Rattle.std.proofs.Common.{ap, arith}
use Rattle.std.proofs.lemmas.List.{length-take, length-append, length-replicate}

-- The bytes, filled up with zeros to this width.
abbrev pub zero_padded : ℕ → List ℕ → List ℕ
zero_padded width bytes = bytes ++ replicate (width - length bytes) 0

-- No byte is zero.
abbrev pub HasNoZero : List ℕ → Type 0
HasNoZero bytes = (i : ℕ) → i < length bytes → 0 < get_or bytes i 0

-- The array is its first `len` bytes, none of them zero, filled up with zeros to this width, which is
-- a multiple of eight.
pub record IsPadded (width len : ℕ) (array : List ℕ) : Type 0 where
  pub short : len ≤ width
  pub whole_words : width % 8 ≡ 0
  pub no_zero : HasNoZero (take len array)
  pub padded : array ≡ zero_padded width (take len array)

-- An array that is its first `len` bytes, filled up with zeros to a width of at least `len`, has at
-- least `len` bytes.
pub length_of_prefix : (width len : ℕ) (bytes : List ℕ) → len ≤ width → bytes ≡ zero_padded width (take len bytes) →
    length (take len bytes) ≡ len
length_of_prefix width len bytes short is_padded =
    omega (
      arith,
      length-take len bytes,
      ap length is_padded,
      length-append (take len bytes) (replicate (width - length (take len bytes)) 0),
      length-replicate {A = ℕ} (width - length (take len bytes)) 0,
    )
