-- What the outside takes and returns, and when it may fail.
use Rattle.std.specs.Prelude.{◌≡◌, ℕ, ◌<◌, List, [], ◌∷◌, ◌++◌, length, take, map, Option, Some, None, Result, Ok, Err, ◌⊎◌}
use Rattle.std.specs.List.{concat}

-- ---- what a source has left, if it is known

-- These bytes, then what is left, if it is known.
abbrev pub prepend : List ℕ → Option (List ℕ) → Option (List ℕ)
prepend bytes None = None
prepend bytes (Some left) = Some (bytes ++ left)

-- If it is known what is left, then nothing is left.
abbrev pub IsAtEnd : Option (List ℕ) → Type 0
IsAtEnd None = Unit {0}
IsAtEnd (Some left) = left ≡ []

-- A pull that returns n took the first n bytes of the buffer from what was left, and n is 0 only at
-- the end. A pull that fails takes nothing.
abbrev pub Pulls : {E : Type 0} → Option (List ℕ) → Option (List ℕ) → Result ℕ E → List ℕ → Type 0
Pulls old new (Ok n) buffer = (old ≡ prepend (take n buffer) new) × (n ≡ 0 → IsAtEnd old)
Pulls old new (Err e) buffer = new ≡ old

-- A buffer filled as far as the source reaches: it is short of its room only at the end of the
-- source. After a failure the source still has all that was not taken.
abbrev pub Fills : {E : Type 0} → Option (List ℕ) → Option (List ℕ) → Result ℕ E → List ℕ → Type 0
Fills old new (Ok n) buffer = (old ≡ prepend (take n buffer) new) × (n < length buffer → IsAtEnd new)
Fills old new (Err e) buffer = (taken : List ℕ) × (old ≡ prepend taken new)

-- ---- what was printed, if it is known

-- One printed piece: the moment at which its printing began, and its bytes.
pub record Tell : Type 0 where
  pub at : ℕ
  pub bytes : List ℕ

-- What was printed, followed by these pieces.
abbrev pub with_tells : Option (List Tell) → List Tell → Option (List Tell)
with_tells None tells = None
with_tells (Some told) tells = Some (told ++ tells)

-- The bytes of pieces, one piece after another.
abbrev pub bytes_told : List Tell → List ℕ
bytes_told tells = concat (map (λ tell. tell.bytes) tells)

-- A call that succeeds adds one piece, with the moment of its entry. One that fails adds none, or a
-- piece with that moment and some first bytes.
abbrev pub Tells : {T E : Type 0} → ℕ → List ℕ → Option (List Tell) → Option (List Tell) → Result T E → Type 0
Tells at bytes old new (Ok x) = new ≡ with_tells old (record { at = at; bytes = bytes } ∷ [])
Tells at bytes old new (Err e) = (new ≡ old) ⊎ ((n : ℕ) × (new ≡ with_tells old (record { at = at; bytes = take n bytes } ∷ [])))

-- ---- what was printed over several calls

-- One list of bytes is a prefix of another.
abbrev pub IsPrefix : List ℕ → List ℕ → Type 0
IsPrefix prefix bytes = (rest : List ℕ) × (bytes ≡ prefix ++ rest)

-- Between two states just these pieces were printed, each by its own call.
pub record Told (old new : Option (List Tell)) (pieces : List (List ℕ)) : Type 0 where
  pub tells : List Tell
  pub added : new ≡ with_tells old tells
  pub whole : map (λ tell. tell.bytes) tells ≡ pieces

-- Between two states just some first bytes of these pieces were printed.
pub record ToldPrefix (old new : Option (List Tell)) (pieces : List (List ℕ)) : Type 0 where
  pub tells : List Tell
  pub added : new ≡ with_tells old tells
  pub prefix : IsPrefix (bytes_told tells) (concat pieces)
