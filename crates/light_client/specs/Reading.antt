-- What reading a light file returns, and what it leaves of the source.
use Rattle.std.specs.Prelude.{
  ◌≡◌,
  ◌++◌,
  ◌<◌,
  ◌≤◌,
  ℕ,
  min,
  true,
  nat_lt,
  if◌then◌else◌,
  List,
  [],
  length,
  drop,
  Option,
  Some,
  None,
  Result,
  Ok,
  Err,
}
use Rattle.lc_io.specs.Outside.{prepend, IsAtEnd}
use Rattle.light_client.specs.declared.block_root.BlockRoot.{BlockRoot}
use Rattle.light_client.specs.declared.error.LightError.{LightError}
use Rattle.light_client.specs.declared.error.LightError.TheVariants as errors
use Rattle.light_client.specs.declared.limits.TheConstants.{MAX_PIECE_BYTES}
use Rattle.light_client.specs.Format.{has_magic, count_in, light_in}

-- What is left of an input that doesn't begin with a light file: what follows the first 8 bytes if
-- there are as many and they begin otherwise, else nothing.
abbrev pub left_of_none : List ℕ → List ℕ
left_of_none input = if nat_lt (length input) 8 then [] else
    (if has_magic input then [] else drop 8 input)

-- What is left is the end of the input.
abbrev pub IsEndOf : List ℕ → Option (List ℕ) → Type 0
IsEndOf input left = (taken : List ℕ) × (rest : List ℕ) × (input ≡ taken ++ rest)
    × (left ≡ Some rest)

-- The light file at the start of an input, of which just its bytes were taken; `Form` exactly if
-- there is none. If the source failed or memory ran out, some first bytes were taken.
abbrev pub IsLightAnswer : List ℕ → Result (List BlockRoot) LightError → Option (List ℕ) → Type 0
IsLightAnswer input (Ok file) left = (rest : List ℕ) × (light_in input ≡ Some (file, rest))
    × (left ≡ Some rest)
IsLightAnswer input (Err errors.Form) left = (light_in input ≡ None)
    × (left ≡ Some (left_of_none input))
IsLightAnswer input (Err errors.Fault) left = IsEndOf input left
IsLightAnswer input (Err errors.Memory) left = IsEndOf input left

-- ---- the parts of a read

-- What was left before is these bytes at least, and what is left now.
abbrev pub HasTaken : Option (List ℕ) → Option (List ℕ) → Type 0
HasTaken old new = (taken : List ℕ) × (old ≡ prepend taken new)

-- A call that was to take so many bytes took some and failed: with `Form` if the source ended
-- before as many came.
abbrev pub HasStopped : ℕ → Option (List ℕ) → LightError → Option (List ℕ) → Type 0
HasStopped count old errors.Form new = (taken : List ℕ) × (length taken < count)
    × (old ≡ prepend taken new) × IsAtEnd new
HasStopped count old errors.Fault new = HasTaken old new
HasStopped count old errors.Memory new = HasTaken old new

-- A buffer was filled.
abbrev pub IsFilled : {A : Type 0} → Option (List ℕ) → Result A LightError → List ℕ
    → Option (List ℕ) → Type 0
IsFilled old (Ok value) buffer new = old ≡ prepend buffer new
IsFilled old (Err error) buffer new = HasStopped (length buffer) old error new

-- So many bytes were taken.
abbrev pub AreTaken : ℕ → Option (List ℕ) → Result (List ℕ) LightError → Option (List ℕ) → Type 0
AreTaken count old (Ok bytes) new = (length bytes ≡ count) × (old ≡ prepend bytes new)
AreTaken count old (Err error) new = HasStopped count old error new

-- A piece of the bytes that are still to come was appended.
abbrev pub IsAppended : {A : Type 0} → ℕ → Option (List ℕ) → List ℕ → Result A LightError → List ℕ
    → Option (List ℕ) → Type 0
IsAppended to_come old before (Ok value) after new = (piece : List ℕ)
    × (length piece ≡ min to_come MAX_PIECE_BYTES) × (after ≡ before ++ piece)
    × (old ≡ prepend piece new)
IsAppended to_come old before (Err error) after new = HasStopped to_come old error new

-- The head of a file of so many blocks was read: the 8 bytes at the start of an input, which begins
-- so. `Form` if there is no such.
abbrev pub IsHeadRead : List ℕ → Result ℕ LightError → Option (List ℕ) → Type 0
IsHeadRead input (Ok count) left = (8 ≤ length input) × (has_magic input ≡ true)
    × (count ≡ count_in input) × (left ≡ Some (drop 8 input))
IsHeadRead input (Err errors.Form) left = (light_in input ≡ None)
    × (left ≡ Some (left_of_none input))
IsHeadRead input (Err errors.Fault) left = IsEndOf input left
IsHeadRead input (Err errors.Memory) left = IsEndOf input left
