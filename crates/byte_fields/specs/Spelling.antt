-- How keys, names, texts, other strings and values are spelled, each as a list of fields. A field
-- is read whole or is invalid.
use Rattle.std.specs.Prelude.{ℕ, ℤ, ◌<◌, ◌≤◌, ◌≡◌, List, [], ◌∷◌, ◌++◌, length, slice_index, Result, OnOk}
use Rattle.std.specs.List.{concat, flat_map, AllByRecursion}
use Rattle.std.specs.Int.{w16, w64, to_be_bytes, cast_unsigned}
use Rattle.std.specs.Int.RustNames.{FitsSigned}
use Rattle.lc_base.specs.TextBytes.{IsText}
use Rattle.lc_base.specs.declared.value.Value.{Value}
use Rattle.lc_base.specs.declared.value.Value.TheVariants.{Int, Text, Gone}

-- Bytes: each number is below 256.
abbrev pub IsBytes : List ℕ → Type 0
IsBytes bytes = (i : ℕ) → slice_index bytes i < 256

-- A string: its length in two bytes, the more significant first, then its bytes.
abbrev pub string_fields : List ℕ → List (List ℕ)
string_fields bytes = to_be_bytes w16 (length bytes) ∷ bytes ∷ []

-- An int in two's complement: eight bytes, the most significant first.
abbrev pub int_bytes : ℤ → List ℕ
int_bytes number = to_be_bytes w64 (cast_unsigned w64 number)

-- A value: the byte 0 and an int, the byte 1 and a text, or the byte 2 alone, which means gone.
abbrev pub value_fields : Value → List (List ℕ)
value_fields (Int number) = (0 ∷ []) ∷ int_bytes number ∷ []
value_fields (Text text) = (1 ∷ []) ∷ string_fields text
value_fields Gone = (2 ∷ []) ∷ []

-- What a value may be: an int of 64 bits, a text, or gone.
abbrev pub IsValue : Value → Type 0
IsValue (Int number) = FitsSigned w64 number
IsValue (Text text) = IsText text
IsValue Gone = Unit {0}

-- What a value in a block may be: an int of 64 bits, or a text of at most `most` bytes. No block
-- has a value that is gone.
abbrev pub IsBlockValue : ℕ → Value → Type 0
IsBlockValue most (Int number) = FitsSigned w64 number
IsBlockValue most (Text text) = IsText text × (length text ≤ most)
IsBlockValue most Gone = ⊥

-- The fields of a lawful value are appended. After an error, a part of them may have been appended.
pub record Puts {T E : Type 0} (fields : List (List ℕ)) (Is : Type 0) (old new : List ℕ)
    (result : Result T E) : Type 0 where
  pub written : OnOk result (new ≡ old ++ concat fields)
  pub lawful : OnOk result Is

-- The same for the fields of a list of values, one value after another.
abbrev pub PutsAll : {A T E : Type 0} → (A → List (List ℕ)) → (A → Type 0) → List A
    → List ℕ → List ℕ → Result T E → Type 0
PutsAll fields Is values old new result =
    Puts (flat_map fields values) (AllByRecursion Is values) old new result
