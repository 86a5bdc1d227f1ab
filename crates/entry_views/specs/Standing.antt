-- What is in bytes from an offset on, and what reading it returns.
use Rattle.std.specs.Prelude.{◌≡◌, ℕ, ◌+◌, ◌-◌, ◌++◌, List, length, take, drop, Result, Ok, Err, IfOk, IfErr}
use Rattle.std.specs.List.{concat}
use Rattle.byte_fields.specs.Prefixes.{IsLongestPrefix}
use Rattle.byte_fields.specs.Reading.{Field}
use Rattle.entry_views.specs.declared.fault.FieldError.{FieldError}
use Rattle.entry_views.specs.Codecs.{Codec}
use Rattle.entry_views.specs.Placed.{Placed}

-- The bytes from the offset up to the end are the fields of this lawful value.
pub record StandsAt {A : Type 0} (fields : A → List (List ℕ)) (Is : A → Type 0) (bytes : List ℕ) (offset : ℕ) (value : A) (end : ℕ) : Type 0 where
  pub lawful : Is value
  pub stands : take (length (concat (fields value))) (drop offset bytes) ≡ concat (fields value)
  pub end_is : end ≡ offset + length (concat (fields value))

-- The first field from the offset on that is invalid begins here: where the longest prefix of the
-- bytes from the offset on ends that is whole fields of some lawful value.
pub record IsInvalidAt {A : Type 0} (fields : A → List (List ℕ)) (Is : A → Type 0) (bytes : List ℕ) (offset : ℕ) (fault : ℕ) : Type 0 where
  pub reach : ℕ
  pub longest : IsLongestPrefix fields Is (drop offset bytes) reach
  pub fault_is : fault ≡ offset + reach

-- What was read from the offset on, of `total` bytes from there: the value and where it ends, or
-- where the invalid field begins.
abbrev pub placed_value : {A : Type 0} → ℕ → ℕ → Field A → Result (Placed A) FieldError
placed_value offset total (Ok read) = Ok (record { value = read.0; end = offset + (total - length read.1) })
placed_value offset total (Err left) = Err (record { at = offset + (total - left) })

-- The result of reading the bytes from the offset on.
abbrev pub read_from : {A : Type 0} → (List ℕ → Field A) → List ℕ → ℕ → Result (Placed A) FieldError
read_from read bytes offset = placed_value offset (length (drop offset bytes)) (read (drop offset bytes))

-- The fields of a lawful value, whatever follows them, are those of no other.
abbrev pub Determines : {A : Type 0} → (A → List (List ℕ)) → (A → Type 0) → Type 0
Determines {A = A} fields Is = (value other : A) (rest more : List ℕ) → Is value → Is other → concat (fields value) ++ rest ≡ concat (fields other) ++ more → (value ≡ other) × (rest ≡ more)

-- What reading a value at the offset of the bytes returns: the value that is there, and nothing
-- else; or a fault at its offset; it is a function of the bytes and the offset.
pub record IsReadAt {A : Type 0} (codec : Codec A) (bytes : List ℕ) (offset : ℕ)
    (result : Result (Placed A) FieldError) : Type 0 where
  pub found : IfOk result (λ entry. StandsAt codec.fields codec.lawful bytes offset entry.value entry.end)
  pub only : (value : A) (end : ℕ) → StandsAt codec.fields codec.lawful bytes offset value end
      → result ≡ Ok (record { value = value; end = end })
  pub fault : IfErr result (λ error. IsInvalidAt codec.fields codec.lawful bytes offset error.at)
  pub exact : result ≡ read_from codec.read bytes offset
