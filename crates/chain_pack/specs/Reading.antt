-- What reading a part of a draft returns.
use Rattle.std.specs.Prelude.{◌≡◌, Option, Some, None, Result, Ok, Err, IfOk}
use Rattle.chain_pack.specs.declared.read_error.ReadError.{ReadError}
use Rattle.chain_pack.specs.declared.read_error.ReadError.TheVariants as errors

-- The value that was read is the one found, and `Shape` is reported exactly if none is. Out of
-- memory says nothing.
abbrev pub Reads : {A : Type 0} → Result A ReadError → Option A → Type 0
Reads (Ok value) found = found ≡ Some value
Reads (Err errors.Shape) found = found ≡ None
Reads (Err errors.Memory) found = Unit {0}

-- The same, and what is read is lawful.
pub record ReadsLawful {A : Type 0} (Is : A → Type 0) (result : Result A ReadError)
    (found : Option A) : Type 0 where
  pub read : Reads result found
  pub lawful : IfOk result Is
