-- What `Key::new` returns.
use Rattle.std.specs.Prelude.{ℕ, ◌==◌, nat_lt, if◌then◌else◌, List, length, Option, Some, None, Result, Ok, Err}
use Rattle.lc_base.specs.KeyBytes.{bad_key_byte}
use Rattle.lc_base.specs.declared.key.KeyError.{KeyError}
use Rattle.lc_base.specs.declared.key.KeyError.TheVariants.{Empty, Long, Byte}
use Rattle.lc_base.specs.declared.name_limits.TheConstants.{MAX_KEY_BYTES}

-- The bytes, unless one of them is bad: `bad` makes the error of its offset.
abbrev pub all_good : {E : Type 0} → (ℕ → E) → List ℕ → Option ℕ → Result (List ℕ) E
all_good bad bytes None = Ok bytes
all_good bad bytes (Some offset) = Err (bad offset)

-- The key that the bytes are, or why they are none. The length is tested first.
abbrev pub key_of : List ℕ → Result (List ℕ) KeyError
key_of bytes =
    if length bytes == 0 then Err Empty
    else (if nat_lt MAX_KEY_BYTES (length bytes) then Err Long else all_good Byte bytes (bad_key_byte bytes))
