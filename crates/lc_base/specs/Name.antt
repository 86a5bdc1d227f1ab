-- What `Name::new` returns.
use Rattle.std.specs.Prelude.{ℕ, ◌==◌, nat_lt, if◌then◌else◌, List, length, Result, Err}
use Rattle.lc_base.specs.NameBytes.{bad_name_byte}
use Rattle.lc_base.specs.Key.{all_good}
use Rattle.lc_base.specs.declared.key.KeyError.{KeyError}
use Rattle.lc_base.specs.declared.key.KeyError.TheVariants.{Empty, Long, Byte}
use Rattle.lc_base.specs.declared.name_limits.TheConstants.{MAX_NAME_BYTES}

-- The name that the bytes are, or why they are none. The length is tested first.
abbrev pub name_of : List ℕ → Result (List ℕ) KeyError
name_of bytes =
    if length bytes == 0 then Err Empty
    else (if nat_lt MAX_NAME_BYTES (length bytes) then Err Long else all_good Byte bytes (bad_name_byte bytes))
