-- Keys: 1 to 64 bytes of a-z 0-9 . / _ -
use Rattle.std.specs.Prelude.{◌≡◌, ℕ, ◌<◌, ◌≤◌, Bool, ◌&&◌, ◌||◌, not, ◌==◌, nat_le, List, length, position, Option, None}
use Rattle.lc_base.specs.declared.name_limits.TheConstants.{MAX_KEY_BYTES}

-- Whether a key may have this byte.
abbrev pub is_key_byte : ℕ → Bool
is_key_byte byte =
    nat_le 97 byte && nat_le byte 122 || nat_le 48 byte && nat_le byte 57
    || byte == 46 || byte == 47 || byte == 95 || byte == 45

-- The offset of the first byte that a key may not have.
abbrev pub bad_key_byte : List ℕ → Option ℕ
bad_key_byte bytes = position (λ byte. not (is_key_byte byte)) bytes

-- These bytes are a key.
pub record IsKey (bytes : List ℕ) : Type 0 where
  pub some : 0 < length bytes
  pub short : length bytes ≤ MAX_KEY_BYTES
  pub good : bad_key_byte bytes ≡ None
