-- Names: 1 to 16 bytes of a-z 0-9 _, the first a letter.
use Rattle.std.specs.Prelude.{◌≡◌, ℕ, ◌<◌, ◌≤◌, Bool, true, ◌&&◌, ◌||◌, not, ◌==◌, nat_le, if◌then◌else◌, List, [], ◌∷◌, length, position, Option, Some, None}
use Rattle.lc_base.specs.declared.name_limits.TheConstants.{MAX_NAME_BYTES}

-- Whether the byte is a letter.
abbrev pub is_letter : ℕ → Bool
is_letter byte = nat_le 97 byte && nat_le byte 122

-- Whether a name may have this byte after its first.
abbrev pub is_name_byte : ℕ → Bool
is_name_byte byte = is_letter byte || nat_le 48 byte && nat_le byte 57 || byte == 95

-- Whether the first byte, if there is one, is a letter.
abbrev pub starts_with_letter : List ℕ → Bool
starts_with_letter [] = true
starts_with_letter (first ∷ others) = is_letter first

-- The offset of the first byte that a name may have at no place.
abbrev pub foreign_byte : List ℕ → Option ℕ
foreign_byte bytes = position (λ byte. not (is_name_byte byte)) bytes

-- The offset of the first byte that a name may not have at that place.
abbrev pub bad_name_byte : List ℕ → Option ℕ
bad_name_byte bytes = if starts_with_letter bytes then foreign_byte bytes else Some 0

-- These bytes are a name.
pub record IsName (bytes : List ℕ) : Type 0 where
  pub some : 0 < length bytes
  pub short : length bytes ≤ MAX_NAME_BYTES
  pub good : bad_name_byte bytes ≡ None
