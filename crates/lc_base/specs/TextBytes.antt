-- Texts: at most MAX_TEXT_BYTES bytes, each from 0x20 to 0x7E.
use Rattle.std.specs.Prelude.{◌≡◌, ℕ, ◌≤◌, Bool, ◌&&◌, not, nat_le, List, length, position, Option, None}
use Rattle.lc_base.specs.declared.limits.TheConstants.{MAX_TEXT_BYTES}

-- Whether a text may have this byte.
abbrev pub is_text_byte : ℕ → Bool
is_text_byte byte = nat_le 32 byte && nat_le byte 126

-- The offset of the first byte that a text may not have.
abbrev pub bad_text_byte : List ℕ → Option ℕ
bad_text_byte bytes = position (λ byte. not (is_text_byte byte)) bytes

-- These bytes are a text.
pub record IsText (bytes : List ℕ) : Type 0 where
  pub short : length bytes ≤ MAX_TEXT_BYTES
  pub good : bad_text_byte bytes ≡ None
