-- What `Text::new` returns.
use Rattle.std.specs.Prelude.{◌≡◌, ℕ, ◌+◌, ◌<◌, ◌≤◌, nat_lt, if◌then◌else◌, List, ◌++◌, length, Option, Some, None, Result, Ok, Err}
use Rattle.lc_base.specs.TextBytes.{bad_text_byte, IsText}
use Rattle.lc_base.specs.declared.limits.TheConstants.{MAX_JOINED_BYTES, MAX_TEXT_BYTES}
use Rattle.lc_base.specs.declared.text.TextError.{TextError}
use Rattle.lc_base.specs.declared.text.TextError.TheVariants.{Long, Byte, Memory}

-- The text that the bytes are, or why they are none. The length is tested first, and memory can run
-- out only if the bytes are a text.
abbrev pub IsTextOf : List ℕ → Result (List ℕ) TextError → Type 0
IsTextOf bytes (Ok text) = IsText bytes × (text ≡ bytes)
IsTextOf bytes (Err Long) = MAX_TEXT_BYTES < length bytes
IsTextOf bytes (Err (Byte offset)) = (length bytes ≤ MAX_TEXT_BYTES) × (bad_text_byte bytes ≡ Some offset)
IsTextOf bytes (Err Memory) = IsText bytes

-- Two texts as one, or `None` if that has more than MAX_JOINED_BYTES.
abbrev pub joined_text : List ℕ → List ℕ → Option (List ℕ)
joined_text a b = if nat_lt MAX_JOINED_BYTES (length a + length b) then None else Some (a ++ b)
