-- Reading fields from left to right, up to the first that is cut short or breaks its rule.
use Rattle.std.specs.Prelude.{ℕ, zero, suc, ℤ, Bool, nat_lt, nat_le, ◌==◌, ◌&&◌, is_none, if◌then◌else◌, List, [], ◌∷◌, length, take, drop, Option, Some, None, Result, Ok, Err}
use Rattle.std.specs.Int.{Width, w16, w64, byte_len, from_be_bytes, cast_signed}
use Rattle.lc_base.specs.KeyBytes.{bad_key_byte}
use Rattle.lc_base.specs.NameBytes.{bad_name_byte}
use Rattle.lc_base.specs.TextBytes.{bad_text_byte}
use Rattle.lc_base.specs.declared.name_limits.TheConstants.{MAX_KEY_BYTES, MAX_NAME_BYTES}
use Rattle.lc_base.specs.declared.limits.TheConstants.{MAX_TEXT_BYTES}
use Rattle.lc_base.specs.declared.value.Value.{Value}
use Rattle.lc_base.specs.declared.value.Value.TheVariants.{Int, Text, Gone}

-- What is read at the start of some bytes: a value and the bytes after it, or how many bytes are
-- left from the invalid field on.
abbrev pub Field : Type 0 → Type 0
Field A = Result (A × List ℕ) ℕ

infixl 10 ◌>>=◌
-- What is read, then what the function reads after it.
abbrev pub ◌>>=◌ : {A B : Type 0} → Field A → (A × List ℕ → Field B) → Field B
(Ok x) >>= f = f x
(Err left) >>= f = Err left

-- ---- how fields are put together

-- One field, then the field that its value selects.
abbrev pub bind_at : {A B : Type 0} → (List ℕ → Field A) → (A → List ℕ → Field B) → List ℕ → Field B
bind_at first second bytes = do
  a ← first bytes
  second a.0 a.1

-- Reads nothing, and returns this value.
abbrev pub ret_at : {A : Type 0} → A → List ℕ → Field A
ret_at x bytes = Ok (x, bytes)

-- One field after another.
abbrev pub then_at : {A B : Type 0} → (List ℕ → Field A) → (List ℕ → Field B) → List ℕ → Field (A × B)
then_at first second = bind_at first (λ a. bind_at second (λ b. ret_at (a, b)))

-- A field whose value is made from what is read.
abbrev pub made_at : {A B : Type 0} → (A → B) → (List ℕ → Field A) → List ℕ → Field B
made_at make read = bind_at read (λ a. ret_at (make a))

-- A field with a rule: if its value breaks the rule, the field is invalid.
abbrev pub ruled_at : {A : Type 0} → (A → Bool) → (List ℕ → Field A) → List ℕ → Field A
ruled_at rule read bytes = do
  a ← read bytes
  if rule a.0 then Ok a else Err (length bytes)

-- A given number of items, one after another.
unfoldable pub items_at : {A : Type 0} → (List ℕ → Field A) → ℕ → List ℕ → Field (List A)
items_at item zero bytes = Ok ([], bytes)
items_at item (suc n) bytes = do
  first ← item bytes
  others ← items_at item n first.1
  Ok (first.0 ∷ others.0, others.1)

-- All of the bytes: what is read, unless trailing bytes follow.
abbrev pub all_read : {A : Type 0} → Field A → Result A ℕ
all_read (Ok read) = if length read.1 == 0 then Ok read.0 else Err (length read.1)
all_read (Err left) = Err left

-- ---- the fields themselves

-- A number, the most significant byte first.
unfoldable pub number_at : Width → List ℕ → Field ℕ
number_at w bytes = if nat_lt (length bytes) (byte_len w) then Err (length bytes) else Ok (from_be_bytes w (take (byte_len w) bytes), drop (byte_len w) bytes)

-- One byte.
unfoldable pub byte_at : List ℕ → Field ℕ
byte_at [] = Err 0
byte_at (byte ∷ rest) = Ok (byte, rest)

-- A given number of bytes.
unfoldable pub bytes_at : ℕ → List ℕ → Field (List ℕ)
bytes_at n bytes = if nat_lt (length bytes) n then Err (length bytes) else Ok (take n bytes, drop n bytes)

-- A string of `low` to `high` bytes, none of them bad: its length in two bytes, then its bytes.
unfoldable pub string_at : ℕ → ℕ → (List ℕ → Option ℕ) → List ℕ → Field (List ℕ)
string_at low high bad = bind_at (ruled_at (λ n. nat_le low n && nat_le n high) (number_at w16)) (λ n. ruled_at (λ bytes. is_none (bad bytes)) (bytes_at n))

-- A key.
unfoldable pub key_at : List ℕ → Field (List ℕ)
key_at = string_at 1 MAX_KEY_BYTES bad_key_byte

-- The key that bytes are, or `None` if there are no bytes.
abbrev pub key_unless_empty : List ℕ → Option (List ℕ)
key_unless_empty [] = None
key_unless_empty (byte ∷ bytes) = Some (byte ∷ bytes)

-- A key, or `None`, which is spelled as the empty string.
unfoldable pub key_or_empty_at : List ℕ → Field (Option (List ℕ))
key_or_empty_at = made_at key_unless_empty (string_at 0 MAX_KEY_BYTES bad_key_byte)

-- A name.
unfoldable pub name_at : List ℕ → Field (List ℕ)
name_at = string_at 1 MAX_NAME_BYTES bad_name_byte

-- A string of at most `greatest` bytes of any value: its length in two bytes, then its bytes.
unfoldable pub any_bytes_at : ℕ → List ℕ → Field (List ℕ)
any_bytes_at greatest = bind_at (ruled_at (λ n. nat_le n greatest) (number_at w16)) bytes_at

-- A text of at most `most` bytes.
unfoldable pub text_at : ℕ → List ℕ → Field (List ℕ)
text_at most = string_at 0 most bad_text_byte

-- An int in two's complement.
unfoldable pub int_at : List ℕ → Field ℤ
int_at = made_at (cast_signed w64) (number_at w64)

-- The field that follows a value's tag; a text has at most `most` bytes. Nothing follows the tag 2.
abbrev pub tagged_at : ℕ → ℕ → List ℕ → Field Value
tagged_at most zero = made_at Int int_at
tagged_at most (suc zero) = made_at Text (text_at most)
tagged_at most (suc (suc tag)) = ret_at Gone

-- A value: its tag, one of the first `tags`, then the field that the tag selects.
abbrev pub value_below_at : ℕ → ℕ → List ℕ → Field Value
value_below_at tags most = bind_at (ruled_at (λ tag. nat_lt tag tags) byte_at) (tagged_at most)

-- A value in a block: an int, or a text of at most `most` bytes.
unfoldable pub value_at : ℕ → List ℕ → Field Value
value_at most = value_below_at 2 most

-- A value in a body: an int, a text, or gone.
unfoldable pub body_value_at : List ℕ → Field Value
body_value_at = value_below_at 3 MAX_TEXT_BYTES
