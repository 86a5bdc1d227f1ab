-- Keys, names, other strings, texts, ints and values are fields: reading and spelling agree on
-- them.
use Rattle.std.proofs.Common.{◌≡◌, ℕ, zero, suc, ℤ, ◌^◌, ◌<◌, ◌≤◌, Bool, true, false, not, ◌&&◌, List, [], ◌∷◌, length, replicate, Option, Some, None, refl, sym, ap, subst, ◌∙◌, arith}
use Rattle.std.specs.Prelude.{position, is_none, nat_le, nat_lt}
use Rattle.std.specs.List.{position_or_len}
use Rattle.std.specs.Int.{w64, cast_signed, cast_unsigned}
use Rattle.std.specs.Int.RustNames.{FitsSigned}
use Rattle.std.proofs.lemmas.Bool.{leb-true, le-leb, le-ltb, lt-ltb, and_parts, and_from, ltb-true}
use Rattle.std.proofs.lemmas.List.{length-replicate, get_or-replicate}
use Rattle.std.proofs.lemmas.List.Sums.{position_or_len_is}
use borrow.Author.Gap.{read_sfits}
use Rattle.std.proofs.lemmas.Int.{of_z-to_z, to_z-of_z}
use Rattle.std.proofs.Math.Facts.{Fits-of_z}
use Rattle.lc_base.specs.declared.name_limits.TheConstants.{MAX_KEY_BYTES, MAX_NAME_BYTES}
use Rattle.lc_base.specs.declared.limits.TheConstants.{MAX_TEXT_BYTES}
use Rattle.lc_base.specs.KeyBytes.{IsKey, is_key_byte, bad_key_byte}
use Rattle.lc_base.specs.NameBytes.{IsName, is_name_byte, bad_name_byte}
use Rattle.lc_base.specs.TextBytes.{IsText, is_text_byte, bad_text_byte}
use Rattle.lc_base.specs.declared.value.Value.{Value}
use Rattle.lc_base.specs.declared.value.Value.TheVariants.{Int, Text, Gone}
use Rattle.byte_fields.specs.Spelling.{
  string_fields,
  int_bytes,
  value_fields,
  IsValue,
  IsBlockValue,
}
use Rattle.byte_fields.specs.Reading.{
  string_at,
  key_at,
  name_at,
  any_bytes_at,
  text_at,
  int_at,
  tagged_at,
  value_below_at,
  value_at,
  body_value_at,
}
use Rattle.byte_fields.proofs.Laws.{IsField, renamed, ret_field, bind_field, made_field}
use Rattle.byte_fields.proofs.Pieces.{piece_field, ruled_piece, number_piece, byte_piece, bytes_piece, wide16, wide64}

-- ---- strings

-- none of the bytes is bad
abbrev IsGood : (List ℕ → Option ℕ) → List ℕ → Type 0
IsGood bad bytes = is_none (bad bytes) ≡ true

is_none-true : {A : Type 0} (o : Option A) → is_none o ≡ true → o ≡ None
is_none-true None e = refl
is_none-true (Some x) e = absurd cc

-- from `fewest` to `greatest` bytes, none of them bad
pub record IsString (fewest greatest : ℕ) (bad : List ℕ → Option ℕ) (bytes : List ℕ) : Type 0 where
  pub long : fewest ≤ length bytes
  pub short : length bytes ≤ greatest
  pub good : bad bytes ≡ None

pub string_field : (low high : ℕ) (bad : List ℕ → Option ℕ) → low ≤ high → high < 2 ^ 16 → ((n : ℕ) → bad (replicate n 97) ≡ None) → IsField (string_at low high bad) string_fields (IsString low high bad)
unfolding string_at
string_field low high bad in_order short good =
    let rule = λ (n : ℕ). nat_le low n && nat_le n high in
    let passes = λ (n : ℕ) (ge : low ≤ n) (le : n ≤ high). and_from (nat_le low n) (nat_le n high) (le-leb low n ge) (le-leb n high le) in
    let number = ruled_piece (number_piece wide16) rule (record { value = low; is = (omega arith, passes low (omega arith) in_order) }) in
    let bytes = λ (n : ℕ) (is : (n < 2 ^ 16) × (rule n ≡ true)). piece_field (ruled_piece (bytes_piece n) (λ bytes. is_none (bad bytes)) (record { value = replicate n 97; is = (length-replicate {A = ℕ} n 97, ap is_none (good n)) })) in
    renamed (bind_field {Is_b = λ n bytes. (length bytes ≡ n) × IsGood bad bytes} length (piece_field number) bytes (λ n bytes is_n is_bytes. is_bytes.0))
    (λ bytes is. let p = and_parts (nat_le low (length bytes)) (nat_le (length bytes) high) is.0.1 in record { long = leb-true _ _ p.0; short = leb-true _ _ p.1; good = is_none-true (bad bytes) is.1.1 })
    (λ bytes is. ((omega (arith, is.short), passes (length bytes) is.long is.short), (refl, ap is_none is.good)))
    (λ bytes is. refl)

-- if the letter a is good, a string of them is
letters_good : (p : ℕ → Bool) → p 97 ≡ false → (n : ℕ) → position p (replicate n 97) ≡ None
letters_good p good n =
    let letters : List ℕ = replicate n 97 in
    let whole : position_or_len p letters ≡ length letters = position_or_len_is p letters (length letters) 0 (omega arith) (λ k lt. ap p (get_or-replicate n k 97 0 (omega (arith, lt, length-replicate {A = ℕ} n 97))) ∙ good) (λ lt. absurd (omega arith)) in
    rw (whole, le-ltb (length letters) (length letters) (omega arith)) refl

key_good : (n : ℕ) → bad_key_byte (replicate n 97) ≡ None
key_good = letters_good (λ byte. not (is_key_byte byte)) refl

pub key_field : IsField key_at string_fields IsKey
unfolding key_at
key_field = renamed (string_field 1 MAX_KEY_BYTES bad_key_byte (omega arith) (omega arith) key_good)
    (λ bytes is. record { some = is.long; short = is.short; good = is.good }) (λ bytes is. record { long = is.some; short = is.short; good = is.good }) (λ bytes is. refl)

-- a key, or the empty string
pub key_or_none_field : IsField (string_at 0 MAX_KEY_BYTES bad_key_byte) string_fields (IsString 0 MAX_KEY_BYTES bad_key_byte)
key_or_none_field = string_field 0 MAX_KEY_BYTES bad_key_byte (omega arith) (omega arith) key_good

name_good : (n : ℕ) → bad_name_byte (replicate n 97) ≡ None
name_good zero = refl
name_good (suc n) = letters_good (λ byte. not (is_name_byte byte)) refl (suc n)

pub name_field : IsField name_at string_fields IsName
unfolding name_at
name_field = renamed (string_field 1 MAX_NAME_BYTES bad_name_byte (omega arith) (omega arith) name_good)
    (λ bytes is. record { some = is.long; short = is.short; good = is.good }) (λ bytes is. record { long = is.some; short = is.short; good = is.good }) (λ bytes is. refl)

pub any_bytes_field : (greatest : ℕ) → greatest < 2 ^ 16 → IsField (any_bytes_at greatest) string_fields (λ bytes. length bytes ≤ greatest)
unfolding any_bytes_at
any_bytes_field greatest short =
    let number = ruled_piece (number_piece wide16) (λ n. nat_le n greatest) (record { value = 0; is = (omega arith, le-leb 0 greatest (omega arith)) }) in
    renamed (bind_field {Is_b = λ n bytes. length bytes ≡ n} length (piece_field number) (λ n is. piece_field (bytes_piece n)) (λ n bytes is_n is_bytes. is_bytes))
    (λ bytes is. leb-true _ _ is.0.1) (λ bytes is. ((omega (arith, short, is), le-leb _ _ is), refl)) (λ bytes is. refl)

-- a text of at most so many bytes
abbrev IsTextWithin : ℕ → List ℕ → Type 0
IsTextWithin most text = IsText text × (length text ≤ most)

pub text_field : (most : ℕ) → most ≤ MAX_TEXT_BYTES
    → IsField (text_at most) string_fields (IsTextWithin most)
unfolding text_at
text_field most few =
    let good = letters_good (λ byte. not (is_text_byte byte)) refl in
    renamed (string_field 0 most bad_text_byte (omega arith) (omega (arith, few)) good)
    (λ bytes is. (record { short = omega (arith, is.short, few); good = is.good }, is.short))
    (λ bytes is. record { long = omega arith; short = is.1; good = is.0.good })
    (λ bytes is. refl)

-- ---- values

pub int_field : IsField int_at (λ n. int_bytes n ∷ []) (FitsSigned w64)
unfolding int_at
int_field = renamed (made_field (cast_signed w64) (cast_unsigned w64) (piece_field (number_piece wide64)) (λ n lt. of_z-to_z w64 n lt))
    (λ z is. subst (FitsSigned w64) (sym is.1) (read_sfits w64 (cast_unsigned w64 z))) (λ z is. ((Fits-of_z {w = w64} {z = z} is).fits, sym (to_z-of_z w64 z is))) (λ z is. refl)

abbrev tag_of : Value → ℕ
tag_of (Int n) = 0
tag_of (Text t) = 1
tag_of Gone = 2

-- what a value may be whose text has at most so many bytes
abbrev IsPart : ℕ → Value → Type 0
IsPart most (Int n) = FitsSigned w64 n
IsPart most (Text t) = IsTextWithin most t
IsPart most Gone = Unit {0}

-- a value of this tag
abbrev HasTag : ℕ → ℕ → Value → Type 0
HasTag most tag v = (tag_of v ≡ tag) × IsPart most v

-- what follows its tag
abbrev after_tag : Value → List (List ℕ)
after_tag (Int n) = int_bytes n ∷ []
after_tag (Text t) = string_fields t
after_tag Gone = []

-- the tag, and what follows it
abbrev tag_fields : Value → List (List ℕ)
tag_fields v = (tag_of v ∷ []) ∷ after_tag v

-- one of the first tags
abbrev IsTag : ℕ → ℕ → Type 0
IsTag tags tag = (tag < 256) × (nat_lt tag tags ≡ true)

-- a value of one of these tags
abbrev IsTagged : ℕ → ℕ → Value → Type 0
IsTagged most tags v = IsTag tags (tag_of v) × HasTag most (tag_of v) v

abbrev int_part : Value → ℤ
int_part (Int n) = n
int_part (Text t) = cast_signed w64 0
int_part Gone = cast_signed w64 0

abbrev text_part : Value → List ℕ
text_part (Int n) = []
text_part (Text t) = t
text_part Gone = []

module _ (most : ℕ) (few : most ≤ MAX_TEXT_BYTES) where
  abbrev IsIntPart : Value → Type 0
  IsIntPart v = FitsSigned w64 (int_part v) × (v ≡ Int (int_part v))

  is_int : (v : Value) → IsIntPart v → HasTag most 0 v
  is_int (Int n) is = (refl, is.0)
  is_int (Text t) is = absurd cc
  is_int Gone is = absurd cc

  int_is : (v : Value) → HasTag most 0 v → IsIntPart v
  int_is (Int n) is = (is.1, refl)
  int_is (Text t) is = absurd cc
  int_is Gone is = absurd cc

  same_int : (v : Value) → IsIntPart v → int_bytes (int_part v) ∷ [] ≡ after_tag v
  same_int (Int n) is = refl
  same_int (Text t) is = absurd cc
  same_int Gone is = absurd cc

  abbrev IsTextPart : Value → Type 0
  IsTextPart v = IsTextWithin most (text_part v) × (v ≡ Text (text_part v))

  is_text : (v : Value) → IsTextPart v → HasTag most 1 v
  is_text (Int n) is = absurd cc
  is_text (Text t) is = (refl, is.0)
  is_text Gone is = absurd cc

  text_is : (v : Value) → HasTag most 1 v → IsTextPart v
  text_is (Int n) is = absurd cc
  text_is (Text t) is = (is.1, refl)
  text_is Gone is = absurd cc

  same_text : (v : Value) → IsTextPart v → string_fields (text_part v) ≡ after_tag v
  same_text (Int n) is = absurd cc
  same_text (Text t) is = refl
  same_text Gone is = absurd cc

  gone_is : (v : Value) → HasTag most 2 v → v ≡ Gone
  gone_is (Int n) is = absurd cc
  gone_is (Text t) is = absurd cc
  gone_is Gone is = refl

  same_gone : (v : Value) → v ≡ Gone → [] ≡ after_tag v
  same_gone v is = sym (ap after_tag is)

  module _ (tags : ℕ) (three : tags ≤ 3) where
    tagged_field : (tag : ℕ) → IsTag tags tag
        → IsField (tagged_at most tag) after_tag (HasTag most tag)
    tagged_field zero is =
        renamed (made_field Int int_part int_field (λ n fits. refl)) is_int int_is same_int
    tagged_field (suc zero) is =
        let text = made_field Text text_part (text_field most few) (λ t is_t. refl) in
        renamed text is_text text_is same_text
    tagged_field (suc (suc zero)) is =
        renamed (ret_field Gone) (λ v is. subst (HasTag most 2) (sym is) (refl, tt)) gone_is same_gone
    tagged_field (suc (suc (suc tag))) is =
        let lt : suc (suc (suc tag)) < tags = ltb-true _ _ is.1 in absurd (omega (arith, lt, three))

    value_below_field : 0 < tags
        → IsField (value_below_at tags most) tag_fields (IsTagged most tags)
    value_below_field some =
        let tag = ruled_piece byte_piece (λ tag. nat_lt tag tags)
        (record { value = 0; is = (omega arith, lt-ltb 0 tags some) }) in
        bind_field {Is_b = HasTag most} tag_of (piece_field tag) tagged_field
        (λ tag v is is_v. is_v.0)

same_values : (v : Value) → tag_fields v ≡ value_fields v
same_values (Int n) = refl
same_values (Text t) = refl
same_values Gone = refl

-- a value in a block
module _ (most : ℕ) where
  are_block_values : (v : Value) → IsTagged most 2 v → IsBlockValue most v
  are_block_values (Int n) is = is.1.1
  are_block_values (Text t) is = is.1.1
  are_block_values Gone is = absurd (cc is.0.1)

  block_values_are : (v : Value) → IsBlockValue most v → IsTagged most 2 v
  block_values_are (Int n) is = ((omega arith, refl), (refl, is))
  block_values_are (Text t) is = ((omega arith, refl), (refl, is))
  block_values_are Gone is = absurd is

pub value_field : (most : ℕ) → most ≤ MAX_TEXT_BYTES
    → IsField (value_at most) value_fields (IsBlockValue most)
unfolding value_at
value_field most few =
    renamed (value_below_field most few 2 (omega arith) (omega arith))
    (are_block_values most) (block_values_are most) (λ v is. same_values v)

-- a value in a body
are_values : (v : Value) → IsTagged MAX_TEXT_BYTES 3 v → IsValue v
are_values (Int n) is = is.1.1
are_values (Text t) is = is.1.1.0
are_values Gone is = tt

values_are : (v : Value) → IsValue v → IsTagged MAX_TEXT_BYTES 3 v
values_are (Int n) is = ((omega arith, refl), (refl, is))
values_are (Text t) is = ((omega arith, refl), (refl, (is, is.short)))
values_are Gone is = ((omega arith, refl), (refl, tt))

pub body_value_field : IsField body_value_at value_fields IsValue
unfolding body_value_at
body_value_field =
    renamed (value_below_field MAX_TEXT_BYTES (omega arith) 3 (omega arith) (omega arith))
    are_values values_are (λ v is. same_values v)

-- ---- values of blocks are values

pub block_value_is : (most : ℕ) (v : Value) → IsBlockValue most v → IsValue v
block_value_is most (Int n) is = is
block_value_is most (Text t) is = is.0
block_value_is most Gone is = absurd is
