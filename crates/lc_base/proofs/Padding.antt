-- The bytes that an array holds are its prefix.
use Rattle.std.proofs.Common.{◌≡◌, ◌-◌, ◌%◌, ◌≤◌, ℕ, List, length, take, replicate, refl, sym, ap, subst}
use Rattle.std.proofs.lemmas.List.{take_at}
use Rattle.lc_base.specs.Padding.{zero_padded, HasNoZero, IsPadded}

-- The first `length bytes` bytes of the array are the bytes.
pub padded_prefix_is : (width : ℕ) (bytes : List ℕ) → take (length bytes) (zero_padded width bytes) ≡ bytes
padded_prefix_is width bytes = take_at bytes (replicate (width - length bytes) 0) (length bytes) refl

pub is_padded : (width : ℕ) (bytes : List ℕ) → length bytes ≤ width → width % 8 ≡ 0 → HasNoZero bytes → IsPadded width (length bytes) (zero_padded width bytes)
is_padded width bytes short whole_words no_zero =
    record {
      short = short;
      whole_words = whole_words;
      no_zero = subst HasNoZero (sym (padded_prefix_is width bytes)) no_zero;
      padded = ap (zero_padded width) (sym (padded_prefix_is width bytes));
    }
