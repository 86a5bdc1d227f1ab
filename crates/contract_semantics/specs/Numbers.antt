-- Numbers are whole numbers of 64 bits; a result out of their range is an error, and never wraps
-- around.
use Rattle.std.specs.Prelude.{zero, suc, ◌^◌, ℤ, pos, negsuc, int_div, int_rem, nat_lt, Bool, true, false, if◌then◌else◌, Result, Ok, Err}
use Rattle.lc_base.specs.declared.tx_status.TxStatus.{TxStatus}
use Rattle.lc_base.specs.declared.tx_status.TxStatus.TheVariants.{Overflow, DivZero}

-- Whether a number is from -2^63 to 2^63 - 1.
abbrev pub fits : ℤ → Bool
fits (pos n) = nat_lt n (2 ^ 63)
fits (negsuc n) = nat_lt n (2 ^ 63)

-- Whether a number is 0.
abbrev pub is_zero : ℤ → Bool
is_zero (pos zero) = true
is_zero (pos (suc n)) = false
is_zero (negsuc n) = false

-- The number, or Overflow if it is out of range.
abbrev pub in_range : ℤ → Result ℤ TxStatus
in_range z = if fits z then Ok z else Err Overflow

-- The quotient, truncated toward 0.
abbrev pub quotient : ℤ → ℤ → Result ℤ TxStatus
quotient a b = if is_zero b then Err DivZero else in_range (int_div a b)

-- The remainder, with the sign of the left side. The least number modulo -1 is an overflow, as its
-- quotient is.
abbrev pub remainder : ℤ → ℤ → Result ℤ TxStatus
remainder a b =
    if is_zero b then Err DivZero
    else (if fits (int_div a b) then Ok (int_rem a b) else Err Overflow)

-- 1 for true, 0 for false.
abbrev pub truth : Bool → ℤ
truth holds = if holds then pos 1 else pos 0
