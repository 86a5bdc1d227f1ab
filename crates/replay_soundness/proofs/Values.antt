-- What operators return for values is a value.
use Rattle.std.proofs.Common.{◌≡◌, ℕ, zero, suc, ℤ, negsuc, pos, ◌<◌, ◌≤◌, ◌+◌, ◌^◌, Bool, true, false, List, ◌++◌, length, Some, None, Result, Ok, Err, refl, int_div, int_rem, ◌+ℤ◌, ◌-ℤ◌, ◌*ℤ◌, neg_ℤ, if◌then◌else◌, arith, true≢false}
use Rattle.std.specs.Prelude.{IfOk, IfSome, nat_lt}
use Rattle.std.specs.Int.{w64}
use Rattle.std.specs.Int.RustNames.{FitsSigned, unsigned_abs}
use Rattle.std.proofs.lemmas.Bool.Decides.{nat_tests}
use Rattle.std.proofs.lemmas.Int.{rem_below, fits_signed_from_abs}
use Rattle.lc_base.specs.TextBytes.{IsText}
use Rattle.lc_base.proofs.TextBytes.{joined_is_text}
use Rattle.lc_base.specs.declared.limits.TheConstants.{MAX_JOINED_BYTES}
use Rattle.lc_base.specs.declared.value.Value.{Value}
use Rattle.lc_base.specs.declared.value.Value.TheVariants as values
use Rattle.lc_base.specs.declared.tx_status.TxStatus.{TxStatus}
use Rattle.lc_base.specs.declared.tx_status.TxStatus.TheVariants as statuses
use Rattle.byte_fields.specs.Spelling.{IsValue}
use Rattle.contract_tree.specs.declared.tree.Sign.{Sign}
use Rattle.contract_tree.specs.declared.tree.Sign.TheVariants as signs
use Rattle.contract_semantics.specs.Numbers.{fits, is_zero, in_range, quotient, remainder, truth}
use Rattle.contract_semantics.specs.Operators.{as_int, as_text, on_ints, on_texts, binary_result, prefix_result, left_decision}

-- ---- numbers

pub small_fits : (n : ℕ) → n < 2 ^ 63 → FitsSigned w64 (pos n)
small_fits n h = record { sfits = h }

fits_by : (z : ℤ) → fits z ≡ true → FitsSigned w64 z
fits_by (pos n) h = record { sfits = grind (arith, nat_tests) }
fits_by (negsuc n) h = record { sfits = grind (arith, nat_tests) }

pub truth_fits : (b : Bool) → FitsSigned w64 (truth b)
truth_fits true = record { sfits = omega arith }
truth_fits false = record { sfits = omega arith }

range_by : (b : Bool) (z : ℤ) → (b ≡ true → FitsSigned w64 z) → IfOk (if b then Ok z else Err statuses.Overflow) (FitsSigned w64)
range_by true z h = h refl
range_by false z h = tt

range_typed : (z : ℤ) → IfOk (in_range z) (FitsSigned w64)
range_typed z = range_by (fits z) z (fits_by z)

quotient_by : (b : Bool) (z : ℤ) → IfOk (if b then Err statuses.DivZero else in_range z) (FitsSigned w64)
quotient_by true z = tt
quotient_by false z = range_typed z

not_zero : (b : ℤ) → is_zero b ≡ false → 0 < unsigned_abs b
not_zero (pos zero) h = absurd (true≢false h)
not_zero (pos (suc n)) h = omega arith
not_zero (negsuc n) h = omega arith

abs_small : (b : ℤ) → FitsSigned w64 b → unsigned_abs b ≤ 2 ^ 63
abs_small (pos n) h = omega (arith, h.sfits)
abs_small (negsuc n) h = omega (arith, h.sfits)

rem_typed : (a b : ℤ) → FitsSigned w64 b → is_zero b ≡ false → FitsSigned w64 (int_rem a b)
rem_typed a b h z = fits_signed_from_abs w64 (int_rem a b) (omega (arith, rem_below a b (not_zero b z), abs_small b h))

remainder_by : (zero_b fits_q : Bool) (z : ℤ) → (zero_b ≡ false → FitsSigned w64 z) → IfOk (if zero_b then Err statuses.DivZero else (if fits_q then Ok z else Err statuses.Overflow)) (FitsSigned w64)
remainder_by true q z h = tt
remainder_by false true z h = h refl
remainder_by false false z h = tt

int_typed : (r : Result ℤ TxStatus) → IfOk r (FitsSigned w64) → IfOk (as_int r) IsValue
int_typed (Ok z) h = h
int_typed (Err status) h = tt

-- ---- texts

joined_by : (b : Bool) (x y : List ℕ) → nat_lt MAX_JOINED_BYTES (length x + length y) ≡ b → IsText x → IsText y → IfOk (as_text (if b then None else Some (x ++ y))) IsValue
joined_by true x y e h k = tt
joined_by false x y e h k = joined_is_text x y h k (grind (arith, nat_tests))

-- ---- operators

ints_typed : (sign : Sign) (a b : ℤ) → FitsSigned w64 b → IfOk (on_ints sign a b) IsValue
ints_typed signs.Or a b h = truth_fits _
ints_typed signs.And a b h = truth_fits _
ints_typed signs.Equal a b h = truth_fits _
ints_typed signs.NotEqual a b h = truth_fits _
ints_typed signs.Less a b h = truth_fits _
ints_typed signs.LessEqual a b h = truth_fits _
ints_typed signs.Greater a b h = truth_fits _
ints_typed signs.GreaterEqual a b h = truth_fits _
ints_typed signs.Concat a b h = tt
ints_typed signs.Plus a b h = int_typed (in_range (a +ℤ b)) (range_typed (a +ℤ b))
ints_typed signs.Minus a b h = int_typed (in_range (a -ℤ b)) (range_typed (a -ℤ b))
ints_typed signs.Star a b h = int_typed (in_range (a *ℤ b)) (range_typed (a *ℤ b))
ints_typed signs.Slash a b h = int_typed (quotient a b) (quotient_by (is_zero b) (int_div a b))
ints_typed signs.Percent a b h = int_typed (remainder a b) (remainder_by (is_zero b) (fits (int_div a b)) (int_rem a b) (rem_typed a b h))
ints_typed signs.Not a b h = tt

texts_typed : (sign : Sign) (a b : List ℕ) → IsText a → IsText b → IfOk (on_texts sign a b) IsValue
texts_typed signs.Or a b h k = tt
texts_typed signs.And a b h k = tt
texts_typed signs.Equal a b h k = truth_fits _
texts_typed signs.NotEqual a b h k = truth_fits _
texts_typed signs.Less a b h k = tt
texts_typed signs.LessEqual a b h k = tt
texts_typed signs.Greater a b h k = tt
texts_typed signs.GreaterEqual a b h k = tt
texts_typed signs.Concat a b h k = joined_by (nat_lt MAX_JOINED_BYTES (length a + length b)) a b refl h k
texts_typed signs.Plus a b h k = tt
texts_typed signs.Minus a b h k = tt
texts_typed signs.Star a b h k = tt
texts_typed signs.Slash a b h k = tt
texts_typed signs.Percent a b h k = tt
texts_typed signs.Not a b h k = tt

pub combined_typed : (sign : Sign) (a b : Value) → IsValue a → IsValue b → IfOk (binary_result sign a b) IsValue
combined_typed sign (values.Int a) (values.Int b) h k = ints_typed sign a b k
combined_typed sign (values.Text a) (values.Text b) h k = texts_typed sign a b h k
combined_typed sign (values.Int a) (values.Text b) h k = tt
combined_typed sign (values.Text a) (values.Int b) h k = tt
combined_typed sign (values.Int a) values.Gone h k = tt
combined_typed sign (values.Text a) values.Gone h k = tt
combined_typed sign values.Gone b h k = tt

pub prefixed_typed : (sign : Sign) (value : Value) → IfOk (prefix_result sign value) IsValue
prefixed_typed signs.Or value = tt
prefixed_typed signs.And value = tt
prefixed_typed signs.Equal value = tt
prefixed_typed signs.NotEqual value = tt
prefixed_typed signs.Less value = tt
prefixed_typed signs.LessEqual value = tt
prefixed_typed signs.Greater value = tt
prefixed_typed signs.GreaterEqual value = tt
prefixed_typed signs.Concat value = tt
prefixed_typed signs.Plus value = tt
prefixed_typed signs.Minus (values.Int a) = int_typed (in_range (neg_ℤ a)) (range_typed (neg_ℤ a))
prefixed_typed signs.Minus (values.Text a) = tt
prefixed_typed signs.Minus values.Gone = tt
prefixed_typed signs.Star value = tt
prefixed_typed signs.Slash value = tt
prefixed_typed signs.Percent value = tt
prefixed_typed signs.Not (values.Int a) = truth_fits (is_zero a)
prefixed_typed signs.Not (values.Text a) = tt
prefixed_typed signs.Not values.Gone = tt

decides_and : (b : Bool) → IfSome (if b then Some (pos 0) else None) (FitsSigned w64)
decides_and true = small_fits 0 (omega arith)
decides_and false = tt

decides_or : (b : Bool) → IfSome (if b then None else Some (pos 1)) (FitsSigned w64)
decides_or true = tt
decides_or false = small_fits 1 (omega arith)

pub decided_typed : (sign : Sign) (value : Value) → IfSome (left_decision sign value) (FitsSigned w64)
decided_typed signs.Or (values.Int a) = decides_or (is_zero a)
decided_typed signs.Or (values.Text a) = tt
decided_typed signs.Or values.Gone = tt
decided_typed signs.And (values.Int a) = decides_and (is_zero a)
decided_typed signs.And (values.Text a) = tt
decided_typed signs.And values.Gone = tt
decided_typed signs.Equal value = tt
decided_typed signs.NotEqual value = tt
decided_typed signs.Less value = tt
decided_typed signs.LessEqual value = tt
decided_typed signs.Greater value = tt
decided_typed signs.GreaterEqual value = tt
decided_typed signs.Concat value = tt
decided_typed signs.Plus value = tt
decided_typed signs.Minus value = tt
decided_typed signs.Star value = tt
decided_typed signs.Slash value = tt
decided_typed signs.Percent value = tt
decided_typed signs.Not value = tt
