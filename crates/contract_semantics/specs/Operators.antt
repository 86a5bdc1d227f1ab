-- What operators return for two values, and prefixes for one.
use Rattle.std.specs.Prelude.{ℕ, ℤ, pos, ◌+ℤ◌, ◌-ℤ◌, ◌*ℤ◌, neg_ℤ, int_lt, Bool, false, not, ◌==◌, if◌then◌else◌, List, Option, Some, None, Result, Ok, Err}
use Rattle.std.specs.Cmp.Lexicographic.{pointwise}
use Rattle.std.specs.Ordering.{int_eq}
use Rattle.lc_base.specs.Text.{joined_text}
use Rattle.lc_base.specs.declared.value.Value.{Value}
use Rattle.lc_base.specs.declared.value.Value.TheVariants as values
use Rattle.lc_base.specs.declared.tx_status.TxStatus.{TxStatus}
use Rattle.lc_base.specs.declared.tx_status.TxStatus.TheVariants.{WrongKind, TextTooLong}
use Rattle.contract_tree.specs.declared.tree.Sign.{Sign}
use Rattle.contract_tree.specs.declared.tree.Sign.TheVariants as signs
use Rattle.contract_semantics.specs.Numbers.{is_zero, in_range, quotient, remainder, truth}

-- A number as a value.
abbrev pub as_int : Result ℤ TxStatus → Result Value TxStatus
as_int (Ok z) = Ok (values.Int z)
as_int (Err status) = Err status

-- A truth as a value.
abbrev pub as_truth : Bool → Result Value TxStatus
as_truth holds = Ok (values.Int (truth holds))

-- A text as a value; TextTooLong if there is none.
abbrev pub as_text : Option (List ℕ) → Result Value TxStatus
as_text None = Err TextTooLong
as_text (Some text) = Ok (values.Text text)

-- An operator on two numbers. For `&&` and `||` the right side decides, since the left one did not.
abbrev pub on_ints : Sign → ℤ → ℤ → Result Value TxStatus
on_ints signs.Or a b = as_truth (not (is_zero b))
on_ints signs.And a b = as_truth (not (is_zero b))
on_ints signs.Equal a b = as_truth (int_eq a b)
on_ints signs.NotEqual a b = as_truth (not (int_eq a b))
on_ints signs.Less a b = as_truth (int_lt a b)
on_ints signs.LessEqual a b = as_truth (not (int_lt b a))
on_ints signs.Greater a b = as_truth (int_lt b a)
on_ints signs.GreaterEqual a b = as_truth (not (int_lt a b))
on_ints signs.Concat a b = Err WrongKind
on_ints signs.Plus a b = as_int (in_range (a +ℤ b))
on_ints signs.Minus a b = as_int (in_range (a -ℤ b))
on_ints signs.Star a b = as_int (in_range (a *ℤ b))
on_ints signs.Slash a b = as_int (quotient a b)
on_ints signs.Percent a b = as_int (remainder a b)
on_ints signs.Not a b = Err WrongKind

-- An operator on two texts.
abbrev pub on_texts : Sign → List ℕ → List ℕ → Result Value TxStatus
on_texts signs.Equal a b = as_truth (pointwise ◌==◌ a b)
on_texts signs.NotEqual a b = as_truth (not (pointwise ◌==◌ a b))
on_texts signs.Concat a b = as_text (joined_text a b)
on_texts _ a b = Err WrongKind

-- An operator on two values. Values that the operator doesn't take are WrongKind, which no checked
-- contract reaches.
abbrev pub binary_result : Sign → Value → Value → Result Value TxStatus
binary_result sign (values.Int a) (values.Int b) = on_ints sign a b
binary_result sign (values.Text a) (values.Text b) = on_texts sign a b
binary_result sign a b = Err WrongKind

-- A prefix on a value.
abbrev pub prefix_result : Sign → Value → Result Value TxStatus
prefix_result signs.Minus (values.Int a) = as_int (in_range (neg_ℤ a))
prefix_result signs.Not (values.Int a) = as_truth (is_zero a)
prefix_result _ value = Err WrongKind

-- What the left side of `&&` or `||` decides alone.
abbrev pub left_decision : Sign → Value → Option ℤ
left_decision signs.And (values.Int a) = if is_zero a then Some (pos 0) else None
left_decision signs.Or (values.Int a) = if is_zero a then None else Some (pos 1)
left_decision _ value = None

-- A condition holds if its value is a number other than 0.
abbrev pub holds : Value → Bool
holds (values.Int z) = not (is_zero z)
holds value = false
