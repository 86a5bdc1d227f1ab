-- What is drawn from a state, and the state after the draw.
use Rattle.std.specs.Prelude.{ℕ, zero, suc, ◌+◌, ◌*◌, ◌/◌, ◌%◌, ◌^◌, ◌==◌, if◌then◌else◌, List, [], ◌∷◌, ◌++◌, codes, decimal}
use Rattle.chain_pack.specs.declared.limits.TheConstants.{MULTIPLIER, INCREMENT, DIVISOR, FEW_KEYS}
use Rattle.chain_pack.specs.declared.limits.TheConstants.{MANY_KEYS}

-- The state after a draw: one step of a linear congruential generator of 64 bits.
abbrev pub next_state : ℕ → ℕ
next_state state = (state * MULTIPLIER + INCREMENT) % 2 ^ 64

-- A number below a bound: the state after the draw without its low bits, modulo the bound.
unfoldable pub number_below : ℕ → ℕ → ℕ × ℕ
number_below bound state = (next_state state / DIVISOR % bound, next_state state)

-- The number of a key: equally often one of the few keys and one of the many.
unfoldable pub number_of_key : ℕ → ℕ × ℕ
number_of_key state =
    let side = number_below 2 state in
    number_below (if side.0 == 0 then FEW_KEYS else MANY_KEYS) side.1

-- The key of a number: `raw/`, then the number in decimal digits.
abbrev pub raw_key : ℕ → List ℕ
raw_key number = codes "raw/" ++ decimal number

-- A drawn key.
unfoldable pub key_drawn : ℕ → List ℕ × ℕ
key_drawn state = let number = number_of_key state in (raw_key number.0, number.1)

-- `count` items, drawn one after another.
unfoldable pub draw_list : {A : Type 0} → (ℕ → A × ℕ) → ℕ → ℕ → List A × ℕ
draw_list item zero state = ([], state)
draw_list item (suc count) state =
    let before = draw_list item count state in
    let last = item before.1 in
    (before.0 ++ last.0 ∷ [], last.1)
