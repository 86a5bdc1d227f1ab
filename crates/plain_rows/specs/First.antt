-- Of indexes of rows those of the first rows: the ones below an end.
use Rattle.std.specs.Prelude.{ℕ, Bool, List, filter, nat_lt}

-- Whether a number is below an end.
abbrev pub is_below : ℕ → ℕ → Bool
is_below end number = nat_lt number end

-- The numbers below an end.
abbrev pub numbers_below : ℕ → List ℕ → List ℕ
numbers_below end numbers = filter (is_below end) numbers
