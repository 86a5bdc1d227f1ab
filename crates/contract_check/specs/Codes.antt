-- Names as numbers.
use Rattle.std.specs.Prelude.{ℕ, ◌+◌, ◌*◌, List, [], ◌∷◌}

-- The number with these digits in base 256, the lowest first.
abbrev pub code : List ℕ → ℕ
code [] = 0
code (byte ∷ bytes) = code bytes * 256 + byte
