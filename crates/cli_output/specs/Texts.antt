-- Texts, cut into lines after each byte 0x0A.
use Rattle.std.specs.Prelude.{ℕ, ◌==◌, if◌then◌else◌, List, [], ◌∷◌, ◌++◌}

-- The bytes after the last line end, as a line, if there are any.
abbrev pub last_line : List ℕ → List (List ℕ)
last_line [] = []
last_line (byte ∷ bytes) = (byte ∷ bytes) ∷ []

-- The lines of a text, if its first line begins with these bytes.
abbrev pub lines_after : List ℕ → List ℕ → List (List ℕ)
lines_after begun [] = last_line begun
lines_after begun (byte ∷ bytes) = if byte == 10 then (begun ++ byte ∷ []) ∷ lines_after [] bytes else lines_after (begun ++ byte ∷ []) bytes

-- A text cut after each byte 0x0A.
abbrev pub lines_of : List ℕ → List (List ℕ)
lines_of text = lines_after [] text
