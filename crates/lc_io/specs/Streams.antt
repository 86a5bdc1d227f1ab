-- What the edges do to the streams below them.
use Rattle.std.specs.Prelude.{◌≡◌, ℕ, List, take, Option, Result, Ok, Err}
use Rattle.std.specs.Io.KnownBytes.{Appends}
use Rattle.lc_io.specs.Fakes.{one_more}

-- A count of faults rises by one if the call failed, and stays if it did not.
abbrev pub CountsFaults : {T E : Type 0} → ℕ → ℕ → Result T E → Type 0
CountsFaults before now (Ok x) = now ≡ before
CountsFaults before now (Err e) = now ≡ one_more before

-- If it is known what a writer holds: a call that succeeds appended all the bytes, and one that
-- fails appended some first bytes.
abbrev pub Writes : {T E : Type 0} → Option (List ℕ) → Option (List ℕ) → List ℕ → Result T E → Type 0
Writes old new bytes (Ok x) = Appends old new bytes
Writes old new bytes (Err e) = (n : ℕ) × Appends old new (take n bytes)
