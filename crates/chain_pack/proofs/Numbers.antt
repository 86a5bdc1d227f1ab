-- A drawn number is below its bound.
use Rattle.std.proofs.Common.{ℕ, ◌<◌, ◌%◌}
use Rattle.std.proofs.Math.Nat.{mod-lt}

pub number_fits : (n bound : ℕ) → 0 < bound → n % bound < bound
number_fits n bound some = mod-lt n some
