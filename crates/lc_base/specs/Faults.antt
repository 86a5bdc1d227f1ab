-- What a count of failed calls says.
use Rattle.std.specs.Prelude.{ℕ, ◌≡◌, ◌+◌, ◌-◌, ◌^◌, ◌≤◌, min}

-- A count of faults rose: it is greater than before, or it is the last value of a u64.
abbrev pub Rose : ℕ → ℕ → Type 0
Rose before now = min (before + 1) (2 ^ 64 - 1) ≤ now

-- A count of faults never falls. If a call blames its object, the count rose; if the count changed,
-- the call blames its object. So each fault is reported, and none is made up.
pub record HasCause (before now : ℕ) (Blames : Type 0) : Type 0 where
  pub later : before ≤ now
  pub failed : Blames → Rose before now
  pub told : (now ≡ before → ⊥) → Blames
