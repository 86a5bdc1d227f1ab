-- The last bytes that were put, which are not in the file yet.
use Rattle.std.specs.Prelude.{◌≡◌, ℕ, ◌+◌, nat_le, Bool, List, [], ◌++◌, length, Result, Ok, Err}
use Rattle.file_scratch.specs.declared.gathered.TheConstants.{GATHERED_BYTES}

-- Where these bytes go: all that was put before them is in the file, up to that place.
pub record GatheredState : Type 0 where
  pub place : ℕ
  pub bytes : List ℕ

-- Nothing was put yet.
abbrev pub none_gathered : GatheredState
none_gathered = record { place = 0; bytes = [] }

-- Where all that was put ends.
abbrev pub end_of : GatheredState → ℕ
end_of gathered = gathered.place + length gathered.bytes

-- Whether `count` more bytes can be gathered.
abbrev pub fits : GatheredState → ℕ → Bool
fits gathered count = nat_le (length gathered.bytes + count) GATHERED_BYTES

-- With these bytes gathered, too.
abbrev pub with_bytes : GatheredState → List ℕ → GatheredState
with_bytes gathered bytes = record { place = gathered.place; bytes = gathered.bytes ++ bytes }

-- All of them are in the file.
abbrev pub all_written : GatheredState → GatheredState
all_written gathered = record { place = end_of gathered; bytes = [] }

-- None is gathered, and `count` more bytes are in the file.
abbrev pub all_passed : GatheredState → ℕ → GatheredState
all_passed gathered count = record { place = gathered.place + count; bytes = [] }

-- A call wrote all that was gathered. If it failed, all of it stays gathered.
abbrev pub Writes : {T E : Type 0} → GatheredState → GatheredState → Result T E → Type 0
Writes old new (Ok x) = new ≡ all_written old
Writes old new (Err e) = new ≡ old
