-- The fakes of the outside: their states, and what each call does to them.
use Rattle.std.specs.Prelude.{◌≡◌, ℕ, ◌+◌, ◌-◌, ◌^◌, Bool, true, false, ◌&&◌, ◌==◌, nat_le, nat_lt, MatchBool, List, [], ◌∷◌, ◌++◌, length, take, drop, min, Result, Ok, Err}
use Rattle.std.specs.List.{list_any}
use Rattle.lc_io.specs.Outside.{Tell}
use Rattle.lc_io.specs.declared.mem_wire.Room.{Room}

-- One more, up to the last value of a u64.
abbrev pub one_more : ℕ → ℕ
one_more n = min (n + 1) (2 ^ 64 - 1)

-- Whether the call of this number is to fail.
abbrev pub is_failing : List ℕ → ℕ → Bool
is_failing failing number = list_any (λ n. n == number) failing

-- The calls of a fake: its room, how many calls took a number, the numbers of those that fail, and
-- how many failed.
pub record CallsState : Type 0 where
  pub room : Room
  pub made : ℕ
  pub failing : List ℕ
  pub faults : ℕ

-- No call has been made.
abbrev pub no_calls : Room → List ℕ → CallsState
no_calls room failing = record { room = room; made = 0; failing = failing; faults = 0 }

-- One more call failed.
abbrev pub one_failed : CallsState → CallsState
one_failed calls = record calls { faults = one_more calls.faults }

-- Whether the next call fits the room, if this many bytes are kept after it.
abbrev pub has_room : CallsState → ℕ → Bool
has_room calls bytes = nat_lt calls.made calls.room.calls && nat_le bytes calls.room.bytes

-- A call takes the next number exactly if it fits the room.
abbrev pub Numbers : {E : Type 0} → ℕ → CallsState → CallsState → Result ℕ E → Type 0
Numbers bytes old new (Ok number) =
    (has_room old bytes ≡ true) × (number ≡ old.made) × (new ≡ record old { made = old.made + 1 })
Numbers bytes old new (Err e) = (has_room old bytes ≡ false) × (new ≡ one_failed old)

-- The call of a number fails exactly if it is to fail.
abbrev pub Passes : {T E : Type 0} → ℕ → CallsState → CallsState → Result T E → Type 0
Passes number old new (Ok x) = (is_failing old.failing number ≡ false) × (new ≡ old)
Passes number old new (Err e) = (is_failing old.failing number ≡ true) × (new ≡ one_failed old)

-- A source in memory: the bytes left, the greatest number of bytes per pull, the numbers of the
-- calls that fail, how many calls were made, and how many of them failed.
pub record SourceState : Type 0 where
  pub left : List ℕ
  pub piece : ℕ
  pub failing : List ℕ
  pub calls : ℕ
  pub faults : ℕ

-- How many bytes a pull into a buffer of this length returns.
abbrev pub pulled_count : SourceState → ℕ → ℕ
pulled_count s room = min (min s.piece room) (length s.left)

-- A pull fails exactly if its number is among the failing ones, and then takes nothing. Otherwise
-- it returns as many of the bytes left as the piece and the buffer allow.
abbrev pub PullsPiece : {E : Type 0} → SourceState → SourceState → Result ℕ E → List ℕ → List ℕ → Type 0
PullsPiece old new (Ok n) before after =
    (is_failing old.failing old.calls ≡ false) × (n ≡ pulled_count old (length before)) × (after ≡ take n old.left ++ drop n before)
    × (new ≡ record old { left = drop n old.left; calls = one_more old.calls })
PullsPiece old new (Err e) before after =
    (is_failing old.failing old.calls ≡ true) × (after ≡ before) × (new ≡ record old { calls = one_more old.calls; faults = one_more old.faults })

-- A wire in memory: what was printed, how many calls took a number, how many bytes were printed,
-- the room for both, the numbers of the calls that fail, and how many failed.
pub record WireState : Type 0 where
  pub told : List Tell
  pub calls : ℕ
  pub bytes : ℕ
  pub room_calls : ℕ
  pub room_bytes : ℕ
  pub failing : List ℕ
  pub faults : ℕ

-- Whether a call that records this many bytes fits the room.
abbrev pub fits_room : WireState → ℕ → Bool
fits_room w count = nat_lt w.calls w.room_calls && nat_le (w.bytes + count) w.room_bytes

-- A call that does not fit the room changes nothing but the count of faults. One that fits takes a
-- number; it fails exactly if that number is among the failing ones, and then prints no byte.
abbrev pub TellsPiece : {T E : Type 0} → List ℕ → WireState → WireState → Result T E → Type 0
TellsPiece piece old new (Ok x) =
    (fits_room old (length piece) ≡ true) × (is_failing old.failing old.calls ≡ false)
    × (new ≡ record old { told = old.told ++ record { at = old.calls; bytes = piece } ∷ []; calls = old.calls + 1; bytes = old.bytes + length piece })
TellsPiece piece old new (Err e) = MatchBool (fits_room old (length piece))
    ((is_failing old.failing old.calls ≡ true) × (new ≡ record old { calls = old.calls + 1; faults = one_more old.faults }))
    (new ≡ record old { faults = one_more old.faults })
