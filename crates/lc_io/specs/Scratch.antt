-- What a scratch device keeps, and what of that is known.
use Rattle.std.specs.Prelude.{◌≡◌, ℕ, Bool, true, List, [], length, Option, Some, None}
use Rattle.std.specs.Option.{is_some}
use Rattle.lc_base.specs.Faults.{HasCause}

-- Whether `count` bytes are kept at a place, and which bytes these are, if that is known.
pub record ScratchState : Type 0 where
  pub kept : ℕ → ℕ → Bool
  pub held : Option (ℕ → ℕ → List ℕ)

-- Whether it is known which bytes are kept.
abbrev pub is_known : ScratchState → Bool
is_known state = is_some state.held

-- The `count` bytes at a place; empty if it is not known which bytes are kept.
abbrev pub held_bytes : Option (ℕ → ℕ → List ℕ) → ℕ → ℕ → List ℕ
held_bytes None place count = []
held_bytes (Some held) place count = held place count

-- The same for the state of a device.
unfoldable pub bytes_at : ScratchState → ℕ → ℕ → List ℕ
bytes_at state place count = held_bytes state.held place count

-- If it is known which bytes are kept, these are at the place.
abbrev pub HoldsAt : ScratchState → ℕ → List ℕ → Type 0
HoldsAt state place bytes = is_known state ≡ true → bytes_at state place (length bytes) ≡ bytes

-- These bytes are kept at the place.
pub record IsKeptAt (state : ScratchState) (place : ℕ) (bytes : List ℕ) : Type 0 where
  pub kept : state.kept place (length bytes) ≡ true
  pub held : HoldsAt state place bytes

-- All that was kept is kept, with the same bytes, and these are known exactly if they were.
pub record Retains (old new : ScratchState) : Type 0 where
  pub kept : (place count : ℕ) → old.kept place count ≡ true → new.kept place count ≡ true
  pub known : is_known new ≡ is_known old
  pub held : (place count : ℕ) → is_known old ≡ true → old.kept place count ≡ true
      → bytes_at new place count ≡ bytes_at old place count

-- A device that was lent to a call: all that it kept is kept, with the same bytes. It is blamed if
-- its count of faults changed, and only if the count rose.
pub record Serves {S : Type 0} (state : S → ScratchState) (faults : S → ℕ) (old new : S)
    (Blames : Type 0) : Type 0 where
  pub retains : Retains (state old) (state new)
  pub cause : HasCause (faults old) (faults new) Blames
