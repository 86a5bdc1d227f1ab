-- What a crash leaves of a follower.
use Rattle.std.proofs.Common.{◌≡◌, ℕ, zero, suc, Bool, true, false, List, [], refl}
use Rattle.follower_steps.specs.Steps.{PlacerByMark, State}
use Rattle.follower_steps.specs.Events.{CrashWithin, after_event}
use Rattle.follower_steps.specs.Laws.{IsEmptied}

none_within : (place : PlacerByMark) (state : State) (index : ℕ) (bytes : List ℕ) (turns : ℕ)
    (is_stored : Bool)
    → (after_event place state (CrashWithin index bytes turns is_stored)).waiting ≡ []
none_within place state index bytes zero is_stored = refl
none_within place state index bytes (suc before) false = refl
none_within place state index bytes (suc before) true = refl

pub is_emptied : (place : PlacerByMark) (state : State) → IsEmptied place state
is_emptied place state = record {
  blocks = refl;
  none = refl;
  none_within = none_within place state;
  without = λ index bytes before. refl;
  stored = λ index bytes before. refl;
}
