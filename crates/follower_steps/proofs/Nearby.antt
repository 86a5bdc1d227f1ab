-- The blocks that wait have different numbers, and are nearby.
use Rattle.std.proofs.Common.{◌≡◌, ◌≢◌, ℕ, suc, zero, ◌+◌, ◌-◌, ◌<◌, ◌≤◌, Bool, true, false, List}
use Rattle.std.proofs.Common.{[], ◌∷◌, ◌++◌}
use Rattle.std.proofs.Common.{length, refl, sym, ◌∙◌, ap, subst, arith}
use Rattle.std.specs.Prelude.{Option, Some, None, is_some, ◌==◌, Ok}
use Rattle.std.specs.List.{remove}
use Rattle.std.specs.Option.{option_map}
use Rattle.std.proofs.lemmas.List.{length-append}
use Rattle.std.proofs.lemmas.List.Elements.{All-nil, All-push}
use Rattle.std.proofs.lemmas.List.Quantifiers.{all_pairs_push, all_pairs_remove, position-Some}
use Rattle.std.proofs.lemmas.Option.{slice_get_within, slice_get-get_or}
use Rattle.block_codec.specs.Reading.{block_in}
use Rattle.block_codec.specs.declared.block.Block.{Block}
use Rattle.chain_replay.specs.Chain.{placement_by_mark}
use Rattle.follower_steps.specs.declared.limits.TheConstants.{MAX_AHEAD}
use Rattle.follower_steps.specs.declared.waiting.Waiting.{Waiting}
use Rattle.follower_steps.specs.declared.waiting.Arrival.TheVariants.{Held, Due, Early}
use Rattle.follower_steps.specs.Steps.{PlacerByMark, State, AreAhead, SpellsItsNumber, started}
use Rattle.follower_steps.specs.Steps.{decided}
use Rattle.follower_steps.specs.Steps.{arrival_in, first_turn, further_turn, turn_at, position_of}
use Rattle.follower_steps.specs.Steps.{without}
use Rattle.follower_steps.specs.Events.{state_after, after_turns, settled, stopped_in}
use Rattle.follower_steps.specs.Events.{Event, Delivery, Loss, Crash, CrashWithin, after_event}
use Rattle.follower_steps.specs.Events.{after}
use Rattle.follower_steps.specs.Laws.{AreNearby, WaitsNearby}
use Rattle.follower_steps.proofs.Arrivals.{early_is, early_spells, held_is, due_is}
use Rattle.follower_steps.proofs.Counts.{Differ, few, all_others, no_position, rest_others}
use Rattle.follower_steps.proofs.Follows.{all_but_one}
use Rattle.follower_steps.proofs.Numbers.{PlacesByNumber, places_by_number}
use Rattle.follower_steps.proofs.Turns.{with_block, decided_cases, first_cases, further_cases}
use Rattle.follower_steps.proofs.Turns.{further_keep, settles}

-- ---- the blocks that wait

module _ (held : ℕ) (waiting : List Waiting) (ahead : AreAhead held waiting) where
  -- at most so many wait: the next block may be among them
  pub few_ahead : length waiting ≤ MAX_AHEAD + 1
  few_ahead = few held (MAX_AHEAD + 1) waiting ahead.apart ahead.new
      (λ at d within. omega (arith, ahead.near at d within))

  -- one more block is held, and it doesn't wait
  pub ahead_longer : is_some (position_of held waiting) ≡ false → AreAhead (suc held) waiting
  ahead_longer free = record {
    apart = ahead.apart;
    new = λ at d within. omega
        (arith, ahead.new at d within, all_others held waiting free at d within);
    near = λ at d within. omega (arith, ahead.near at d within);
    own = ahead.own;
  }

  -- an early block waits, too
  pub ahead_kept : (index number : ℕ) (bytes : List ℕ)
      → arrival_in held waiting (block_in bytes) ≡ Early number
      → AreAhead held
      (waiting ++ record { index = index; number = number; bytes = bytes } ∷ [])
  ahead_kept index number bytes is =
      let early = early_is held waiting (block_in bytes) number is in
      let block : Waiting = record { index = index; number = number; bytes = bytes } in
      let others = all_others number waiting early.free in
      record {
        apart = all_pairs_push Differ waiting block ahead.apart (λ at d within. others at d within);
        new = All-push (λ (w : Waiting). held ≤ w.number) waiting block ahead.new
            (omega (arith, early.later));
        near = All-push (λ (w : Waiting). w.number ≤ held + MAX_AHEAD) waiting block ahead.near
            early.near;
        own = All-push SpellsItsNumber waiting block ahead.own
            (early_spells held waiting (block_in bytes) number is);
      }

  -- one is taken out
  pub ahead_without : (at : ℕ) → at < length waiting → AreAhead held (remove waiting at)
  ahead_without at within = record {
    apart = all_pairs_remove Differ waiting at within ahead.apart;
    new = all_but_one (λ (w : Waiting). held ≤ w.number) waiting at ahead.new;
    near = all_but_one (λ (w : Waiting). w.number ≤ held + MAX_AHEAD) waiting at ahead.near;
    own = all_but_one SpellsItsNumber waiting at ahead.own;
  }

-- if the next block is taken out, none is left that is the next one
pub free_without : (held : ℕ) (waiting : List Waiting) (at : ℕ) → AreAhead held waiting
    → position_of held waiting ≡ Some at → is_some (position_of held (remove waiting at)) ≡ false
free_without held waiting at ahead found =
    no_position held (remove waiting at) (rest_others held waiting at ahead.apart found)

pub none_ahead : (held : ℕ) → AreAhead held []
none_ahead held = record {
  apart = λ i j d lt within. absurd (omega (arith, within));
  new = All-nil (λ (w : Waiting). held ≤ w.number);
  near = All-nil (λ (w : Waiting). w.number ≤ held + MAX_AHEAD);
  own = All-nil SpellsItsNumber;
}

-- if the next block is due when it arrives, it doesn't wait
pub due_free : (held : ℕ) (waiting : List Waiting) (bytes : List ℕ)
    → arrival_in held waiting (block_in bytes) ≡ Due → is_some (position_of held waiting) ≡ false
due_free held waiting bytes is =
    let next = due_is held waiting (block_in bytes) is in
    subst (λ (n : ℕ). is_some (position_of n waiting) ≡ false) next.2 next.3

-- ---- turns

-- what waits during a delivery
abbrev pub IsNear : State → Type 0
IsNear state = AreAhead (length state.blocks) state.waiting

-- the next block doesn't wait
abbrev NextIsFree : State → Type 0
NextIsFree state = is_some (position_of (length state.blocks) state.waiting) ≡ false

with_near : (state : State) (block : Block) → IsNear state → NextIsFree state
    → IsNear (with_block state block)
with_near state block n free = subst (λ (held : ℕ). AreAhead held state.waiting)
    (omega (arith, length-append state.blocks (block ∷ [])))
    (ahead_longer (length state.blocks) state.waiting n free)

module _ (place : PlacerByMark) (places : PlacesByNumber place) where
  decided_near : (state : State) (index : ℕ) (bytes : List ℕ) → IsNear state
      → ((block : Block) → block_in bytes ≡ Ok block → block.number ≡ length state.blocks
      → NextIsFree state)
      → IsNear (decided place state index bytes).state
  decided_near state index bytes n free = decided_cases IsNear place state index bytes n
      (λ block read next. with_near state block n
      (free block read (places state.marked state.blocks block next)))

  not_held : (state : State) (bytes : List ℕ) (number : ℕ)
      → arrival_in (length state.blocks) state.waiting (block_in bytes) ≡ Held number
      → (block : Block) → block_in bytes ≡ Ok block → block.number ≢ length state.blocks
  not_held state bytes number is block read number_is =
      let found = held_is (length state.blocks) state.waiting (block_in bytes) number is in
      let same : found.0 ≡ block = cc (found.1, read) in
      omega (arith, found.2, found.3, ap (λ (b : Block). b.number) same, number_is)

  pub first_near : (index : ℕ) (bytes : List ℕ) (state : State) → IsNear state
      → IsNear (first_turn place state index bytes).state
  first_near index bytes state n = first_cases IsNear place state index bytes n
      (λ number is. decided_near state index bytes n
      (λ block read number_is. absurd (not_held state bytes number is block read number_is)))
      (λ number is. ahead_kept (length state.blocks) state.waiting n index number bytes is)
      (λ is. decided_near state index bytes n
      (λ block read number_is. due_free (length state.blocks) state.waiting bytes is))

  pub further_near : (state : State) → IsNear state
      → IsNear (state_after state (further_turn place state))
  further_near state n = further_cases IsNear place state n
      (λ at block is here. decided_near (without state at) block.index block.bytes
      (ahead_without (length state.blocks) state.waiting n at
      (slice_get_within state.waiting at block here))
      (λ b read number. free_without (length state.blocks) state.waiting at n is))

-- ---- between two deliveries

none_at : (place : PlacerByMark) (state : State) (found : Option ℕ)
    → position_of (length state.blocks) state.waiting ≡ found
    → turn_at place state found ≡ None → is_some found ≡ false
none_at place state None is none = refl
none_at place state (Some at) is none =
    let nothing : Waiting = record { index = 0; number = 0; bytes = [] } in
    let within = (position-Some (λ (w : Waiting). w.number == length state.blocks) state.waiting at
    nothing is).0 in
    let here = slice_get-get_or state.waiting at nothing within in
    absurd (cc (sym (ap (option_map (λ (w : Waiting).
    decided place (without state at) w.index w.bytes)) here) ∙ none))

-- what is near is nearby, if there is no further turn
nearby_of : (place : PlacerByMark) (state : State) → IsNear state
    → further_turn place state ≡ None → AreNearby (length state.blocks) state.waiting
nearby_of place state n none =
    let held = length state.blocks in
    let next = ahead_longer held state.waiting n
    (none_at place state (position_of held state.waiting) refl none) in
    record {
      ahead = n;
      early = λ at d within. omega (arith, next.new at d within);
      few = few (suc held) MAX_AHEAD state.waiting n.apart
          (λ at d within. omega (arith, next.new at d within))
          (λ at d within. omega (arith, n.near at d within));
    }

none_nearby : (held : ℕ) → AreNearby held []
none_nearby held = record {
  ahead = none_ahead held;
  early = All-nil (λ (w : Waiting). held < w.number);
  few = omega arith;
}

module _ (place : PlacerByMark) (places : PlacesByNumber place) where
  stop_nearby : (before next : State) (is_stored : Bool)
      → AreNearby (length (stopped_in before next is_stored).blocks)
      (stopped_in before next is_stored).waiting
  stop_nearby before next true = none_nearby (length next.blocks)
  stop_nearby before next false = none_nearby (length before.blocks)

  event_nearby : (state : State) (event : Event) → AreNearby (length state.blocks) state.waiting
      → AreNearby (length (after_event place state event).blocks)
      (after_event place state event).waiting
  event_nearby state (Delivery index bytes) n =
      let first = (first_turn place state index bytes).state in
      nearby_of place (settled place first)
      (further_keep IsNear place (further_near place places) (length first.waiting) first
      (first_near place places index bytes state n.ahead))
      (settles place (length first.waiting) first (omega arith))
  event_nearby state (Loss index bytes) n = n
  event_nearby state Crash n = none_nearby (length state.blocks)
  event_nearby state (CrashWithin index bytes zero is_stored) n =
      none_nearby (length state.blocks)
  event_nearby state (CrashWithin index bytes (suc turns) is_stored) n =
      stop_nearby (after_turns place index bytes turns state)
      (after_turns place index bytes (suc turns) state) is_stored

  all_nearby : (state : State) (events : List Event)
      → AreNearby (length state.blocks) state.waiting
      → AreNearby (length (after place state events).blocks) (after place state events).waiting
  all_nearby state [] n = n
  all_nearby state (event ∷ events) n =
      all_nearby (after_event place state event) events (event_nearby state event n)

pub nearby : WaitsNearby
nearby compile blocks marked events =
    all_nearby (placement_by_mark compile) (places_by_number compile) (started blocks marked) events
    (none_nearby (length blocks))
