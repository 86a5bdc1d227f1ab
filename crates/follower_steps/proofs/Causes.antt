-- The chain refuses no block because the next one has another number: it decides only about a block
-- whose number is held, and about the next one.
use Rattle.std.proofs.Common.{◌≡◌, ◌≢◌, ℕ, suc, zero, ◌≤◌, Bool, true, false, map, List, [], ◌∷◌}
use Rattle.std.proofs.Common.{length, refl, sym, subst, ap, ◌∙◌, arith}
use Rattle.std.specs.Prelude.{Option, Some, None, IfSome, if◌then◌else◌, not, ◌==◌, slice_get}
use Rattle.std.specs.Prelude.{nat_lt, ◌||◌, Result, Ok, Err}
use Rattle.std.proofs.lemmas.Bool.{eq-eqb}
use Rattle.std.proofs.lemmas.List.{length-map}
use Rattle.lc_base.specs.declared.digest.Digest.{Digest}
use Rattle.block_codec.specs.Placement.{digest_of, is_same_digest}
use Rattle.block_codec.specs.Placement.{block_budget, last_digest, most_blocks, placement}
use Rattle.block_codec.specs.Placement.{wanted_version}
use Rattle.block_codec.specs.Reading.{block_in}
use Rattle.block_codec.specs.declared.block.Block.{Block}
use Rattle.block_codec.specs.declared.limits.TheConstants.{MAX_BLOCK_BUDGET, MAX_ROWS_BEFORE_BLOCK}
use Rattle.block_codec.specs.declared.placement.Placement.{Placement}
use Rattle.block_codec.specs.declared.placement.Placement.TheVariants as placements
use Rattle.block_codec.specs.declared.placement.Misplaced.TheVariants as misplaced
use Rattle.chain_replay.specs.chain_exec.Compiled.{Compiler}
use Rattle.chain_replay.specs.chain_exec.Replay.{replay}
use Rattle.chain_replay.specs.Chain.{placement_by_mark}
use Rattle.chain_replay.specs.Judging.{judgement_of, judged_by_placement}
use Rattle.chain_replay.specs.declared.refusal.Refusal.TheVariants as refusals
use Rattle.follower_steps.specs.declared.cause.Cause.{Cause}
use Rattle.follower_steps.specs.declared.cause.Cause.TheVariants as causes
use Rattle.follower_steps.specs.declared.waiting.Waiting.{Waiting}
use Rattle.follower_steps.specs.declared.waiting.Arrival.{Arrival}
use Rattle.follower_steps.specs.declared.waiting.Arrival.TheVariants.{Held, Due, Early, Dropped}
use Rattle.follower_steps.specs.Steps.{PlacerByMark, State, Step, SpellsItsNumber, started, decided}
use Rattle.follower_steps.specs.Steps.{judged, arrived, arrival_in, first_turn, further_turn}
use Rattle.follower_steps.specs.Steps.{turn_at, taken_out, position_of, without}
use Rattle.follower_steps.specs.Events.{Event, after, after_turns, turn_after}
use Rattle.follower_steps.specs.Laws.{IsNotRefusedForNumber, RefusesNoneForNumber}
use Rattle.follower_steps.proofs.Follows.{found}
use Rattle.follower_steps.proofs.Arrivals.{arrival_not, held_is, due_is}
use Rattle.follower_steps.proofs.Counts.{at_number}
use Rattle.follower_steps.proofs.Nearby.{IsNear, first_near, further_near, nearby}
use Rattle.follower_steps.proofs.Numbers.{places_by_number}
use Rattle.follower_steps.proofs.Turns.{turns_keep}

-- ---- a placement

-- a block isn't misplaced for its number
abbrev NotForNumber : Placement → Type 0
NotForNumber place = (want : ℕ) → place ≢ placements.Not (misplaced.Number want)

held_not : (have : Digest) (same : Bool)
    → NotForNumber (if same then placements.Known else placements.Not (misplaced.Fork have))
held_not have true want is = cc is
held_not have false want is = cc is

new_not : (full next parent_is version_is dear : Bool) (held version sum : ℕ) (parent : Digest)
    → next ≡ true
    → NotForNumber (if full then placements.Not misplaced.Full
    else (if not next then placements.Not (misplaced.Number held)
    else (if not parent_is then placements.Not (misplaced.Parent parent)
    else (if not version_is then placements.Not (misplaced.Version version)
    else (if dear then placements.Not (misplaced.Budget sum) else placements.Next)))))
new_not true next parent_is version_is dear held version sum parent here want is = cc is
new_not false false parent_is version_is dear held version sum parent here want is = cc here
new_not false true false version_is dear held version sum parent here want is = cc is
new_not false true true false dear held version sum parent here want is = cc is
new_not false true true true true held version sum parent here want is = cc is
new_not false true true true false held version sum parent here want is = cc is

placed_not : (marked : Bool) (held rows : ℕ) (have : Option Digest) (parent : Digest)
    (block : Block) (digest : Digest) → (have ≡ None → block.number ≡ held)
    → NotForNumber (placement marked held rows have parent block digest)
placed_not marked held rows (Some have) parent block digest next =
    held_not have (is_same_digest have digest)
placed_not marked held rows None parent block digest next = new_not
    (held == most_blocks marked || nat_lt MAX_ROWS_BEFORE_BLOCK rows) (block.number == held)
    (is_same_digest block.parent parent) (block.version == wanted_version marked)
    (nat_lt MAX_BLOCK_BUDGET (block_budget block)) held (wanted_version marked)
    (block_budget block) parent (eq-eqb block.number held (next refl))

none_past : (digests : List Digest) (number : ℕ) (digest : Digest) → slice_get digests number ≡ None
    → length digests ≤ number
none_past [] number digest none = omega arith
none_past (d ∷ digests) zero digest none = absurd (cc none)
none_past (d ∷ digests) (suc number) digest none =
    omega (arith, none_past digests number digest none)

-- neither the next block nor one before it
by_mark_not : (compile : Compiler) (marked : Bool) (blocks : List Block) (block : Block)
    → block.number ≤ length blocks → NotForNumber (placement_by_mark compile marked blocks block)
by_mark_not compile marked blocks block within =
    let digests = map digest_of blocks in
    placed_not marked (length blocks) (length (replay compile blocks).rows)
    (slice_get digests block.number) (last_digest digests) block (digest_of block)
    (λ none. omega (
      arith,
      within,
      length-map blocks digest_of,
      none_past digests block.number (digest_of block) none,
    ))

-- ---- a turn

judged_not : (state : State) (index : ℕ) (block : Block) (place : Placement) → NotForNumber place
    → IsNotRefusedForNumber (judged state index (judged_by_placement block place)).turned
judged_not state index block placements.Known never = tt
judged_not state index block placements.Next never = tt
judged_not state index block (placements.Not why) never = λ want is.
    let same : why ≡ misplaced.Number want = cc is in never want (ap placements.Not same)

module _ (compile : Compiler) where
  abbrev place : PlacerByMark
  place = placement_by_mark compile

  decoded_not : (state : State) (index : ℕ) (decoded : Result Block ℕ)
      → ((block : Block) → decoded ≡ Ok block → block.number ≤ length state.blocks)
      → IsNotRefusedForNumber
      (judged state index (judgement_of (place state.marked) state.blocks decoded)).turned
  decoded_not state index (Ok block) within = judged_not state index block
      (place state.marked state.blocks block)
      (by_mark_not compile state.marked state.blocks block (within block refl))
  decoded_not state index (Err offset) within = λ want is. cc is

  -- what arrives
  dropped_not : (held : ℕ) (waiting : List Waiting) (decoded : Result Block ℕ) (cause : Cause)
      → arrival_in held waiting decoded ≡ Dropped cause
      → (want : ℕ) → cause ≢ causes.Refused (refusals.Placed (misplaced.Number want))
  dropped_not held waiting (Ok block) cause is want same =
      arrival_not held waiting block.number want (is ∙ ap Dropped same)
  dropped_not held waiting (Err offset) cause is want same =
      let at : causes.Refused (refusals.Malformed offset) ≡ cause = cc is in cc (at, same)

  arrived_not : (index : ℕ) (bytes : List ℕ) (state : State) (arrival : Arrival)
      → arrival_in (length state.blocks) state.waiting (block_in bytes) ≡ arrival
      → IsNotRefusedForNumber (arrived place state index bytes arrival).turned
  arrived_not index bytes state (Held number) is = decoded_not state index (block_in bytes)
      (λ block read.
      let found = held_is (length state.blocks) state.waiting (block_in bytes) number is in
      let same : found.0 ≡ block = cc (found.1, read) in
      omega (arith, found.2, found.3, ap (λ (b : Block). b.number) same))
  arrived_not index bytes state Due is = decoded_not state index (block_in bytes)
      (λ block read.
      let next = due_is (length state.blocks) state.waiting (block_in bytes) is in
      let same : next.0 ≡ block = cc (next.1, read) in
      omega (arith, next.2, ap (λ (b : Block). b.number) same))
  arrived_not index bytes state (Early number) is = tt
  arrived_not index bytes state (Dropped cause) is =
      dropped_not (length state.blocks) state.waiting (block_in bytes) cause is

  -- a block that waited
  out_not : (state : State) (at : ℕ) (block : Waiting) → IsNear state
      → position_of (length state.blocks) state.waiting ≡ Some at
      → slice_get state.waiting at ≡ Some block
      → IsNotRefusedForNumber
      (decided place (without state at) block.index block.bytes).turned
  out_not state at block near is here = decoded_not (without state at) block.index
      (block_in block.bytes)
      (λ b read.
      let own = found SpellsItsNumber state.waiting at block near.own here in
      let same : own.0 ≡ b = cc (own.1, read) in
      omega (
        arith,
        own.2,
        at_number (length state.blocks) state.waiting at block is here,
        ap (λ (x : Block). x.number) same,
      ))

  taken_not : (state : State) (at : ℕ) (block : Option Waiting) → IsNear state
      → position_of (length state.blocks) state.waiting ≡ Some at
      → slice_get state.waiting at ≡ block
      → IfSome (taken_out place state at) (λ step. IsNotRefusedForNumber step.turned)
  taken_not state at None near is here = rw here tt
  taken_not state at (Some block) near is here = rw here (out_not state at block near is here)

  further_not : (state : State) (at : Option ℕ) → IsNear state
      → position_of (length state.blocks) state.waiting ≡ at
      → IfSome (turn_at place state at) (λ step. IsNotRefusedForNumber step.turned)
  further_not state None near is = tt
  further_not state (Some at) near is =
      taken_not state at (slice_get state.waiting at) near is refl

  turn_not : (state : State) (index : ℕ) (bytes : List ℕ) (before : ℕ) → IsNear state
      → IfSome (turn_after place index bytes before state)
      (λ step. IsNotRefusedForNumber step.turned)
  turn_not state index bytes zero near = arrived_not index bytes state
      (arrival_in (length state.blocks) state.waiting (block_in bytes)) refl
  turn_not state index bytes (suc before) near =
      let here = after_turns place index bytes (suc before) state in
      further_not here (position_of (length here.blocks) here.waiting)
      (turns_keep IsNear place (further_near place (places_by_number compile)) index bytes
      (first_near place (places_by_number compile) index bytes) (suc before) state near) refl

pub none_for_number : RefusesNoneForNumber
none_for_number compile blocks marked events index bytes before =
    let state = after (placement_by_mark compile) (started blocks marked) events in
    turn_not compile state index bytes before
    (nearby compile blocks marked events).ahead
