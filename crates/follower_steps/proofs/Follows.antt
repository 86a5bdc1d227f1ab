-- A follower's blocks are a prefix of its leader's, and it holds what it acknowledged.
use Rattle.std.proofs.Common.{◌≡◌, ℕ, suc, zero, ◌<◌, ◌≤◌, Bool, true, false, List, [], ◌∷◌, ◌++◌}
use Rattle.std.proofs.Common.{length, refl, sym, ◌∙◌, ap, subst, arith, append_assoc}
use Rattle.std.specs.Prelude.{Some, IfSome, slice_get, slice_index_or}
use Rattle.std.specs.List.{All, remove}
use Rattle.std.proofs.lemmas.List.{length-append}
use Rattle.std.proofs.lemmas.List.Elements.{All-nil, All-push, All-head, All-tail}
use Rattle.std.proofs.lemmas.List.Elements.{All-append, All-take, All-drop}
use Rattle.std.proofs.lemmas.Option.{slice_get_within, get_or_from_slice_get}
use Rattle.block_codec.specs.declared.block.Block.{Block}
use Rattle.chain_replay.specs.Chain.{placement_by_mark}
use Rattle.follower_steps.specs.declared.waiting.Waiting.{Waiting}
use Rattle.follower_steps.specs.Steps.{PlacerByMark, State, started, decided, first_turn}
use Rattle.follower_steps.specs.Steps.{further_turn, without}
use Rattle.follower_steps.specs.Events.{state_after, after_further, after_turns, settled}
use Rattle.follower_steps.specs.Events.{stopped_in}
use Rattle.follower_steps.specs.Events.{Event, Delivery, Loss, Crash, CrashWithin, frame_of}
use Rattle.follower_steps.specs.Events.{after_event, after, IsFrameOf, AreEventsOf}
use Rattle.follower_steps.specs.Laws.{IsPrefixOf, FollowsTheLeader, AcknowledgedNeverFalls}
use Rattle.follower_steps.specs.Laws.{DeliveriesLeaveNoneDue}
use Rattle.follower_steps.proofs.Numbers.{PlacesByNumber, AreNumbered, places_by_number}
use Rattle.follower_steps.proofs.Numbers.{chain_numbered}
use Rattle.follower_steps.proofs.Turns.{decided_cases, first_cases, further_cases, further_keep}
use Rattle.follower_steps.proofs.Turns.{turns_keep, one_more, settles}

-- ---- lists

first_of : (prefix rest : List Block) (block : Block) → length prefix < length (prefix ++ rest)
    → slice_index_or (prefix ++ rest) (length prefix) block ≡ block
    → (more : List Block) × (rest ≡ block ∷ more)
first_of [] [] block within is = absurd (omega (arith, within))
first_of [] (b ∷ rest) block within is = (rest, ap (λ (x : Block). x ∷ rest) is)
first_of (p ∷ prefix) rest block within is = first_of prefix rest block (omega (arith, within)) is

-- a prefix, and the block that comes next
prefix_more : (prefix blocks : List Block) (block : Block) → IsPrefixOf prefix blocks
    → length prefix < length blocks → slice_index_or blocks (length prefix) block ≡ block
    → IsPrefixOf (prefix ++ block ∷ []) blocks
prefix_more prefix blocks block (rest, whole) within is =
    let next = first_of prefix rest block
    (subst (λ (bs : List Block). length prefix < length bs) (sym whole) within)
    (subst (λ (bs : List Block). slice_index_or bs (length prefix) block ≡ block) (sym whole)
    is) in (
      next.0,
      append_assoc prefix (block ∷ []) next.0 ∙ ap (λ (r : List Block). prefix ++ r)
          (sym next.1) ∙ whole,
    )

pub all_but_one : {X : Type 0} (P : X → Type 0) (xs : List X) (at : ℕ) → All P xs
    → All P (remove xs at)
all_but_one P xs at all = All-append P _ _ (All-take P at xs all) (All-drop P (suc at) xs all)

pub found : {X : Type 0} (P : X → Type 0) (xs : List X) (at : ℕ) (x : X) → All P xs
    → slice_get xs at ≡ Some x → P x
found P xs at x all is =
    subst P (get_or_from_slice_get xs at x x is) (all at x (slice_get_within xs at x is))

-- ---- the blocks

-- the blocks are a prefix of the leader's, and those that wait are of the leader
record Follows (leader : List Block) (state : State) : Type 0 where
  prefix : IsPrefixOf state.blocks leader
  waiting : All (λ (w : Waiting). IsFrameOf leader w.bytes) state.waiting

module _ (place : PlacerByMark) (places : PlacesByNumber place) (leader : List Block)
    (numbered : AreNumbered leader)
  where
    decided_follows : (state : State) (index : ℕ) (bytes : List ℕ) → IsFrameOf leader bytes
        → Follows leader state → Follows leader (decided place state index bytes).state
    decided_follows state index bytes (block, (at, within, here), read) f = decided_cases
        (Follows leader) place state index bytes f
        (λ other other_read next.
        let same : other ≡ block = cc (read, other_read) in
        let is_at : at ≡ length state.blocks = sym (numbered at block within here)
        ∙ ap (λ (b : Block). b.number) (sym same) ∙ places state.marked state.blocks other next in
        record {
          prefix = subst (λ (b : Block). IsPrefixOf (state.blocks ++ b ∷ []) leader) (sym same)
              (prefix_more state.blocks leader block f.prefix
              (subst (λ (n : ℕ). n < length leader) is_at within)
              (subst (λ (n : ℕ). slice_index_or leader n block ≡ block) is_at here));
          waiting = f.waiting;
        })

    first_follows : (index : ℕ) (bytes : List ℕ) → IsFrameOf leader bytes → (state : State)
        → Follows leader state → Follows leader (first_turn place state index bytes).state
    first_follows index bytes frame state f = first_cases (Follows leader) place state index bytes f
        (λ number is. decided_follows state index bytes frame f)
        (λ number is. record {
          prefix = f.prefix;
          waiting = All-push (λ (w : Waiting). IsFrameOf leader w.bytes) state.waiting
              (record { index = index; number = number; bytes = bytes }) f.waiting frame;
        })
        (λ is. decided_follows state index bytes frame f)

    further_follows : (state : State) → Follows leader state
        → Follows leader (state_after state (further_turn place state))
    further_follows state f = further_cases (Follows leader) place state f
        (λ at block is here. decided_follows (without state at) block.index block.bytes
        (found (λ (w : Waiting). IsFrameOf leader w.bytes) state.waiting at block f.waiting here)
        (record {
          prefix = f.prefix;
          waiting = all_but_one (λ (w : Waiting). IsFrameOf leader w.bytes) state.waiting at
              f.waiting;
        }))

    turns_follow : (index : ℕ) (bytes : List ℕ) → IsFrameOf leader bytes → (n : ℕ) (state : State)
        → Follows leader state → Follows leader (after_turns place index bytes n state)
    turns_follow index bytes frame n state f = turns_keep (Follows leader) place further_follows
        index bytes (first_follows index bytes frame) n state f

    -- a crash
    none_waiting : All (λ (w : Waiting). IsFrameOf leader w.bytes) []
    none_waiting = All-nil (λ (w : Waiting). IsFrameOf leader w.bytes)

    stop_follows : (before next : State) (is_stored : Bool) → Follows leader before
        → Follows leader next → Follows leader (stopped_in before next is_stored)
    stop_follows before next true b n = record { prefix = n.prefix; waiting = none_waiting }
    stop_follows before next false b n = record { prefix = b.prefix; waiting = none_waiting }

    event_follows : (state : State) (event : Event) → IfSome (frame_of event) (IsFrameOf leader)
        → Follows leader state → Follows leader (after_event place state event)
    event_follows state (Delivery index bytes) of f =
        let first = (first_turn place state index bytes).state in
        let all = further_keep (Follows leader) place further_follows (length first.waiting) first
        (first_follows index bytes of state f) in
        record { prefix = all.prefix; waiting = all.waiting }
    event_follows state (Loss index bytes) of f = f
    event_follows state Crash of f = record { prefix = f.prefix; waiting = none_waiting }
    event_follows state (CrashWithin index bytes zero is_stored) of f =
        record { prefix = f.prefix; waiting = none_waiting }
    event_follows state (CrashWithin index bytes (suc n) is_stored) of f =
        stop_follows (after_turns place index bytes n state)
        (after_turns place index bytes (suc n) state) is_stored
        (turns_follow index bytes of n state f) (turns_follow index bytes of (suc n) state f)

    all_follow : (state : State) (events : List Event) → AreEventsOf leader events
        → Follows leader state → Follows leader (after place state events)
    all_follow state [] of f = f
    all_follow state (event ∷ events) of f = all_follow (after_event place state event) events
        (All-tail (λ (e : Event). IfSome (frame_of e) (IsFrameOf leader)) event events of)
        (event_follows state event
        (All-head (λ (e : Event). IfSome (frame_of e) (IsFrameOf leader)) event events of) f)

-- ---- what is acknowledged

module _ (place : PlacerByMark) where
  longer : (blocks : List Block) (block : Block) (least : ℕ) → least ≤ length blocks
      → least ≤ length (blocks ++ block ∷ [])
  longer blocks block least held = omega (arith, held, length-append blocks (block ∷ []))

  -- no turn takes a block away
  abbrev HasAtLeast : ℕ → State → Type 0
  HasAtLeast least state = least ≤ length state.blocks

  first_holds : (least : ℕ) (index : ℕ) (bytes : List ℕ) (state : State) → HasAtLeast least state
      → HasAtLeast least (first_turn place state index bytes).state
  first_holds least index bytes state held =
      let decided_holds : HasAtLeast least (decided place state index bytes).state =
      decided_cases (HasAtLeast least) place state index bytes held
      (λ block read next. longer state.blocks block least held) in
      first_cases (HasAtLeast least) place state index bytes held (λ number is. decided_holds)
      (λ number is. held) (λ is. decided_holds)

  further_holds : (least : ℕ) (state : State) → HasAtLeast least state
      → HasAtLeast least (state_after state (further_turn place state))
  further_holds least state held = further_cases (HasAtLeast least) place state held
      (λ at block is here. decided_cases (HasAtLeast least) place (without state at) block.index
      block.bytes held (λ b read next. longer state.blocks b least held))

  turns_hold : (least : ℕ) (index : ℕ) (bytes : List ℕ) (n : ℕ) (state : State)
      → HasAtLeast least state → HasAtLeast least (after_turns place index bytes n state)
  turns_hold least index bytes n state held = turns_keep (HasAtLeast least) place
      (further_holds least) index bytes (first_holds least index bytes) n state held

  -- one turn more, and no block fewer
  turn_holds : (index : ℕ) (bytes : List ℕ) (n : ℕ) (state : State)
      → HasAtLeast (length (after_turns place index bytes n state).blocks)
      (after_turns place index bytes (suc n) state)
  turn_holds index bytes zero state =
      first_holds (length state.blocks) index bytes state (omega arith)
  turn_holds index bytes (suc n) state =
      let first = (first_turn place state index bytes).state in
      let before = after_further place n first in
      subst (λ (s : State). length before.blocks ≤ length s.blocks) (sym (one_more place n first))
      (further_holds (length before.blocks) before (omega arith))

  -- at least so many blocks are acknowledged, and those are held
  record Holds (least : ℕ) (state : State) : Type 0 where
    least_is : least ≤ state.acknowledged
    held : state.acknowledged ≤ length state.blocks

  stop_holds : (least : ℕ) (before next : State) (is_stored : Bool)
      → least ≤ length before.blocks → length before.blocks ≤ length next.blocks
      → Holds least (stopped_in before next is_stored)
  stop_holds least before next true more longer = record { least_is = more; held = longer }
  stop_holds least before next false more longer = record { least_is = more; held = omega arith }

  event_holds : (least : ℕ) (state : State) (event : Event) → Holds least state
      → Holds least (after_event place state event)
  event_holds least state (Delivery index bytes) h =
      let first = (first_turn place state index bytes).state in
      let more : least ≤ length (settled place first).blocks = further_keep (HasAtLeast least)
      place (further_holds least) (length first.waiting) first
      (first_holds least index bytes state (omega (arith, h.least_is, h.held))) in
      record { least_is = more; held = omega arith }
  event_holds least state (Loss index bytes) h = h
  event_holds least state Crash h = record { least_is = h.least_is; held = h.held }
  event_holds least state (CrashWithin index bytes zero is_stored) h =
      record { least_is = h.least_is; held = h.held }
  event_holds least state (CrashWithin index bytes (suc n) is_stored) h =
      stop_holds least (after_turns place index bytes n state)
      (after_turns place index bytes (suc n) state) is_stored
      (turns_hold least index bytes n state (omega (arith, h.least_is, h.held)))
      (turn_holds index bytes n state)

  all_hold : (least : ℕ) (state : State) (events : List Event) → Holds least state
      → Holds least (after place state events)
  all_hold least state [] h = h
  all_hold least state (event ∷ events) h =
      all_hold least (after_event place state event) events (event_holds least state event h)

  after_both : (state : State) (events more : List Event)
      → after place state (events ++ more) ≡ after place (after place state events) more
  after_both state [] more = refl
  after_both state (event ∷ events) more = after_both (after_event place state event) events more

-- ---- the laws

pub follows : FollowsTheLeader
follows compile leader chain events of blocks marked prefix =
    let place = placement_by_mark compile in
    record {
      prefix = (all_follow place (places_by_number compile) leader
          (chain_numbered compile leader chain) (started blocks marked) events of (record {
            prefix = prefix;
            waiting = All-nil (λ (w : Waiting). IsFrameOf leader w.bytes);
          })).prefix;
      held = (all_hold place 0 (started blocks marked) events
          (record { least_is = omega arith; held = omega arith })).held;
    }

pub never_falls : AcknowledgedNeverFalls
never_falls place blocks marked events more =
    let start = started blocks marked in
    let here = all_hold place 0 start events
    (record { least_is = omega arith; held = omega arith }) in
    let between = after place start events in
    let there = all_hold place between.acknowledged between more
    (record { least_is = omega arith; held = here.held }) in
    rw (after_both place start events more) there.least_is

pub leave_none : DeliveriesLeaveNoneDue
leave_none place state = settles place (length state.waiting) state (omega arith)
