-- What the parts of `follow` do, by the definition of what it prints.
use Rattle.std.specs.Prelude.{◌≡◌, ℕ, true, ◌+◌, ◌-◌, ◌^◌, ◌<◌, List, [], Option, Some}
use Rattle.std.specs.Prelude.{Result, Ok, Err, IfOk, is_ok, IsErrOf}
use Rattle.lc_base.specs.Faults.{HasCause}
use Rattle.lc_io.specs.Disk.{DiskState, Stays}
use Rattle.lc_io.specs.Outside.{Tell}
use Rattle.disk_model.specs.Disk.{Keeps, content_of}
use Rattle.block_log.specs.Standing.{Logged}
use Rattle.block_log.specs.Log.{next_in_log}
use Rattle.lc_io.specs.Scratch.{ScratchState, is_known, Retains}
use Rattle.chain_exec.specs.Compiled.{compiled_in}
use Rattle.chain_input.specs.declared.taking.Turn.{Turn as FrameTurn}
use Rattle.chain_input.specs.declared.taking.Turn.TheVariants as frame_turns
use Rattle.cli_promises.specs.recovery.Node.{IsReady, next_in_chain, stored_placement}
use Rattle.cli_promises.specs.Promises.{Telling, IsPartly}
use Rattle.cli_promises.specs.Appending.{IsKnown, Grows}
use Rattle.cli_promises.specs.declared.ending.RunStop.{RunStop}
use Rattle.cli_promises.specs.declared.ending.RunStop.TheVariants as stops
use Rattle.follow_core.specs.Follower.{FollowerState, IsFollowerOf}
use Rattle.follow_core.specs.declared.turn.FollowFault.{FollowFault}
use Rattle.follow_core.specs.declared.turn.FollowFault.TheVariants as faults
use Rattle.follower_steps.specs.Steps.{State}
use Rattle.cli_append.specs.declared.follow_taking.Following.{Following}
use Rattle.follow_core.specs.declared.turn.Turn.{Turn}
use Rattle.follow_core.specs.declared.turn.Turn.TheVariants as turns
use Rattle.cli_promises.specs.Lines.{known_line, block_line}
use Rattle.cli_promises.specs.FollowLines.{kept_line, dropped_line}
use Rattle.cli_promises.specs.Following.{Followed, nothing_done, after_frame}

-- The line of a turn, by what is reported of it.
abbrev pub turn_text : Turn → List ℕ
turn_text (turns.Block number rows receipts root) = block_line number rows receipts root.0
turn_text (turns.Known number) = known_line number
turn_text (turns.Kept number) = kept_line number
turn_text (turns.Dropped index cause) = dropped_line index cause

-- The chain of a follower in this state.
abbrev pub chain_held : State → Logged
chain_held state = record { blocks = state.blocks; marked = state.marked }

-- From a state on, a follower did this, or a part of it; `follower_in` is the follower that is
-- returned. All of it is done if it is returned, and then, if the disk is known, nothing is
-- pending, and it stands for the follower's chain.
pub record Follows {D T : Type 0} (now : D → ℕ) (disk : D → ℕ → Option DiskState)
    (told : D → Option (List Tell)) (old new : D) (state : State) (done : Followed)
    (follower_in : T → FollowerState) (result : Result T RunStop) : Type 0 where
  -- A crash at any moment leaves the chain of the state, and some first ones of the added blocks.
  pub images : IsKnown (disk old (now old)) → Keeps now disk old new
      (IsPartly next_in_chain (chain_held state) done.added)
  -- All lines were printed if it was done, else a prefix of them; and each line that was begun
  -- keeps its promise from then on.
  pub lines : IsKnown (disk old (now old)) → Telling next_in_chain now disk told old new
      done.lines (is_ok result)
  pub unwritten : is_ok result ≡ true → done.added ≡ [] → Stays now disk old new
  pub answer : IfOk result
      (λ answer. IsFollowerOf (follower_in answer) (disk new (now new)) done.state)

-- What a call does that is to do this from each state on, whatever is known, to the machine and the
-- scratch device that are lent for it: a pair before it, and a pair after it.
pub record Makes {D S : Type 0} (now : D → ℕ) (disk : D → ℕ → Option DiskState)
    (told : D → Option (List Tell)) (disk_faults wire_faults : D → ℕ) (scratch : S → ScratchState)
    (scratch_faults : S → ℕ) (old : D × S) (follower : FollowerState) (done_from : State → Followed)
    (new : D × S) (result : Result FollowerState RunStop) : Type 0 where
  -- If it is known which bytes the scratch device holds, it does that.
  pub follows : is_known (scratch old.1) ≡ true → (state : State)
      → IsFollowerOf follower (disk old.0 (now old.0)) state
      → Follows now disk told old.0 new.0 state (done_from state) (λ follower. follower) result
  -- Whatever the scratch device returns, a crash leaves the chain from before, and any blocks after
  -- it, with rows not counted.
  pub log_goes_on : (content : List ℕ) → content_of (disk old.0 (now old.0)) ≡ Some content
      → Keeps now disk old.0 new.0 (Grows next_in_log content)
  pub ready : IfOk result
      (λ follower. IsReady follower.node (disk new.0 (now new.0)) (scratch new.1))
  pub retains : Retains (scratch old.1) (scratch new.1)
  -- A disk, a scratch device or a wire is blamed exactly if it failed, and no source is blamed.
  pub disk_fault : HasCause (disk_faults old.0) (disk_faults new.0) (IsErrOf result stops.DiskFault)
  pub scratch_fault : HasCause (scratch_faults old.1) (scratch_faults new.1)
      (IsErrOf result stops.ScratchFault)
  pub untold : HasCause (wire_faults old.0) (wire_faults new.0) (IsErrOf result stops.Untold)
  pub reads : IsErrOf result stops.Unreadable → ⊥

-- Why a command stops, by why a follower was discarded.
abbrev pub stop_of : FollowFault → RunStop
stop_of faults.DiskFault = stops.DiskFault
stop_of faults.ScratchFault = stops.ScratchFault
stop_of faults.Memory = stops.Memory

-- ---- one frame

-- What is returned for a frame, by what its delivery returned: the follower, and the index of the
-- next frame.
abbrev pub next_following : ℕ → Result FollowerState RunStop → Result (FrameTurn Following) RunStop
next_following next (Ok follower) =
    Ok (frame_turns.Taken (record { follower = follower; next = next }))
next_following next (Err stop) = Err stop

-- What the delivery of a frame does.
abbrev pub Delivers : {D S : Type 0} → (D → ℕ) → (D → ℕ → Option DiskState)
    → (D → Option (List Tell)) → (D → ℕ) → (D → ℕ) → (S → ScratchState) → (S → ℕ) → D × S
    → FollowerState → ℕ → List ℕ → D × S → Result FollowerState RunStop → Type 0
Delivers now disk told disk_faults wire_faults scratch scratch_faults old follower index frame new
    result = Makes now disk told disk_faults wire_faults scratch scratch_faults old follower
    (λ state. after_frame compiled_in stored_placement (nothing_done state) index frame) new result

-- If the follower goes on after a frame, this holds of it.
abbrev pub IfGoesOn : (Following → Type 0) → Result (FrameTurn Following) RunStop → Type 0
IfGoesOn P (Ok (frame_turns.Taken following)) = P following
IfGoesOn P (Ok (frame_turns.Refused refusal)) = Unit {0}
IfGoesOn P (Err stop) = Unit {0}

-- What a frame's turn does: its delivery, and what that returned, with the index of the next frame.
-- That index stays where it can't grow, which no input reaches.
pub record FollowsFrame {D S : Type 0} (now : D → ℕ) (disk : D → ℕ → Option DiskState)
    (told : D → Option (List Tell)) (disk_faults wire_faults : D → ℕ) (scratch : S → ScratchState)
    (scratch_faults : S → ℕ) (old : D × S) (following : Following) (frame : List ℕ) (new : D × S)
    (result : Result (FrameTurn Following) RunStop) : Type 0 where
  pub answer : Result FollowerState RunStop
  pub next : ℕ
  pub counts : following.next < 2 ^ 32 - 1 → next ≡ following.next + 1
  pub answer_is : result ≡ next_following next answer
  pub delivers : Delivers now disk told disk_faults wire_faults scratch scratch_faults old
      following.follower following.next frame new answer
  pub ready : IfGoesOn
      (λ longer. IsReady longer.follower.node (disk new.0 (now new.0)) (scratch new.1)) result
