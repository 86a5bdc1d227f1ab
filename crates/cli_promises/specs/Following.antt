-- What `follow` prints for the frames of an input, and how it ends.
use Rattle.std.specs.Prelude.{◌≡◌, ℕ, zero, suc, ◌+◌, ◌-◌, true, List, [], ◌∷◌, ◌++◌}
use Rattle.std.specs.Prelude.{length, drop, Option, Some, None, Result, IfOk, is_ok}
use Rattle.lc_io.specs.Disk.{DiskState, Stays}
use Rattle.lc_io.specs.Outside.{Tell}
use Rattle.disk_model.specs.Disk.{Keeps, Rests}
use Rattle.block_codec.specs.Frames.{FrameStep, End, Truncated, Length, Many, Frame, frame_step}
use Rattle.block_codec.specs.declared.limits.TheConstants.{MAX_FRAMES}
use Rattle.block_codec.specs.declared.block.Block.{Block}
use Rattle.block_log.specs.Standing.{Logged, with_blocks}
use Rattle.follower_steps.specs.chain_exec.Compiled.{Compiler}
use Rattle.follower_steps.specs.chain_replay.Judging as judging
use Rattle.recovery.specs.Node.{next_in_chain, chain_in}
use Rattle.cli_promises.specs.Promises.{Line, plain, Telling, IsPartly}
use Rattle.cli_lines.specs.Lines.{refused_line}
use Rattle.cli_lines.specs.chain_input.Folding.{FoldEnd, Whole, Refused}
use Rattle.cli_lines.specs.chain_input.declared.cause.Cause.TheVariants as causes
use Rattle.cli_promises.specs.Appending.{IsKnown, line_of, fold_end}
use Rattle.cli_promises.specs.declared.ending.RunEnd.{RunEnd}
use Rattle.cli_promises.specs.declared.ending.RunStop.{RunStop}
use Rattle.follower_steps.specs.Steps.{PlacerByMark, State, started, Step}
use Rattle.follower_steps.specs.Steps.{Turned, Added, Known, Kept, Dropped}
use Rattle.follower_steps.specs.Steps.{first_turn, further_turn}
use Rattle.follower_steps.specs.Events.{acknowledged}
use Rattle.cli_promises.specs.FollowLines.{kept_line, dropped_line, follow_line}

-- ---- the line of a turn

-- The line of a turn of a follower that had these blocks before it. The line of an added block, or
-- of a known one, is that of `append`: it promises that the chain has the added block, or the one
-- that it held, as its block of that number. The others promise nothing.
abbrev pub turn_line : Compiler → List Block → Turned → Line
turn_line compile blocks (Added block) = line_of compile blocks (judging.Added block)
turn_line compile blocks (Known block) = line_of compile blocks (judging.Known block)
turn_line compile blocks (Kept number) = plain (kept_line number)
turn_line compile blocks (Dropped index cause) = plain (dropped_line index cause)

-- The blocks that a turn adds.
abbrev pub added_in : Turned → List Block
added_in (Added block) = block ∷ []
added_in (Known block) = []
added_in (Kept number) = []
added_in (Dropped index cause) = []

-- ---- what a follower has done

-- What a follower has done by some moment: the state that it is in, the lines of its turns, and the
-- blocks that these added, in order.
pub record Followed : Type 0 where
  pub state : State
  pub lines : List Line
  pub added : List Block

-- A follower in this state that has done nothing yet.
abbrev pub nothing_done : State → Followed
nothing_done state = record { state = state; lines = []; added = [] }

-- And then it made this step.
abbrev pub after_step : Compiler → Followed → Step → Followed
after_step compile before step = record {
  state = step.state;
  lines = before.lines ++ turn_line compile before.state.blocks step.turned ∷ [];
  added = before.added ++ added_in step.turned;
}

-- The same of a further step, if there is one.
abbrev pub after_any : Compiler → Followed → Option Step → Followed
after_any compile before None = before
after_any compile before (Some step) = after_step compile before step

-- And then it made so many further turns, or all if there are fewer.
abbrev pub after_more : Compiler → PlacerByMark → ℕ → Followed → Followed
after_more compile place zero before = before
after_more compile place (suc more) before =
    after_more compile place more
    (after_any compile before (further_turn place before.state))

-- And then it made all further turns: each takes out one of the blocks that wait.
abbrev pub after_all : Compiler → PlacerByMark → Followed → Followed
after_all compile place before =
    after_more compile place (length before.state.waiting) before

-- And then all blocks that are held were acknowledged.
abbrev pub all_acknowledged : Followed → Followed
all_acknowledged before = record before { state = acknowledged before.state }

-- And then the frame `index` was delivered: its first turn, and all further ones.
abbrev pub after_frame : Compiler → PlacerByMark → Followed → ℕ → List ℕ → Followed
after_frame compile place before index bytes =
    all_acknowledged (after_all compile place
    (after_step compile before (first_turn place before.state index bytes)))

-- ---- the frames of an input

-- What becomes of the frames of an input: what the follower has done by their end, how they end,
-- and the bytes that follow what was read of the input. Whatever a frame has, it is delivered, and
-- so a frame is refused for its form alone.
pub record FollowFold : Type 0 where
  pub done : Followed
  pub end : FoldEnd
  pub left : List ℕ

-- The fold ends here.
abbrev pub fold_ends : Followed → FoldEnd → List ℕ → FollowFold
fold_ends done end left = record { done = done; end = end; left = left }

-- One step of the fold, by what is at the start of the input after `count` frames were delivered.
abbrev pub follow_step : Compiler → PlacerByMark → (Followed → List ℕ → FollowFold) → ℕ → Followed
    → List ℕ → FrameStep → FollowFold
follow_step compile place next count done input End = fold_ends done Whole []
follow_step compile place next count done input Truncated =
    fold_ends done (Refused count causes.Truncated) []
follow_step compile place next count done input (Length size) =
    fold_ends done (Refused count (causes.Length size)) (drop 4 input)
follow_step compile place next count done input Many =
    fold_ends done (Refused count causes.Many) (drop 4 input)
follow_step compile place next count done input (Frame frame rest) =
    next (after_frame compile place done count frame) rest

-- The fold of the frames of an input, by a follower that has done this. `more` bounds how often the
-- start of the input is looked at: an input has at most MAX_FRAMES frames, so MAX_FRAMES + 1 looks
-- reach its end.
unfoldable pub follow_from : Compiler → PlacerByMark → ℕ → Followed → List ℕ → FollowFold
follow_from compile place zero done input = fold_ends done Whole []
follow_from compile place (suc more) done input =
    follow_step compile place (follow_from compile place more) (MAX_FRAMES - more) done input
    (frame_step (MAX_FRAMES - more) input)

-- The fold of the frames of an input, by a follower that starts with this chain.
abbrev pub follow_all : Compiler → PlacerByMark → Logged → List ℕ → FollowFold
follow_all compile place logged input =
    follow_from compile place (MAX_FRAMES + 1) (nothing_done (started logged.blocks logged.marked))
    input

-- The last line: how many blocks the follower holds and how many wait, or that a frame is refused.
-- It promises nothing.
abbrev pub last_line : State → FoldEnd → Line
last_line state Whole = plain (follow_line (length state.blocks) (length state.waiting))
last_line state (Refused frame cause) = plain (refused_line frame cause)

-- All lines of a fold.
abbrev pub follow_lines : FollowFold → List Line
follow_lines fold = fold.done.lines ++ last_line fold.done.state fold.end ∷ []

-- ---- what `follow` does

-- It came to the end of this fold, from this chain on: what follows what was read of the input is
-- left; and if the disk is known, nothing is pending, and its content stands for the chain with the
-- blocks that the follower added.
pub record HasFollowed (state : Option DiskState) (left : Option (List ℕ)) (logged : Logged)
    (fold : FollowFold) (end : RunEnd) : Type 0 where
  pub end_is : fold_end end ≡ fold.end
  pub left_is : left ≡ Some fold.left
  pub log : Rests state (λ image. chain_in image ≡ Some (with_blocks logged fold.done.added))

-- What becomes of the disk and of the wire, whatever is returned, if this is the fold of the frames
-- of the input from this chain on.
pub record FollowsAll {D : Type 0} (now : D → ℕ) (disk : D → ℕ → Option DiskState)
    (told : D → Option (List Tell)) (old new : D) (left : Option (List ℕ)) (logged : Logged)
    (fold : FollowFold) (result : Result RunEnd RunStop) : Type 0 where
  -- A crash at any moment leaves the chain from before, and the first blocks, any number of them,
  -- of those that the follower adds.
  pub images : IsKnown (disk old (now old)) → Keeps now disk old new (IsPartly next_in_chain logged
      fold.done.added)
  -- All lines were printed if it came to its end, else a prefix of them; and each line that was
  -- begun keeps its promise from then on.
  pub lines : IsKnown (disk old (now old)) → Telling next_in_chain now disk told old new
      (follow_lines fold) (is_ok result)
  -- If it came to its end and no block was added, the disk is as it was.
  pub unwritten : is_ok result ≡ true → fold.done.added ≡ [] → Stays now disk old new
  pub ended : IfOk result (HasFollowed (disk new (now new)) left logged fold)
