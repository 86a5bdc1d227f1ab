-- What a run must print, and leave of the disk and of the input, at each moment.
use Rattle.std.specs.Prelude.{◌≡◌, ℕ, Bool, true, false, List, [], ◌∷◌, Option, Some, None}
use Rattle.std.specs.Option.{option_map, is_some}
use Rattle.lc_io.specs.Disk.{DiskState, Stays}
use Rattle.lc_io.specs.Outside.{Tell}
use Rattle.disk_model.specs.Disk.{Keeps, Rests, content_of}
use Rattle.block_codec.specs.Spelling.{Decoder}
use Rattle.block_log.specs.Standing.{NextBlock}
use Rattle.cli_promises.specs.chain_exec.Compiled.{Compiler}
use Rattle.cli_promises.specs.Promises.{Change, NoChange, Appends, Marks, Telling, MayLeave}
use Rattle.cli_promises.specs.Promises.{IsChanged}
use Rattle.cli_words.specs.declared.words.Command.{Command}
use Rattle.cli_promises.specs.cli_lines.declared.status.Status.{Status}
use Rattle.cli_promises.specs.cli_lines.declared.status.Status.TheVariants as statuses
use Rattle.cli_output.specs.Output.{Output, Wants, next_by}
use Rattle.cli_output.specs.Uses.{reads_input, takes_frames, reads_form, checks_proof}
use Rattle.cli_output.specs.Uses.{asks_for_block, appends_log, marks_log, uses_disk, uses_scratch}

-- Whether a run with this status came to its end: nothing outside failed, and memory did not run
-- out.
abbrev pub came_to_end : Status → Bool
came_to_end statuses.Unreadable = false
came_to_end statuses.Untold = false
came_to_end statuses.DiskFault = false
came_to_end statuses.ScratchFault = false
came_to_end statuses.Memory = false
came_to_end other = true

-- Which commands may end with a status. Memory may run out, and printing may fail, for every
-- command.
abbrev pub MayEnd : Status → Option Command → Type 0
MayEnd statuses.Done command = is_some command ≡ true
MayEnd statuses.Usage command = command ≡ None
MayEnd statuses.Unreadable command = reads_input command ≡ true
MayEnd statuses.Untold command = Unit {0}
MayEnd statuses.DiskFault command = uses_disk command ≡ true
MayEnd statuses.Memory command = Unit {0}
MayEnd statuses.NotALog command = uses_disk command ≡ true
MayEnd statuses.Damaged command = uses_disk command ≡ true
MayEnd statuses.Refused command = takes_frames command ≡ true
MayEnd statuses.Beyond command = asks_for_block command ≡ true
MayEnd statuses.Rejected command = checks_proof command ≡ true
MayEnd statuses.BadInput command = reads_form command ≡ true
MayEnd statuses.ScratchFault command = uses_scratch command ≡ true

-- Whether a run with this status found no log that it could read: the disk holds something else, or
-- the log is damaged.
abbrev pub found_no_log : Status → Bool
found_no_log statuses.NotALog = true
found_no_log statuses.Damaged = true
found_no_log other = false

-- What is left of the input, if that is known.
abbrev pub leaves : Option (List ℕ) → List ℕ → Option (List ℕ)
leaves before left = option_map (λ input. left) before

-- Whether a change is none: no block is appended, and the log is not marked.
abbrev pub is_no_change : Change → Bool
is_no_change NoChange = true
is_no_change (Appends []) = true
is_no_change (Appends (block ∷ blocks)) = false
is_no_change Marks = false

-- Which changes a command may make: those that append to the log append blocks, one marks it, and
-- each may leave it as it is.
abbrev pub IsChangeOf : Option Command → Change → Type 0
IsChangeOf command NoChange = Unit {0}
IsChangeOf command (Appends added) = appends_log command ≡ true
IsChangeOf command Marks = marks_log command ≡ true

-- What a crash may leave of a disk that had this content at first, whatever the command reads of
-- the input: what a change leaves that the command may make.
abbrev pub MayLeaveBy : NextBlock → Option Command → List ℕ → List ℕ → Type 0
MayLeaveBy next command content image =
    (change : Change) × IsChangeOf command change × MayLeave next content change image

-- A run that came to its end has the status of the output, and leaves of the input what the output
-- says. If the disk is known, nothing is pending, and the log has all blocks that are appended, or
-- is marked.
pub record HasEnded (next : NextBlock) (state : Option DiskState) (status : Status) (left_old left_new : Option (List ℕ)) (content : List ℕ) (output : Output) : Type 0 where
  pub status_is : status ≡ output.status
  pub left_is : left_new ≡ leaves left_old output.left
  pub log : Rests state (IsChanged next content output.change)

-- A run did what an output says, on a disk that had this content.
pub record Meets {D : Type 0} (next : NextBlock) (now : D → ℕ) (disk : D → ℕ → Option DiskState) (told : D → Option (List Tell)) (old new : D) (status : Status) (left_old left_new : Option (List ℕ)) (content : List ℕ) (output : Output) : Type 0 where
  -- All lines were printed if it came to its end, else a prefix of them, and nothing else. From the
  -- moment on at which printing a line began, whatever a crash may leave keeps what the line
  -- promises.
  pub lines : Telling next now disk told old new output.lines (came_to_end status)
  -- A crash at any moment leaves the content as it was; or its chain with the first blocks, any
  -- number of them, of those that are appended; or its chain marked.
  pub images : Keeps now disk old new (MayLeave next content output.change)
  -- If it came to its end, and neither appends a block nor marks the log, it did not touch the disk.
  pub unwritten : came_to_end status ≡ true → is_no_change output.change ≡ true
      → Stays now disk old new
  pub ended : came_to_end status ≡ true
      → HasEnded next (disk new (now new)) status left_old left_new content output

-- The bytes are the known ones; if none are known, they are any bytes, unless they are used.
abbrev pub IsGiven : Bool → Option (List ℕ) → List ℕ → Type 0
IsGiven uses (Some known) bytes = known ≡ bytes
IsGiven true None bytes = ⊥
IsGiven false None bytes = Unit {0}

-- If the command uses the scratch device, it is known which bytes that holds.
abbrev pub HeldIsGiven : Bool → Option Command → Type 0
HeldIsGiven held command = uses_scratch command ≡ true → held ≡ true

-- Whatever the input and the content of the disk are: if those that the command uses are known, and
-- so are the bytes of the scratch device if it uses that, the run did what an output says that the
-- command must have. `held` is whether it is known which bytes the device holds.
abbrev pub IsRun : {D : Type 0} → (D → ℕ) → (D → ℕ → Option DiskState) → (D → Option (List Tell))
    → D → D → Status → Option (List ℕ) → Option (List ℕ) → Bool → Decoder → Compiler
    → Option Command → Type 0
IsRun now disk told old new status left_old left_new held read compile command =
    HeldIsGiven held command → (input content : List ℕ) → IsGiven (reads_input command) left_old input → IsGiven (uses_disk command) (content_of (disk old (now old))) content
    → (output : Output) × Wants read compile command input content output × Meets (next_by read compile) now disk told old new status left_old left_new content output

-- If the source, the disk or the scratch device failed, or memory ran out, nothing was printed.
abbrev pub IsSilent : Status → Option (List Tell) → Option (List Tell) → Type 0
IsSilent statuses.Unreadable old new = new ≡ old
IsSilent statuses.DiskFault old new = new ≡ old
IsSilent statuses.ScratchFault old new = new ≡ old
IsSilent statuses.Memory old new = new ≡ old
IsSilent other old new = Unit {0}
