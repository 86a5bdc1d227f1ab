-- What printing a line does; and what the parts of `append` do, by the definition of what it
-- prints.
use Rattle.std.specs.Prelude.{◌≡◌, ℕ, true, List, [], ◌∷◌, ◌++◌, Option, Some, Result, Ok, Err}
use Rattle.std.specs.Prelude.{is_ok, IsErrOf}
use Rattle.lc_base.specs.Faults.{HasCause}
use Rattle.lc_io.specs.Disk.{DiskState, Stays}
use Rattle.lc_io.specs.Outside.{Tell}
use Rattle.disk_model.specs.Disk.{Keeps, Rests, content_of}
use Rattle.block_codec.specs.Reading.{block_in}
use Rattle.block_codec.specs.declared.block.Block.{Block}
use Rattle.block_log.specs.Standing.{Logged, NextBlock}
use Rattle.block_log.specs.Log.{next_in_log}
use Rattle.lc_io.specs.Scratch.{ScratchState, is_known, Retains}
use Rattle.chain_input.specs.declared.taking.Turn.{Turn}
use Rattle.chain_input.specs.declared.taking.Turn.TheVariants as turns
use Rattle.chain_exec.specs.Compiled.{compiled_in}
use Rattle.chain_replay.specs.Judging.{Taken, judgement_of, added_by}
use Rattle.chain_replay.specs.declared.refusal.Refusal.{Refusal}
use Rattle.cli_promises.specs.recovery.Node.{NodeState, IsNodeOf, IsReady, IsStepOf, next_in_chain}
use Rattle.cli_promises.specs.recovery.Node.{chain_in}
use Rattle.cli_promises.specs.recovery.Node.{stored_placement, logged_in}
use Rattle.cli_promises.specs.Promises.{Promise, Line, IsKeptAt, Telling}
use Rattle.cli_promises.specs.Appending.{IsKnown, line_of, Grows}
use Rattle.cli_promises.specs.declared.ending.RunStop.{RunStop}
use Rattle.cli_promises.specs.declared.ending.RunStop.TheVariants as stops

-- ---- one line

-- What printing a line does. The disk stays as it is, and where it is looked at first and that
-- fails, nothing is printed.
pub record TellsLine {D : Type 0} (now : D → ℕ) (disk : D → ℕ → Option DiskState)
    (told : D → Option (List Tell)) (disk_faults wire_faults : D → ℕ) (old new : D)
    (text : List ℕ) (result : Result (Unit {0}) RunStop) : Type 0 where
  -- If each image of the disk keeps now what the line promises, each image since then keeps it.
  pub lines : (next : NextBlock) (promise : Promise) → IsKeptAt next now disk old promise
      → Telling next now disk told old new (record { text = text; promise = promise } ∷ [])
      (is_ok result)
  pub stays : Stays now disk old new
  -- The disk or the wire is blamed exactly if it failed, and nothing else is blamed.
  pub disk_fault : HasCause (disk_faults old) (disk_faults new) (IsErrOf result stops.DiskFault)
  pub untold : HasCause (wire_faults old) (wire_faults new) (IsErrOf result stops.Untold)
  pub reads : IsErrOf result stops.Unreadable → ⊥
  pub keeps : IsErrOf result stops.ScratchFault → ⊥

-- ---- one frame

-- The lines of a frame with this judgement: its own, or none if it is refused.
abbrev pub lines_for : List Block → Result Taken Refusal → List Line
lines_for blocks (Ok frame) = line_of compiled_in blocks frame ∷ []
lines_for blocks (Err refusal) = []

-- The blocks that a frame with this judgement adds.
abbrev pub added_for : Result Taken Refusal → List Block
added_for (Ok frame) = added_by frame
added_for (Err refusal) = []

-- What is returned for a frame with this judgement: a node with the block that it adds, marked as
-- it was, or why it is refused; then, if the disk is known, nothing is pending, and it stands for
-- the chain.
abbrev pub IsTaken : Option DiskState → Logged → Result Taken Refusal → Result (Turn NodeState)
    RunStop → Type 0
IsTaken state logged judgement (Ok (turns.Taken node)) =
    (frame : Taken) × (judgement ≡ Ok frame) × IsNodeOf node state (logged.blocks ++ added_by frame)
    × (node.log.is_marked ≡ logged.marked)
IsTaken state logged judgement (Ok (turns.Refused refusal)) = (judgement ≡ Err refusal)
    × Rests state (λ image. chain_in image ≡ Some logged)
IsTaken state logged judgement (Err stop) = Unit {0}

-- If a node is left after the frame, this holds of it.
abbrev pub IfLonger : (NodeState → Type 0) → Result (Turn NodeState) RunStop → Type 0
IfLonger P (Ok (turns.Taken node)) = P node
IfLonger P (Ok (turns.Refused refusal)) = Unit {0}
IfLonger P (Err stop) = Unit {0}

-- A frame with this judgement was taken or refused, or taking it was stopped.
pub record Takes {D : Type 0} (now : D → ℕ) (disk : D → ℕ → Option DiskState) (told : D → Option (List Tell)) (old new : D) (logged : Logged) (judgement : Result Taken Refusal) (result : Result (Turn NodeState) RunStop) : Type 0 where
  pub images : IsKnown (disk old (now old)) → Keeps now disk old new (IsStepOf logged judgement)
  pub lines : IsKnown (disk old (now old)) → Telling next_in_chain now disk told old new
      (lines_for logged.blocks judgement) (is_ok result)
  pub unwritten : is_ok result ≡ true → added_for judgement ≡ [] → Stays now disk old new
  pub answer : IsTaken (disk new (now new)) logged judgement result

-- What a frame's turn does, whatever is known, to the machine and the scratch device that are lent
-- for it: a pair before it, and a pair after it.
pub record AppendsFrame {D S : Type 0} (now : D → ℕ) (disk : D → ℕ → Option DiskState) (told : D → Option (List Tell)) (disk_faults wire_faults : D → ℕ) (scratch : S → ScratchState) (scratch_faults : S → ℕ) (old : D × S) (node : NodeState) (frame : List ℕ) (new : D × S) (result : Result (Turn NodeState) RunStop) : Type 0 where
  -- If it is known which bytes the scratch device holds, the frame is taken as it is judged.
  pub takes : is_known (scratch old.1) ≡ true → (blocks : List Block) → IsNodeOf node
      (disk old.0 (now old.0)) blocks
      → Takes now disk told old.0 new.0 (logged_in node.log blocks)
      (judgement_of (stored_placement node.log.is_marked) blocks (block_in frame)) result
  -- Whatever the scratch device returns, a crash leaves the chain from before, and any blocks after
  -- it, with rows not counted.
  pub log_goes_on : (content : List ℕ) → content_of (disk old.0 (now old.0)) ≡ Some content
      → Keeps now disk old.0 new.0 (Grows next_in_log content)
  pub ready : IfLonger (λ longer. IsReady longer (disk new.0 (now new.0)) (scratch new.1)) result
  pub retains : Retains (scratch old.1) (scratch new.1)
  -- A disk, a scratch device or a wire is blamed exactly if it failed, and no source is blamed.
  pub disk_fault : HasCause (disk_faults old.0) (disk_faults new.0) (IsErrOf result stops.DiskFault)
  pub scratch_fault : HasCause (scratch_faults old.1) (scratch_faults new.1)
      (IsErrOf result stops.ScratchFault)
  pub untold : HasCause (wire_faults old.0) (wire_faults new.0) (IsErrOf result stops.Untold)
  pub reads : IsErrOf result stops.Unreadable → ⊥
