-- What `append` prints for the frames of an input, and how it ends.
use Rattle.std.specs.Prelude.{◌≡◌, ℕ, Bool, true, false, List, [], ◌∷◌, ◌++◌, length, Option, Some}
use Rattle.std.specs.Prelude.{Result, IfOk, is_ok, slice_index_or}
use Rattle.std.specs.Option.{is_some}
use Rattle.lc_io.specs.Disk.{DiskState, Stays}
use Rattle.lc_io.specs.Outside.{Tell}
use Rattle.disk_model.specs.Disk.{Keeps, Rests}
use Rattle.block_codec.specs.declared.block.Block.{Block}
use Rattle.block_log.specs.Standing.{Logged, with_blocks, with_mark, NextBlock, chain_of}
use Rattle.block_log.specs.Log.{IsOldOrMarked}
use Rattle.follower_steps.specs.chain_exec.Compiled.{Compiler, compiled_in}
use Rattle.follower_steps.specs.chain_exec.Fold.{block_effects}
use Rattle.follower_steps.specs.chain_exec.Replay.{replay}
use Rattle.follower_steps.specs.chain_replay.Judging.{Taken, Known, Added, added_by, added_by_all}
use Rattle.recovery.specs.rooted_chain.Roots.{root_in}
use Rattle.cli_lines.specs.Lines.{refused_line, upgraded_line, already_upgraded_line}
use Rattle.cli_lines.specs.chain_input.Folding.{Fold, FoldEnd, Whole, Refused}
use Rattle.recovery.specs.Node.{next_in_chain, chain_in}
use Rattle.cli_promises.specs.Promises.{Line, Holds, IsMarked, plain, Change, NoChange, Marks}
use Rattle.cli_promises.specs.Promises.{Telling, IsPartly}
use Rattle.cli_promises.specs.Lines.{known_line, block_line}
use Rattle.cli_promises.specs.declared.ending.RunEnd.{RunEnd}
use Rattle.cli_promises.specs.declared.ending.RunEnd.TheVariants as ends
use Rattle.cli_promises.specs.declared.ending.RunStop.{RunStop}

-- The line of a frame that was taken into a chain of these blocks. It promises that the chain has a
-- block as its block of that number: the one that it held, or the one that was added.
abbrev pub line_of : Compiler → List Block → Taken → Line
line_of compile blocks (Known block) = record {
  text = known_line block.number;
  promise = Holds
      block.number (slice_index_or blocks block.number block);
}
line_of compile blocks (Added block) =
    let effects = block_effects compile (replay compile blocks) block in
    record { text = block_line block.number (length effects.rows) effects.receipts (root_in compile (blocks ++ block ∷ []) block.number); promise = Holds block.number block }

-- The lines of frames that were taken one after another into a chain of these blocks.
abbrev pub lines_of : Compiler → List Block → List Taken → List Line
lines_of compile blocks [] = []
lines_of compile blocks (frame ∷ taken) = line_of compile blocks frame ∷ lines_of compile
    (blocks ++ added_by frame) taken

-- The last line, if a frame is refused. It promises nothing.
abbrev pub end_lines : FoldEnd → List Line
end_lines Whole = []
end_lines (Refused frame cause) = plain (refused_line frame cause) ∷ []

-- All lines of a fold over the frames of an input, from these blocks on.
abbrev pub fold_lines : Compiler → List Block → Fold → List Line
fold_lines compile blocks fold = lines_of compile blocks fold.taken ++ end_lines fold.end

-- How the frames end, by what is returned.
abbrev pub fold_end : RunEnd → FoldEnd
fold_end ends.Whole = Whole
fold_end (ends.Refused frame cause) = Refused frame cause

-- It is known what the disk holds.
abbrev pub IsKnown : Option DiskState → Type 0
IsKnown state = is_some state ≡ true

-- It came to the end of this fold, from this chain on: what follows what was taken of the input is
-- left; and if the disk is known, nothing is pending, and its content stands for the chain with the
-- blocks that the fold adds.
pub record HasEnded (state : Option DiskState) (left : Option (List ℕ)) (logged : Logged) (fold : Fold) (end : RunEnd) : Type 0 where
  pub end_is : fold_end end ≡ fold.end
  pub left_is : left ≡ Some fold.left
  pub log : Rests state (λ image. chain_in image
      ≡ Some (with_blocks logged (added_by_all fold.taken)))

-- What becomes of the disk and of the wire, whatever is returned, if this is the fold of the frames
-- of the input from this chain on.
pub record AppendsAll {D : Type 0} (now : D → ℕ) (disk : D → ℕ → Option DiskState) (told : D → Option (List Tell)) (old new : D) (left : Option (List ℕ)) (logged : Logged) (fold : Fold) (result : Result RunEnd RunStop) : Type 0 where
  -- A crash at any moment leaves the chain from before, and the first blocks, any number of them,
  -- of those that the fold adds.
  pub images : IsKnown (disk old (now old)) → Keeps now disk old new (IsPartly next_in_chain logged
      (added_by_all fold.taken))
  -- All lines were printed if it came to its end, else a prefix of them; and each line that was
  -- begun keeps its promise from then on.
  pub lines : IsKnown (disk old (now old)) → Telling next_in_chain now disk told old new
      (fold_lines compiled_in logged.blocks fold) (is_ok result)
  -- If it came to its end and the fold adds no block, the disk is as it was.
  pub unwritten : is_ok result ≡ true → added_by_all fold.taken ≡ [] → Stays now disk old new
  pub ended : IfOk result (HasEnded (disk new (now new)) left logged fold)

-- The image stands for this chain, and any blocks after it.
abbrev pub GoesFrom : Logged → List ℕ → Type 0
GoesFrom logged image = (more : List Block) × (chain_in image ≡ Some (with_blocks logged more))

-- The image stands for the chain of `before`, and any blocks after it. It is marked exactly if that
-- is.
abbrev pub Grows : NextBlock → List ℕ → List ℕ → Type 0
Grows next before image =
    (logged : Logged) → chain_of next before ≡ Some logged → (more : List Block)
    × (chain_of next image ≡ Some (with_blocks logged more))

-- ---- the mark

-- A line that promises that the log is marked.
abbrev pub marked_line : List ℕ → Line
marked_line text = record { text = text; promise = IsMarked }

-- The line of `upgrade` for a log with this number of blocks, which was marked or wasn't.
abbrev pub upgrade_text : Bool → ℕ → List ℕ
upgrade_text true count = already_upgraded_line
upgrade_text false count = upgraded_line count

-- What `upgrade` does to a log that was marked or wasn't.
abbrev pub upgrade_change : Bool → Change
upgrade_change true = NoChange
upgrade_change false = Marks

-- What becomes of the disk and of the wire where a log of this chain is marked, whatever is
-- returned.
pub record Upgrades {D T : Type 0} (now : D → ℕ) (disk : D → ℕ → Option DiskState) (told : D → Option (List Tell)) (old new : D) (logged : Logged) (result : Result T RunStop) : Type 0 where
  -- A crash at any moment leaves the chain from before, marked or as it was.
  pub images : IsKnown (disk old (now old)) → Keeps now disk old new (IsOldOrMarked next_in_chain
      logged)
  -- The line was printed if it came to its end, else a prefix of it; and once it was begun, the log
  -- stays marked.
  pub lines : IsKnown (disk old (now old)) → Telling next_in_chain now disk told old new
      (marked_line (upgrade_text logged.marked (length logged.blocks)) ∷ []) (is_ok result)
  -- A log that was marked stays as it is.
  pub unwritten : logged.marked ≡ true → Stays now disk old new
  -- If it came to its end, nothing is pending, and the log is marked.
  pub ended : IfOk result (λ done. Rests (disk new (now new))
      (λ image. chain_in image ≡ Some (with_mark logged)))
