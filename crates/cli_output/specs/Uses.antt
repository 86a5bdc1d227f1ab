-- What each command uses: what it reads of the input, which chain it works over, and when it
-- prints. `use_of` has one row a command, and all else here follows from it.
use Rattle.std.specs.Prelude.{Bool, true, false, ◌||◌, Option, Some, None}
use Rattle.cli_words.specs.declared.words.Command.{Command}
use Rattle.cli_words.specs.declared.words.Command.TheVariants.{Scan, Fmt, Pack, Gen, Load, Append}
use Rattle.cli_words.specs.declared.words.Command.TheVariants.{Follow, Upgrade}
use Rattle.cli_words.specs.declared.words.Command.TheVariants.{Root, Ask, Prove, Verify, Expose}
use Rattle.cli_words.specs.declared.words.Command.TheVariants.{MakeLight, Light}

-- What is read of the input.
pub data InputUse : Type 0 where
  -- nothing
  Unread : InputUse
  -- frames of blocks
  Frames : InputUse
  -- all of it, as a text
  Text : InputUse
  -- all of it, as a proof that is checked
  ProofText : InputUse
  -- a light file, and then frames of proofs that are checked by it
  ProofFrames : InputUse

-- The chain that is worked over.
pub data ChainUse : Type 0 where
  -- none
  NoChain : ChainUse
  -- the rows of the input's blocks
  InputRows : ChainUse
  -- the rows of the log's blocks, in memory
  LogRows : ChainUse
  -- the lineage of the log's blocks, with bodies on the scratch device, which is asked
  LogLineage : ChainUse
  -- that lineage, of which all roots are printed
  LogRoots : ChainUse
  -- the lineage of blocks that are made
  MadeLineage : ChainUse
  -- the lineage of the log's blocks, to which others are appended
  LogAppended : ChainUse
  -- the log by itself, which is marked
  LogMarked : ChainUse

-- When it is printed.
pub data PrintUse : Type 0 where
  -- once all is made
  AtEnd : PrintUse
  -- each piece as soon as it is made
  AsMade : PrintUse

-- What a command uses.
pub record Use : Type 0 where
  pub input : InputUse
  pub chain : ChainUse
  pub print : PrintUse

-- What a command, or words that are none, uses.
abbrev pub use_of : Option Command → Use
use_of None = record { input = Unread; chain = NoChain; print = AtEnd }
use_of (Some (Scan query)) = record { input = Frames; chain = InputRows; print = AtEnd }
use_of (Some (Fmt edition)) = record { input = Text; chain = NoChain; print = AtEnd }
use_of (Some (Pack version)) = record { input = Text; chain = NoChain; print = AtEnd }
use_of (Some (Gen generation)) = record { input = Unread; chain = NoChain; print = AsMade }
use_of (Some (Load generation)) = record { input = Unread; chain = MadeLineage; print = AtEnd }
use_of (Some Append) = record { input = Frames; chain = LogAppended; print = AsMade }
use_of (Some Follow) = record { input = Frames; chain = LogAppended; print = AsMade }
use_of (Some Upgrade) = record { input = Unread; chain = LogMarked; print = AtEnd }
use_of (Some (Root at)) = record { input = Unread; chain = LogLineage; print = AtEnd }
use_of (Some (Ask asked)) = record { input = Unread; chain = LogRows; print = AtEnd }
use_of (Some (Prove question root_at)) = record { input = Unread; chain = LogLineage; print = AtEnd }
use_of (Some (Verify root question)) = record { input = ProofText; chain = NoChain; print = AtEnd }
use_of (Some (Expose root query root_at)) = record { input = ProofText; chain = LogLineage; print = AtEnd }
use_of (Some MakeLight) = record { input = Unread; chain = LogRoots; print = AsMade }
use_of (Some Light) = record { input = ProofFrames; chain = NoChain; print = AsMade }

-- ---- what follows from it

-- Whether the input is read frame by frame, after a light file or from its start.
abbrev pub is_frames : InputUse → Bool
is_frames Frames = true
is_frames ProofFrames = true
is_frames other = false

-- Whether it is checked as a proof, or its frames are.
abbrev pub is_proof : InputUse → Bool
is_proof ProofText = true
is_proof ProofFrames = true
is_proof other = false

-- Whether it is read whole.
abbrev pub is_whole : InputUse → Bool
is_whole Text = true
is_whole ProofText = true
is_whole other = false

-- Whether it has to have a form, besides that of its frames: whole, or as a light file.
abbrev pub is_formed : InputUse → Bool
is_formed ProofFrames = true
is_formed other = is_whole other

-- Whether the lineage of the log's blocks is asked.
abbrev pub is_log_lineage : ChainUse → Bool
is_log_lineage LogLineage = true
is_log_lineage other = false

-- Whether the blocks of the log are asked.
abbrev pub is_log_asked : ChainUse → Bool
is_log_asked LogRows = true
is_log_asked LogRoots = true
is_log_asked other = is_log_lineage other

-- Whether blocks are appended to the log.
abbrev pub is_log_appended : ChainUse → Bool
is_log_appended LogAppended = true
is_log_appended other = false

-- Whether the log is marked.
abbrev pub is_log_marked : ChainUse → Bool
is_log_marked LogMarked = true
is_log_marked other = false

-- Whether the log is changed: blocks are appended to it, or it is marked.
abbrev pub is_log_changed : ChainUse → Bool
is_log_changed LogMarked = true
is_log_changed other = is_log_appended other

-- Whether a block of a chain is asked for.
abbrev pub is_asked : ChainUse → Bool
is_asked InputRows = true
is_asked LogRoots = false
is_asked other = is_log_asked other

-- Whether bodies are kept on the scratch device.
abbrev pub keeps_bodies : ChainUse → Bool
keeps_bodies MadeLineage = true
keeps_bodies LogRoots = true
keeps_bodies other = is_log_lineage other || is_log_appended other

-- Whether each piece is printed as soon as it is made.
abbrev pub is_as_made : PrintUse → Bool
is_as_made AtEnd = false
is_as_made AsMade = true

-- Whether a command, or words that are none, takes frames.
abbrev pub takes_frames : Option Command → Bool
takes_frames command = is_frames (use_of command).input

-- Whether it reads the input whole, as a text.
abbrev pub reads_whole : Option Command → Bool
reads_whole command = is_whole (use_of command).input

-- Whether it reads the input: frame by frame, or whole.
abbrev pub reads_input : Option Command → Bool
reads_input command = takes_frames command || reads_whole command

-- Whether the input has to have a form, besides that of its frames.
abbrev pub reads_form : Option Command → Bool
reads_form command = is_formed (use_of command).input

-- Whether it checks a proof.
abbrev pub checks_proof : Option Command → Bool
checks_proof command = is_proof (use_of command).input

-- Whether it asks for a block of a chain: of the input, or of the log.
abbrev pub asks_for_block : Option Command → Bool
asks_for_block command = is_asked (use_of command).chain

-- Whether it asks the lineage of the log's blocks.
abbrev pub asks_lineage : Option Command → Bool
asks_lineage command = is_log_lineage (use_of command).chain

-- Whether it asks the blocks of the log.
abbrev pub asks_log : Option Command → Bool
asks_log command = is_log_asked (use_of command).chain

-- Whether it may append blocks to the log.
abbrev pub appends_log : Option Command → Bool
appends_log command = is_log_appended (use_of command).chain

-- Whether it may mark the log.
abbrev pub marks_log : Option Command → Bool
marks_log command = is_log_marked (use_of command).chain

-- Whether it may change the log.
abbrev pub changes_log : Option Command → Bool
changes_log command = is_log_changed (use_of command).chain

-- Whether it uses the disk.
abbrev pub uses_disk : Option Command → Bool
uses_disk command = asks_log command || changes_log command

-- Whether it uses the scratch device.
abbrev pub uses_scratch : Option Command → Bool
uses_scratch command = keeps_bodies (use_of command).chain

-- Whether it prints lines while it makes others.
abbrev pub tells_as_it_goes : Option Command → Bool
tells_as_it_goes command = is_as_made (use_of command).print
