-- A chain and the log of its blocks: what bytes on a disk stand for, and what a crash may leave of
-- them.
use Rattle.std.specs.Prelude.{◌≡◌, ◌⊎◌, ℕ, ◌+◌, Bool, true, false, List, [], ◌∷◌, ◌++◌, length}
use Rattle.std.specs.Prelude.{Option, Some, None, IfSome, Result, Ok, Err}
use Rattle.std.specs.Option.{is_some}
use Rattle.lc_io.specs.Disk.{DiskState}
use Rattle.lc_io.specs.Scratch.{ScratchState, is_known}
use Rattle.body_store.specs.Bodies.{BodiesState}
use Rattle.rooted_chain.specs.merkle_dag.Lineage.{LineageState, AgreesWith}
use Rattle.disk_model.specs.Disk.{Keeps, Rests, content_of}
use Rattle.block_codec.specs.Reading.{block_in}
use Rattle.block_codec.specs.Placement.{bytes_digest, last_digest, FitsVersions}
use Rattle.block_codec.specs.declared.block.Block.{Block}
use Rattle.block_log.specs.Standing.{Standing, NotALog, Damaged, Placer, NextBlock, next_block}
use Rattle.block_log.specs.Standing.{Logged, with_blocks, logged_of, chain_of}
use Rattle.block_log.specs.Log.{LogState, Agrees, IsOldOrNew, next_in_log}
use Rattle.block_log.specs.declared.layout.Stored.{Stored}
use Rattle.rooted_chain.specs.chain_exec.Compiled.{compiled_in}
use Rattle.rooted_chain.specs.chain_exec.Fold.{block_effects}
use Rattle.rooted_chain.specs.chain_exec.Replay.{replay}
use Rattle.rooted_chain.specs.chain_replay.Chain.{ChainState, StandsFor, placement_by_mark}
use Rattle.rooted_chain.specs.chain_replay.Judging.{Taken, Known, Added, added_by, judgement_kept}
use Rattle.rooted_chain.specs.chain_replay.declared.marking.Marking.TheVariants as markings
use Rattle.rooted_chain.specs.chain_replay.declared.refusal.Refusal.{Refusal}
use Rattle.lc_base.specs.declared.host_error.HostError.{HostError}
use Rattle.lc_base.specs.declared.host_error.HostError.TheVariants as replays
use Rattle.rooted_chain.specs.Roots.{root_in, lineage_of}
use Rattle.recovery.specs.declared.errors.StartError.{StartError}
use Rattle.recovery.specs.declared.errors.StartError.TheVariants as starts
use Rattle.recovery.specs.declared.errors.AppendError.{AppendError}
use Rattle.recovery.specs.declared.errors.AppendError.TheVariants as errors
use Rattle.recovery.specs.declared.node.Appended.{Appended}
use Rattle.recovery.specs.declared.node.Appended.TheVariants as appendeds

-- What a node keeps: the state of its chain, where the bodies of the rows are kept, and the state
-- of the log.
pub record NodeState : Type 0 where
  pub chain : ChainState
  pub bodies : BodiesState
  pub log : LogState

-- The lineage of its chain.
abbrev pub lineage_in : NodeState → LineageState
lineage_in node = lineage_of node.chain node.bodies

-- The log holds the number of the chain's blocks and the digest of the last one. If it has no head,
-- it has no mark either.
pub record AreOfOneChain (chain : ChainState) (log : LogState) : Type 0 where
  pub count_is : log.count ≡ length chain.digests
  pub last_is : log.last ≡ last_digest chain.digests
  pub headless : log.is_ready ≡ false → log.is_marked ≡ false

-- The chain of these blocks, marked as the log is.
abbrev pub logged_in : LogState → List Block → Logged
logged_in log blocks = record { blocks = blocks; marked = log.is_marked }

-- The place of a block after those of a log that is marked or isn't, with the rows of these
-- counted.
abbrev pub stored_placement : Placer
stored_placement = placement_by_mark compiled_in

-- The next block of a chain, with the rows of the blocks before it counted.
abbrev pub next_in_chain : NextBlock
next_in_chain = next_block block_in stored_placement

-- The chain that the bytes of a log stand for, with rows counted, and whether it is marked.
abbrev pub chain_in : List ℕ → Option Logged
chain_in image = chain_of next_in_chain image

-- The bytes on the disk are those that the log agrees with, and stand for these blocks, marked as
-- the log is.
pub record HoldsChain (log : LogState) (blocks : List Block) (image : List ℕ) : Type 0 where
  pub agrees : Agrees log image
  pub stands : chain_in image ≡ Some (logged_in log blocks)

-- A chain and a log of these blocks: the chain stands for them; if the log is not marked, the last
-- one has the first version; and if the disk is known, nothing is pending and its content stands
-- for them.
pub record AreOfBlocks (chain : ChainState) (held : LogState) (state : Option DiskState)
    (blocks : List Block) : Type 0 where
  pub kept : StandsFor chain blocks
  pub fits : FitsVersions held.is_marked blocks
  pub log : Rests state (HoldsChain held blocks)

-- A node of these blocks.
abbrev pub IsNodeOf : NodeState → Option DiskState → List Block → Type 0
IsNodeOf node state blocks = AreOfBlocks node.chain node.log state blocks

-- A chain and a log of these blocks, which is marked exactly if they are.
abbrev pub AreOfLogged : ChainState → LogState → Option DiskState → Logged → Type 0
AreOfLogged chain held state logged = AreOfBlocks chain held state logged.blocks
    × (held.is_marked ≡ logged.marked)

-- A node over a disk and a scratch device. Whether or not it is known which bytes the device holds,
-- the lineage agrees with the device, and if the disk is known, nothing is pending, and the log
-- agrees with its content. If it is known which bytes the device holds, it is the node of some
-- blocks.
pub record IsReady (node : NodeState) (state : Option DiskState) (scratch : ScratchState) : Type 0
  where
    pub agrees : AgreesWith (lineage_in node) scratch
    pub log : Rests state (Agrees node.log)
    pub of : is_known scratch ≡ true → (blocks : List Block) × IsNodeOf node state blocks

-- Why nothing can be started on bytes that stand for this.
abbrev pub IsNoStart : Standing → StartError → Type 0
IsNoStart stands starts.NotALog = stands ≡ NotALog
IsNoStart stands (starts.Damaged at) = (before : List Stored) × (stands ≡ Damaged before at)
IsNoStart stands starts.DiskFault = Unit {0}
IsNoStart stands starts.ScratchFault = Unit {0}
IsNoStart stands starts.Memory = Unit {0}

-- What is started on bytes that stand for this: it is of what they hold, in the sense of `IsOf`, or
-- the error says why nothing was started.
abbrev pub IsStarted : {A : Type 0} → (A → Logged → Type 0) → Standing → Result A StartError
    → Type 0
IsStarted IsOf stands (Ok started) = (logged : Logged) × (logged_of stands ≡ Some logged)
    × IsOf started logged
IsStarted IsOf stands (Err error) = IsNoStart stands error

-- A node of the blocks, on this disk, was started, with a log that is marked exactly if they are.
abbrev pub IsNodeStarted : Option DiskState → Standing → Result NodeState StartError → Type 0
IsNodeStarted state stands result = IsStarted (λ node. AreOfLogged node.chain node.log state) stands
    result

-- A chain was started that stands for the blocks.
abbrev pub IsChainStored : Standing → Result ChainState StartError → Type 0
IsChainStored stands result = IsStarted (λ chain logged. StandsFor chain logged.blocks) stands
    result

-- ---- a log without its chain

-- A log of these blocks, which is marked exactly if they are: it holds their number, and if the disk
-- is known, nothing is pending and its content stands for them.
pub record IsLogOf (held : LogState) (state : Option DiskState) (logged : Logged) : Type 0 where
  pub count_is : held.count ≡ length logged.blocks
  pub marked_is : held.is_marked ≡ logged.marked
  pub log : Rests state (HoldsChain held logged.blocks)

-- The log of the blocks, on this disk, was opened.
abbrev pub IsLogStored : Option DiskState → Standing → Result LogState StartError → Type 0
IsLogStored state stands result = IsStarted (λ held. IsLogOf held state) stands result

-- ---- one more block

-- What a crash may leave while bytes with this judgement are taken: the chain from before, or that
-- with the block that they add.
abbrev pub IsStepOf : Logged → Result Taken Refusal → List ℕ → Type 0
IsStepOf logged (Ok frame) image = (chain_in image ≡ Some logged)
    ⊎ (chain_in image ≡ Some (with_blocks logged (added_by frame)))
IsStepOf logged (Err refusal) image = chain_in image ≡ Some logged

-- What a crash may leave of the log by itself, with rows not counted, while bytes that spell this
-- are taken: the chain from before, or that with the block that they spell.
abbrev pub IsLogStepOf : Logged → Result Block ℕ → List ℕ → Type 0
IsLogStepOf logged (Ok block) image = IsOldOrNew next_in_log logged block image
IsLogStepOf logged (Err offset) image = chain_of next_in_log image ≡ Some logged

-- While these bytes are taken, a crash at any moment leaves only that. It is said of the log alone,
-- so it holds whatever the scratch device returns.
abbrev pub KeepsLog : {D : Type 0} → (D → ℕ) → (D → ℕ → Option DiskState) → D → D → List ℕ → Type 0
KeepsLog now disk old new bytes = (logged : Logged) (content : List ℕ)
    → content_of (disk old (now old)) ≡ Some content
    → chain_of next_in_log content ≡ Some logged
    → Keeps now disk old new (IsLogStepOf logged (block_in bytes))

-- What is reported of bytes with this judgement that were not refused. A block that is held already
-- leaves the node as it was; an added one is reported with its rows, its receipts and the root at
-- it.
abbrev pub IsAppended : NodeState → List Block → Result Taken Refusal → NodeState → Appended
    → Type 0
IsAppended old blocks judgement node (appendeds.Known number) =
    (block : Block) × (judgement ≡ Ok (Known block)) × (number ≡ block.number) × (node ≡ old)
IsAppended old blocks judgement node (appendeds.Added number rows receipts root) =
    (block : Block) × (judgement ≡ Ok (Added block)) × (number ≡ block.number)
    × (rows ≡ length (block_effects compiled_in (replay compiled_in blocks) block).rows)
    × (receipts ≡ (block_effects compiled_in (replay compiled_in blocks) block).receipts)
    × (root.0 ≡ root_in compiled_in (blocks ++ block ∷ []) block.number)

-- The chain after bytes with this judgement.
abbrev pub blocks_after : List Block → Result Taken Refusal → List Block
blocks_after blocks (Ok frame) = blocks ++ added_by frame
blocks_after blocks (Err refusal) = blocks

-- The node that is returned with an error for bytes with this judgement: the node as it was if they
-- are refused, else none.
abbrev pub IsHandedBack : NodeState → Option DiskState → List Block → Result Taken Refusal
    → Option NodeState → AppendError → Type 0
IsHandedBack old state blocks judgement back (errors.Refused refusal) = (judgement ≡ Err refusal)
    × (back ≡ Some old) × IsNodeOf old state blocks
IsHandedBack old state blocks judgement back errors.DiskFault = back ≡ None
IsHandedBack old state blocks judgement back errors.ScratchFault = back ≡ None
IsHandedBack old state blocks judgement back errors.Memory = back ≡ None

-- What is returned for bytes with this judgement.
abbrev pub IsAppendAnswer : NodeState → Option DiskState → List Block → Result Taken Refusal
    → Result (NodeState × Appended) (Option NodeState × AppendError) → Type 0
IsAppendAnswer old state blocks judgement (Ok done) = IsAppended old blocks judgement done.0 done.1
    × IsNodeOf done.0 state (blocks_after blocks judgement)
IsAppendAnswer old state blocks judgement (Err back) = IsHandedBack old state blocks judgement
    back.0 back.1

-- What is returned for bytes with this judgement, by itself: they are known, added or refused as it
-- says; or a device failed while a block was added; or memory ran out.
abbrev pub IsAsJudged : Result Taken Refusal
    → Result (NodeState × Appended) (Option NodeState × AppendError) → Type 0
IsAsJudged judgement (Ok (node, appendeds.Known number)) =
    (block : Block) × (judgement ≡ Ok (Known block)) × (number ≡ block.number)
IsAsJudged judgement (Ok (node, appendeds.Added number rows receipts root)) =
    (block : Block) × (judgement ≡ Ok (Added block)) × (number ≡ block.number)
IsAsJudged judgement (Err (back, errors.Refused refusal)) = judgement ≡ Err refusal
IsAsJudged judgement (Err (back, errors.DiskFault)) =
    (block : Block) × (judgement ≡ Ok (Added block))
IsAsJudged judgement (Err (back, errors.ScratchFault)) =
    (block : Block) × (judgement ≡ Ok (Added block))
IsAsJudged judgement (Err (back, errors.Memory)) = Unit {0}

-- The judgement of bytes by what a node keeps, whatever blocks that stands for.
abbrev pub node_judgement : NodeState → List ℕ → Result Taken Refusal
node_judgement node bytes =
    judgement_kept (markings.OfLog node.log.is_marked) node.chain (block_in bytes)

-- The error of a block that did not run, as an error of the node.
abbrev pub append_error : HostError → AppendError
append_error replays.Fault = errors.ScratchFault
append_error replays.Memory = errors.Memory

-- Whether a block was added.
abbrev pub was_added : Appended → Bool
was_added (appendeds.Known number) = false
was_added (appendeds.Added number rows receipts root) = true

-- Whether the disk failed.
abbrev pub is_disk_fault : AppendError → Bool
is_disk_fault (errors.Refused refusal) = false
is_disk_fault errors.DiskFault = true
is_disk_fault errors.ScratchFault = false
is_disk_fault errors.Memory = false

-- Whether the scratch device failed.
abbrev pub is_scratch_fault : AppendError → Bool
is_scratch_fault (errors.Refused refusal) = false
is_scratch_fault errors.DiskFault = false
is_scratch_fault errors.ScratchFault = true
is_scratch_fault errors.Memory = false

-- Whether the chain refused the bytes.
abbrev pub is_refusal : AppendError → Bool
is_refusal (errors.Refused refusal) = true
is_refusal errors.DiskFault = false
is_refusal errors.ScratchFault = false
is_refusal errors.Memory = false

-- Whether the disk was touched: a block was added, or the disk failed.
abbrev pub reaches_disk : {N B : Type 0} → Result (N × Appended) (B × AppendError) → Bool
reaches_disk (Ok done) = was_added done.1
reaches_disk (Err back) = is_disk_fault back.1

-- The result is an error of this kind.
abbrev pub Blames : {N B : Type 0} → (AppendError → Bool) → Result N (B × AppendError) → Type 0
Blames is_fault (Ok done) = ⊥
Blames is_fault (Err back) = is_fault back.1 ≡ true

-- A node is returned with an error exactly if the error is a refusal.
abbrev pub HandsBack : {N M : Type 0} → Result N (Option M × AppendError) → Type 0
HandsBack (Ok done) = Unit {0}
HandsBack (Err back) = is_some back.0 ≡ is_refusal back.1

-- The node that is returned, if there is one, whatever is known of its devices: the same one; or if
-- a block was added, its number is that of the next one, and the node has the digest of these bytes
-- after the others, and as many more rows as are reported.
abbrev pub IsNodeAfter : NodeState → List ℕ
    → Result (NodeState × Appended) (Option NodeState × AppendError) → Type 0
IsNodeAfter old bytes (Ok (node, appendeds.Known number)) = node ≡ old
IsNodeAfter old bytes (Ok (node, appendeds.Added number rows receipts root)) =
    (number ≡ length old.chain.digests)
    × (node.chain.digests ≡ old.chain.digests ++ bytes_digest bytes ∷ [])
    × (length node.chain.rows ≡ length old.chain.rows + rows)
IsNodeAfter old bytes (Err back) = IfSome back.0 (λ node. node ≡ old)

-- This holds of the node that is returned, if there is one: with what became of the block, or with
-- an error.
abbrev pub IfNode : (NodeState → Type 0)
    → Result (NodeState × Appended) (Option NodeState × AppendError) → Type 0
IfNode P (Ok done) = P done.0
IfNode P (Err back) = IfSome back.0 P

-- ---- the mark

-- A log with a head and a mark, of as many blocks as another, with the same last one.
pub record IsMarkedLog (old new : LogState) : Type 0 where
  pub count_is : new.count ≡ old.count
  pub last_is : new.last ≡ old.last
  pub marked_is : new.is_marked ≡ true
  pub has_head : new.is_ready ≡ true

-- What marking a node leaves of it: the same chain, with the same bodies, and a log that is marked.
pub record IsUpgraded (old new : NodeState) : Type 0 where
  pub chain_is : new.chain ≡ old.chain
  pub bodies_are : new.bodies ≡ old.bodies
  pub log : IsMarkedLog old.log new.log
