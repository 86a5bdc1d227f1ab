-- Chains of blocks, and the state that is kept of them: it determines where the next block is
-- placed.
use Rattle.std.specs.Prelude.{◌≡◌, ℕ, ◌<◌, ◌≤◌, Bool, true, List, [], ◌∷◌, ◌++◌, length, map, slice_get, slice_index_or, take}
use Rattle.std.specs.List.{All}
use Rattle.lc_base.specs.History.{IsLawful}
use Rattle.lc_base.specs.declared.digest.Digest.{Digest}
use Rattle.lc_base.specs.declared.row.Row.{Row}
use Rattle.block_codec.specs.Placement.{digest_of, last_digest, is_marked_by, last_version}
use Rattle.block_codec.specs.Placement.{placement, placement_after}
use Rattle.block_codec.specs.declared.limits.TheConstants.{MAX_MARKED_BLOCKS, MAX_ROWS_BEFORE_BLOCK}
use Rattle.block_codec.specs.declared.block.Block.{Block}
use Rattle.block_codec.specs.declared.placement.Placement.{Placement}
use Rattle.block_codec.specs.declared.placement.Placement.TheVariants as placements
use Rattle.lc_io.specs.Scratch.{ScratchState, is_known}
use Rattle.contract_tree.specs.declared.tree.Contract.{Contract}
use Rattle.world_state.specs.Known.{Known}
use Rattle.world_state.specs.World.{StandsForRows}
use Rattle.chain_exec.specs.declared.block.BlockRun.{BlockRun}
use Rattle.chain_exec.specs.Compiled.{Compiler, compiled_in}
use Rattle.chain_exec.specs.Effect.{History}
use Rattle.chain_exec.specs.Fold.{block_effects}
use Rattle.chain_exec.specs.Running.{codes_seen}
use Rattle.chain_exec.specs.Replay.{history_after, replay}

-- The placement of a block after a chain of blocks that is `marked` or isn't: after a log's, whose
-- mark says which version is next.
abbrev pub placement_by_mark : Compiler → Bool → List Block → Block → Placement
placement_by_mark compile marked blocks block =
    placement_after marked (length (replay compile blocks).rows) blocks block

-- The placement of a block after a chain of blocks that no log keeps: their versions say which
-- version is next.
abbrev pub placement_in : Compiler → List Block → Block → Placement
placement_in compile blocks block =
    placement_by_mark compile (is_marked_by (last_version blocks) block) blocks block

-- A chain: each of its blocks is placed as the next one after those before it. So its first blocks
-- have the first version, and those from one of the second version on all have that.
abbrev pub IsChain : Compiler → List Block → Type 0
IsChain compile blocks = (i : ℕ) (block : Block) → i < length blocks → placement_in compile (take i blocks) (slice_index_or blocks i block) ≡ placements.Next

-- ---- what is kept

-- What is kept of a chain: the digests of its blocks, their rows, and the contracts that they
-- deployed, by name.
pub record ChainState : Type 0 where
  pub digests : List Digest
  pub rows : List Row
  pub codes : List (List ℕ × Contract)

-- The history that is kept: the rows and the codes.
abbrev pub history_kept : ChainState → History
history_kept kept = record { rows = kept.rows; codes = codes_seen kept.codes }

-- What is kept of the chain of no block.
abbrev pub nothing_kept : ChainState
nothing_kept = record { digests = []; rows = []; codes = [] }

-- The placement of a block with this digest, by what is kept of a chain that is `marked` or isn't.
abbrev pub placement_kept : Bool → ChainState → Block → Digest → Placement
placement_kept marked kept block digest =
    placement marked (length kept.digests) (length kept.rows) (slice_get kept.digests block.number) (last_digest kept.digests) block digest

-- The block has the number of the next one, and there is room for it and its rows.
pub record HasRoom (kept : ChainState) (block : Block) : Type 0 where
  pub number : block.number ≡ length kept.digests
  pub room : length kept.digests < MAX_MARKED_BLOCKS
  pub few_rows : length kept.rows ≤ MAX_ROWS_BEFORE_BLOCK

-- What is kept after one more block: its digest too, and the history with what it did; and this is
-- what the run reports.
pub record IsAfter (old : ChainState) (block : Block) (digest : Digest) (new : ChainState) (run : BlockRun) : Type 0 where
  pub digests : new.digests ≡ old.digests ++ digest ∷ []
  pub history : history_kept new ≡ history_after compiled_in (history_kept old) block
  pub rows : run.rows ≡ (block_effects compiled_in (history_kept old) block).rows
  pub receipts : run.receipts ≡ (block_effects compiled_in (history_kept old) block).receipts

-- What is kept is of at most MAX_MARKED_BLOCKS blocks: a lawful history of rows of these blocks
-- only, and a world that stands for the rows, with no block at work.
pub record IsKeptChain (digests : List Digest) (rows : List Row) (world : Known Contract) : Type 0 where
  pub few : length digests ≤ MAX_MARKED_BLOCKS
  pub lawful : IsLawful rows
  pub held : All (λ row. row.block < length digests) rows
  pub stands : StandsForRows world rows
  pub no_rows : world.staged ≡ []
  pub no_codes : world.staged_codes ≡ []

-- What is kept stands for these blocks, which are a chain.
pub record StandsFor (kept : ChainState) (blocks : List Block) : Type 0 where
  pub chained : IsChain compiled_in blocks
  pub digests_are : kept.digests ≡ map digest_of blocks
  pub history_is : history_kept kept ≡ replay compiled_in blocks

-- ---- a scratch device that a chain may be lent

-- If the device is called, it is known which bytes it holds.
abbrev pub IsKnownFor : Bool → ScratchState → Type 0
IsKnownFor calls_scratch scratch = calls_scratch ≡ true → is_known scratch ≡ true
