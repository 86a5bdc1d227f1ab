-- Where chains of blocks are found, in logs and in inputs of frames; and the versions of their
-- blocks.
use Rattle.std.specs.Prelude.{◌≡◌, ◌⊎◌, ◌≤◌, ℕ, Bool, List, ◌++◌, Some}
use Rattle.std.specs.List.{All, AllPairs}
use Rattle.byte_fields.specs.Spelling.{IsBytes}
use Rattle.block_codec.specs.Placement.{FitsVersions}
use Rattle.block_codec.specs.Spelling.{Decoder, IsDecoder}
use Rattle.block_codec.specs.declared.block.Block.{Block}
use Rattle.block_codec.specs.declared.block.TheConstants.{FIRST_VERSION, SECOND_VERSION}
use Rattle.block_log.specs.Standing.{Logged, next_block, chain_of}
use Rattle.chain_input.specs.chain_exec.Compiled.{Compiler}
use Rattle.chain_input.specs.chain_replay.Chain.{IsChain, placement_by_mark, placement_in}
use Rattle.chain_input.specs.chain_replay.Judging.{added_by_all}
use Rattle.chain_input.specs.Folding.{fold_from, fold_input}
use Rattle.replay_soundness.specs.TypedChains.{IsLawfulChain}

-- The blocks that the bytes of a log stand for are a chain, where each is placed as in a chain that
-- is marked or isn't, as the mark stands before it or doesn't; and the mark fits them, as it must for
-- the frames of an input to add to the log.
abbrev pub LogsHoldChains : Type 0
LogsHoldChains =
    (read : Decoder) (compile : Compiler) (image : List ℕ) (logged : Logged) → IsDecoder read → IsBytes image
    → chain_of (next_block read (placement_by_mark compile)) image ≡ Some logged
    → IsLawfulChain compile logged.blocks × FitsVersions logged.marked logged.blocks

-- A chain with the blocks that the frames of an input add to it is a chain, wherever the frames
-- end: where the versions of its blocks say which version is next;
abbrev pub InputsAddToChains : Type 0
InputsAddToChains =
    (read : Decoder) (compile : Compiler) (frames : ℕ) (blocks : List Block) (input : List ℕ) → IsDecoder read → IsBytes input
    → IsLawfulChain compile blocks
    → IsLawfulChain compile
    (blocks ++ added_by_all (fold_from read (placement_in compile) frames blocks input).taken)

-- and where a mark says so that fits the chain, as in a log.
abbrev pub InputsAddToLogs : Type 0
InputsAddToLogs =
    (read : Decoder) (compile : Compiler) (marked : Bool) (frames : ℕ) (blocks : List Block)
    (input : List ℕ) → IsDecoder read → IsBytes input → FitsVersions marked blocks
    → IsLawfulChain compile blocks
    → IsLawfulChain compile (blocks
    ++ added_by_all (fold_from read (placement_by_mark compile marked) frames blocks input).taken)

-- The blocks that the frames of an input add to no block are a chain.
abbrev pub InputsHoldChains : Type 0
InputsHoldChains =
    (read : Decoder) (compile : Compiler) (input : List ℕ) → IsDecoder read → IsBytes input
    → IsLawfulChain compile (added_by_all (fold_input read (placement_in compile) input).taken)

-- ---- the versions of a chain's blocks

-- Each block has the first or the second version, and no lower one than any block before it.
pub record HaveRisingVersions (blocks : List Block) : Type 0 where
  pub each : All (λ block. (block.version ≡ FIRST_VERSION)
      ⊎ (block.version ≡ SECOND_VERSION)) blocks
  pub rise : AllPairs (λ earlier later. earlier.version ≤ later.version) blocks

-- So it is in every chain, by whatever compiler.
abbrev pub VersionsOnlyRise : Type 0
VersionsOnlyRise =
    (compile : Compiler) (blocks : List Block) → IsChain compile blocks → HaveRisingVersions blocks
