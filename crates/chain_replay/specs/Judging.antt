-- Judging bytes: a decoded block is judged by its placement, and other bytes are refused.
use Rattle.std.specs.Prelude.{◌≡◌, ◌==◌, ℕ, Bool, List, [], ◌∷◌, Result, Ok, Err}
use Rattle.std.specs.List.{flat_map}
use Rattle.lc_base.specs.declared.digest.Digest.{Digest}
use Rattle.block_codec.specs.Reading.{block_in}
use Rattle.block_codec.specs.Spelling.{IsBlock}
use Rattle.block_codec.specs.Placement.{digest_of, is_marked_by, most_blocks}
use Rattle.block_codec.specs.declared.block.TheConstants.{SECOND_VERSION}
use Rattle.block_codec.specs.declared.block.Block.{Block}
use Rattle.block_codec.specs.declared.placement.Placement.{Placement}
use Rattle.block_codec.specs.declared.placement.Placement.TheVariants as placements
use Rattle.chain_exec.specs.Compiled.{Compiler}
use Rattle.chain_replay.specs.Chain.{ChainState, HasRoom, placement_by_mark, placement_kept}
use Rattle.chain_replay.specs.declared.marking.Marking.{Marking}
use Rattle.chain_replay.specs.declared.marking.Marking.TheVariants as markings
use Rattle.chain_replay.specs.declared.refusal.Refusal.{Refusal}
use Rattle.chain_replay.specs.declared.refusal.Refusal.TheVariants as refusals
use Rattle.chain_replay.specs.declared.judging.Judged.{Judged}
use Rattle.chain_replay.specs.declared.judging.Judged.TheVariants as judgements

-- What bytes spell that are not refused: a block that the chain holds already, or its next one.
pub data Taken : Type 0 where
  Known : Block → Taken
  Added : Block → Taken

-- The judgement of a block, by its placement.
abbrev pub judged_by_placement : Block → Placement → Result Taken Refusal
judged_by_placement block placements.Known = Ok (Known block)
judged_by_placement block placements.Next = Ok (Added block)
judged_by_placement block (placements.Not why) = Err (refusals.Placed why)

-- The place of a block after others.
abbrev pub Placer : Type 0
Placer = List Block → Block → Placement

-- The judgement of bytes, by what they spell: a block, or the offset from which they are invalid.
-- `place` says where the block stands after others.
abbrev pub judgement_of : Placer → List Block → Result Block ℕ → Result Taken Refusal
judgement_of place blocks (Ok block) = judged_by_placement block (place blocks block)
judgement_of place blocks (Err offset) = Err (refusals.Malformed offset)

-- ---- which version is next

-- Whether a block is placed as in a marked chain.
abbrev pub is_marked_for : Marking → Block → Bool
is_marked_for (markings.OfLog marked) block = marked
is_marked_for (markings.OfVersions last) block = is_marked_by last block

-- The greatest number of blocks of a chain, by what says which version is next.
abbrev pub most_blocks_for : Marking → ℕ
most_blocks_for (markings.OfLog marked) = most_blocks marked
most_blocks_for (markings.OfVersions last) = most_blocks (last == SECOND_VERSION)

-- The place of a block after others, by what says which version is next.
abbrev pub placement_for : Compiler → Marking → Placer
placement_for compile marking blocks block =
    placement_by_mark compile (is_marked_for marking block) blocks block

-- The place of a block by what is kept of a chain, whatever blocks that stands for: the digests say
-- which blocks are held, and the number of the rows whether there is room.
abbrev pub place_kept : Marking → ChainState → Placer
place_kept marking kept blocks block =
    placement_kept (is_marked_for marking block) kept block (digest_of block)

-- The judgement of bytes by what is kept of a chain, whatever blocks that stands for.
abbrev pub judgement_kept : Marking → ChainState → Result Block ℕ → Result Taken Refusal
judgement_kept marking kept = judgement_of (place_kept marking kept) []

-- The blocks that taken bytes add to the chain: their own if it is the next one, else none.
abbrev pub added_by : Taken → List Block
added_by (Known block) = []
added_by (Added block) = block ∷ []

-- All blocks that are added, in order.
abbrev pub added_by_all : List Taken → List Block
added_by_all taken = flat_map added_by taken

-- ---- what a chain reports

-- The chain reports this judgement.
abbrev pub IsJudged : Judged → Result Taken Refusal → Type 0
IsJudged (judgements.Known number) judgement = (block : Block) × (judgement ≡ Ok (Known block)) × (number ≡ block.number)
IsJudged (judgements.Next block digest) judgement = judgement ≡ Ok (Added block)
IsJudged (judgements.Refused refusal) judgement = judgement ≡ Err refusal

-- If a block is reported as the next one, this holds of it and its digest.
abbrev pub IfNext : Judged → (Block → Digest → Type 0) → Type 0
IfNext (judgements.Known number) P = Unit {0}
IfNext (judgements.Next block digest) P = P block digest
IfNext (judgements.Refused refusal) P = Unit {0}

-- The reported block and digest are these, and the placement is that of the next block.
pub record IsPlacedBlock (block : Block) (digest : Digest) (placement : Placement) (next : Block) (next_digest : Digest) : Type 0 where
  pub block_is : next ≡ block
  pub digest_is : next_digest ≡ digest
  pub is_next : placement ≡ placements.Next

-- The bytes spell this block, which has this digest and is the next one of what is kept.
pub record IsNextBlock (marking : Marking) (kept : ChainState) (bytes : List ℕ) (block : Block) (digest : Digest) : Type 0 where
  pub decoded : block_in bytes ≡ Ok block
  pub lawful : IsBlock block
  pub digest_is : digest ≡ digest_of block
  pub room : HasRoom kept block
  pub placed : placement_kept (is_marked_for marking block) kept block digest ≡ placements.Next
