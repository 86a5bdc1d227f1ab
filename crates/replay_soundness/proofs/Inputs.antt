-- A chain stays a chain with the blocks that an input adds.
use Rattle.std.proofs.Common.{◌≡◌, ℕ, zero, suc, ◌+◌, ◌-◌, List, [], ◌++◌, Result, Ok, Err, refl, sym, subst, append-nil, append_assoc}
use Rattle.byte_fields.specs.Spelling.{IsBytes}
use Rattle.block_codec.specs.Frames.{FrameStep, End, Truncated, Length, Many, Frame, frame_step}
use Rattle.block_codec.specs.Placement.{FitsVersions}
use Rattle.block_codec.specs.Spelling.{Decoder, IsDecoder}
use Rattle.block_codec.specs.declared.limits.TheConstants.{MAX_FRAMES}
use Rattle.block_codec.specs.declared.block.Block.{Block}
use Rattle.block_codec.specs.declared.placement.Placement.{Placement}
use Rattle.block_codec.specs.declared.placement.Placement.TheVariants.{Known as KnownBlock, Next, Not}
use Rattle.block_codec.proofs.FrameBytes.{frame_bytes}
use Rattle.chain_input.specs.chain_exec.Compiled.{Compiler}
use Rattle.chain_input.specs.chain_replay.Chain.{placement_by_mark, placement_in}
use Rattle.chain_input.specs.chain_replay.Judging.{Placer, Taken, Known, Added, judged_by_placement}
use Rattle.chain_input.specs.chain_replay.Judging.{judgement_of, added_by, added_by_all}
use Rattle.chain_input.specs.chain_replay.declared.refusal.Refusal.{Refusal}
use Rattle.chain_input.specs.Folding.{Fold, fold_after_frame, fold_step, fold_from}
use Rattle.replay_soundness.specs.Chains.{InputsAddToChains, InputsAddToLogs, InputsHoldChains}
use Rattle.replay_soundness.proofs.Longer.{PlacesAsChain, IsFitting, no_blocks, by_versions}
use Rattle.replay_soundness.proofs.Longer.{by_mark, longer_fitting}

-- ---- frame by frame

module _ (read : Decoder) (compile : Compiler) (place : Placer) (Fits : List Block → Type 0)
    (placed : PlacesAsChain compile place Fits) (right : IsDecoder read) where
  same_chain : (blocks : List Block) → IsFitting compile Fits blocks → IsFitting compile Fits (blocks ++ [])
  same_chain blocks chain = subst (IsFitting compile Fits) (sym (append-nil blocks)) chain

  -- the blocks of a chain, with those that bytes add by the judgement of their placement, are a
  -- chain
  by_placement : (blocks : List Block) (bytes : List ℕ) (block : Block) (frame : Taken) → IsBytes bytes → IsFitting compile Fits blocks → read bytes ≡ Ok block
      → (placement : Placement) → place blocks block ≡ placement → judged_by_placement block placement ≡ Ok frame → IsFitting compile Fits (blocks ++ added_by frame)
  by_placement blocks bytes block frame fits chain spelled KnownBlock e is =
      let known : Known block ≡ frame = cc is in subst (λ (f : Taken). IsFitting compile Fits (blocks ++ added_by f)) known (same_chain blocks chain)
  by_placement blocks bytes block frame fits chain spelled Next e is =
      let new : Added block ≡ frame = cc is in
      subst (λ (f : Taken). IsFitting compile Fits (blocks ++ added_by f)) new (longer_fitting compile place Fits placed blocks block chain (right.found bytes block fits spelled).lawful e)
  by_placement blocks bytes block frame fits chain spelled (Not why) e is = absurd (cc is)

  by_judgement : (blocks : List Block) (bytes : List ℕ) (frame : Taken) → IsBytes bytes → IsFitting compile Fits blocks → (decoded : Result Block ℕ) → read bytes ≡ decoded
      → judgement_of place blocks decoded ≡ Ok frame → IsFitting compile Fits (blocks ++ added_by frame)
  by_judgement blocks bytes frame fits chain (Ok block) spelled is = by_placement blocks bytes block frame fits chain spelled (place blocks block) refl is
  by_judgement blocks bytes frame fits chain (Err offset) spelled is = absurd (cc is)

  abbrev AddsTo : List Block → Fold → Type 0
  AddsTo blocks fold = IsFitting compile Fits (blocks ++ added_by_all fold.taken)

  abbrev GoesOn : (List Block → List ℕ → Fold) → Type 0
  GoesOn next = (blocks : List Block) (input : List ℕ) → IsBytes input → IsFitting compile Fits blocks → AddsTo blocks (next blocks input)

  after_adds : (next : List Block → List ℕ → Fold) → GoesOn next → (count : ℕ) (blocks : List Block) (bytes rest : List ℕ) → IsBytes bytes → IsBytes rest → IsFitting compile Fits blocks
      → (r : Result Taken Refusal) → judgement_of place blocks (read bytes) ≡ r → AddsTo blocks (fold_after_frame next count blocks rest r)
  after_adds next goes count blocks bytes rest fits rest_fits chain (Ok frame) is =
      subst (IsFitting compile Fits) (append_assoc blocks (added_by frame) (added_by_all (next (blocks ++ added_by frame) rest).taken))
      (goes (blocks ++ added_by frame) rest rest_fits (by_judgement blocks bytes frame fits chain (read bytes) refl is))
  after_adds next goes count blocks bytes rest fits rest_fits chain (Err refusal) is = same_chain blocks chain

  step_adds : (next : List Block → List ℕ → Fold) → GoesOn next → (count : ℕ) (blocks : List Block) (input : List ℕ) → IsBytes input → IsFitting compile Fits blocks
      → (step : FrameStep) → frame_step count input ≡ step → AddsTo blocks (fold_step read place next count blocks input step)
  step_adds next goes count blocks input fits chain End e = same_chain blocks chain
  step_adds next goes count blocks input fits chain Truncated e = same_chain blocks chain
  step_adds next goes count blocks input fits chain (Length size) e = same_chain blocks chain
  step_adds next goes count blocks input fits chain Many e = same_chain blocks chain
  step_adds next goes count blocks input fits chain (Frame frame rest) e =
      let bytes = frame_bytes count input frame rest fits e in
      after_adds next goes count blocks frame rest bytes.0 bytes.1 chain (judgement_of place blocks (read frame)) refl

  fold_adds : (more : ℕ) → GoesOn (fold_from read place more)
  unfolding fold_from
  fold_adds zero blocks input fits chain = same_chain blocks chain
  fold_adds (suc more) blocks input fits chain =
      step_adds (fold_from read place more) (fold_adds more) (MAX_FRAMES - more) blocks input fits chain (frame_step (MAX_FRAMES - more) input) refl

pub inputs_add_to_chains : InputsAddToChains
inputs_add_to_chains read compile frames blocks input right fits chain =
    (fold_adds read compile (placement_in compile) (λ held. Unit {0}) (by_versions compile) right
    frames blocks input fits (record { chain = chain; fits = tt })).chain

pub inputs_add_to_logs : InputsAddToLogs
inputs_add_to_logs read compile marked frames blocks input right fits mark_fits chain =
    (fold_adds read compile (placement_by_mark compile marked) (FitsVersions marked)
    (by_mark compile marked) right frames blocks input fits
    (record { chain = chain; fits = mark_fits })).chain

pub inputs_hold_chains : InputsHoldChains
inputs_hold_chains read compile input right fits =
    inputs_add_to_chains read compile (MAX_FRAMES + 1) [] input right fits (no_blocks compile)
