-- The blocks of a log are a chain, by induction on its records.
use Rattle.std.proofs.Common.{◌≡◌, ℕ, zero, suc, ◌+◌, Bool, true, false, cond, eqb, List, [], ◌∷◌, ◌++◌, length, take, drop, Option, Some, None, Result, Ok, Err, refl, sym, ap, subst}
use Rattle.std.specs.Int.{w32, from_be_bytes}
use Rattle.std.proofs.lemmas.List.{map_push}
use Rattle.byte_fields.specs.Spelling.{IsBytes}
use Rattle.byte_fields.proofs.Pieces.{IsBytes-drop, IsBytes-take}
use Rattle.block_codec.specs.Placement.{digest_of, FitsVersions}
use Rattle.block_codec.specs.Spelling.{Decoder, IsDecoder}
use Rattle.block_codec.specs.declared.block.Block.{Block}
use Rattle.block_codec.specs.declared.placement.Placement.TheVariants.{Next}
use Rattle.block_log.specs.declared.layout.TheConstants.{OPEN_GATE, FIRST_GATE, MAX_RECORDS}
use Rattle.block_log.specs.declared.layout.Stored.{Stored}
use Rattle.block_log.specs.Standing.{Standing, Blank, NotALog, Damaged, Holds, Logged, nothing_logged, logged_of, Placer, NextBlock, next_decoded, next_block, blocks_in, after_record, is_mark, is_sized, record_at, records_at, is_log, is_blank, standing}
use Rattle.block_log.proofs.Chained.{placed}
use Rattle.chain_input.specs.chain_exec.Compiled.{Compiler}
use Rattle.chain_input.specs.chain_replay.Chain.{placement_by_mark}
use Rattle.replay_soundness.specs.TypedChains.{IsLawfulChain}
use Rattle.replay_soundness.specs.Chains.{LogsHoldChains}
use Rattle.replay_soundness.proofs.Longer.{IsFitting, no_blocks, none_fit, by_mark, longer_fitting}

module _ (read : Decoder) (compile : Compiler) (right : IsDecoder read) where
  abbrev place : Placer
  place = placement_by_mark compile

  abbrev next : NextBlock
  next = next_block read place

  -- blocks that are a chain, with a mark that fits them
  abbrev AreChain : Bool → List Block → Type 0
  AreChain marked blocks = IsFitting compile (FitsVersions marked) blocks

  none_chained : AreChain false []
  none_chained = record { chain = no_blocks compile; fits = none_fit false }

  -- the mark fits all blocks before it
  then_marked : (marked : Bool) (blocks : List Block) → AreChain marked blocks → AreChain true blocks
  then_marked marked blocks chain =
      record { chain = chain.chain; fits = λ unmarked. absurd (cc unmarked) }

  -- what was decoded is the next block
  given : (marked : Bool) (blocks : List Block) (decoded : Result Block ℕ) (block : Block) → next_decoded place marked blocks decoded ≡ Some block → (decoded ≡ Ok block) × (place marked blocks block ≡ Next)
  given marked blocks (Ok decoded) block is =
      let p = placed decoded block (place marked blocks decoded) is in
      (ap Ok p.1, subst (λ (b : Block). place marked blocks b ≡ Next) p.1 p.0)
  given marked blocks (Err offset) block is = absurd (cc is)

  -- one more record
  longer_log : (marked : Bool) (stored : List Stored) (last : Stored) (bytes : List ℕ) → IsBytes bytes → AreChain marked (blocks_in stored) → next marked (blocks_in stored) bytes ≡ Some last.block → AreChain marked (blocks_in (stored ++ last ∷ []))
  longer_log marked stored last bytes fits chain is =
      let g = given marked (blocks_in stored) (read bytes) last.block is in
      subst (AreChain marked) (sym (map_push (λ (s : Stored). s.block) stored last))
      (longer_fitting compile (place marked) (FitsVersions marked) (by_mark compile marked) (blocks_in stored) last.block chain (right.found bytes last.block fits g.0).lawful g.1)

  -- the blocks that bytes stand for are a chain, also those before the damage in a log
  abbrev EndsInChain : Standing → Type 0
  EndsInChain Blank = Unit {0}
  EndsInChain NotALog = Unit {0}
  EndsInChain (Damaged stored gate) = IsLawfulChain compile (blocks_in stored)
  EndsInChain (Holds stored marked gate) = AreChain marked (blocks_in stored)

  either_ends : (b : Bool) (s t : Standing) → EndsInChain s → EndsInChain t → EndsInChain (cond b s t)
  either_ends true s t h k = h
  either_ends false s t h k = k

  abbrev GoesOn : Bool → (ℕ → List Stored → List ℕ → Standing) → Type 0
  GoesOn marked more = (gate : ℕ) (stored : List Stored) (bytes : List ℕ) → IsBytes bytes → AreChain marked (blocks_in stored) → EndsInChain (more gate stored bytes)

  after_ends : (more : ℕ → List Stored → List ℕ → Standing) (marked : Bool) → GoesOn marked more → (gate size : ℕ) (stored : List Stored) (bytes rest : List ℕ) → IsBytes bytes → IsBytes rest → AreChain marked (blocks_in stored)
      → (found : Option Block) → next marked (blocks_in stored) bytes ≡ found → EndsInChain (after_record more gate size stored rest found)
  after_ends more marked goes gate size stored bytes rest fits rest_fits chain None is = chain.chain
  after_ends more marked goes gate size stored bytes rest fits rest_fits chain (Some block) is =
      let last : Stored = record { place = gate; digest = digest_of block; block = block } in
      goes (gate + 5 + size) (stored ++ last ∷ []) rest rest_fits (longer_log marked stored last bytes fits chain is)

  record_ends : (more : Bool → ℕ → List Stored → List ℕ → Standing) → ((marked : Bool) → GoesOn marked (more marked)) → (marked : Bool) (gate size : ℕ) (stored : List Stored) (bytes : List ℕ) → IsBytes bytes → AreChain marked (blocks_in stored)
      → EndsInChain (record_at next more marked gate size stored bytes)
  record_ends more goes marked gate size stored bytes fits chain =
      either_ends (is_mark marked size bytes) _ _
      (goes true (gate + 5) stored bytes fits (then_marked marked (blocks_in stored) chain))
      (either_ends (is_sized size bytes) _ _
      (after_ends (more marked) marked (goes marked) gate size stored (take size bytes) (drop size bytes) (IsBytes-take size bytes fits) (IsBytes-drop size bytes fits) chain (next marked (blocks_in stored) (take size bytes)) refl)
      chain.chain)

  records_end : (count : ℕ) (marked : Bool) → GoesOn marked (records_at next count marked)
  unfolding records_at
  records_end zero marked gate stored bytes fits chain = chain.chain
  records_end (suc count) marked gate stored [] fits chain = chain.chain
  records_end (suc count) marked gate stored (byte ∷ bytes) fits chain =
      let rest : IsBytes bytes = IsBytes-drop 1 (byte ∷ bytes) fits in
      either_ends (eqb byte OPEN_GATE) _ _
      (record_ends (records_at next count) (records_end count) marked gate (from_be_bytes w32 (take 4 bytes)) stored (drop 4 bytes) (IsBytes-drop 4 bytes rest) chain)
      chain

  standing_ends : (image : List ℕ) → IsBytes image → EndsInChain (standing next image)
  unfolding standing
  standing_ends image fits =
      either_ends (is_log image) _ _ (records_end (MAX_RECORDS + 1) false FIRST_GATE [] (drop FIRST_GATE image) (IsBytes-drop FIRST_GATE image fits) none_chained)
      (either_ends (is_blank image) Blank NotALog tt tt)

  abbrev IsChainOf : Logged → Type 0
  IsChainOf logged = AreChain logged.marked logged.blocks

  of_logged : (stands : Standing) (logged : Logged) → EndsInChain stands → logged_of stands ≡ Some logged → IsChainOf logged
  of_logged Blank logged h is =
      let none : nothing_logged ≡ logged = cc is in
      subst IsChainOf none none_chained
  of_logged NotALog logged h is = absurd (cc is)
  of_logged (Damaged stored gate) logged h is = absurd (cc is)
  of_logged (Holds stored marked gate) logged h is =
      let held : Logged = record { blocks = blocks_in stored; marked = marked } in
      let same : held ≡ logged = cc is in
      subst IsChainOf same h

pub logs_hold_chains : LogsHoldChains
logs_hold_chains read compile image logged right fits is =
    let chain = of_logged read compile right
    (standing (next_block read (placement_by_mark compile)) image) logged
    (standing_ends read compile right image fits) is in
    (chain.chain, chain.fits)
