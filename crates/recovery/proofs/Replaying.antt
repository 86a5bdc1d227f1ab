-- Running the blocks of a log one after another keeps their chain that of the blocks read.
use Rattle.std.proofs.Common.{◌≡◌, ℕ, Bool, List, [], ◌∷◌, ◌++◌, false, refl, sym, ap, subst, ◌∙◌}
use Rattle.std.proofs.Common.{append_assoc, arith}
use Rattle.std.specs.Option.{is_some}
use Rattle.std.proofs.lemmas.List.{append-nil, map_push}
use Rattle.block_codec.specs.Placement.{wanted_version}
use Rattle.block_codec.specs.declared.block.Block.{Block}
use Rattle.block_codec.specs.declared.placement.Placement.{Placement}
use Rattle.block_codec.specs.declared.placement.Placement.TheVariants.{Known, Next, Not}
use Rattle.block_log.specs.Standing.{Standing, Damaged, if_next, blocks_in, records_at, standing}
use Rattle.block_log.specs.Log.{next_in_log}
use Rattle.block_log.specs.Stricter.{standing_after}
use Rattle.block_log.proofs.Stricter.{damaged_at, is_next_marked, restood_none, restood_next}
use Rattle.block_log.specs.declared.layout.Stored.{Stored}
use Rattle.rooted_chain.specs.chain_exec.Replay.{replay}
use Rattle.rooted_chain.specs.chain_replay.Chain.{ChainState, StandsFor, nothing_kept}
use Rattle.recovery.specs.Node.{next_in_chain, stored_placement}
use Rattle.recovery.proofs.Placing.{stricter}

-- These blocks have run, one after another; a placement that counts rows agrees with the log's up
-- to them, whatever blocks follow.
pub record AreRun (stored : List Stored) (chain : ChainState) : Type 0 where
  pub stands : StandsFor chain (blocks_in stored)
  pub same : (more : List Stored) (end : List Stored → Standing)
      → standing_after stored_placement [] (stored ++ more) end ≡ standing_after
      stored_placement stored more end

no_blocks : StandsFor nothing_kept []
unfolding replay
no_blocks = record {
  chained = λ i block within. absurd (omega arith);
  digests_are = refl;
  history_is = refl;
}

pub none_run : AreRun [] nothing_kept
none_run = record { stands = no_blocks; same = λ more end. refl }

not_next : (block : Block) (place : Placement) → (place ≡ Next → ⊥)
    → is_some (if_next block place) ≡ false
not_next block Known other = refl
not_next block Next other = absurd (other refl)
not_next block (Not why) other = refl

module _ (stored : List Stored) (chain : ChainState) (run : AreRun stored chain) where
  -- one more block, which is the next one
  pub one_run : (marked : Bool) (next : Stored) (longer : ChainState)
      → next.block.version ≡ wanted_version marked
      → stored_placement marked (blocks_in stored) next.block ≡ Next
      → StandsFor longer (blocks_in stored ++ next.block ∷ []) → AreRun (stored ++ next ∷ []) longer
  one_run marked next longer version here extended = record {
    stands = subst (StandsFor longer) (sym (map_push (λ (s : Stored). s.block) stored next))
        extended;
    same = λ more end.
        ap (λ (all : List Stored). standing_after stored_placement [] all end)
        (append_assoc stored (next ∷ []) more) ∙ run.same (next ∷ more) end
        ∙ restood_next stored_placement stored next more end
        (is_next_marked stored_placement marked stored next.block version
        ∙ ap (λ (p : Placement). is_some (if_next next.block p)) here);
  }

  -- one more block, which is not the next one
  pub not_run : (marked after : Bool) (next : Stored) (image : List ℕ) (count gate : ℕ)
      (bytes : List ℕ) → next.block.version ≡ wanted_version marked
      → (stored_placement marked (blocks_in stored) next.block ≡ Next → ⊥)
      → standing next_in_log image ≡ records_at next_in_log count after gate
      (stored ++ next ∷ []) bytes
      → standing next_in_chain image ≡ Damaged stored next.place
  not_run marked after next image count gate bytes version other stands =
      damaged_at stored_placement stricter image count after gate stored next
      bytes stands run.same
      (is_next_marked stored_placement marked stored next.block version
      ∙ not_next next.block (stored_placement marked (blocks_in stored) next.block) other)

  -- all blocks have run
  pub all_run : (end : List Stored → Standing)
      → standing_after stored_placement [] stored end ≡ end stored
  all_run end =
      ap (λ (all : List Stored). standing_after stored_placement [] all end)
      (sym (append-nil stored)) ∙ run.same [] end
      ∙ restood_none stored_placement stored end
