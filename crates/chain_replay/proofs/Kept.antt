-- What is kept stays well-formed with the next block: there is room for it, and its rows are
-- lawful.
use Rattle.std.proofs.Common.{◌≡◌, ℕ, ◌+◌, ◌<◌, ◌≤◌, Bool, List, [], ◌∷◌, ◌++◌, length, Option}
use Rattle.std.proofs.Common.{sym, ap, subst, ◌∙◌, arith, inl, inr}
use Rattle.std.specs.Prelude.{◌==◌}
use Rattle.std.specs.List.{All}
use Rattle.std.proofs.lemmas.Bool.{cases_lt}
use Rattle.std.proofs.lemmas.List.{length-append}
use Rattle.lc_base.specs.History.{IsLawful}
use Rattle.lc_base.specs.declared.digest.Digest.{Digest}
use Rattle.lc_base.specs.declared.row.Row.{Row}
use Rattle.block_codec.specs.Placement.{most_blocks, placement}
use Rattle.block_codec.specs.declared.limits.TheConstants.{MAX_MARKED_BLOCKS, MAX_TXS, MAX_ROWS_BEFORE_BLOCK}
use Rattle.block_codec.specs.declared.block.TheConstants.{SECOND_VERSION}
use Rattle.block_codec.specs.declared.block.Block.{Block}
use Rattle.block_codec.specs.declared.placement.Placement.TheVariants.{Next}
use Rattle.block_codec.proofs.Placements.{next_has_passed}
use Rattle.block_codec.proofs.Versions.{most_of_all, most_with}
use Rattle.contract_tree.specs.declared.tree.Contract.{Contract}
use Rattle.world_state.specs.Known.{Known}
use Rattle.world_state.specs.World.{newest_of, StandsForRows}
use Rattle.world_state.specs.declared.held.Held.{Held}
use Rattle.chain_exec.specs.BlockRows.{AreBlockRows}
use Rattle.chain_exec.proofs.TheLaws.{blocks_keep_lawful, blocks_keep_order}
use Rattle.chain_replay.specs.Chain.{IsKeptChain}
use Rattle.chain_replay.specs.Judging.{is_marked_for, most_blocks_for}
use Rattle.chain_replay.specs.declared.marking.Marking.{Marking}
use Rattle.chain_replay.specs.declared.marking.Marking.TheVariants.{OfLog, OfVersions}

-- ---- a block that is next has room

pub next_room : (marked : Bool) (held rows : ℕ) (have : Option Digest) (parent : Digest) (block : Block) (digest : Digest) → Next ≡ placement marked held rows have parent block digest → held ≤ most_blocks marked → held < MAX_MARKED_BLOCKS
next_room marked held rows have parent block digest next few =
    let placed = next_has_passed marked held rows have parent block digest (sym next) in
    elim (cases_lt held (most_blocks marked)) [
      | inl room ↦ let more = most_of_all marked (held + 1) (omega (arith, room)) in omega (arith, more)
      | inr past ↦ absurd (placed.room (omega (arith, past, few)))
    ]

-- a chain that has at most as many blocks as `marking` allows may have those of the mark by which a
-- block is placed
pub few_for : (marking : Marking) (block : Block) (held : ℕ) → held ≤ most_blocks_for marking
    → held ≤ most_blocks (is_marked_for marking block)
few_for (OfLog marked) block held few = few
few_for (OfVersions last) block held few =
    most_with (last == SECOND_VERSION) (block.version == SECOND_VERSION) held few

-- ---- the rows of the next block

module _ (digests : List Digest) (rows : List Row) (world : Known Contract) (more : List Row) (number count : ℕ) (kept : IsKeptChain digests rows world) (is : number ≡ length digests) where
  below : All (λ (row : Row). row.block < number) rows
  below = subst (λ (n : ℕ). All (λ (row : Row). row.block < n) rows) (sym is) kept.held

  pub next_lawful : length rows ≤ MAX_ROWS_BEFORE_BLOCK → count ≤ MAX_TXS → AreBlockRows (newest_of world) number count more → IsLawful (rows ++ more)
  next_lawful room few written =
      blocks_keep_lawful rows more number count kept.lawful below room few
      (subst (λ (newest : List ℕ → Option Held). AreBlockRows newest number count more) (λ i key. kept.stands key i) written)

  pub next_kept : (after : Known Contract) (digest : Digest) → length digests < MAX_MARKED_BLOCKS → IsLawful (rows ++ more) → AreBlockRows (newest_of world) number count more
      → StandsForRows after (rows ++ more) → after.staged ≡ [] → after.staged_codes ≡ [] → IsKeptChain (digests ++ digest ∷ []) (rows ++ more) after
  next_kept after digest room lawful written stands no_rows no_codes =
      let longer : length (digests ++ digest ∷ []) ≡ number + 1 = length-append digests (digest ∷ []) ∙ ap (λ (n : ℕ). n + 1) (sym is) in
      record {
        few = omega (arith, room, longer, is);
        lawful = lawful;
        held = subst (λ (n : ℕ). All (λ (row : Row). row.block < n) (rows ++ more)) (sym longer) (blocks_keep_order rows more (newest_of world) number count below written);
        stands = stands;
        no_rows = no_rows;
        no_codes = no_codes;
      }
