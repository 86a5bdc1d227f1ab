-- A chain after its next block has run and the lineage has taken its rows: what is kept is
-- well-formed.
use Rattle.std.proofs.Common.{◌≡◌, ℕ, ◌<◌, ◌≤◌, List, [], ◌∷◌, ◌++◌, length, ap, subst, sym, ◌∙◌}
use Rattle.lc_base.specs.History.{IsLawful}
use Rattle.lc_base.specs.declared.digest.Digest.{Digest}
use Rattle.lc_base.specs.declared.row.Row.{Row}
use Rattle.block_codec.specs.declared.limits.TheConstants.{MAX_MARKED_BLOCKS, MAX_TXS, MAX_ROWS_BEFORE_BLOCK}
use Rattle.block_codec.specs.declared.block.Block.{Block}
use Rattle.contract_tree.specs.declared.tree.Contract.{Contract}
use Rattle.world_state.specs.Known.{Known}
use Rattle.world_state.specs.World.{newest_of, StandsForRows}
use Rattle.chain_replay.specs.chain_exec.BlockRows.{AreBlockRows}
use Rattle.chain_replay.specs.Chain.{HasRoom, IsAfter, IsKeptChain}
use Rattle.chain_replay.specs.chain_exec.declared.block.BlockRun.{BlockRun}
use Rattle.chain_replay.proofs.Kept.{next_lawful, next_kept}
use Rattle.prov_query.specs.merkle_dag.Ledger.{Ledger}
use Rattle.prov_query.specs.merkle_dag.Lineage.{LineageState, ledger_in}
use Rattle.rooted_chain.specs.Roots.{RootedState, kept_in}

-- what a chain keeps, by its parts
abbrev pub rooted_of : LineageState → List (List ℕ × Contract) → RootedState
rooted_of lineage codes = record { digests = lineage.digests; rows = lineage.rows; codes = codes; bodies = lineage.bodies }

module _ (lineage : LineageState) (world : Known Contract) (rooted : RootedState) (seen : rooted_of lineage world.codes ≡ rooted) (kept : IsKeptChain lineage.digests lineage.rows world)
    (block : Block) (room : HasRoom (kept_in rooted) block) (few : length block.txs ≤ MAX_TXS) (more : List Row) (written : AreBlockRows (newest_of world) block.number (length block.txs) more) where
  numbered : block.number ≡ length lineage.digests
  numbered = room.number ∙ sym (ap (λ (r : RootedState). length r.digests) seen)

  -- the history with the rows of the block is lawful
  pub run_lawful : IsLawful (lineage.rows ++ more)
  run_lawful =
      next_lawful lineage.digests lineage.rows world more block.number (length block.txs) kept numbered
      (subst (λ (r : RootedState). length r.rows ≤ MAX_ROWS_BEFORE_BLOCK) (sym seen) room.few_rows) few written

  -- what is kept with these rows belongs together, as before
  pub run_kept : (after : Known Contract) (digest : Digest) (digests : List Digest) (rows : List Row) → StandsForRows after (lineage.rows ++ more) → after.staged ≡ [] → after.staged_codes ≡ []
      → digests ≡ lineage.digests ++ digest ∷ [] → rows ≡ lineage.rows ++ more → IsKeptChain digests rows after
  run_kept after digest digests rows stands no_rows no_codes digests_are rows_are =
      let longer = next_kept lineage.digests lineage.rows world more block.number (length block.txs) kept numbered after digest
      (subst (λ (r : RootedState). length r.digests < MAX_MARKED_BLOCKS) (sym seen) room.room) run_lawful written stands no_rows no_codes in
      subst (λ (ds : List Digest). IsKeptChain ds rows after) (sym digests_are)
      (subst (λ (all : List Row). IsKeptChain (lineage.digests ++ digest ∷ []) all after) (sym rows_are) longer)

-- a chain whose lineage has got the rows of the next block
module _ (old : RootedState) (before after : LineageState) (digest : Digest) (more : List Row) (same_digests : before.digests ≡ old.digests) (same_rows : before.rows ≡ old.rows)
    (added : ledger_in after ≡ record { rows = before.rows ++ more; digests = before.digests ++ digest ∷ [] }) where
  pub digest_added : after.digests ≡ old.digests ++ digest ∷ []
  digest_added = ap (λ (ledger : Ledger). ledger.digests) added ∙ ap (λ (digests : List Digest). digests ++ digest ∷ []) same_digests

  pub rows_added : after.rows ≡ old.rows ++ more
  rows_added = ap (λ (ledger : Ledger). ledger.rows) added ∙ ap (λ (rows : List Row). rows ++ more) same_rows

  pub kept_added : (world : Known Contract) → IsKeptChain (old.digests ++ digest ∷ []) (old.rows ++ more) world → IsKeptChain after.digests after.rows world
  kept_added world kept =
      subst (λ (digests : List Digest). IsKeptChain digests after.rows world) (sym digest_added)
      (subst (λ (rows : List Row). IsKeptChain (old.digests ++ digest ∷ []) rows world) (sym rows_added) kept)

  pub after_added : (block : Block) (codes : List (List ℕ × Contract)) (run : BlockRun) → IsAfter (kept_in old) block digest (record { digests = old.digests ++ digest ∷ []; rows = old.rows ++ more; codes = codes }) run
      → IsAfter (kept_in old) block digest (kept_in (rooted_of after codes)) run
  after_added block codes run is =
      subst (λ (digests : List Digest). IsAfter (kept_in old) block digest (record { digests = digests; rows = after.rows; codes = codes }) run) (sym digest_added)
      (subst (λ (rows : List Row). IsAfter (kept_in old) block digest (record { digests = old.digests ++ digest ∷ []; rows = rows; codes = codes }) run) (sym rows_added) is)
