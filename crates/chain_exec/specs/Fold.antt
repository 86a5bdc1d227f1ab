-- What a block does: the effects of its transactions, all on the history before the block.
use Rattle.std.specs.Prelude.{ℕ, ◌+◌, List, [], ◌∷◌, ◌++◌}
use Rattle.lc_base.specs.declared.row.Row.{Row}
use Rattle.block_codec.specs.declared.block.Tx.{Tx}
use Rattle.block_codec.specs.declared.block.Block.{Block}
use Rattle.chain_exec.specs.declared.receipt.Receipt.{Receipt}
use Rattle.chain_exec.specs.Compiled.{Compiler, EditionCompiler}
use Rattle.chain_exec.specs.Effect.{Codes, History, Effect, effect_of}

-- What the transactions of a block have done so far: the rows that they wrote, the codes that they
-- deployed, and a receipt for each.
pub record Staged : Type 0 where
  pub rows : List Row
  pub codes : Codes
  pub receipts : List Receipt

-- No transaction has run yet.
abbrev pub nothing_staged : Staged
nothing_staged = record { rows = []; codes = []; receipts = [] }

-- The same with the effect of one more transaction.
abbrev pub with_effect : Staged → Effect → Staged
with_effect done effect =
    record {
      rows = done.rows ++ effect.rows;
      codes = done.codes ++ effect.codes;
      receipts = done.receipts ++ effect.receipt ∷ [];
    }

-- What is done after these transactions too, the first of which has the index `at` in its block.
-- All of them run on the history of the blocks before.
abbrev pub effects_after : EditionCompiler → History → ℕ → ℕ → Staged → List Tx → Staged
effects_after compile history number at done [] = done
effects_after compile history number at done (tx ∷ txs) =
    effects_after compile history number (at + 1)
    (with_effect done (effect_of compile history done.rows done.codes number at tx)) txs

-- What a block does on the history of the blocks before it. The sources that it deploys are of the
-- edition that is its version.
abbrev pub block_effects : Compiler → History → Block → Staged
block_effects compile history block =
    effects_after (compile block.version) history block.number 0 nothing_staged block.txs
