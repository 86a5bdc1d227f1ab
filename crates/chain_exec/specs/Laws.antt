-- Laws of what transactions and blocks do, for every compiler and history.
use Rattle.std.specs.Prelude.{◌≡◌, ◌≢◌, ℕ, ◌+◌, ◌<◌, ◌≤◌, Bool, List, [], ◌∷◌, ◌++◌, length, Option}
use Rattle.std.specs.List.{All, sum_by}
use Rattle.lc_base.specs.History.{IsLawful}
use Rattle.lc_base.specs.declared.row.Row.{Row}
use Rattle.lc_base.specs.declared.tx_status.TxStatus.TheVariants as statuses
use Rattle.world_state.specs.Rows.{held_in}
use Rattle.world_state.specs.declared.held.Held.{Held}
use Rattle.block_codec.specs.declared.limits.TheConstants.{MAX_BLOCK_BUDGET, MAX_TXS}
use Rattle.block_codec.specs.declared.limits.TheConstants.{MAX_ROWS_BEFORE_BLOCK}
use Rattle.block_codec.specs.Placement.{placement_after}
use Rattle.block_codec.specs.declared.block.Tx.{Tx}
use Rattle.block_codec.specs.declared.block.Block.{Block}
use Rattle.block_codec.specs.declared.placement.Placement.TheVariants.{Next}
use Rattle.chain_exec.specs.declared.receipt.Receipt.{Receipt}
use Rattle.chain_exec.specs.BlockRows.{AreBlockRows, AreWithinBudgets}
use Rattle.chain_exec.specs.Compiled.{Compiler, EditionCompiler, IsCompiler, compiled_in}
use Rattle.chain_exec.specs.Effect.{Codes, History, effect_of}
use Rattle.chain_exec.specs.Fold.{block_effects}
use Rattle.chain_exec.specs.Replay.{history_after, replay, receipts_of}

-- There is one right compiler, and it is `compiled_in`.
pub record OneCompiler : Type 0 where
  pub is_compiler : IsCompiler compiled_in
  pub only : (compile : Compiler) → IsCompiler compile → compile ≡ compiled_in

-- How a transaction ends and what it costs does not depend on its index in the block.
abbrev pub ReceiptsIgnoreIndexes : Type 0
ReceiptsIgnoreIndexes =
    (compile : EditionCompiler) (history : History) (rows : List Row) (codes : Codes) (number at other : ℕ)
    (tx : Tx)
    → (effect_of compile history rows codes number at tx).receipt
    ≡ (effect_of compile history rows codes number other tx).receipt

-- A transaction that fails leaves no row and no code.
abbrev pub FailuresLeaveNothing : Type 0
FailuresLeaveNothing =
    (compile : EditionCompiler) (history : History) (rows : List Row) (codes : Codes) (number at : ℕ)
    (tx : Tx)
    → (effect_of compile history rows codes number at tx).receipt.status ≢ statuses.Ok
    → ((effect_of compile history rows codes number at tx).rows ≡ [])
    × ((effect_of compile history rows codes number at tx).codes ≡ [])

-- A block has one receipt for each transaction, and its cost is at most the transaction's budget.
abbrev pub CostsAreWithinBudgets : Type 0
CostsAreWithinBudgets =
    (compile : Compiler) (history : History) (block : Block)
    → AreWithinBudgets block.txs (block_effects compile history block).receipts

-- The sum of the costs of receipts.
abbrev pub cost_of : List Receipt → ℕ
cost_of receipts = sum_by (λ (receipt : Receipt). receipt.cost) receipts

-- A block that is placed as the next one costs at most MAX_BLOCK_BUDGET in all, whatever the
-- history.
abbrev pub NextBlocksAreWithinBudget : Type 0
NextBlocksAreWithinBudget =
    (compile : Compiler) (history : History) (marked : Bool) (rows : ℕ) (blocks : List Block)
    (block : Block) → placement_after marked rows blocks block ≡ Next
    → cost_of (block_effects compile history block).receipts ≤ MAX_BLOCK_BUDGET

-- Another block adds to a replay what it does on the history of the blocks before it, and changes
-- nothing of what they did.
pub record ReplayGrows (compile : Compiler) (blocks : List Block) (block : Block) : Type 0 where
  pub history : replay compile (blocks ++ block ∷ []) ≡ history_after compile (replay compile blocks) block
  pub receipts :
      receipts_of compile (blocks ++ block ∷ [])
      ≡ receipts_of compile blocks ++ (block_effects compile (replay compile blocks) block).receipts ∷ []

-- A lawful history of earlier blocks that has room for the rows of a block is lawful with them.
abbrev pub BlocksKeepLawful : Type 0
BlocksKeepLawful =
    (rows more : List Row) (number count : ℕ)
    → IsLawful rows → All (λ (row : Row). row.block < number) rows
    → length rows ≤ MAX_ROWS_BEFORE_BLOCK → count ≤ MAX_TXS
    → AreBlockRows (held_in rows) number count more
    → IsLawful (rows ++ more)

-- Each row of a history of earlier blocks, and of the block after it, is of a block up to this one.
abbrev pub BlocksKeepOrder : Type 0
BlocksKeepOrder =
    (rows more : List Row) (newest : List ℕ → Option Held) (number count : ℕ)
    → All (λ (row : Row). row.block < number) rows → AreBlockRows newest number count more
    → All (λ (row : Row). row.block < number + 1) (rows ++ more)
