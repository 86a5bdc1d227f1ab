-- Replaying blocks: each runs on the history that the blocks before it left.
use Rattle.std.specs.Prelude.{List, [], ◌∷◌, ◌++◌}
use Rattle.block_codec.specs.declared.block.Block.{Block}
use Rattle.chain_exec.specs.declared.receipt.Receipt.{Receipt}
use Rattle.chain_exec.specs.Compiled.{Compiler}
use Rattle.chain_exec.specs.Effect.{History}
use Rattle.chain_exec.specs.Fold.{Staged, block_effects}

-- The history before the first block: no row and no code.
abbrev pub no_history : History
no_history = record { rows = []; codes = [] }

-- A history with what a block did after it.
abbrev pub with_staged : History → Staged → History
with_staged history done =
    record { rows = history.rows ++ done.rows; codes = history.codes ++ done.codes }

-- The history after one more block.
abbrev pub history_after : Compiler → History → Block → History
history_after compile history block =
    with_staged history (block_effects compile history block)

-- The history after these blocks too.
abbrev pub history_of_blocks : Compiler → History → List Block → History
history_of_blocks compile history [] = history
history_of_blocks compile history (block ∷ blocks) =
    history_of_blocks compile (history_after compile history block) blocks

-- The history of a list of blocks, from the empty one.
unfoldable pub replay : Compiler → List Block → History
replay compile blocks = history_of_blocks compile no_history blocks

-- The receipts of these blocks, the first of which runs on this history.
abbrev pub receipts_after : Compiler → History → List Block → List (List Receipt)
receipts_after compile history [] = []
receipts_after compile history (block ∷ blocks) =
    (block_effects compile history block).receipts
    ∷ receipts_after compile (history_after compile history block) blocks

-- The receipts of a list of blocks: for each block, one for each of its transactions.
unfoldable pub receipts_of : Compiler → List Block → List (List Receipt)
receipts_of compile blocks = receipts_after compile no_history blocks
