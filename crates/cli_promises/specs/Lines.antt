-- The lines of blocks that were taken, as bytes.
use Rattle.std.specs.Prelude.{ℕ, List, [], ◌∷◌, ◌++◌, map, codes, decimal}
use Rattle.std.specs.List.{join_with_byte}
use Rattle.lc_base.specs.TxStatus.{tx_status_number}
use Rattle.hex.specs.Hex.{encode_lower}
use Rattle.follower_steps.specs.chain_exec.declared.receipt.Receipt.{Receipt}
use Rattle.cli_lines.specs.Lines.{line}
use Rattle.recovery.specs.declared.node.Appended.{Appended}
use Rattle.recovery.specs.declared.node.Appended.TheVariants as appendeds
use Rattle.cli_promises.specs.declared.lines.TheConstants.{COMMA}

-- The line of a block that the chain holds already.
abbrev pub known_line : ℕ → List ℕ
known_line number = line (codes "known " ++ decimal number)

-- The number of a transaction's status, in decimal digits.
abbrev pub status_text : Receipt → List ℕ
status_text receipt = decimal (tx_status_number receipt.status)

-- The numbers of the statuses of a block's transactions, with a comma between each two, or `-` if
-- there are none.
abbrev pub statuses_text : List Receipt → List ℕ
statuses_text [] = codes "-"
statuses_text (receipt ∷ others) = join_with_byte COMMA (map status_text (receipt ∷ others))

-- The line of a block that was appended: the number of rows that it wrote, how its transactions
-- ended, and the root at it.
abbrev pub block_line : ℕ → ℕ → List Receipt → List ℕ → List ℕ
block_line number rows receipts root =
    line (codes "block " ++ decimal number ++ codes " rows " ++ decimal rows ++ codes " status "
    ++ statuses_text receipts ++ codes " root " ++ encode_lower root)

-- The line of a block that was not refused.
abbrev pub appended_text : Appended → List ℕ
appended_text (appendeds.Known number) = known_line number
appended_text (appendeds.Added number rows receipts root) = block_line number rows receipts root.0
