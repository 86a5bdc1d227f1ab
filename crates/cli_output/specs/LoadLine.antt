-- The line that `load` prints.
use Rattle.std.specs.Prelude.{ℕ, List, ◌++◌, codes, decimal}
use Rattle.hex.specs.Hex.{encode_lower}
use Rattle.chain_load.specs.declared.loading.Load.{Load}
use Rattle.cli_promises.specs.cli_lines.Lines.{line}

-- The line of a load, with a word before each number: the blocks, the rows and the root at the last
-- block; the look-ups, the versions that all of them looked at, and the most that one did.
abbrev pub load_line : Load → List ℕ
load_line load =
    line (codes "blocks " ++ decimal load.blocks ++ codes " rows " ++ decimal load.rows
    ++ codes " root " ++ encode_lower load.root.0 ++ codes " lookups " ++ decimal load.lookups
    ++ codes " entries " ++ decimal load.entries ++ codes " most " ++ decimal load.most)
