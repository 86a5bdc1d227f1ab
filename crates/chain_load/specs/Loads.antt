-- What a load reports, by replaying the blocks of its seed.
use Rattle.std.specs.Prelude.{ℕ, ◌-◌, List, length, map}
use Rattle.std.specs.List.{sum}
use Rattle.lc_base.specs.declared.row.Row.{Row}
use Rattle.block_codec.specs.declared.block.Block.{Block}
use Rattle.rooted_chain.specs.chain_exec.Compiled.{Compiler}
use Rattle.rooted_chain.specs.chain_exec.Replay.{replay}
use Rattle.rooted_chain.specs.Roots.{root_in}
use Rattle.chain_pack.specs.Generator.{first_blocks}
use Rattle.chain_load.specs.declared.loading.Load.{Load}
use Rattle.chain_load.specs.Lookups.{Lookup, lookups_drawn, looked_at, bytes_found, greatest}

-- The first `blocks` blocks of a seed.
abbrev pub blocks_of : ℕ → ℕ → List Block
blocks_of blocks seed = (first_blocks seed blocks).blocks

-- The rows of replaying these blocks.
abbrev pub rows_of : Compiler → ℕ → ℕ → List Row
rows_of compile blocks seed = (replay compile (blocks_of blocks seed)).rows

-- The look-ups. There are as many of them as blocks, and they are drawn after the blocks.
abbrev pub lookups_of : ℕ → ℕ → List Lookup
lookups_of blocks seed = lookups_drawn blocks blocks (first_blocks seed blocks).state

-- How many versions each look-up looks at.
abbrev pub counts_of : Compiler → ℕ → ℕ → List ℕ
counts_of compile blocks seed = map (looked_at (rows_of compile blocks seed))
    (lookups_of blocks seed)

-- How many bytes the value has that each of them finds.
abbrev pub bytes_of : Compiler → ℕ → ℕ → List ℕ
bytes_of compile blocks seed = map (bytes_found (rows_of compile blocks seed))
    (lookups_of blocks seed)

-- What a load of `blocks` blocks of a seed reports: the numbers of blocks and rows, the root at the
-- last block, and the number of look-ups, with how many versions all of them look at, the most that
-- one does, and how many bytes the values have that they find.
abbrev pub load_of : Compiler → ℕ → ℕ → Load
load_of compile blocks seed =
    let counts = counts_of compile blocks seed in
    record {
      blocks = blocks;
      rows = length (rows_of compile blocks seed);
      root = record { 0 = root_in compile (blocks_of blocks seed) (blocks - 1) };
      lookups = length counts;
      entries = sum counts;
      most = greatest counts;
      value_bytes = sum (bytes_of compile blocks seed);
    }
