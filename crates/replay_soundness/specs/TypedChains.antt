-- Chains of blocks that bytes can spell.
use Rattle.std.specs.Prelude.{List}
use Rattle.std.specs.List.{All}
use Rattle.block_codec.specs.Spelling.{IsBlock}
use Rattle.block_codec.specs.declared.block.Block.{Block}
use Rattle.chain_input.specs.chain_exec.Compiled.{Compiler}
use Rattle.chain_input.specs.chain_replay.Chain.{IsChain}

-- Blocks within the limits of blocks, each the next one after those before it.
pub record IsLawfulChain (compile : Compiler) (blocks : List Block) : Type 0 where
  pub lawful : All IsBlock blocks
  pub chained : IsChain compile blocks
