use Rattle.std.proofs.Common.{◌≡◌, map, take}
use Rattle.cli_output.specs.Blocks.{frame}
use Rattle.chain_cli.proofs.packing.frames.Given as goal

abbrev pub invariant-loop-block : goal.invariant-loop-block
invariant-loop-block l = l.frames ≡ map frame (take l.block-index l.blocks)
