-- Statements that are false: that replayed rows are a typed ledger, each with one premise left out.
use Rattle.std.specs.List.{All}
use Rattle.block_codec.specs.Spelling.{IsBlock}
use Rattle.chain_input.specs.chain_exec.Compiled.{IsCompiler}
use Rattle.chain_input.specs.chain_replay.Chain.{IsChain}
use Rattle.replay_soundness.specs.TypedChains.{IsLawfulChain}
use Rattle.replay_soundness.specs.TypedLaws.{AreTypedWhere}

-- False: the rows of blocks are a typed ledger, wherever the blocks are placed.
abbrev pub PlacesDoNotMatter : Type 0
PlacesDoNotMatter = AreTypedWhere (λ compile blocks. IsCompiler compile × All IsBlock blocks)

-- False: the rows of a chain are a typed ledger, whatever its blocks contain.
abbrev pub LimitsDoNotMatter : Type 0
LimitsDoNotMatter = AreTypedWhere (λ compile blocks. IsCompiler compile × IsChain compile blocks)

-- False: the rows of a chain are a typed ledger, whatever the sources of its contracts compile to.
abbrev pub CompilersDoNotMatter : Type 0
CompilersDoNotMatter = AreTypedWhere IsLawfulChain
