-- The lineage of a chain, and the roots of its blocks: they are those of replaying the blocks.
use Rattle.std.specs.Prelude.{◌≡◌, ℕ, List, [], ◌∷◌, ◌++◌, map}
use Rattle.lc_base.specs.declared.digest.Digest.{Digest}
use Rattle.lc_base.specs.declared.row.Row.{Row}
use Rattle.body_store.specs.Bodies.{BodiesState}
use Rattle.block_codec.specs.Placement.{digest_of}
use Rattle.block_codec.specs.declared.block.Block.{Block}
use Rattle.block_codec.specs.declared.placement.Placement.TheVariants.{Next}
use Rattle.contract_tree.specs.declared.tree.Contract.{Contract}
use Rattle.chain_replay.specs.chain_exec.Compiled.{Compiler, compiled_in}
use Rattle.chain_replay.specs.chain_exec.Replay.{replay}
use Rattle.chain_replay.specs.Chain.{ChainState, StandsFor, placement_in}
use Rattle.root_laws.specs.Root.{root_of}
use Rattle.prov_query.specs.merkle_dag.Lineage.{LineageState}

-- What is kept of a chain with its lineage: the digests of its blocks, their rows, the contracts
-- that they deployed, by name, and where the bodies of the rows are kept.
pub record RootedState : Type 0 where
  pub digests : List Digest
  pub rows : List Row
  pub codes : List (List ℕ × Contract)
  pub bodies : BodiesState

-- The part without the bodies: what is kept of any chain.
abbrev pub kept_in : RootedState → ChainState
kept_in rooted = record { digests = rooted.digests; rows = rooted.rows; codes = rooted.codes }

-- The lineage of what is kept of a chain, with its bodies kept like this.
abbrev pub lineage_of : ChainState → BodiesState → LineageState
lineage_of kept bodies = record { rows = kept.rows; digests = kept.digests; bodies = bodies }

-- The lineage of the chain.
abbrev pub lineage_in : RootedState → LineageState
lineage_in rooted = lineage_of (kept_in rooted) rooted.bodies

-- The root at a block of a chain: over the rows of replaying its blocks, and over their digests.
abbrev pub root_in : Compiler → List Block → ℕ → List ℕ
root_in compile blocks at = root_of (replay compile blocks).rows (map digest_of blocks) at

-- This holds with the block, which has this digest, after the others: if a chain stands for blocks,
-- and this block is placed as the next of them, it holds of all these blocks together.
abbrev pub IsSoWithNext : ChainState → Block → Digest → (List Block → Type 0) → Type 0
IsSoWithNext kept block digest IsSo =
    (blocks : List Block) → StandsFor kept blocks → digest ≡ digest_of block
    → placement_in compiled_in blocks block ≡ Next → IsSo (blocks ++ block ∷ [])
