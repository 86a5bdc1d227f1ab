-- The blocks of a chain have their indices as numbers, and are placed by them.
use Rattle.std.proofs.Common.{◌≡◌, ℕ, ◌<◌, Bool, List, length, map, take, sym, ◌∙◌, ap, arith}
use Rattle.std.specs.Prelude.{slice_get, slice_index_or}
use Rattle.std.proofs.lemmas.List.{length-take}
use Rattle.block_codec.specs.Placement.{digest_of, last_digest, is_marked_by, last_version}
use Rattle.block_codec.specs.declared.block.Block.{Block}
use Rattle.block_codec.specs.declared.placement.Placement.TheVariants.{Next}
use Rattle.block_codec.proofs.Placements.{next_has_passed}
use Rattle.chain_replay.specs.chain_exec.Compiled.{Compiler}
use Rattle.chain_replay.specs.chain_exec.Replay.{replay}
use Rattle.chain_replay.specs.Chain.{IsChain, placement_by_mark}
use Rattle.follower_steps.specs.Steps.{PlacerByMark}

-- a block that is next has the number of blocks before it
abbrev pub PlacesByNumber : PlacerByMark → Type 0
PlacesByNumber place = (marked : Bool) (blocks : List Block) (block : Block)
    → place marked blocks block ≡ Next → block.number ≡ length blocks

-- each block has its index as its number
abbrev pub AreNumbered : List Block → Type 0
AreNumbered blocks = (at : ℕ) (block : Block) → at < length blocks
    → slice_index_or blocks at block ≡ block → block.number ≡ at

pub places_by_number : (compile : Compiler) → PlacesByNumber (placement_by_mark compile)
places_by_number compile marked blocks block is =
    (next_has_passed marked (length blocks) (length (replay compile blocks).rows)
    (slice_get (map digest_of blocks) block.number) (last_digest (map digest_of blocks)) block
    (digest_of block) is).number

pub chain_numbered : (compile : Compiler) (blocks : List Block) → IsChain compile blocks
    → AreNumbered blocks
chain_numbered compile blocks chain at block within here =
    let before = take at blocks in
    let this = slice_index_or blocks at block in
    let number = places_by_number compile (is_marked_by (last_version before) this) before this
    (chain at block within) in
    ap (λ (b : Block). b.number) (sym here) ∙ number
    ∙ omega (arith, within, length-take at blocks)
