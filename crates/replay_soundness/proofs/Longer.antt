-- A chain with its next block is a chain, and so it is with one that is next by a mark that fits.
use Rattle.std.proofs.Common.{◌≡◌, Bool, List, [], ◌∷◌, ◌++◌, length, get_or, take, refl, ap}
use Rattle.std.proofs.Common.{◌∙◌, arith, inl, inr}
use Rattle.std.proofs.lemmas.Bool.{cases_lt}
use Rattle.std.proofs.lemmas.List.{length-append, take-append-le, take_at, get_or_append_left, get_or_push}
use Rattle.std.proofs.lemmas.List.Elements.{All-nil, All-push}
use Rattle.block_codec.specs.Placement.{FitsVersions}
use Rattle.block_codec.specs.Spelling.{IsBlock}
use Rattle.block_codec.specs.declared.block.Block.{Block}
use Rattle.block_codec.specs.declared.placement.Placement.TheVariants.{Next}
use Rattle.block_codec.proofs.Versions.{next_by_versions, fits_with_next}
use Rattle.chain_input.specs.chain_exec.Compiled.{Compiler}
use Rattle.chain_input.specs.chain_exec.Replay.{replay}
use Rattle.chain_input.specs.chain_replay.Chain.{IsChain, placement_by_mark, placement_in}
use Rattle.chain_input.specs.chain_replay.Judging.{Placer}
use Rattle.replay_soundness.specs.TypedChains.{IsLawfulChain}

pub no_blocks : (compile : Compiler) → IsLawfulChain compile []
no_blocks compile = record { lawful = All-nil IsBlock; chained = λ i block within. absurd (omega (arith, within)) }

chained_more : (compile : Compiler) (blocks : List Block) (block : Block) → IsChain compile blocks → placement_in compile blocks block ≡ Next → IsChain compile (blocks ++ block ∷ [])
chained_more compile blocks block chain next i d within =
    elim (cases_lt i (length blocks)) [
      | inl inside ↦
          ap (λ (bs : List Block). placement_in compile bs (get_or (blocks ++ block ∷ []) i d)) (take-append-le i blocks (block ∷ []) (omega (arith, inside)))
          ∙ ap (placement_in compile (take i blocks)) (get_or_append_left blocks (block ∷ []) d i inside) ∙ chain i d inside
      | inr past ↦
          let last : length blocks ≡ i = omega (arith, past, within, length-append blocks (block ∷ [])) in
          ap (λ (bs : List Block). placement_in compile bs (get_or (blocks ++ block ∷ []) i d)) (take_at blocks (block ∷ []) i last) ∙ ap (placement_in compile blocks) (get_or_push blocks block d i last) ∙ next
    ]

pub longer_chain : (compile : Compiler) (blocks : List Block) (block : Block) → IsLawfulChain compile blocks → IsBlock block → placement_in compile blocks block ≡ Next → IsLawfulChain compile (blocks ++ block ∷ [])
longer_chain compile blocks block chain is next = record {
  lawful = All-push IsBlock blocks block chain.lawful is;
  chained = chained_more compile blocks block chain.chained next;
}

-- ---- what places blocks as a chain does

-- While the blocks fit, what `place` finds next after them is their next block as a chain, and they
-- fit with it too.
pub record PlacesAsChain (compile : Compiler) (place : Placer) (Fits : List Block → Type 0) : Type 0
  where
    pub next : (blocks : List Block) (block : Block) → Fits blocks → place blocks block ≡ Next
        → placement_in compile blocks block ≡ Next
    pub fits : (blocks : List Block) (block : Block) → Fits blocks → place blocks block ≡ Next
        → Fits (blocks ++ block ∷ [])

-- the versions of all blocks do
pub by_versions : (compile : Compiler)
    → PlacesAsChain compile (placement_in compile) (λ blocks. Unit {0})
by_versions compile = record {
  next = λ blocks block fits is. is;
  fits = λ blocks block fits is. tt;
}

-- a mark does, while it fits them
pub by_mark : (compile : Compiler) (marked : Bool)
    → PlacesAsChain compile (placement_by_mark compile marked) (FitsVersions marked)
by_mark compile marked = record {
  next = λ blocks block fits is.
      next_by_versions marked (length (replay compile blocks).rows) blocks block fits is;
  fits = λ blocks block fits is.
      fits_with_next marked (length (replay compile blocks).rows) blocks block is;
}

-- every mark fits no block
pub none_fit : (marked : Bool) → FitsVersions marked []
none_fit marked unmarked = refl

-- a chain of blocks that fit
pub record IsFitting (compile : Compiler) (Fits : List Block → Type 0) (blocks : List Block) : Type 0
  where
    pub chain : IsLawfulChain compile blocks
    pub fits : Fits blocks

pub longer_fitting : (compile : Compiler) (place : Placer) (Fits : List Block → Type 0)
    → PlacesAsChain compile place Fits → (blocks : List Block) (block : Block)
    → IsFitting compile Fits blocks → IsBlock block → place blocks block ≡ Next
    → IsFitting compile Fits (blocks ++ block ∷ [])
longer_fitting compile place Fits placed blocks block is lawful next = record {
  chain = longer_chain compile blocks block is.chain lawful (placed.next blocks block is.fits next);
  fits = placed.fits blocks block is.fits next;
}
