-- The blocks that are made from a seed, and the generator that makes them.
use Rattle.std.specs.Prelude.{◌≡◌, ℕ, zero, suc, ◌+◌, ◌<◌, ◌≤◌, ◌==◌, false, if◌then◌else◌, List, [], ◌∷◌, ◌++◌, map, Option, Some, None}
use Rattle.std.specs.List.{concat}
use Rattle.lc_base.specs.declared.digest.Digest.{Digest}
use Rattle.block_codec.specs.Spelling.{block_fields}
use Rattle.block_codec.specs.Placement.{bytes_digest, digest_of, no_parent, placement}
use Rattle.block_codec.specs.declared.limits.TheConstants.{MAX_BLOCKS, MAX_ROWS_BEFORE_BLOCK}
use Rattle.block_codec.specs.declared.placement.Placement.TheVariants.{Next}
use Rattle.block_codec.specs.declared.block.TheConstants.{FIRST_VERSION}
use Rattle.block_codec.specs.declared.block.Block.{Block}
use Rattle.chain_pack.specs.GeneratedTransactions.{txs_drawn}

-- ---- one block after another

-- The block of the first version with this number and parent, and the state after its draws.
unfoldable pub block_drawn : ℕ → Digest → ℕ → Block × ℕ
block_drawn number parent state =
    let txs = txs_drawn number state in
    (record { version = FIRST_VERSION; number = number; parent = parent; txs = txs.0 }, txs.1)

-- What was made so far: the blocks, the parent of the next one, and the state of drawing.
pub record MadeSoFar : Type 0 where
  pub blocks : List Block
  pub parent : Digest
  pub state : ℕ

-- No block has been made: drawing begins at the seed.
abbrev pub none_made : ℕ → MadeSoFar
none_made seed = record { blocks = []; parent = no_parent; state = seed }

-- One more block, with this number. It is the parent of the next one.
abbrev pub one_more_made : ℕ → MadeSoFar → MadeSoFar
one_more_made number made =
    let block = block_drawn number made.parent made.state in
    record { blocks = made.blocks ++ block.0 ∷ []; parent = digest_of block.0; state = block.1 }

-- The first blocks of a seed, for a count of them.
unfoldable pub first_blocks : ℕ → ℕ → MadeSoFar
first_blocks seed zero = none_made seed
first_blocks seed (suc count) = one_more_made count (first_blocks seed count)

-- The bytes that spell a block.
unfoldable pub spelling : Block → List ℕ
spelling block = concat (block_fields block)

-- The first `count` blocks of a seed, each as the bytes that spell it.
abbrev pub blocks_of_seed : ℕ → ℕ → List (List ℕ)
blocks_of_seed count seed = map spelling (first_blocks seed count).blocks

-- ---- a generator

-- A generator: the state of drawing, and how many of its `count` blocks have been returned.
pub record Progress : Type 0 where
  pub state : ℕ
  pub given : ℕ
  pub count : ℕ

-- The generator, with drawing at another state.
abbrev pub standing_at : ℕ → Progress → Progress
standing_at state gen = record gen { state = state }

-- The bytes of a block, and the generator after returning it.
abbrev pub given_block : Progress → Block × ℕ → List ℕ × Progress
given_block gen block = (spelling block.0, record { state = block.1; given = gen.given + 1; count = gen.count })

-- The next block, with this parent, or `None` if all have been returned.
abbrev pub next_block : Progress → Digest → Option (List ℕ × Progress)
next_block gen parent =
    if gen.given == gen.count then None
    else Some (given_block gen (block_drawn gen.given parent gen.state))

-- The generator after the first `given` blocks of a seed.
abbrev pub progress : ℕ → ℕ → ℕ → Progress
progress seed count given = record { state = (first_blocks seed given).state; given = given; count = count }

-- A generator that has returned the first blocks of a seed, with the last of them as the parent,
-- returns the one after them, if any, and has then returned that too.
abbrev pub GoesOn : ℕ → Progress → Option (List ℕ × Progress) → Type 0
GoesOn seed gen None = gen.given ≡ gen.count
GoesOn seed gen (Some next) =
    (blocks_of_seed (gen.given + 1) seed ≡ blocks_of_seed gen.given seed ++ next.0 ∷ [])
    × (bytes_digest next.0 ≡ (first_blocks seed (gen.given + 1)).parent)
    × (next.1 ≡ progress seed gen.count (gen.given + 1))

-- A block of the first version is the next one of every chain that is not marked, has `number`
-- blocks, ends in `parent`, and has room.
pub record IsPlaced (number : ℕ) (parent : Digest) (block : Block) : Type 0 where
  pub version_is : block.version ≡ FIRST_VERSION
  pub next : number < MAX_BLOCKS → (rows : ℕ) → rows ≤ MAX_ROWS_BEFORE_BLOCK
      → placement false number rows None parent block (digest_of block) ≡ Next
