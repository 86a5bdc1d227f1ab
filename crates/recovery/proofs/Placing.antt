-- A block that is next when rows are counted is next when they are not; and in a log it is next by
-- the versions too, if the mark fits them.
use Rattle.std.proofs.Common.{◌≡◌, ℕ, Bool, false, List, [], ◌∷◌, ◌++◌, length, map, Option}
use Rattle.std.proofs.Common.{None, sym, ap, subst, ◌∙◌, arith}
use Rattle.std.specs.Prelude.{slice_get}
use Rattle.lc_base.specs.declared.digest.Digest.{Digest}
use Rattle.lc_base.specs.declared.row.Row.{Row}
use Rattle.block_codec.specs.Placement.{digest_of, last_digest, new_placement, placement}
use Rattle.block_codec.specs.Placement.{FitsVersions, IsNextPlaced}
use Rattle.block_codec.specs.declared.block.Block.{Block}
use Rattle.block_codec.specs.declared.placement.Placement.TheVariants.{Next}
use Rattle.block_codec.proofs.Placements.{next_is_placed, placed_is_next, next_is_new}
use Rattle.block_codec.proofs.Versions.{next_by_versions, fits_with_next}
use Rattle.block_log.specs.Log.{LogState, IsStricter, IsNextOf, log_with_head}
use Rattle.rooted_chain.specs.chain_exec.Compiled.{compiled_in}
use Rattle.rooted_chain.specs.chain_exec.Replay.{replay}
use Rattle.rooted_chain.specs.chain_replay.Chain.{ChainState, placement_in}
use Rattle.rooted_chain.specs.chain_replay.Judging.{IsNextBlock}
use Rattle.rooted_chain.specs.chain_replay.declared.marking.Marking.TheVariants.{OfLog}
use Rattle.recovery.specs.Node.{AreOfOneChain, stored_placement}

-- ---- rows counted or not

fewer_rows : (marked : Bool) (held rows : ℕ) (parent : Digest) (block : Block)
    → new_placement marked held rows parent block ≡ Next
    → new_placement marked held 0 parent block ≡ Next
fewer_rows marked held rows parent block is =
    let placed : IsNextPlaced marked held rows parent block =
    next_is_placed marked held rows parent block is in
    placed_is_next marked held 0 parent block (record {
      room = placed.room;
      few_rows = omega arith;
      number = placed.number;
      parent_is = placed.parent_is;
      version_is = placed.version_is;
      cheap = placed.cheap;
    })

-- a block that is next has a number that is not held
pub new_one : (marked : Bool) (held rows : ℕ) (have : Option Digest) (parent : Digest)
    (block : Block) (digest : Digest)
    → placement marked held rows have parent block digest ≡ Next
    → (have ≡ None) × (new_placement marked held 0 parent block ≡ Next)
new_one marked held rows have parent block digest is =
    let new = next_is_new marked held rows have parent block digest is in
    (new.0, fewer_rows marked held rows parent block new.1)

unrun : (marked : Bool) (held rows : ℕ) (have : Option Digest) (parent : Digest) (block : Block)
    (digest : Digest) → placement marked held rows have parent block digest ≡ Next
    → placement marked held 0 have parent block digest ≡ Next
unrun marked held rows have parent block digest is =
    let one = new_one marked held rows have parent block digest is in
    ap (λ (have : Option Digest). placement marked held 0 have parent block digest) one.0 ∙ one.1

-- A placement that counts rows is stricter than that of the log.
pub stricter : IsStricter stored_placement
stricter marked blocks block is = unrun marked (length blocks) _
    (slice_get (map digest_of blocks) block.number) (last_digest (map digest_of blocks)) block
    (digest_of block) is

-- The next block of a chain is that of the log of its blocks.
pub next_of_log : (chain : ChainState) (log : LogState) (bytes : List ℕ) (block : Block)
    (digest : Digest) → AreOfOneChain chain log
    → IsNextBlock (OfLog log.is_marked) chain bytes block digest → IsNextOf log bytes
next_of_log chain log bytes block digest one next =
    let marked = log.is_marked in
    record {
      block = block;
      decoded = next.decoded;
      placed =
          ap (λ (count : ℕ). new_placement marked count 0 log.last block) one.count_is
          ∙ ap (λ (last : Digest). new_placement marked (length chain.digests) 0 last block)
          one.last_is
          ∙ (new_one marked (length chain.digests) (length chain.rows)
          (slice_get chain.digests block.number) (last_digest chain.digests) block digest
          next.placed).1;
    }

-- It is the next block too of the log that is created where there is none.
pub next_headed : (log created : LogState) (bytes : List ℕ) → log.is_marked ≡ false
    → created ≡ log_with_head log → IsNextOf log bytes → IsNextOf created bytes
next_headed log created bytes unmarked is next = subst (λ (l : LogState). IsNextOf l bytes) (sym is)
    (record {
      block = next.block;
      decoded = next.decoded;
      placed =
          ap (λ (m : Bool). new_placement m log.count 0 log.last next.block) (sym unmarked)
          ∙ next.placed;
    })

-- ---- the versions of blocks

-- what is next in a log whose mark fits the blocks is next by the versions
pub next_stored : (marked : Bool) (blocks : List Block) (block : Block)
    → FitsVersions marked blocks → stored_placement marked blocks block ≡ Next
    → placement_in compiled_in blocks block ≡ Next
next_stored marked blocks block fits is =
    next_by_versions marked (length {A = Row} (replay compiled_in blocks).rows) blocks block fits is

-- and the mark fits the blocks with it too
pub fits_next : (marked : Bool) (blocks : List Block) (block : Block)
    → stored_placement marked blocks block ≡ Next → FitsVersions marked (blocks ++ block ∷ [])
fits_next marked blocks block is =
    fits_with_next marked (length {A = Row} (replay compiled_in blocks).rows) blocks block is
