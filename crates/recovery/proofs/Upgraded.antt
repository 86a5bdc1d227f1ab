-- Marking a log on a disk without one, and a node whose log was marked.
use Rattle.std.proofs.Common.{◌≡◌, inl, ℕ, Bool, List, Option, Some, sym, subst}
use Rattle.std.specs.Option.{is_some}
use Rattle.lc_io.specs.Disk.{DiskState}
use Rattle.disk_model.specs.Disk.{Keeps, Rests, content_of}
use Rattle.disk_model.proofs.Moments.{then_keeps}
use Rattle.block_codec.specs.Reading.{block_in}
use Rattle.block_codec.specs.declared.block.Block.{Block}
use Rattle.block_log.specs.Standing.{Logged, Placer, NextBlock, next_block, nothing_logged}
use Rattle.block_log.specs.Standing.{with_mark, chain_of}
use Rattle.block_log.specs.Log.{LogState, Agrees, IsOldOrMarked, StandsBy}
use Rattle.block_log.proofs.Resting.{rests_at}
use Rattle.rooted_chain.specs.chain_replay.Chain.{ChainState, StandsFor}
use Rattle.recovery.specs.Node.{NodeState, AreOfBlocks, AreOfOneChain, HoldsChain, IsMarkedLog}
use Rattle.recovery.specs.Node.{IsNodeOf, chain_in, logged_in, stored_placement}
use Rattle.recovery.proofs.Placing.{stricter}
use Rattle.recovery.proofs.Created.{created_there, only_headed}
use Rattle.recovery.proofs.Nodes.{holds_chain}

module _ {D : Type 0} (now : D → ℕ) (disk : D → ℕ → Option DiskState) where
  -- if creating fails, the bytes stand for no block, as before
  pub unmarked_created : (old new : D) (place : Placer) (logged : Logged)
      → logged ≡ nothing_logged
      → Keeps now disk old new
      (λ image. chain_of (next_block block_in place) image ≡ Some nothing_logged)
      → Keeps now disk old new (IsOldOrMarked (next_block block_in place) logged)
  unmarked_created old new place logged none keeps =
      only_headed now disk old new (next_block block_in place) logged
      (IsOldOrMarked (next_block block_in place) logged) none keeps (λ c is. inl is)

  -- a log is created, and then marked
  pub then_marked : (old mid new : D) (place : Placer) (content : List ℕ) (logged : Logged)
      → content_of (disk old (now old)) ≡ Some content → StandsBy place content logged
      → logged ≡ nothing_logged
      → Keeps now disk old mid
      (λ image. chain_of (next_block block_in place) image ≡ Some nothing_logged)
      → ((next : NextBlock) → Rests (disk mid (now mid))
      (λ image. chain_of next image ≡ Some nothing_logged))
      → ((place : Placer) (content : List ℕ) (logged : Logged)
      → content_of (disk mid (now mid)) ≡ Some content → StandsBy place content logged
      → Keeps now disk mid new (IsOldOrMarked (next_block block_in place) logged))
      → Keeps now disk old new (IsOldOrMarked (next_block block_in place) logged)
  then_marked old mid new place content logged told by none created empty marked =
      let there = created_there now disk old mid (next_block block_in place) content told
      created.told (empty (next_block block_in place)) in
      then_keeps now disk old mid new (IsOldOrMarked (next_block block_in place) logged)
      (unmarked_created old mid place logged none created)
      (subst (λ (all : Logged). Keeps now disk mid new
      (IsOldOrMarked (next_block block_in place) all)) (sym none)
      (marked place there.0 nothing_logged there.1
      (record { stricter = by.stricter; stands = there.2 })))

  -- it stands for no block then, and is marked
  pub stands_marked : (old mid new : D) (place : Placer) (content : List ℕ) (logged : Logged)
      → content_of (disk old (now old)) ≡ Some content → StandsBy place content logged
      → logged ≡ nothing_logged
      → is_some (disk mid (now mid)) ≡ is_some (disk old (now old))
      → ((next : NextBlock) → Rests (disk mid (now mid))
      (λ image. chain_of next image ≡ Some nothing_logged))
      → ((place : Placer) (content : List ℕ) (logged : Logged)
      → content_of (disk mid (now mid)) ≡ Some content → StandsBy place content logged
      → Rests (disk new (now new))
      (λ image. chain_of (next_block block_in place) image ≡ Some (with_mark logged)))
      → Rests (disk new (now new))
      (λ image. chain_of (next_block block_in place) image ≡ Some (with_mark logged))
  stands_marked old mid new place content logged told by none still empty marked =
      let there = created_there now disk old mid (next_block block_in place) content told still
      (empty (next_block block_in place)) in
      subst (λ (all : Logged). Rests (disk new (now new))
      (λ image. chain_of (next_block block_in place) image ≡ Some (with_mark all))) (sym none)
      (marked place there.0 nothing_logged there.1
      (record { stricter = by.stricter; stands = there.2 }))

-- a node after its log was marked is of the same blocks
pub marked_node : (node : NodeState) (chain : ChainState) (log : LogState)
    (state new : Option DiskState) (blocks : List Block) → chain ≡ node.chain
    → IsNodeOf node state blocks → IsMarkedLog node.log log → is_some new ≡ is_some state
    → Rests new (Agrees log)
    → ((content : List ℕ) → content_of state ≡ Some content
    → StandsBy stored_placement content (logged_in node.log blocks)
    → Rests new (λ image. chain_in image ≡ Some (with_mark (logged_in node.log blocks))))
    → AreOfBlocks chain log new blocks
marked_node node chain log state new blocks same is marked still agrees stands = record {
  kept = subst (λ (c : ChainState). StandsFor c blocks) (sym same) is.kept;
  fits = λ unmarked. absurd (cc (unmarked, marked.marked_is));
  log = holds_chain state new blocks log still agrees
      (λ content told. subst
      (λ (m : Bool). Rests new (λ image. chain_in image ≡ Some
      (record { blocks = blocks; marked = m }))) (sym marked.marked_is)
      (stands content told (record {
        stricter = stricter;
        stands = (rests_at (HoldsChain node.log blocks) state content is.log told).1.stands;
      })));
}

-- and its chain and its log are of one chain
pub marked_chain : (chain : ChainState) (old new : LogState) → AreOfOneChain chain old
    → IsMarkedLog old new → AreOfOneChain chain new
marked_chain chain old new one marked = record {
  count_is = cc (marked.count_is, one.count_is);
  last_is = cc (marked.last_is, one.last_is);
  headless = λ headless. absurd (cc (headless, marked.has_head));
}
