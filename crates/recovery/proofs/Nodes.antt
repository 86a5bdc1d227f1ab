-- A node with one more block, and a node whose disk is not touched.
use Rattle.std.proofs.Common.{◌≡◌, inl, ℕ, ◌+◌, ◌-◌, Bool, true, List, [], ◌∷◌, ◌++◌, length, Option}
use Rattle.std.proofs.Common.{Some, None, Result, Ok, Err, refl, sym, ap, subst, ◌∙◌, arith}
use Rattle.std.specs.Prelude.{slice_get, unwrap_or}
use Rattle.std.proofs.lemmas.List.{length-append, get_or_push}
use Rattle.std.proofs.lemmas.Option.{unwrap_or-slice_get}
use Rattle.lc_base.specs.declared.digest.Digest.{Digest}
use Rattle.byte_fields.specs.Spelling.{IsBytes}
use Rattle.block_codec.specs.Placement.{bytes_digest, no_parent, last_digest, FitsVersions}
use Rattle.block_codec.proofs.WholeBlocks.{decided}
use Rattle.std.specs.Option.{is_some}
use Rattle.lc_io.specs.Disk.{DiskState}
use Rattle.disk_model.specs.Disk.{Keeps, Rests, content_of}
use Rattle.block_codec.specs.Reading.{block_in}
use Rattle.block_codec.specs.declared.block.Block.{Block}
use Rattle.block_codec.specs.declared.placement.Placement.TheVariants.{Next}
use Rattle.block_log.specs.Standing.{Logged, with_block}
use Rattle.block_log.specs.Log.{LogState, Agrees, IsNextAfter}
use Rattle.block_log.proofs.Resting.{rests_at, rests_keeps}
use Rattle.rooted_chain.specs.chain_replay.Chain.{ChainState, StandsFor}
use Rattle.rooted_chain.specs.chain_replay.Judging.{Taken, Added, judgement_of, judged_by_placement, IsNextBlock}
use Rattle.rooted_chain.specs.chain_replay.declared.marking.Marking.TheVariants.{OfLog}
use Rattle.rooted_chain.specs.chain_replay.declared.refusal.Refusal.{Refusal}
use Rattle.rooted_chain.proofs.chain_replay.Chains.{placed_as_kept}
use Rattle.rooted_chain.proofs.chain_replay.Judgements.{added_is_next}
use Rattle.recovery.specs.Node.{NodeState, AreOfBlocks, AreOfOneChain, HoldsChain, IsNodeOf}
use Rattle.recovery.specs.Node.{IsStepOf, chain_in, logged_in, stored_placement}
use Rattle.recovery.proofs.Placing.{stricter, fits_next}

-- bytes that are judged to add a block are the next block after those that the content stands for
pub next_after : (node : NodeState) (state : Option DiskState) (blocks : List Block)
    (content bytes : List ℕ) (block : Block) → IsNodeOf node state blocks
    → content_of state ≡ Some content → block_in bytes ≡ Ok block
    → judgement_of (stored_placement node.log.is_marked) blocks (block_in bytes) ≡ Ok (Added block)
    → IsNextAfter stored_placement content bytes (logged_in node.log blocks) block
next_after node state blocks content bytes block is told decoded judgement = record {
  stricter = stricter;
  stands = (rests_at (HoldsChain node.log blocks) state content is.log told).1.stands;
  decoded = decoded;
  placed = added_is_next (stored_placement node.log.is_marked) blocks (block_in bytes) block block
      decoded judgement;
}

held_step : (logged : Logged) (judgement : Result Taken Refusal) (image : List ℕ)
    → chain_in image ≡ Some logged → IsStepOf logged judgement image
held_step logged (Ok frame) image is = inl is
held_step logged (Err refusal) image is = is

-- a node that leaves its disk as it is
pub still : {D : Type 0} (now : D → ℕ) (disk : D → ℕ → Option DiskState) (old : D)
    (node : NodeState) (blocks : List Block) (content : List ℕ) (judgement : Result Taken Refusal)
    → IsNodeOf node (disk old (now old)) blocks → content_of (disk old (now old)) ≡ Some content
    → Keeps now disk old old (IsStepOf (logged_in node.log blocks) judgement)
still now disk old node blocks content judgement is told =
    let here = rests_at (HoldsChain node.log blocks) (disk old (now old)) content is.log told in
    rests_keeps now disk old (IsStepOf (logged_in node.log blocks) judgement) content here.0
    (held_step (logged_in node.log blocks) judgement content here.1.stands)

-- if the disk stays as it is, its content is all that a crash may leave
pub still_only : {D : Type 0} (now : D → ℕ) (disk : D → ℕ → Option DiskState) (old new : D)
    (log : LogState) → new ≡ old → Rests (disk old (now old)) (Agrees log) → (content : List ℕ)
    → content_of (disk old (now old)) ≡ Some content
    → Keeps now disk old new (λ (image : List ℕ). image ≡ content)
still_only {D} now disk old new log same rests content told =
    subst (λ (d : D). Keeps now disk old d (λ (image : List ℕ). image ≡ content)) (sym same)
    (rests_keeps now disk old (λ (image : List ℕ). image ≡ content) content
    (rests_at (Agrees log) (disk old (now old)) content rests told).0 refl)

-- bytes that spell the next block of what is kept are judged to add it
pub is_added : (marked : Bool) (chain : ChainState) (bytes : List ℕ) (blocks : List Block)
    (block : Block) (digest : Digest) → IsNextBlock (OfLog marked) chain bytes block digest
    → StandsFor chain blocks
    → judgement_of (stored_placement marked) blocks (block_in bytes) ≡ Ok (Added block)
is_added marked chain bytes blocks block digest next stands =
    ap (judgement_of (stored_placement marked) blocks) next.decoded
    ∙ ap (judged_by_placement block)
    (sym (placed_as_kept marked chain blocks block digest stands next.digest_is) ∙ next.placed)

-- a chain and a log on a disk that is known if it was
pub holds_chain : (state new : Option DiskState) (blocks : List Block) (log : LogState)
    → is_some new ≡ is_some state → Rests new (Agrees log)
    → ((content : List ℕ) → content_of state ≡ Some content
    → Rests new (λ image. chain_in image ≡ Some (logged_in log blocks)))
    → Rests new (HoldsChain log blocks)
holds_chain None None blocks log still agrees stands = tt
holds_chain None (Some n) blocks log still agrees stands = absurd (cc still)
holds_chain (Some s) None blocks log still agrees stands = tt
holds_chain (Some s) (Some n) blocks log still agrees stands =
    (agrees.0, record { agrees = agrees.1; stands = (stands s.content refl).1 })

-- a node after its next block was stored
pub longer_node : (node : NodeState) (state new : Option DiskState) (blocks : List Block)
    (block : Block) (chain : ChainState) (log : LogState) → IsNodeOf node state blocks
    → stored_placement node.log.is_marked blocks block ≡ Next
    → StandsFor chain (blocks ++ block ∷ []) → log.is_marked ≡ node.log.is_marked
    → is_some new ≡ is_some state → Rests new (Agrees log)
    → ((content : List ℕ) → content_of state ≡ Some content
    → Rests new (λ image. chain_in image ≡ Some
    (with_block (logged_in node.log blocks) block)))
    → AreOfBlocks chain log new (blocks ++ block ∷ [])
longer_node node state new blocks block chain log is placed stands marked still agrees added =
    record {
      kept = stands;
      fits = subst (λ (m : Bool). FitsVersions m (blocks ++ block ∷ [])) (sym marked)
          (fits_next node.log.is_marked blocks block placed);
      log = holds_chain state new (blocks ++ block ∷ []) log still agrees
          (λ content told. subst
          (λ (m : Bool). Rests new (λ image. chain_in image ≡ Some
          (record { blocks = blocks ++ block ∷ []; marked = m }))) (sym marked)
          (added content told));
    }

-- ---- what a longer node keeps

last_of : (digests : List Digest) (digest : Digest) → last_digest (digests ++ digest ∷ []) ≡ digest
last_of digests digest =
    let size : length (digests ++ digest ∷ []) - 1 ≡ length digests = omega
    (arith, length-append digests (digest ∷ [])) in
    ap (λ (i : ℕ). unwrap_or (slice_get (digests ++ digest ∷ []) i) no_parent) size
    ∙ unwrap_or-slice_get (digests ++ digest ∷ []) (length digests) no_parent
    ∙ get_or_push digests digest no_parent (length digests) refl

-- the digest of the next block is that of its bytes
pub hashed : (marked : Bool) (chain : ChainState) (bytes : List ℕ) (block : Block)
    (digest : Digest)
    → IsBytes bytes → IsNextBlock (OfLog marked) chain bytes block digest
    → digest ≡ bytes_digest bytes
hashed marked chain bytes block digest fits next = next.digest_is
    ∙ sym (ap bytes_digest (decided.found bytes block fits next.decoded).spelled)

pub one_more : (chain longer : ChainState) (log new : LogState) (bytes : List ℕ) (block : Block)
    (digest : Digest) → IsBytes bytes → AreOfOneChain chain log
    → IsNextBlock (OfLog log.is_marked) chain bytes block digest
    → longer.digests ≡ chain.digests ++ digest ∷ [] → new.count ≡ log.count + 1
    → new.last ≡ bytes_digest bytes → new.is_ready ≡ true → AreOfOneChain longer new
one_more chain longer log new bytes block digest fits one next added count last ready = record {
  count_is = omega (
    arith,
    count,
    one.count_is,
    ap (length {A = Digest}) added,
    length-append
        chain.digests (digest ∷ []),
  );
  last_is = last ∙ sym (hashed log.is_marked chain bytes block digest fits next)
      ∙ sym (last_of chain.digests digest) ∙ ap last_digest (sym added);
  headless = λ is. absurd (cc (is, ready));
}
