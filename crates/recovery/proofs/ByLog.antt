-- Storing a block, by the placement of the log alone, which counts no row.
use Rattle.std.proofs.Common.{◌≡◌, inl, ℕ, Bool, true, false, List}
use Rattle.std.proofs.Common.{Option, Some, Result, Ok, Err, sym, ap, subst, ◌∙◌}
use Rattle.std.specs.Prelude.{MatchBool}
use Rattle.std.proofs.lemmas.List.{length-map}
use Rattle.lc_io.specs.Disk.{DiskState}
use Rattle.disk_model.specs.Disk.{Keeps, Rests, content_of}
use Rattle.disk_model.proofs.Moments.{then_keeps}
use Rattle.block_codec.specs.Placement.{new_placement}
use Rattle.block_codec.specs.Reading.{block_in}
use Rattle.block_codec.specs.declared.block.Block.{Block}
use Rattle.block_log.specs.Standing.{Logged, Placer, next_block, blocks_in, logged_of, chain_of}
use Rattle.block_log.specs.Standing.{nothing_logged}
use Rattle.block_log.specs.Log.{LogState, Agrees, AgreesWithBlocks, AgreesWithBlank, IsNextAfter}
use Rattle.block_log.specs.Log.{IsNextOf, IsOldOrNew, log_placement, log_with_head, next_in_log}
use Rattle.block_log.proofs.NextRecord.{placed_next}
use Rattle.block_log.proofs.Resting.{rests_at, rests_keeps}
use Rattle.recovery.specs.Node.{IsLogStepOf}
use Rattle.recovery.proofs.Created.{created_there, only_created}

-- what a log agrees with, by whether it has a head
agrees_by : (log : LogState) (state : Option DiskState) (content : List ℕ) (ready : Bool)
    → log.is_ready ≡ ready → Rests state (Agrees log) → content_of state ≡ Some content
    → MatchBool ready (AgreesWithBlocks log content) (AgreesWithBlank log content)
agrees_by log state content ready is rests told = subst
    (λ (b : Bool). MatchBool b (AgreesWithBlocks log content) (AgreesWithBlank log content)) is
    (rests_at (Agrees log) state content rests told).1

-- the next block of a log with a head is the next one after those that its content stands for
pub next_by_log : (log : LogState) (state : Option DiskState) (content bytes : List ℕ)
    (logged : Logged) (block : Block) → log.is_ready ≡ true → Rests state (Agrees log)
    → content_of state ≡ Some content → chain_of next_in_log content ≡ Some logged
    → IsNextOf log bytes → block_in bytes ≡ Ok block
    → IsNextAfter log_placement content bytes logged block
next_by_log log state content bytes logged block ready rests told stands next decoded =
    let held : AgreesWithBlocks log content = agrees_by log state content true ready rests told in
    let shown : Some (record { blocks = blocks_in held.stored; marked = log.is_marked }) ≡ Some
    logged = sym (ap logged_of held.stands) ∙ stands in
    let same : record { blocks = blocks_in held.stored; marked = log.is_marked } ≡ logged = cc shown
    in
    let one : next.block ≡ block = cc (next.decoded, decoded) in
    record {
      stricter = λ marked blocks block is. is;
      stands = stands;
      decoded = decoded;
      placed =
          ap (λ (l : Logged). log_placement l.marked l.blocks block) (sym same)
          ∙ placed_next log.is_marked (blocks_in held.stored) log.count log.last block
          (held.count_is ∙ sym (length-map held.stored (λ s. s.block)))
          held.last_is
          (ap (λ (b : Block). new_placement log.is_marked log.count 0 log.last b) (sym one)
          ∙ next.placed);
    }

-- a log without a head holds no block, and no mark
pub none_by_log : (log : LogState) (state : Option DiskState) (content : List ℕ)
    (logged : Logged) → log.is_ready ≡ false → Rests state (Agrees log)
    → content_of state ≡ Some content → chain_of next_in_log content ≡ Some logged
    → logged ≡ nothing_logged
none_by_log log state content logged headless rests told stands =
    let blank : AgreesWithBlank log content = agrees_by log state content false headless rests told
    in
    let found : Some logged ≡ Some nothing_logged = sym stands ∙ ap logged_of blank.stands in
    cc found

-- bytes that stand for the chain before are among what a step may leave
held_step : (logged : Logged) (spelled : Result Block ℕ) (image : List ℕ)
    → chain_of next_in_log image ≡ Some logged → IsLogStepOf logged spelled image
held_step logged (Ok block) image is = inl is
held_step logged (Err offset) image is = is

module _ {D : Type 0} (now : D → ℕ) (disk : D → ℕ → Option DiskState) where
  -- the disk is left as it is
  pub still_log : (old : D) (log : LogState) (content : List ℕ) (logged : Logged)
      (spelled : Result Block ℕ) → Rests (disk old (now old)) (Agrees log)
      → content_of (disk old (now old)) ≡ Some content
      → chain_of next_in_log content ≡ Some logged
      → Keeps now disk old old (IsLogStepOf logged spelled)
  still_log old log content logged spelled rests told stands =
      rests_keeps now disk old (IsLogStepOf logged spelled) content
      (rests_at (Agrees log) (disk old (now old)) content rests told).0
      (held_step logged spelled content stands)

  -- the block that the bytes spell was stored, or a part of it
  pub spelled_log : (old new : D) (logged : Logged) (block : Block) (spelled : Result Block ℕ)
      → spelled ≡ Ok block → Keeps now disk old new (IsOldOrNew next_in_log logged block)
      → Keeps now disk old new (IsLogStepOf logged spelled)
  spelled_log old new logged block spelled is keeps = subst
      (λ (r : Result Block ℕ). Keeps now disk old new (IsLogStepOf logged r)) (sym is) keeps

  -- a log is created, and then the block is appended to it
  pub made_then_appended : (old mid new : D) (log longer : LogState) (content bytes : List ℕ)
      (logged : Logged) (block : Block) → content_of (disk old (now old)) ≡ Some content
      → logged ≡ nothing_logged
      → Keeps now disk old mid (λ image. chain_of next_in_log image ≡ Some nothing_logged)
      → Rests (disk mid (now mid)) (λ image. chain_of next_in_log image ≡ Some nothing_logged)
      → longer ≡ log_with_head log → Rests (disk mid (now mid)) (Agrees longer)
      → IsNextOf longer bytes → block_in bytes ≡ Ok block
      → ((place : Placer) (content : List ℕ) (logged : Logged) (block : Block)
      → content_of (disk mid (now mid)) ≡ Some content
      → IsNextAfter place content bytes logged block
      → Keeps now disk mid new (IsOldOrNew (next_block block_in place) logged block))
      → Keeps now disk old new (IsOldOrNew next_in_log logged block)
  made_then_appended old mid new log longer content bytes logged block told none created empty is_longer agrees next decoded appended =
      let there = created_there now disk old mid next_in_log content told created.told empty in
      then_keeps now disk old mid new (IsOldOrNew next_in_log logged block)
      (only_created now disk old mid log_placement logged block none created)
      (subst (λ (all : Logged). Keeps now disk mid new (IsOldOrNew next_in_log all block))
      (sym none)
      (appended log_placement there.0 nothing_logged block there.1
      (next_by_log longer (disk mid (now mid)) there.0 bytes nothing_logged block
      (ap (λ (l : LogState). l.is_ready) is_longer) agrees there.1 there.2 next decoded)))
