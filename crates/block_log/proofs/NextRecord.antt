-- The record of the next block of a log, by the log's own placement and by each stricter one.
use Rattle.std.proofs.Common.{◌≡◌, ◌≢◌, ◌⊎◌, inl, inr, ℕ, suc, ◌+◌, ◌-◌, ◌≤◌, ◌<◌, Bool, true, false, List, [], ◌∷◌, ◌++◌, length, length-append, map, refl, sym, ◌∙◌, ap, subst, arith}
use Rattle.std.specs.Prelude.{Option, Some, None, MatchBool, slice_get, unwrap_or}
use Rattle.std.proofs.lemmas.List.{length-map, map-append}
use Rattle.std.proofs.lemmas.Option.{slice_get_past, slice_get-get_or}
use Rattle.std.proofs.Math.Seq.{get_or-append_seam}
use Rattle.byte_fields.specs.Spelling.{IsBytes}
use Rattle.lc_base.specs.declared.digest.Digest.{Digest}
use Rattle.lc_io.specs.Disk.{DiskState}
use Rattle.disk_model.specs.Disk.{Torn, bytes_over, Rests, content_of, settled_disk}
use Rattle.block_codec.specs.Spelling.{Spells}
use Rattle.block_codec.specs.Reading.{block_in}
use Rattle.block_codec.specs.Placement.{bytes_digest, digest_of, no_parent, last_digest, most_blocks}
use Rattle.block_codec.specs.Placement.{new_placement, placement}
use Rattle.block_codec.specs.declared.limits.TheConstants.{MAX_BLOCK_BYTES, MAX_BLOCKS}
use Rattle.block_codec.specs.declared.limits.TheConstants.{MAX_MARKED_BLOCKS}
use Rattle.block_codec.specs.declared.block.Block.{Block}
use Rattle.block_codec.specs.declared.placement.Placement.TheVariants.{Next}
use Rattle.block_codec.proofs.WholeBlocks.{is_spelled}
use Rattle.block_codec.proofs.Placements.{next_is_placed, next_has_passed}
use Rattle.block_log.specs.declared.layout.TheConstants.{OPEN_GATE, MAX_RECORDS}
use Rattle.block_log.specs.declared.layout.Stored.{Stored}
use Rattle.block_log.specs.Standing.{Standing, Holds, records_at, Logged, with_block, Placer, NextBlock, next_decoded, if_next, next_block, blocks_in, logged_of, standing, chain_of}
use Rattle.block_log.specs.Log.{LogState, marks, log_placement, next_in_log, IsKeptLog, Agrees, AgreesWithBlocks, AgreesWithBlank, IsNextOf, IsNextAfter, IsOldOrNew, log_with_block}
use Rattle.block_log.specs.Steps.{synced_write, record_bytes}
use Rattle.block_log.proofs.Records.{IsLog, log_is, stored_at}
use Rattle.block_log.proofs.Stricter.{same_blocks}
use Rattle.block_log.proofs.Resting.{rests_at, rests_on, told_before}
use Rattle.block_log.proofs.TornRecords.{block_opens, within, staged_within, torn_after, torn_gate, written_gate}

-- ---- the place of the next block

-- a next block comes after fewer blocks than the most that a chain has
some_room : (marked : Bool) (blocks : List Block) (block : Block) → log_placement marked blocks block ≡ Next → length blocks ≢ most_blocks marked
some_room marked blocks block is =
    let digests = map digest_of blocks in
    (next_has_passed marked (length blocks) 0 (slice_get digests block.number) (last_digest digests) block
    (digest_of block) is).room

-- the next block by what a log keeps is the next one after the blocks themselves
pub placed_next : (marked : Bool) (blocks : List Block) (count : ℕ) (last : Digest) (block : Block) → count ≡ length blocks → last ≡ last_digest (map digest_of blocks) → new_placement marked count 0 last block ≡ Next → log_placement marked blocks block ≡ Next
placed_next marked blocks count last block count_is last_is is =
    let number = (next_is_placed marked count 0 last block is).number in
    let past : slice_get (map digest_of blocks) block.number ≡ None = slice_get_past (map digest_of blocks) block.number (omega (arith, number, count_is, length-map blocks digest_of)) in
    ap (λ (have : Option Digest). placement marked (length blocks) 0 have (last_digest (map digest_of blocks)) block (digest_of block)) past
    ∙ ap (λ n. new_placement marked n 0 (last_digest (map digest_of blocks)) block) (sym count_is) ∙ ap (λ d. new_placement marked count 0 d block) (sym last_is) ∙ is

pub last_of : (digests : List Digest) (d : Digest) → last_digest (digests ++ d ∷ []) ≡ d
last_of digests d =
    let long = length-append digests (d ∷ []) in
    let end : length (digests ++ d ∷ []) - 1 ≡ length digests = omega (arith, long) in
    ap (λ n. unwrap_or (slice_get (digests ++ d ∷ []) n) no_parent) end
    ∙ ap (λ (o : Option Digest). unwrap_or o no_parent) (slice_get-get_or (digests ++ d ∷ []) (length digests) d (omega (arith, long)) ∙ ap Some (get_or-append_seam digests d [] d))

-- ---- its record

pub record NextRecord (next : NextBlock) (content : List ℕ) (stored : List Stored) (marked : Bool) (gate : ℕ) (bytes : List ℕ) (block : Block) : Type 0 where
  pub log : IsLog next content stored marked gate
  pub low : 1 ≤ length bytes
  pub high : length bytes ≤ MAX_BLOCK_BYTES
  pub some : 0 < log.left
  pub found : next marked (blocks_in stored) bytes ≡ Some block

some_bytes : (bytes : List ℕ) (block : Block) → Spells bytes block → 1 ≤ length bytes
some_bytes bytes block spells = omega (arith, ap (length {A = ℕ}) spells.spelled)

pub below : (n m : ℕ) → n ≤ m → n ≢ m → n < m
below n m at_most other = grind arith

-- a log that takes a block looks at one more gate
left_over : (marked : Bool) (n left : ℕ) → n + marks marked + left ≡ MAX_RECORDS → n < MAX_MARKED_BLOCKS → 0 < left
left_over true n left all less = omega (arith, all, less)
left_over false n left all less = omega (arith, all, less)

-- a log that takes a block has room for it
pub room_by : (marked : Bool) (n : ℕ) → n ≤ MAX_MARKED_BLOCKS → (marked ≡ false → n ≤ MAX_BLOCKS) → n ≢ most_blocks marked → (n < MAX_MARKED_BLOCKS) × (marked ≡ false → n < MAX_BLOCKS)
room_by true n few unmarked room = (below n MAX_MARKED_BLOCKS few room, λ is. absurd (cc is))
room_by false n few unmarked room = let less = below n MAX_BLOCKS (unmarked refl) room in (omega (arith, less), λ is. less)

-- `few` and `unmarked`: a log has at most as many blocks as its placement says
next_record : (place : Placer) (content bytes : List ℕ) (stored : List Stored) (marked : Bool) (gate : ℕ) (logged : Logged) (block : Block) → length stored ≤ MAX_MARKED_BLOCKS → (marked ≡ false → length stored ≤ MAX_BLOCKS) → standing next_in_log content ≡ Holds stored marked gate → IsBytes bytes → IsNextAfter place content bytes logged block
    → NextRecord (next_block block_in place) content stored marked gate bytes block × (logged ≡ record { blocks = blocks_in stored; marked = marked })
next_record place content bytes stored marked gate logged block few unmarked own fits after =
    let same = same_blocks place after.stricter content stored marked gate logged own after.stands in
    let spells = is_spelled bytes block fits after.decoded in
    let log = log_is (next_block block_in place) content stored marked gate same.0 in
    let placed : place marked (blocks_in stored) block ≡ Next = ap (λ (l : Logged). place l.marked l.blocks block) (sym same.1) ∙ after.placed in
    let room = some_room marked (blocks_in stored) block (after.stricter marked (blocks_in stored) block placed) in
    let long : length (blocks_in stored) ≡ length stored = length-map stored (λ s. s.block) in (
      record {
        log = log;
        low = some_bytes bytes block spells;
        high = spells.short;
        some = left_over marked (length stored) log.left log.count_is (room_by marked (length stored) few unmarked (λ full. room (long ∙ full))).0;
        found = ap (next_decoded place marked (blocks_in stored)) after.decoded ∙ ap (if_next block) placed;
      },
      same.1,
    )

-- the chain with the block
chain_with : (stored : List Stored) (gate : ℕ) (blocks : List Block) (block : Block) → blocks ≡ blocks_in stored → blocks_in (stored ++ stored_at gate block ∷ []) ≡ blocks ++ block ∷ []
chain_with stored gate blocks block is = map-append (λ (s : Stored). s.block) stored (stored_at gate block ∷ []) ∙ ap (λ (blocks : List Block). blocks ++ block ∷ []) (sym is)

module _ (log seen : LogState) (bytes : List ℕ) (same : log ≡ seen) (seen_next : IsNextOf seen bytes) (fits : IsBytes bytes) (log_kept : IsKeptLog log) where
  is_next : IsNextOf log bytes
  is_next = subst (λ log. IsNextOf log bytes) (sym same) seen_next

  abbrev staged : List ℕ → List ℕ
  staged content = bytes_over (log.gate + 1) (record_bytes bytes) content

  abbrev whole : List ℕ → List ℕ
  whole content = bytes_over log.gate (OPEN_GATE ∷ []) (staged content)

  pub short : length bytes ≤ MAX_BLOCK_BYTES
  short = (is_spelled bytes is_next.block fits is_next.decoded).short

  -- the bounds of the log with the block
  pub kept : IsKeptLog (log_with_block log bytes)
  kept =
      let room = room_by log.is_marked log.count log_kept.few (λ is. (log_kept.unmarked is).few) (next_is_placed log.is_marked log.count 0 log.last is_next.block is_next.placed).room in
      record {
        few = omega (arith, room.0);
        near = omega (arith, log_kept.near, short);
        unmarked = λ is. let small = log_kept.unmarked is in record { few = omega (arith, room.1 is); near = omega (arith, small.near, short) };
        no_block = λ headless. absurd (cc headless);
      }

  few_stored : (content : List ℕ) (agrees : AgreesWithBlocks log content) → length agrees.stored ≤ MAX_MARKED_BLOCKS
  few_stored content agrees = omega (arith, log_kept.few, agrees.count_is)

  fewer_stored : (content : List ℕ) (agrees : AgreesWithBlocks log content) → log.is_marked ≡ false → length agrees.stored ≤ MAX_BLOCKS
  fewer_stored content agrees is = let small = log_kept.unmarked is in omega (arith, small.few, agrees.count_is)

  -- the log's own view
  own : (content : List ℕ) (agrees : AgreesWithBlocks log content) → NextRecord next_in_log content agrees.stored log.is_marked log.gate bytes is_next.block
  own content agrees =
      let count : log.count ≡ length (blocks_in agrees.stored) = agrees.count_is ∙ sym (length-map agrees.stored (λ s. s.block)) in
      let logged : Logged = record { blocks = blocks_in agrees.stored; marked = log.is_marked } in
      let after : IsNextAfter log_placement content bytes logged is_next.block = record {
        stricter = λ marked blocks block next. next;
        stands = ap logged_of agrees.stands;
        decoded = is_next.decoded;
        placed = placed_next log.is_marked (blocks_in agrees.stored) log.count log.last is_next.block count agrees.last_is is_next.placed;
      } in
      (next_record log_placement content bytes agrees.stored log.is_marked log.gate logged is_next.block (few_stored content agrees) (fewer_stored content agrees) agrees.stands fits after).0

  -- what the image with the record stands for, by a placement
  abbrev with_record : List Stored → Block → Standing
  with_record stored block = Holds (stored ++ stored_at log.gate block ∷ []) log.is_marked (log.gate + 5 + length bytes)

  opens : (next : NextBlock) (content : List ℕ) (stored : List Stored) (block : Block) (r : NextRecord next content stored log.is_marked log.gate bytes block)
      → (ys : List ℕ) → records_at next (suc r.log.left) log.is_marked log.gate stored (OPEN_GATE ∷ (record_bytes bytes ++ ys)) ≡ with_record stored block
  opens next content stored block r = block_opens next r.log.left log.is_marked log.gate stored bytes block r.some r.low r.high r.found

  first_within : (content : List ℕ) → AgreesWithBlocks log content → log.gate + 1 ≤ length content
  first_within content agrees =
      let r = own content agrees in
      within next_in_log content agrees.stored log.is_marked log.gate bytes (with_record agrees.stored is_next.block) r.log (opens next_in_log content agrees.stored is_next.block r)

  second_within : (content : List ℕ) → AgreesWithBlocks log content → log.gate ≤ length (staged content)
  second_within content agrees =
      let r = own content agrees in
      staged_within next_in_log content agrees.stored log.is_marked log.gate bytes (with_record agrees.stored is_next.block) r.log (opens next_in_log content agrees.stored is_next.block r)

  -- the log with the block agrees with the bytes
  agrees_after : (content : List ℕ) → AgreesWithBlocks log content → AgreesWithBlocks (log_with_block log bytes) (whole content)
  agrees_after content agrees =
      let r = own content agrees in
      let stored = agrees.stored in
      let block = is_next.block in
      let digests : map digest_of (blocks_in (stored ++ stored_at log.gate block ∷ [])) ≡ map digest_of (blocks_in stored) ++ digest_of block ∷ [] =
      ap (map digest_of) (chain_with stored log.gate (blocks_in stored) block refl) ∙ map-append digest_of (blocks_in stored) (block ∷ []) in
      let spelled : bytes_digest bytes ≡ digest_of block = ap bytes_digest (is_spelled bytes block fits is_next.decoded).spelled in
      record {
        stored = stored ++ stored_at log.gate block ∷ [];
        stands = written_gate next_in_log content stored log.is_marked log.gate bytes (with_record stored block) r.log (opens next_in_log content stored block r);
        count_is = omega (arith, agrees.count_is, length-append stored (stored_at log.gate block ∷ []));
        last_is = spelled ∙ sym (last_of (map digest_of (blocks_in stored)) (digest_of block)) ∙ sym (ap last_digest digests);
      }

  -- ---- over the disk

  is_blocks : (content : List ℕ) (b : Bool) → b ≡ true → MatchBool b (AgreesWithBlocks log content) (AgreesWithBlank log content) → AgreesWithBlocks log content
  is_blocks content true is agrees = agrees
  is_blocks content false is agrees = absurd (cc is)

  module _ (state : Option DiskState) (seen_ready : seen.is_ready ≡ true) (seen_rests : Rests state (Agrees seen)) where
    ready : log.is_ready ≡ true
    ready = ap (λ (log : LogState). log.is_ready) same ∙ seen_ready

    rests : Rests state (Agrees log)
    rests = subst (λ log. Rests state (Agrees log)) (sym same) seen_rests

    at : (content : List ℕ) → content_of state ≡ Some content → (state ≡ Some (settled_disk content)) × AgreesWithBlocks log content
    at content told = let r = rests_at (Agrees log) state content rests told in (r.0, is_blocks content log.is_ready ready r.1)

    pub record_within : (content : List ℕ) → content_of state ≡ Some content → log.gate + 1 ≤ length content
    record_within content told = first_within content (at content told).1

    pub gate_within : (mid : Option DiskState) → mid ≡ synced_write (log.gate + 1) (record_bytes bytes) state → (now : List ℕ) → content_of mid ≡ Some now → log.gate ≤ length now
    gate_within mid is now told =
        let before = told_before state mid (log.gate + 1) (record_bytes bytes) now is told in
        subst (λ (l : List ℕ). log.gate ≤ length l) (sym before.2) (second_within before.0 (at before.0 before.1).1)

    pub agrees_then : (mid new : Option DiskState) → mid ≡ synced_write (log.gate + 1) (record_bytes bytes) state → new ≡ synced_write log.gate (OPEN_GATE ∷ []) mid → Rests new (Agrees (log_with_block log bytes))
    agrees_then mid new first second =
        rests_on (λ c. AgreesWithBlocks (log_with_block log bytes) (bytes_over log.gate (OPEN_GATE ∷ []) c)) (Agrees (log_with_block log bytes)) log.gate (OPEN_GATE ∷ []) mid new
        (rests_on (Agrees log) (λ c. AgreesWithBlocks (log_with_block log bytes) (bytes_over log.gate (OPEN_GATE ∷ []) c)) (log.gate + 1) (record_bytes bytes) state mid rests first
        (λ c agrees. agrees_after c (is_blocks c log.is_ready ready agrees))) second (λ c agrees. agrees)

    module _ (place : Placer) (content : List ℕ) (logged : Logged) (block : Block) (told : content_of state ≡ Some content) (after : IsNextAfter place content bytes logged block) where
      abbrev next : NextBlock
      next = next_block block_in place

      abbrev stored : List Stored
      stored = (at content told).1.stored

      -- the record by this placement
      there : NextRecord next content stored log.is_marked log.gate bytes block × (logged ≡ record { blocks = blocks_in stored; marked = log.is_marked })
      there = next_record place content bytes stored log.is_marked log.gate logged block (few_stored content (at content told).1) (fewer_stored content (at content told).1) (at content told).1.stands fits after

      is_old : (c : List ℕ) → standing next c ≡ Holds stored log.is_marked log.gate → IsOldOrNew next logged block c
      is_old c is = inl (ap logged_of is ∙ ap Some (sym there.1))

      with_it : (c : List ℕ) → standing next c ≡ with_record stored block → chain_of next c ≡ Some (with_block logged block)
      with_it c is =
          ap logged_of is ∙ ap (λ (blocks : List Block). Some (record { blocks = blocks; marked = log.is_marked })) (chain_with stored log.gate (blocks_in stored) block refl)
          ∙ ap (λ (l : Logged). Some (with_block l block)) (sym there.1)

      pub rests_there : state ≡ Some (settled_disk content)
      rests_there = (at content told).0

      pub first_leaves : (c : List ℕ) → Torn (log.gate + 1) (length (record_bytes bytes)) content c → IsOldOrNew next logged block c
      first_leaves c torn =
          let r = there.0 in
          is_old c (torn_after next content stored log.is_marked log.gate bytes (with_record stored block) r.log (opens next content stored block r) c torn)

      either : (c : List ℕ) → (standing next c ≡ Holds stored log.is_marked log.gate) ⊎ (standing next c ≡ with_record stored block) → IsOldOrNew next logged block c
      either c (inl is) = is_old c is
      either c (inr is) = inr (with_it c is)

      pub second_leaves : (c : List ℕ) → Torn log.gate 1 (staged content) c → IsOldOrNew next logged block c
      second_leaves c torn =
          let r = there.0 in
          either c (torn_gate next content stored log.is_marked log.gate bytes (with_record stored block) r.log (opens next content stored block r) c torn)

      pub chain_then : (mid new : Option DiskState) → mid ≡ synced_write (log.gate + 1) (record_bytes bytes) state → new ≡ synced_write log.gate (OPEN_GATE ∷ []) mid → Rests new (λ image. chain_of next image ≡ Some (with_block logged block))
      chain_then mid new first second =
          let r = there.0 in
          let all : new ≡ Some (settled_disk (whole content)) = second ∙ ap (synced_write log.gate (OPEN_GATE ∷ [])) (first ∙ ap (synced_write (log.gate + 1) (record_bytes bytes)) rests_there) in
          subst (λ n. Rests n (λ image. chain_of next image ≡ Some (with_block logged block))) (sym all)
          (refl, with_it (whole content) (written_gate next content stored log.is_marked log.gate bytes (with_record stored block) r.log (opens next content stored block r)))
