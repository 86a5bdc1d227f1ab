-- The mark of a log: where it is read, and what a crash leaves while it is written.
use Rattle.std.proofs.Common.{◌≡◌, ◌⊎◌, inl, inr, ℕ, suc, ◌+◌, ◌-◌, ◌≤◌, ◌<◌, Bool, true, false}
use Rattle.std.proofs.Common.{List, [], ◌∷◌, ◌++◌, length, drop, refl, sym, ◌∙◌, ap, subst, arith}
use Rattle.std.specs.Prelude.{Option, Some, MatchBool}
use Rattle.lc_base.specs.declared.digest.Digest.{Digest}
use Rattle.lc_io.specs.Disk.{DiskState}
use Rattle.disk_model.specs.Disk.{Torn, bytes_over, Rests, content_of, settled_disk}
use Rattle.block_codec.specs.Reading.{block_in}
use Rattle.block_codec.specs.Placement.{most_blocks}
use Rattle.block_codec.specs.declared.limits.TheConstants.{MAX_BLOCKS, MAX_MARKED_BLOCKS}
use Rattle.block_log.specs.declared.layout.TheConstants.{OPEN_GATE, MAX_RECORDS}
use Rattle.block_log.specs.declared.layout.Stored.{Stored}
use Rattle.block_log.specs.declared.reading.Record.TheVariants as records
use Rattle.block_log.specs.Reading.{record_of}
use Rattle.block_log.specs.Standing.{Holds, Logged, with_mark, Placer, NextBlock, next_block}
use Rattle.block_log.specs.Standing.{blocks_in, logged_of, records_at, standing, chain_of}
use Rattle.block_log.specs.Log.{LogState, marks, next_in_log, IsKeptLog, IsSmall, Agrees}
use Rattle.block_log.specs.Log.{AgreesWithBlocks, AgreesWithBlank, StandsBy, IsOldOrMarked}
use Rattle.block_log.specs.Log.{log_with_mark}
use Rattle.block_log.specs.Steps.{synced_write, record_bytes}
use Rattle.block_log.specs.Reader.{AreReadTo, IsFound, IfNear, found_mark, log_at}
use Rattle.block_log.proofs.Records.{IsLog, log_is}
use Rattle.block_log.proofs.Stricter.{same_blocks}
use Rattle.block_log.proofs.Resting.{rests_at, rests_on, told_before}
use Rattle.block_log.proofs.TornRecords.{mark_opens, within, staged_within, torn_after, torn_gate}
use Rattle.block_log.proofs.TornRecords.{written_gate}
use Rattle.block_log.proofs.Turns.{marked_twice}
use Rattle.block_log.proofs.Chained.{read_mark}

-- ---- how many blocks a log has

few_by : (marked : Bool) (count : ℕ) → count ≤ MAX_MARKED_BLOCKS
    → (marked ≡ false → count ≤ MAX_BLOCKS) → count ≤ most_blocks marked
few_by true count few small = few
few_by false count few small = small refl

-- a log has at most as many blocks as one that is marked as it is
pub kept_few : (log : LogState) → IsKeptLog log → log.count ≤ most_blocks log.is_marked
kept_few log kept = few_by log.is_marked log.count kept.few (λ is. (kept.unmarked is).few)

-- ---- where it is read

pub some_fuel : (marked : Bool) (count : ℕ) → count ≤ MAX_MARKED_BLOCKS
    → 0 < MAX_RECORDS + 1 - (count + marks marked)
some_fuel true count few = omega (arith, few)
some_fuel false count few = omega (arith, few)

-- what a record of length 0 is
pub zero_found : (old new : Option (List ℕ)) (gate count : ℕ) (last : Digest) (marked : Bool) (stored : List Stored) → AreReadTo (log_at gate count last marked) old stored → count ≤ MAX_MARKED_BLOCKS → new ≡ old
    → ((image : List ℕ) → old ≡ Some image → record_of (drop gate image) ≡ records.Open 0)
    → IsFound new (log_at gate count last marked) stored (found_mark gate marked)
zero_found old new gate count last true stored read few same found =
    λ image told. let there = sym same ∙ told in read.stands image there ∙ marked_twice next_in_log (MAX_RECORDS + 1 - (count + 1)) gate stored (drop gate image) (omega (arith, few)) (found image there)
zero_found old new gate count last false stored read few same found =
    read_mark old new gate count (gate + 5) last stored read few refl same found

-- a mark is near
pub zero_near : (gate count : ℕ) (marked : Bool) → (marked ≡ false → IsSmall gate count)
    → IfNear gate count marked (found_mark gate marked)
zero_near gate count true small = tt
zero_near gate count false small = let s = small refl in record { unmarked = refl; later = omega arith; near = omega (arith, s.near) }

-- ---- what a crash leaves

-- the bytes of a mark
abbrev pub five : List ℕ
five = 0 ∷ 0 ∷ 0 ∷ 0 ∷ 0 ∷ []

pub mark_is : record_bytes [] ≡ five
unfolding record_bytes
mark_is = refl

-- `log` is the log as its fields show it, `seen` as contracts see it
module _ (log seen : LogState) (same : log ≡ seen) (log_kept : IsKeptLog log) (seen_unmarked : seen.is_marked ≡ false) where
  unmarked : log.is_marked ≡ false
  unmarked = ap (λ (log : LogState). log.is_marked) same ∙ seen_unmarked

  abbrev mark_bytes : List ℕ
  mark_bytes = record_bytes []

  abbrev staged : List ℕ → List ℕ
  staged content = bytes_over (log.gate + 1) mark_bytes content

  abbrev whole : List ℕ → List ℕ
  whole content = bytes_over log.gate (OPEN_GATE ∷ []) (staged content)

  -- the bounds of the log with the mark
  pub kept : IsKeptLog (log_with_mark log)
  kept =
      let small = log_kept.unmarked unmarked in
      record { few = log_kept.few; near = omega (arith, small.near); unmarked = λ is. absurd (cc is); no_block = λ headless. absurd (cc headless) }

  -- a log that stands so has no mark, and looks at one more gate
  record Unmarked (next : NextBlock) (content : List ℕ) (stored : List Stored) : Type 0 where
    pub at_gate : IsLog next content stored false log.gate
    pub some : 0 < at_gate.left

  unmarked_log : (next : NextBlock) (content : List ℕ) (stored : List Stored)
      → length stored ≤ MAX_BLOCKS → standing next content ≡ Holds stored false log.gate
      → Unmarked next content stored
  unmarked_log next content stored few stands =
      let l = log_is next content stored false log.gate stands in
      record { at_gate = l; some = omega (arith, l.count_is, few) }

  opens : (next : NextBlock) (content : List ℕ) (stored : List Stored) (u : Unmarked next content stored) → (ys : List ℕ) → records_at next (suc u.at_gate.left) false log.gate stored (OPEN_GATE ∷ (mark_bytes ++ ys)) ≡ Holds stored true (log.gate + 5)
  opens next content stored u = mark_opens next u.at_gate.left log.gate stored u.some

  stands_unmarked : (content : List ℕ) (agrees : AgreesWithBlocks log content)
      → standing next_in_log content ≡ Holds agrees.stored false log.gate
  stands_unmarked content agrees = agrees.stands ∙ ap (λ m. Holds agrees.stored m log.gate) unmarked

  few_stored : (content : List ℕ) (agrees : AgreesWithBlocks log content)
      → length agrees.stored ≤ MAX_BLOCKS
  few_stored content agrees =
      let small = log_kept.unmarked unmarked in
      omega (arith, small.few, agrees.count_is)

  own : (content : List ℕ) (agrees : AgreesWithBlocks log content)
      → Unmarked next_in_log content agrees.stored
  own content agrees = unmarked_log next_in_log content agrees.stored (few_stored content agrees) (stands_unmarked content agrees)

  first_within : (content : List ℕ) → AgreesWithBlocks log content → log.gate + 1 ≤ length content
  first_within content agrees =
      let u = own content agrees in
      within next_in_log content agrees.stored false log.gate [] (Holds agrees.stored true (log.gate + 5)) u.at_gate (opens next_in_log content agrees.stored u)

  second_within : (content : List ℕ) → AgreesWithBlocks log content
      → log.gate ≤ length (staged content)
  second_within content agrees =
      let u = own content agrees in
      staged_within next_in_log content agrees.stored false log.gate [] (Holds agrees.stored true (log.gate + 5)) u.at_gate (opens next_in_log content agrees.stored u)

  -- the log with the mark agrees with the bytes
  agrees_after : (content : List ℕ) → AgreesWithBlocks log content
      → AgreesWithBlocks (log_with_mark log) (whole content)
  agrees_after content agrees =
      let u = own content agrees in
      record {
        stored = agrees.stored;
        stands = written_gate next_in_log content agrees.stored false log.gate [] (Holds agrees.stored true (log.gate + 5)) u.at_gate (opens next_in_log content agrees.stored u);
        count_is = agrees.count_is;
        last_is = agrees.last_is;
      }

  -- ---- over the disk

  is_blocks : (content : List ℕ) (b : Bool) → b ≡ true
      → MatchBool b (AgreesWithBlocks log content) (AgreesWithBlank log content)
      → AgreesWithBlocks log content
  is_blocks content true is agrees = agrees
  is_blocks content false is agrees = absurd (cc is)

  module _ (state : Option DiskState) (seen_ready : seen.is_ready ≡ true) (seen_rests : Rests state (Agrees seen)) where
    ready : log.is_ready ≡ true
    ready = ap (λ (log : LogState). log.is_ready) same ∙ seen_ready

    rests : Rests state (Agrees log)
    rests = subst (λ log. Rests state (Agrees log)) (sym same) seen_rests

    at : (content : List ℕ) → content_of state ≡ Some content
        → (state ≡ Some (settled_disk content)) × AgreesWithBlocks log content
    at content told = let r = rests_at (Agrees log) state content rests told in (r.0, is_blocks content log.is_ready ready r.1)

    -- the first step, as the code writes it
    first_is : (mid : Option DiskState) → mid ≡ synced_write (log.gate + 1) five state
        → mid ≡ synced_write (log.gate + 1) mark_bytes state
    first_is mid is = is ∙ ap (λ (l : List ℕ). synced_write (log.gate + 1) l state) (sym mark_is)

    pub record_within : (content : List ℕ) → content_of state ≡ Some content
        → log.gate + 1 ≤ length content
    record_within content told = first_within content (at content told).1

    pub gate_within : (mid : Option DiskState) → mid ≡ synced_write (log.gate + 1) five state
        → (now : List ℕ) → content_of mid ≡ Some now → log.gate ≤ length now
    gate_within mid is now told =
        let before = told_before state mid (log.gate + 1) mark_bytes now (first_is mid is) told in
        subst (λ (l : List ℕ). log.gate ≤ length l) (sym before.2) (second_within before.0 (at before.0 before.1).1)

    pub agrees_then : (mid new : Option DiskState) → mid ≡ synced_write (log.gate + 1) five state
        → new ≡ synced_write log.gate (OPEN_GATE ∷ []) mid → Rests new (Agrees (log_with_mark log))
    agrees_then mid new first second =
        rests_on (λ c. AgreesWithBlocks (log_with_mark log) (bytes_over log.gate (OPEN_GATE ∷ []) c)) (Agrees (log_with_mark log)) log.gate (OPEN_GATE ∷ []) mid new
        (rests_on (Agrees log) (λ c. AgreesWithBlocks (log_with_mark log) (bytes_over log.gate (OPEN_GATE ∷ []) c)) (log.gate + 1) mark_bytes state mid rests (first_is mid first)
        (λ c agrees. agrees_after c (is_blocks c log.is_ready ready agrees))) second (λ c agrees. agrees)

    module _ (place : Placer) (content : List ℕ) (logged : Logged) (told : content_of state ≡ Some content) (by : StandsBy place content logged) where
      abbrev next : NextBlock
      next = next_block block_in place

      abbrev agrees : AgreesWithBlocks log content
      agrees = (at content told).1

      abbrev stored : List Stored
      stored = agrees.stored

      there : (standing next content ≡ Holds stored false log.gate) × (logged ≡ record { blocks = blocks_in stored; marked = false })
      there = same_blocks place by.stricter content stored false log.gate logged (stands_unmarked content agrees) by.stands

      u : Unmarked next content stored
      u = unmarked_log next content stored (few_stored content agrees) there.0

      is_old : (c : List ℕ) → standing next c ≡ Holds stored false log.gate
          → IsOldOrMarked next logged c
      is_old c is = inl (ap logged_of is ∙ ap Some (sym there.1))

      with_it : (c : List ℕ) → standing next c ≡ Holds stored true (log.gate + 5)
          → chain_of next c ≡ Some (with_mark logged)
      with_it c is = ap logged_of is ∙ ap (λ (l : Logged). Some (with_mark l)) (sym there.1)

      pub rests_there : state ≡ Some (settled_disk content)
      rests_there = (at content told).0

      pub first_leaves : (c : List ℕ) → Torn (log.gate + 1) (length mark_bytes) content c
          → IsOldOrMarked next logged c
      first_leaves c torn = is_old c (torn_after next content stored false log.gate [] (Holds stored true (log.gate + 5)) u.at_gate (opens next content stored u) c torn)

      either : (c : List ℕ)
          → (standing next c ≡ Holds stored false log.gate) ⊎ (standing next c ≡ Holds stored true (log.gate + 5)) → IsOldOrMarked next logged c
      either c (inl is) = is_old c is
      either c (inr is) = inr (with_it c is)

      pub second_leaves : (c : List ℕ) → Torn log.gate 1 (staged content) c
          → IsOldOrMarked next logged c
      second_leaves c torn = either c (torn_gate next content stored false log.gate [] (Holds stored true (log.gate + 5)) u.at_gate (opens next content stored u) c torn)

      pub chain_then : (mid new : Option DiskState) → mid ≡ synced_write (log.gate + 1) five state
          → new ≡ synced_write log.gate (OPEN_GATE ∷ []) mid
          → Rests new (λ image. chain_of next image ≡ Some (with_mark logged))
      chain_then mid new first second =
          let all : new ≡ Some (settled_disk (whole content)) = second ∙ ap (synced_write log.gate (OPEN_GATE ∷ [])) (first_is mid first ∙ ap (synced_write (log.gate + 1) mark_bytes) rests_there) in
          subst (λ n. Rests n (λ image. chain_of next image ≡ Some (with_mark logged))) (sym all)
          (refl, with_it (whole content) (written_gate next content stored false log.gate [] (Holds stored true (log.gate + 5)) u.at_gate (opens next content stored u)))
