-- Blocks that are read one after another are a chain.
use Rattle.std.proofs.Common.{◌≡◌, ◌≢◌, inl, inr, ℕ, zero, suc, ◌+◌, ◌-◌, ◌≤◌, ◌<◌, Bool, true}
use Rattle.std.proofs.Common.{false, List, [], ◌∷◌, ◌++◌, length, length-append, take, drop, map}
use Rattle.std.proofs.Common.{refl, sym, ◌∙◌, ap, subst, arith}
use Rattle.std.specs.Prelude.{◌==◌, Option, Some, None, Result, Ok, Err, slice_get}
use Rattle.std.specs.Option.{option_map}
use Rattle.std.proofs.lemmas.List.{length-map, map-append, take-append-le, take_at}
use Rattle.std.proofs.lemmas.Bool.{cases_lt}
use Rattle.block_codec.specs.Spelling.{IsBlock}
use Rattle.lc_base.specs.declared.digest.Digest.{Digest}
use Rattle.block_codec.specs.Placement.{IsNextPlaced, digest_of, last_digest, most_blocks}
use Rattle.block_codec.specs.Placement.{new_placement}
use Rattle.block_codec.specs.Placement.{last_version, placement_by_versions, FitsVersions}
use Rattle.block_codec.specs.Reading.{block_in}
use Rattle.block_codec.specs.declared.limits.TheConstants.{MAX_BLOCK_BYTES, MAX_BLOCKS}
use Rattle.block_codec.specs.declared.limits.TheConstants.{MAX_MARKED_BLOCKS}
use Rattle.block_codec.specs.declared.block.Block.{Block}
use Rattle.block_codec.specs.declared.placement.Placement.{Placement}
use Rattle.block_codec.specs.declared.placement.Placement.TheVariants.{Known, Next, Not}
use Rattle.block_codec.proofs.Placements.{next_is_placed, next_is_new}
use Rattle.block_codec.proofs.Versions.{next_by_versions, fits_with_next}
use Rattle.block_log.specs.declared.layout.TheConstants.{MAX_RECORDS}
use Rattle.block_log.specs.declared.layout.Stored.{Stored}
use Rattle.block_log.specs.Standing.{Placer, if_next, next_decoded, blocks_in}
use Rattle.block_log.specs.Log.{AreStored, IsSmall, log_placement, marks, next_in_log}
use Rattle.block_log.specs.Reader.{AreReadTo, IsNear, log_at, next_of, stored_at}
use Rattle.block_log.specs.declared.reading.Record.TheVariants as records
use Rattle.block_log.specs.Reading.{record_of}
use Rattle.block_log.proofs.NextRecord.{room_by, placed_next, last_of}
use Rattle.block_log.proofs.Turns.{goes_on, goes_on_marked}

-- The block that was found to be next, as it is stored.
pub record IsGiven (next : Stored) (gate : ℕ) (found : Option Block) : Type 0 where
  pub block : Block
  pub found_is : found ≡ Some block
  pub next_is : next ≡ stored_at gate block

pub given : (next : Stored) (gate : ℕ) (found : Option Block)
    → Some next ≡ option_map (stored_at gate) found → IsGiven next gate found
given next gate None is = absurd (cc is)
given next gate (Some block) is = record { block = block; found_is = refl; next_is = cc is }

-- No block was found.
pub none_given : (gate : ℕ) (found : Option Block) → None ≡ option_map (stored_at gate) found
    → found ≡ None
none_given gate None is = refl
none_given gate (Some block) is = absurd (cc is)

pub placed : (decoded block : Block) (placement : Placement)
    → if_next decoded placement ≡ Some block → (placement ≡ Next) × (decoded ≡ block)
placed decoded block Next is = (refl, cc is)
placed decoded block Known is = absurd (cc is)
placed decoded block (Not why) is = absurd (cc is)

-- The block that is returned is placed next.
is_placed : (place : Placer) (marked : Bool) (blocks : List Block) (read : Result Block ℕ) (block : Block) → next_decoded place marked blocks read ≡ Some block → place marked blocks block ≡ Next
is_placed place marked blocks (Ok decoded) block is =
    let p = placed decoded block (place marked blocks decoded) is in
    subst (λ b. place marked blocks b ≡ Next) p.1 p.0
is_placed place marked blocks (Err offset) block is = absurd (cc is)

slice_get_left : (stored : List Stored) (last : Stored) (i : ℕ) → i < length stored
    → slice_get (stored ++ last ∷ []) i ≡ slice_get stored i
slice_get_left [] last i lt = absurd (omega (arith, lt))
slice_get_left (s ∷ stored) last zero lt = refl
slice_get_left (s ∷ stored) last (suc i) lt = slice_get_left stored last i (omega (arith, lt))

slice_get_last : (stored : List Stored) (last s : Stored) (i : ℕ) → length stored ≤ i
    → slice_get (stored ++ last ∷ []) i ≡ Some s → (i ≡ length stored) × (s ≡ last)
slice_get_last [] last s zero le is = (refl, cc is)
slice_get_last [] last s (suc i) le is = absurd (cc is)
slice_get_last (t ∷ stored) last s zero le is = absurd (omega (arith, le))
slice_get_last (t ∷ stored) last s (suc i) le is =
    let q = slice_get_last stored last s i (omega (arith, le)) is in
    (omega (arith, q.0), q.1)

-- One more block, which is the next one.
pub stored_next : (stored : List Stored) (marked : Bool) (gate : ℕ) (block : Block) (bytes : List ℕ) → AreStored stored → FitsVersions marked (blocks_in stored) → next_in_log marked (blocks_in stored) bytes ≡ Some block → IsBlock block → AreStored (stored ++ stored_at gate block ∷ [])
stored_next stored marked gate block bytes are fits is lawful = record {
  chained = λ i s at. elim (cases_lt i (length stored)) [
    | inl before ↦
        let front : take i (blocks_in (stored ++ stored_at gate block ∷ [])) ≡ take i (blocks_in stored) =
        ap (take i) (map-append (λ s. s.block) stored (stored_at gate block ∷ [])) ∙ take-append-le i (blocks_in stored) (block ∷ []) (omega (arith, before, length-map stored (λ s. s.block))) in
        ap (λ (l : List Block). placement_by_versions 0 l s.block) front ∙ are.chained i s (sym (slice_get_left stored (stored_at gate block) i before) ∙ at)
    | inr last ↦
        let q = slice_get_last stored (stored_at gate block) s i last at in
        let front : take i (blocks_in (stored ++ stored_at gate block ∷ [])) ≡ blocks_in stored =
        ap (take i) (map-append (λ s. s.block) stored (stored_at gate block ∷ [])) ∙ take_at (blocks_in stored) (block ∷ []) i (omega (arith, q.0, length-map stored (λ s. s.block))) in
        ap (λ (l : List Block). placement_by_versions 0 l s.block) front ∙ ap (λ (t : Stored). placement_by_versions 0 (blocks_in stored) t.block) q.1
        ∙ next_by_versions marked 0 (blocks_in stored) block fits (is_placed log_placement marked (blocks_in stored) (block_in bytes) block is)
  ];
  digests_are = map-append (λ s. s.digest) stored (stored_at gate block ∷ []) ∙ ap (λ (l : _). l ++ digest_of block ∷ []) are.digests_are
      ∙ sym (map-append digest_of (blocks_in stored) (block ∷ [])) ∙ ap (map digest_of) (sym (map-append (λ s. s.block) stored (stored_at gate block ∷ [])));
  lawful = λ i s at. elim (cases_lt i (length stored)) [
    | inl before ↦ are.lawful i s (sym (slice_get_left stored (stored_at gate block) i before) ∙ at)
    | inr last ↦ subst (λ (t : Stored). IsBlock t.block) (sym (slice_get_last stored (stored_at gate block) s i last at).1) lawful
  ];
}

-- ---- the next block by what a log keeps

none_next : (block : Block) (place : Placement) → (place ≡ Next → ⊥) → if_next block place ≡ None
none_next block Next other = absurd (other refl)
none_next block Known other = refl
none_next block (Not why) other = refl

both_next : (block : Block) (a b : Placement) → (a ≡ Next → b ≡ Next) → (b ≡ Next → a ≡ Next)
    → if_next block a ≡ if_next block b
both_next block Next b there back = sym (ap (if_next block) (there refl))
both_next block Known b there back = sym (none_next block b (λ is. cc (back is)))
both_next block (Not why) b there back = sym (none_next block b (λ is. cc (back is)))

-- The number of blocks and the last digest decide which block is next, as the blocks themselves do.
module _ (count : ℕ) (last : Digest) (marked : Bool) (stored : List Stored) (count_is : count ≡ length stored) (last_is : last ≡ last_digest (map digest_of (blocks_in stored))) where
  pub next_same : (bytes : List ℕ)
      → next_of count last marked bytes ≡ next_in_log marked (blocks_in stored) bytes
  next_same bytes = decoded (block_in bytes)
    where
      long : count ≡ length (blocks_in stored)
      long = count_is ∙ sym (length-map stored (λ s. s.block))

      decoded : (read : Result Block ℕ)
          → next_decoded (λ marked blocks block. new_placement marked count 0 last block) marked [] read ≡ next_decoded log_placement marked (blocks_in stored) read
      decoded (Err offset) = refl
      decoded (Ok block) =
          both_next block (new_placement marked count 0 last block) (log_placement marked (blocks_in stored) block) (placed_next marked (blocks_in stored) count last block long last_is)
          (λ is.
          ap (λ n. new_placement marked n 0 last block) long ∙ ap (λ d. new_placement marked (length (blocks_in stored)) 0 d block) last_is
          ∙ (next_is_new marked (length (blocks_in stored)) 0 _ (last_digest (map digest_of (blocks_in stored)))
          block (digest_of block) is).1)

-- A next block is placed so by what the log keeps.
found_next : (count : ℕ) (last : Digest) (marked : Bool) (bytes : List ℕ) (block : Block)
    → next_of count last marked bytes ≡ Some block → IsNextPlaced marked count 0 last block
found_next count last marked bytes block is =
    next_is_placed marked count 0 last block
    (is_placed (λ marked blocks block. new_placement marked count 0 last block) marked [] (block_in bytes) block is)

-- A log with the greatest number of blocks has no next one.
pub has_room : (count : ℕ) (last : Digest) (marked : Bool) (bytes : List ℕ) (block : Block)
    → next_of count last marked bytes ≡ Some block → count ≢ most_blocks marked
has_room count last marked bytes block is = (found_next count last marked bytes block is).room

-- A block that is found is near.
pub near_next : (gate count size : ℕ) (last : Digest) (marked : Bool) (next : Stored) (bytes : List ℕ) (block : Block) → next ≡ stored_at gate block → next_of count last marked bytes ≡ Some block → IsBlock next.block
    → count ≤ MAX_MARKED_BLOCKS → (marked ≡ false → IsSmall gate count) → size ≤ MAX_BLOCK_BYTES
    → IsNear gate count marked next (gate + (5 + size))
near_next gate count size last marked next bytes block is found lawful few small short =
    let room = room_by marked count few (λ m. (small m).few) (has_room count last marked bytes block found) in
    record {
      lawful = lawful;
      digest_is = ap (λ (s : Stored). s.digest) is ∙ ap digest_of (sym (ap (λ (s : Stored). s.block) is));
      place_is = ap (λ (s : Stored). s.place) is;
      later = omega arith;
      near = omega (arith, short);
      few = room.0;
      unmarked = λ m. let old = small m in record { few = omega (arith, room.1 m); near = omega (arith, old.near, short) };
      version_is = ap (λ (s : Stored). s.block.version) is ∙ (found_next count last marked bytes block found).version_is;
    }

-- how often to look at a gate, once more than there are records
fuel_left : (marked : Bool) (count : ℕ) → count < MAX_MARKED_BLOCKS
    → MAX_RECORDS + 1 - (count + marks marked) ≡ (MAX_RECORDS + 1 - (count + 1 + marks marked)) + 1
fuel_left true count few = omega (arith, few)
fuel_left false count few = omega (arith, few)

-- One more block was read.
pub read_more : (old new : Option (List ℕ)) (gate count size after : ℕ) (last : Digest) (marked : Bool) (stored : List Stored) (block : Block) (bytes : List ℕ) → AreReadTo (log_at gate count last marked) old stored
    → count ≤ MAX_MARKED_BLOCKS → (marked ≡ false → count ≤ MAX_BLOCKS) → after ≡ gate + (5 + size)
    → size == 0 ≡ false → next_of count last marked bytes ≡ Some block → IsBlock block → new ≡ old
    → ((image : List ℕ) → old ≡ Some image → (record_of (drop gate image) ≡ records.Open size) × (bytes ≡ take size (drop 5 (drop gate image))))
    → AreReadTo (log_at after (count + 1) (digest_of block) marked) new (stored ++ stored_at gate block ∷ [])
read_more old new gate count size after last marked stored block bytes read few unmarked there low is lawful same found =
    let next : next_in_log marked (blocks_in stored) bytes ≡ Some block = sym (next_same count last marked stored read.held.count_is read.held.last_is bytes) ∙ is in
    let room : count < MAX_MARKED_BLOCKS = (room_by marked count few unmarked (has_room count last marked bytes block is)).0 in
    let longer : blocks_in (stored ++ stored_at gate block ∷ []) ≡ blocks_in stored ++ block ∷ [] = map-append (λ s. s.block) stored (stored_at gate block ∷ []) in
    record {
      are_stored = stored_next stored marked gate block bytes read.are_stored read.held.fits next lawful;
      held = record {
        count_is = ap (λ n. n + 1) read.held.count_is ∙ sym (length-append stored (stored_at gate block ∷ []));
        last_is = sym (ap last_digest (ap (map digest_of) longer ∙ map-append digest_of (blocks_in stored) (block ∷ [])) ∙ last_of (map digest_of (blocks_in stored)) (digest_of block));
        headless = λ is. absurd (cc is);
        fits = λ unmarked. ap last_version longer ∙ fits_with_next marked 0 (blocks_in stored) block (is_placed log_placement marked (blocks_in stored) (block_in bytes) block next) unmarked;
      };
      stands = λ image told.
          let at = found image (sym same ∙ told) in
          let here : next_in_log marked (blocks_in stored) (take size (drop 5 (drop gate image))) ≡ Some block = ap (next_in_log marked (blocks_in stored)) (sym at.1) ∙ next in
          read.stands image (sym same ∙ told)
          ∙ goes_on next_in_log (MAX_RECORDS + 1 - (count + marks marked)) (MAX_RECORDS + 1 - (count + 1 + marks marked)) marked gate size after stored image block (fuel_left marked count room) there low at.0 here;
    }

-- The mark was read.
pub read_mark : (old new : Option (List ℕ)) (gate count after : ℕ) (last : Digest) (stored : List Stored) → AreReadTo (log_at gate count last false) old stored
    → count ≤ MAX_MARKED_BLOCKS → after ≡ gate + 5 → new ≡ old
    → ((image : List ℕ) → old ≡ Some image → record_of (drop gate image) ≡ records.Open 0)
    → AreReadTo (log_at after count last true) new stored
read_mark old new gate count after last stored read few there same found =
    record {
      are_stored = read.are_stored;
      held = record { count_is = read.held.count_is; last_is = read.held.last_is; fits = λ unmarked. absurd (cc unmarked); headless = λ is. absurd (cc is) };
      stands = λ image told.
          read.stands image (sym same ∙ told)
          ∙ goes_on_marked next_in_log (MAX_RECORDS + 1 - (count + 0)) (MAX_RECORDS + 1 - (count + 1)) gate after stored image (omega (arith, few)) there (found image (sym same ∙ told));
    }
