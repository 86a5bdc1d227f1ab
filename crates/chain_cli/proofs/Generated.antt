-- Blocks are printed as they are made: so far the frames of the first blocks, all of them or a
-- prefix.
use Rattle.std.proofs.Common.{◌≡◌, ℕ, zero, suc, ◌+◌, ◌-◌, ◌<◌, ◌≤◌, Bool, true, false, cond, eqb}
use Rattle.std.proofs.Common.{List, [], ◌∷◌, ◌++◌, length, map, Option, Some, None, refl, sym, ap}
use Rattle.std.proofs.Common.{◌∙◌, subst, arith, append_assoc}
use Rattle.std.proofs.lemmas.List.{append-nil, map-append, map_push, length-append}
use Rattle.std.proofs.lemmas.Bool.Decides.{nat_tests}
use Rattle.lc_io.specs.Disk.{DiskState, Stays}
use Rattle.lc_io.specs.Outside.{Tell}
use Rattle.disk_model.proofs.Moments.{stays_here, stays_on}
use Rattle.block_log.specs.Standing.{NextBlock}
use Rattle.cli_append.specs.cli_promises.Promises.{plain, Telling}
use Rattle.cli_append.proofs.cli_promises.Tellings.{none_to_tell}
use Rattle.lc_base.specs.declared.digest.Digest.{Digest}
use Rattle.block_codec.specs.Placement.{bytes_digest, no_parent}
use Rattle.chain_pack.specs.Generator.{Progress, MadeSoFar, none_made, first_blocks, blocks_of_seed}
use Rattle.chain_pack.specs.Generator.{spelling, block_drawn, given_block, next_block, progress}
use Rattle.chain_pack.specs.Generator.{GoesOn}
use Rattle.cli_output.specs.Blocks.{frame}
use Rattle.cli_output.proofs.Plain.{plain_more, plain_cut}

-- the frames of the first blocks of a seed
abbrev pub frames_of : ℕ → ℕ → List (List ℕ)
frames_of count seed = map frame (blocks_of_seed count seed)

-- ---- the first blocks of a seed are a prefix of more of them

one_more : (seed count : ℕ) → (block : List ℕ) ×
    (blocks_of_seed (suc count) seed ≡ blocks_of_seed count seed ++ block ∷ [])
unfolding first_blocks
one_more seed count = (spelling (block_drawn count (first_blocks seed count).parent (first_blocks seed count).state).0, map_push spelling (first_blocks seed count).blocks (block_drawn count (first_blocks seed count).parent (first_blocks seed count).state).0)

counted : (seed count : ℕ) → length (blocks_of_seed count seed) ≡ count
unfolding first_blocks
counted seed zero = refl
counted seed (suc count) =
    let last = one_more seed count in
    let longer : length (blocks_of_seed (suc count) seed) ≡ length (blocks_of_seed count seed) + 1 = ap length last.1 ∙ length-append (blocks_of_seed count seed) (last.0 ∷ []) in
    let before : length (blocks_of_seed count seed) ≡ count = counted seed count in
    omega (arith, longer, before)

after : (seed count more : ℕ) → (rest : List (List ℕ)) ×
    (blocks_of_seed (count + more) seed ≡ blocks_of_seed count seed ++ rest)
after seed count zero =
    let same : count + 0 ≡ count = omega arith in
    ([], ap (λ (n : ℕ). blocks_of_seed n seed) same ∙ sym (append-nil (blocks_of_seed count seed)))
after seed count (suc more) =
    let before = after seed count more in
    let last = one_more seed (count + more) in
    let longer : count + suc more ≡ suc (count + more) = omega arith in
    (before.0 ++ last.0 ∷ [], ap (λ (n : ℕ). blocks_of_seed n seed) longer ∙ last.1 ∙ ap (λ (blocks : List (List ℕ)). blocks ++ last.0 ∷ []) before.1 ∙ append_assoc (blocks_of_seed count seed) before.0 (last.0 ∷ []))

-- all blocks are the first ones and others
split_at : (seed count whole : ℕ) → count ≤ whole → (rest : List (List ℕ)) ×
    (blocks_of_seed whole seed ≡ blocks_of_seed count seed ++ rest)
split_at seed count whole within =
    let sum : count + (whole - count) ≡ whole = omega (arith, within) in
    subst (λ (n : ℕ). (rest : List (List ℕ)) × (blocks_of_seed n seed ≡ blocks_of_seed count seed ++ rest)) sum (after seed count (whole - count))

-- all frames are the first ones and others
frames_split : (seed count whole : ℕ) → count ≤ whole → (rest : List (List ℕ)) ×
    (frames_of whole seed ≡ frames_of count seed ++ rest)
frames_split seed count whole within =
    let split = split_at seed count whole within in
    (map frame split.0, ap (map frame) split.1 ∙ map-append frame (blocks_of_seed count seed) split.0)

-- ---- the loop

-- so far the frames of the first blocks were printed, and the disk is as it was
pub record IsGenerating {D : Type 0} (now : D → ℕ) (disk : D → ℕ → Option DiskState) (told : D → Option (List Tell)) (first machine : D) (seed count : ℕ) (gen : Progress) (parent : Digest) : Type 0 where
  pub is_progress : gen ≡ progress seed count gen.given
  pub within : gen.given ≤ count
  pub is_parent : parent ≡ (first_blocks seed gen.given).parent
  pub stays : Stays now disk first machine
  pub lines : (next : NextBlock)
      → Telling next now disk told first machine (map plain (frames_of gen.given seed)) true

-- what it says of the generator that it makes a block next
record GivesNext (seed count : ℕ) (gen more : Progress) (block : List ℕ) : Type 0 where
  room : gen.given < count
  count_is : gen.count ≡ count
  goes_on : GoesOn seed gen (Some (block, more))

-- if a block is made, not all were made before
not_all : (ended : Bool) (next : List ℕ × Progress) (gen : Progress)
    (other : Option (List ℕ × Progress)) → eqb gen.given gen.count ≡ ended
    → Some next ≡ cond ended None other → ended ≡ false
not_all true next gen other is found = absurd cc
not_all false next gen other is found = refl

-- the frames of no block
none_framed : (seed : ℕ) → frames_of 0 seed ≡ []
unfolding first_blocks
none_framed seed = refl

module _ {D : Type 0} (now : D → ℕ) (disk : D → ℕ → Option DiskState) (told : D → Option (List Tell)) where
  -- no frame was printed yet
  pub begins : (first : D) (seed count : ℕ) (gen : Progress) (parent : Digest)
      → gen ≡ progress seed count 0 → first_blocks seed 0 ≡ none_made seed → parent ≡ no_parent
      → IsGenerating now disk told first first seed count gen parent
  begins first seed count gen parent start none is =
      let given_is : gen.given ≡ 0 = ap (λ (p : Progress). p.given) start in
      record {
        is_progress = start ∙ ap (progress seed count) (sym given_is);
        within = omega (arith, given_is);
        is_parent = is ∙ sym (ap (λ (m : MadeSoFar). m.parent) none) ∙ ap (λ (n : ℕ). (first_blocks seed n).parent) (sym given_is);
        stays = stays_here now disk first;
        lines = λ next. subst (λ (n : ℕ). Telling next now disk told first first (map plain (frames_of n seed)) true) (sym given_is)
            (subst (λ (pieces : List (List ℕ)). Telling next now disk told first first (map plain pieces) true) (sym (none_framed seed)) (none_to_tell next now disk told first first true refl));
      }

  gives_next : (first machine : D) (seed count : ℕ) (gen more : Progress) (parent : Digest) (block : List ℕ) → IsGenerating now disk told first machine seed count gen parent
      → Some (block, more) ≡ next_block gen parent
      → ((s : ℕ) → gen ≡ progress s gen.count gen.given → parent ≡ (first_blocks s gen.given).parent → GoesOn s gen (Some (block, more))) → GivesNext seed count gen more block
  gives_next first machine seed count gen more parent block is found goes_on =
      let count_is : gen.count ≡ count = ap (λ (p : Progress). p.count) is.is_progress in
      let some : eqb gen.given gen.count ≡ false = not_all (eqb gen.given gen.count) (block, more) gen (Some (given_block gen (block_drawn gen.given parent gen.state))) refl found in
      record {
        room = grind (arith, nat_tests, some, count_is, is.within);
        count_is = count_is;
        goes_on = goes_on seed (is.is_progress ∙ ap (λ (n : ℕ). progress seed n gen.given) (sym count_is)) is.is_parent;
      }

  -- some frames were printed, and others were not
  pub prefix_told : (first machine : D) (seed count : ℕ) (gen : Progress) (parent : Digest)
      → IsGenerating now disk told first machine seed count gen parent
      → (next : NextBlock)
      → Telling next now disk told first machine (map plain (frames_of count seed)) false
  prefix_told first machine seed count gen parent is next =
      let split = frames_split seed gen.given count is.within in
      subst (λ (pieces : List (List ℕ)). Telling next now disk told first machine (map plain pieces) false) (sym split.1) (plain_cut now disk told next first machine (frames_of gen.given seed) split.0 true (is.lines next))

  -- one more block
  pub next_told : (first before after : D) (seed count : ℕ) (gen more : Progress) (parent digest : Digest) (block piece hashed : List ℕ)
      → IsGenerating now disk told first before seed count gen parent
      → Some (block, more) ≡ next_block gen parent
      → ((s : ℕ) → gen ≡ progress s gen.count gen.given → parent ≡ (first_blocks s gen.given).parent → GoesOn s gen (Some (block, more)))
      → piece ≡ block → hashed ≡ block → digest ≡ bytes_digest hashed → Stays now disk before after
      → ((next : NextBlock) → Telling next now disk told before after (plain (frame piece) ∷ []) true)
      → IsGenerating now disk told first after seed count more digest
  next_told first before after seed count gen more parent digest block piece hashed is found on piece_is hashed_is digest_is stays tells =
      let gives = gives_next first before seed count gen more parent block is found on in
      let more_is : more ≡ progress seed gen.count (gen.given + 1) = gives.goes_on.2 in
      let given_is : more.given ≡ gen.given + 1 = ap (λ (p : Progress). p.given) more_is in
      let grows : frames_of (gen.given + 1) seed ≡ frames_of gen.given seed ++ frame block ∷ [] = ap (map frame) gives.goes_on.0 ∙ map_push frame (blocks_of_seed gen.given seed) block in
      record {
        is_progress = more_is ∙ ap (λ (n : ℕ). progress seed n (gen.given + 1)) gives.count_is ∙ ap (progress seed count) (sym given_is);
        within = omega (arith, given_is, gives.room);
        is_parent = digest_is ∙ ap bytes_digest hashed_is ∙ gives.goes_on.1 ∙ ap (λ (n : ℕ). (first_blocks seed n).parent) (sym given_is);
        stays = stays_on now disk first before after is.stays stays;
        lines = λ next. subst (λ (n : ℕ). Telling next now disk told first after (map plain (frames_of n seed)) true) (sym given_is)
            (subst (λ (pieces : List (List ℕ)). Telling next now disk told first after (map plain pieces) true) (sym grows)
            (plain_more now disk told next first before after (frames_of gen.given seed) (frame block) true (is.lines next) stays (subst (λ (bytes : List ℕ). Telling next now disk told before after (plain (frame bytes) ∷ []) true) piece_is (tells next))));
      }

  -- a frame that was not printed whole
  pub last_told : (first before after : D) (seed count : ℕ) (gen more : Progress) (parent : Digest) (block piece : List ℕ)
      → IsGenerating now disk told first before seed count gen parent
      → Some (block, more) ≡ next_block gen parent
      → ((s : ℕ) → gen ≡ progress s gen.count gen.given → parent ≡ (first_blocks s gen.given).parent → GoesOn s gen (Some (block, more)))
      → piece ≡ block → Stays now disk before after
      → ((next : NextBlock) → Telling next now disk told before after (plain (frame piece) ∷ []) false)
      → (next : NextBlock)
      → Telling next now disk told first after (map plain (frames_of count seed)) false
  last_told first before after seed count gen more parent block piece is found on piece_is stays tells next =
      let gives = gives_next first before seed count gen more parent block is found on in
      let grows : frames_of (gen.given + 1) seed ≡ frames_of gen.given seed ++ frame block ∷ [] = ap (map frame) gives.goes_on.0 ∙ map_push frame (blocks_of_seed gen.given seed) block in
      let split = frames_split seed (gen.given + 1) count (omega (arith, gives.room)) in
      subst (λ (pieces : List (List ℕ)). Telling next now disk told first after (map plain pieces) false) (sym (split.1 ∙ ap (λ (pieces : List (List ℕ)). pieces ++ split.0) grows))
      (plain_cut now disk told next first after (frames_of gen.given seed ++ frame block ∷ []) split.0 false
      (plain_more now disk told next first before after (frames_of gen.given seed) (frame block) false (is.lines next) stays (subst (λ (bytes : List ℕ). Telling next now disk told before after (plain (frame bytes) ∷ []) false) piece_is (tells next))))
