-- What `append` leaves of the log by itself, with rows not counted, whatever the scratch device
-- returns.
use Rattle.std.proofs.Common.{◌≡◌, inl, inr, ℕ, Bool, true, false, List, [], ◌∷◌, ◌++◌, refl, sym}
use Rattle.std.proofs.Common.{◌∙◌, ap, arith, append_assoc}
use Rattle.std.specs.Prelude.{Option, Some, Result, Ok, Err, MatchBool}
use Rattle.lc_io.specs.Disk.{DiskState, Stays}
use Rattle.disk_model.specs.Disk.{IsImage, Keeps, Rests, content_of, settled_disk}
use Rattle.disk_model.proofs.Calls.{stay_keeps}
use Rattle.disk_model.proofs.Moments.{then_keeps, weaker}
use Rattle.block_codec.specs.declared.block.Block.{Block}
use Rattle.block_log.specs.Standing.{Logged, nothing_logged, with_blocks, logged_of, NextBlock}
use Rattle.block_log.specs.Standing.{chain_of, blocks_in}
use Rattle.block_log.specs.Log.{LogState, Agrees, AgreesWithBlocks, AgreesWithBlank, next_in_log}
use Rattle.block_log.proofs.Resting.{rests_at, rests_keeps, rests_some, told_some}
use Rattle.cli_promises.specs.recovery.Node.{IsLogStepOf}
use Rattle.cli_promises.specs.Appending.{Grows}
use Rattle.cli_promises.proofs.Resting.{with_none}

-- ---- chains that go on

same_goes_on : (next : NextBlock) (image : List ℕ) → Grows next image image
same_goes_on next image logged is = ([], is ∙ ap Some (sym (with_none logged)))

both_go_on : (next : NextBlock) (a b c : List ℕ) → Grows next a b → Grows next b c → Grows next a c
both_go_on next a b c first second logged is =
    let f = first logged is in
    let s = second (with_blocks logged f.0) f.1 in (
      f.0 ++ s.0,
      s.1 ∙ ap (λ (b : List Block). Some (record { blocks = b; marked = logged.marked }))
          (append_assoc logged.blocks f.0 s.0),
    )

-- ---- a log

-- what a log agrees with stands for a chain
agreed : (log : LogState) (content : List ℕ) (ready : Bool) → MatchBool ready
    (AgreesWithBlocks log content) (AgreesWithBlank log content) → (logged : Logged)
    × (chain_of next_in_log content ≡ Some logged)
agreed log content true agrees = (
  record {
    blocks = blocks_in agrees.stored;
    marked = log.is_marked;
  },
  ap logged_of agrees.stands,
)
agreed log content false agrees = (nothing_logged, ap logged_of agrees.stands)

pub log_stands : (log : LogState) (state : Option DiskState) (content : List ℕ)
    → Rests state (Agrees log) → content_of state ≡ Some content → (logged : Logged)
    × (chain_of next_in_log content ≡ Some logged)
log_stands log state content rests told = agreed log content log.is_ready
    (rests_at (Agrees log) state content rests told).1

-- a step of the log goes on from the content
step_goes_on : (content : List ℕ) (logged : Logged) (spelled : Result Block ℕ) (image : List ℕ)
    → chain_of next_in_log content ≡ Some logged → IsLogStepOf logged spelled image
    → Grows next_in_log content image
step_goes_on content logged (Ok block) image stands (inl is) others was =
    let same : others ≡ logged = cc (stands, was) in
    ([], is ∙ ap Some (sym same ∙ sym (with_none others)))
step_goes_on content logged (Ok block) image stands (inr is) others was =
    let same : others ≡ logged = cc (stands, was) in
    (block ∷ [], is ∙ ap (λ (l : Logged). Some (with_blocks l (block ∷ []))) (sym same))
step_goes_on content logged (Err offset) image stands is others was =
    let same : others ≡ logged = cc (stands, was) in
    ([], is ∙ ap Some (sym same ∙ sym (with_none others)))

module _ {D : Type 0} (now : D → ℕ) (disk : D → ℕ → Option DiskState) where
  -- before the first frame
  pub log_begun : (old : D) (log : LogState) → Rests (disk old (now old)) (Agrees log)
      → (content : List ℕ) → content_of (disk old (now old)) ≡ Some content → Keeps now disk old old
      (Grows next_in_log content)
  log_begun old log rests content told = rests_keeps now disk old (Grows next_in_log content)
      content (rests_at (Agrees log) (disk old (now old)) content rests told).0
      (same_goes_on next_in_log content)

  -- a frame was taken, or refused, or taking it was stopped
  pub log_taken : (old new : D) (log : LogState) (content : List ℕ) (spelled : Result Block ℕ)
      → Rests (disk old (now old)) (Agrees log) → content_of (disk old (now old)) ≡ Some content
      → ((logged : Logged) (content : List ℕ) → content_of (disk old (now old)) ≡ Some content
      → chain_of next_in_log content ≡ Some logged → Keeps now disk old new
      (IsLogStepOf logged spelled))
      → Keeps now disk old new (Grows next_in_log content)
  log_taken old new log content spelled rests told images =
      let stands = log_stands log (disk old (now old)) content rests told in
      weaker now disk old new (IsLogStepOf stands.0 spelled) (Grows next_in_log content)
      (images stands.0 content told stands.1) (λ image. step_goes_on content stands.0 spelled
      image stands.1)

  -- and then a line was printed
  pub log_told : (old mid new : D) (log : LogState) (content : List ℕ) (spelled : Result Block ℕ)
      → Rests (disk old (now old)) (Agrees log) → content_of (disk old (now old)) ≡ Some content
      → ((logged : Logged) (content : List ℕ) → content_of (disk old (now old)) ≡ Some content
      → chain_of next_in_log content ≡ Some logged → Keeps now disk old mid
      (IsLogStepOf logged spelled))
      → Stays now disk mid new → Keeps now disk old new (Grows next_in_log content)
  log_told old mid new log content spelled rests told images stays = stay_keeps now disk old mid new
      (Grows next_in_log content) (log_taken old mid log content spelled rests told images) stays

  -- frames, and one more
  pub log_more : (old mid new : D) (log : LogState) (content : List ℕ)
      → content_of (disk old (now old)) ≡ Some content → Keeps now disk old mid
      (Grows next_in_log content) → Rests (disk mid (now mid)) (Agrees log)
      → ((content : List ℕ) → content_of (disk mid (now mid)) ≡ Some content → Keeps now disk mid
      new (Grows next_in_log content))
      → Keeps now disk old new (Grows next_in_log content)
  log_more old mid new log content told so_far rests more =
      let there = rests_some (Agrees log) (disk mid (now mid)) rests (so_far.told
      ∙ told_some (disk old (now old)) content told) in
      let is_image : IsImage (settled_disk there.0) there.0 = record {
        no_shorter = omega arith;
        no_longer = omega arith;
        same = λ i lt clear. refl;
      } in
      let here = so_far.each (now mid) (settled_disk there.0) there.0 so_far.later (omega arith)
      there.1 is_image in
      then_keeps now disk old mid new (Grows next_in_log content) so_far
      (weaker now disk mid new (Grows next_in_log there.0) (Grows next_in_log content)
      (more there.0 (ap content_of there.1)) (λ image. both_go_on next_in_log content there.0
      image here))
