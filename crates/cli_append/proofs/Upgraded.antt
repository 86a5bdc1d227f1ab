-- Marking a log: what was printed, and what a crash may leave.
use Rattle.std.proofs.Common.{◌≡◌, inl, inr, ℕ, Bool, true, false, List, [], ◌∷◌, length, refl}
use Rattle.std.proofs.Common.{sym, ◌∙◌, ap, subst, arith, eqb, true≢false}
use Rattle.std.proofs.lemmas.Bool.{cases_Bool, eqb-true, eq-eqb}
use Rattle.std.specs.Prelude.{Option, Some, None, Result, Ok, Err, is_ok, IfOk, IfErr, IsErrOf}
use Rattle.std.specs.Option.{is_some}
use Rattle.lc_base.specs.Faults.{HasCause}
use Rattle.lc_io.specs.Disk.{DiskState, Stays}
use Rattle.lc_io.specs.Outside.{Tell}
use Rattle.disk_model.specs.Disk.{Keeps, Rests, content_of}
use Rattle.disk_model.proofs.Calls.{stay_keeps}
use Rattle.disk_model.proofs.Moments.{then_keeps, weaker, stays_here}
use Rattle.block_codec.specs.Reading.{block_in}
use Rattle.block_log.specs.Standing.{Logged, with_mark, chain_of, next_block, Placer}
use Rattle.block_log.specs.Log.{LogState, Agrees, IsOldOrMarked, StandsBy, log_placement}
use Rattle.block_log.specs.Log.{next_in_log}
use Rattle.block_log.proofs.Resting.{rests_at, rests_keeps}
use Rattle.cli_promises.specs.recovery.Node.{IsLogOf, next_in_chain, chain_in, stored_placement}
use Rattle.cli_promises.proofs.recovery.Placing.{stricter}
use Rattle.cli_promises.specs.Promises.{Promise, IsMarked, IsKeptAt, Telling}
use Rattle.cli_promises.proofs.Tellings.{none_told, still, told_since}
use Rattle.cli_promises.specs.cli_lines.Lines.{already_upgraded_line, upgraded_line}
use Rattle.cli_promises.specs.Appending.{IsKnown, Upgrades, marked_line, upgrade_text}
use Rattle.cli_promises.specs.declared.ending.RunStop.{RunStop}
use Rattle.cli_promises.specs.declared.ending.RunStop.TheVariants as stops
use Rattle.cli_append.proofs.Frames.{content_known, stands_at}
use Rattle.cli_promises.proofs.Resting.{rests_each}

-- ---- what the log holds before it is marked

-- the bytes of a log stand for its chain, with rows counted
pub log_at : (log : LogState) (state : Option DiskState) (logged : Logged)
    → IsLogOf log state logged → Rests state (λ image. chain_in image ≡ Some logged)
log_at log state logged is = stands_at log logged state is.marked_is is.log

stands_by : (log : LogState) (state : Option DiskState) (logged : Logged) (content : List ℕ)
    → IsLogOf log state logged → content_of state ≡ Some content
    → StandsBy stored_placement content logged
stands_by log state logged content is told = record {
  stricter = stricter;
  stands =
      (rests_at (λ image. chain_in image ≡ Some logged) state content (log_at log state logged is)
      told).1;
}

-- once it is marked, they stand for the chain with the mark, if the disk is known
pub marked_at : (log : LogState) (state new : Option DiskState) (logged : Logged)
    → IsLogOf log state logged → is_some new ≡ is_some state
    → ((place : Placer) (content : List ℕ) (logged : Logged) → content_of state ≡ Some content
    → StandsBy place content logged → Rests new
    (λ image. chain_of (next_block block_in place) image ≡ Some (with_mark logged)))
    → Rests new (λ image. chain_in image ≡ Some (with_mark logged))
marked_at log None None logged is still stands = tt
marked_at log None (Some n) logged is still stands = absurd (cc still)
marked_at log (Some s) None logged is still stands = tt
marked_at log (Some s) (Some n) logged is still stands =
    stands stored_placement s.content logged refl
    (stands_by log (Some s) logged s.content is refl)

-- by the placement of the log, which counts no row, they stand for what they stand for
pub stands_by_log : (content : List ℕ) (logged : Logged) → chain_of next_in_log content
    ≡ Some logged → StandsBy log_placement content logged
stands_by_log content logged stands = record {
  stricter = λ marked blocks block is. is;
  stands =
      stands;
}

-- ---- who is blamed

-- a count that stays blames nobody
pub none_blamed : (before now : ℕ) (C : Type 0) → now ≡ before → (C → ⊥) → HasCause before now C
none_blamed before now C same none = record {
  later = omega (arith, same);
  failed = λ blames. absurd
      (none blames);
  told = λ differ. absurd (differ same);
}

-- printing a line blames no disk
pub no_disk_fault : {T : Type 0} (result : Result T RunStop)
    → IfErr result (λ stop. stop ≡ stops.Untold) → IsErrOf result stops.DiskFault → ⊥
no_disk_fault (Ok done) stop is = absurd (cc is)
no_disk_fault (Err other) stop is = absurd (cc (stop, is))

-- marking blames the disk exactly if it fails
pub disk_blamed : {T : Type 0} (before now : ℕ) → HasCause before now (true ≡ true)
    → HasCause before now (IsErrOf {T = T} (Err stops.DiskFault) stops.DiskFault)
disk_blamed before now cause = record {
  later = cause.later;
  failed = λ blames. cause.failed refl;
  told = λ differ. refl;
}

-- marking that goes well leaves the count of faults as it was
pub disk_unblamed : (before now : ℕ) → HasCause before now (false ≡ true) → now ≡ before
disk_unblamed before now cause = elim (cases_Bool (eqb now before)) [
  | inl same ↦ eqb-true now before same
  | inr differ ↦
      let both : false ≡ true = cause.told (λ is. true≢false (sym (eq-eqb now before is) ∙ differ))
      in
      absurd cc
]

-- ---- what becomes of the disk and the wire

-- the disk holds the chain, which is marked already
rests_marked : (state : Option DiskState) (logged : Logged) → logged.marked ≡ true
    → Rests state (λ image. chain_in image ≡ Some logged)
    → Rests state (λ image. chain_in image ≡ Some (with_mark logged))
rests_marked state logged mark rests =
    subst (λ (m : Bool). Rests state
    (λ image. chain_in image ≡ Some (record { blocks = logged.blocks; marked = m }))) mark rests

if_done : {T : Type 0} (result : Result T RunStop) (P : Type 0) → P → IfOk result (λ done. P)
if_done (Ok done) P p = p
if_done (Err stop) P p = tt

module _ {D T : Type 0} (now : D → ℕ) (disk : D → ℕ → Option DiskState)
    (told : D → Option (List Tell)) where
  -- the log was marked already, and its line printed, or its first bytes
  pub already_marked : (old new : D) (logged : Logged) (bytes : List ℕ) (result : Result T RunStop)
      → logged.marked ≡ true
      → Rests (disk old (now old)) (λ image. chain_in image ≡ Some logged) → Stays now disk old new
      → bytes ≡ already_upgraded_line
      → ((promise : Promise) → IsKeptAt next_in_chain now disk old promise → Telling next_in_chain
      now disk told old new (record { text = bytes; promise = promise } ∷ []) (is_ok result))
      → Upgrades now disk told old new logged result
  already_marked old new logged bytes result mark rests stays is tell =
      let P : List ℕ → Type 0 = λ image. chain_in image ≡ Some logged in
      let text : bytes ≡ upgrade_text logged.marked (length logged.blocks) = is
      ∙ sym (ap (λ (m : Bool). upgrade_text m (length logged.blocks)) mark) in
      record {
        images = λ is_told. weaker now disk old new P (IsOldOrMarked next_in_chain logged)
            (still next_in_chain now disk told old new P (rests_each (disk old (now old)) P rests)
            stays) (λ image at. inl at);
        lines = λ is_told. subst (λ (b : List ℕ). Telling next_in_chain now disk told old new
            (marked_line b ∷ []) (is_ok result)) text
            (tell IsMarked (λ s image at shows. (
              logged,
              rests_each (disk old (now old)) P rests s
                  image at shows,
              mark,
            )));
        unwritten = λ m. stays;
        ended = if_done result (Rests (disk new (now new))
            (λ image. chain_in image ≡ Some (with_mark logged)))
            (subst (λ (o : Option DiskState). Rests o
            (λ image. chain_in image ≡ Some (with_mark logged))) (sym stays.last)
            (rests_marked (disk old (now old)) logged mark rests));
      }

  -- the log was marked, and then its line printed, or its first bytes
  pub then_marked : (old mid new : D) (logged : Logged) (bytes : List ℕ) (result : Result T RunStop)
      → logged.marked ≡ false
      → (IsKnown (disk old (now old)) → Keeps now disk old mid (IsOldOrMarked next_in_chain logged))
      → Rests (disk mid (now mid)) (λ image. chain_in image ≡ Some (with_mark logged))
      → told mid ≡ told old
      → Stays now disk mid new → bytes ≡ upgraded_line (length logged.blocks)
      → ((promise : Promise) → IsKeptAt next_in_chain now disk mid promise → Telling next_in_chain
      now disk told mid new (record { text = bytes; promise = promise } ∷ []) (is_ok result))
      → Upgrades now disk told old new logged result
  then_marked old mid new logged bytes result mark images rests same stays is tell =
      let P : List ℕ → Type 0 = λ image. chain_in image ≡ Some (with_mark logged) in
      let text : bytes ≡ upgrade_text logged.marked (length logged.blocks) = is
      ∙ sym (ap (λ (m : Bool). upgrade_text m (length logged.blocks)) mark) in
      record {
        images = λ is_told. then_keeps now disk old mid new (IsOldOrMarked next_in_chain logged)
            (images is_told)
            (weaker now disk mid new P (IsOldOrMarked next_in_chain logged)
            (still next_in_chain now disk told mid new P (rests_each (disk mid (now mid)) P
            rests) stays) (λ image at. inr at));
        lines = λ is_told. told_since next_in_chain now disk told old mid new
            (marked_line (upgrade_text logged.marked (length logged.blocks)) ∷ []) (is_ok result)
            same
            (subst (λ (b : List ℕ). Telling next_in_chain now disk told mid new (marked_line b ∷ [])
            (is_ok result)) text
            (tell IsMarked (λ s image at shows. (
              with_mark logged,
              rests_each (disk mid (now mid)) P
                  rests s image at shows,
              refl,
            ))));
        unwritten = λ m. absurd (cc (m, mark));
        ended = if_done result (Rests (disk new (now new)) P)
            (subst (λ (o : Option DiskState). Rests o P) (sym stays.last) rests);
      }

  -- the disk failed, or memory ran out, before anything was printed
  pub not_marked : (old new : D) (logged : Logged) (stop : RunStop)
      → (IsKnown (disk old (now old)) → Keeps now disk old new (IsOldOrMarked next_in_chain logged))
      → (logged.marked ≡ true → Stays now disk old new) → told new ≡ told old
      → Upgrades {T = T} now disk told old new logged (Err stop)
  not_marked old new logged stop images stays same = record {
    images = images;
    lines = λ is_told. none_told next_in_chain now disk told old new
        (marked_line (upgrade_text logged.marked (length logged.blocks)) ∷ []) same;
    unwritten = stays;
    ended = tt;
  }

  -- it stopped before it began
  pub not_begun : (old : D) (logged : Logged) (stop : RunStop) → Rests (disk old (now old))
      (λ image. chain_in image ≡ Some logged) → Upgrades {T = T} now disk told old old logged
      (Err stop)
  not_begun old logged stop rests =
      let P : List ℕ → Type 0 = λ image. chain_in image ≡ Some logged in
      not_marked old old logged stop
      (λ is_told. weaker now disk old old P (IsOldOrMarked next_in_chain logged)
      (still next_in_chain now disk told old old P (rests_each (disk old (now old)) P rests)
      (stays_here now disk old)) (λ image at. inl at))
      (λ m. stays_here now disk old) refl

module _ {D : Type 0} (now : D → ℕ) (disk : D → ℕ → Option DiskState) where
  -- a crash leaves the chain of a log, marked or as it was, while it is marked
  pub images_known : (old mid : D) (log : LogState) (logged : Logged) → IsLogOf log
      (disk old (now old)) logged
      → ((place : Placer) (content : List ℕ) (logged : Logged) → content_of (disk old (now old))
      ≡ Some content → StandsBy place content logged → Keeps now disk old mid
      (IsOldOrMarked (next_block block_in place) logged))
      → IsKnown (disk old (now old)) → Keeps now disk old mid (IsOldOrMarked next_in_chain logged)
  images_known old mid log logged is images is_told =
      let known = content_known (disk old (now old)) is_told in
      images stored_placement known.0 logged known.1
      (stands_by log (disk old (now old)) logged known.0 is known.1)

  -- ---- the same by the log alone, with rows not counted

  -- it was not touched
  pub log_still : (old : D) (log : LogState) (content : List ℕ) (logged : Logged)
      → Rests (disk old (now old)) (Agrees log) → content_of (disk old (now old)) ≡ Some content
      → chain_of next_in_log content ≡ Some logged → Keeps now disk old old
      (IsOldOrMarked next_in_log logged)
  log_still old log content logged rests told stands = rests_keeps now disk old
      (IsOldOrMarked next_in_log logged) content (rests_at (Agrees log) (disk old (now old)) content
      rests told).0 (inl stands)

  -- it was not touched while a line was printed
  pub log_stays : (old new : D) (log : LogState) (content : List ℕ) (logged : Logged)
      → Rests (disk old (now old)) (Agrees log) → content_of (disk old (now old)) ≡ Some content
      → chain_of next_in_log content ≡ Some logged → Stays now disk old new → Keeps now disk old new
      (IsOldOrMarked next_in_log logged)
  log_stays old new log content logged rests told stands stays = stay_keeps now disk old old new
      (IsOldOrMarked next_in_log logged) (log_still old log content logged rests told stands) stays
