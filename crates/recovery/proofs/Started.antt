-- What is started from a log: the chain and the log of its blocks, or the reason why there is none.
use Rattle.std.proofs.Common.{◌≡◌, inl, inr, ℕ, Bool, false, List, [], length, Option, Some, None}
use Rattle.std.proofs.Common.{Result, Ok, Err, refl, sym, ap, subst, ◌∙◌}
use Rattle.std.specs.Prelude.{IfOk, MatchBool}
use Rattle.std.proofs.lemmas.List.{length-map}
use Rattle.std.proofs.lemmas.Bool.{cases_Bool}
use Rattle.lc_base.specs.declared.digest.Digest.{Digest}
use Rattle.lc_io.specs.Disk.{DiskState}
use Rattle.disk_model.specs.Disk.{IsSettled, Rests, content_of}
use Rattle.block_codec.specs.Placement.{last_digest}
use Rattle.block_codec.specs.declared.block.Block.{Block}
use Rattle.block_log.specs.Standing.{NotALog, Damaged, Holds, Logged, blocks_in, logged_of}
use Rattle.block_log.specs.Standing.{standing}
use Rattle.block_log.specs.Log.{LogState, Agrees, AgreesWithBlocks, AgreesWithBlank}
use Rattle.block_log.specs.Log.{IsStarted as IsLogStarted, next_in_log}
use Rattle.block_log.specs.Reader.{AreAll, IsOpened, IsTurn}
use Rattle.block_log.specs.declared.error.LogError.{LogError}
use Rattle.block_log.specs.declared.error.LogError.TheVariants as logs
use Rattle.block_log.specs.Stricter.{restanding}
use Rattle.block_log.proofs.Stricter.{stands_stricter}
use Rattle.block_log.specs.declared.layout.Stored.{Stored}
use Rattle.rooted_chain.specs.chain_replay.Chain.{ChainState, nothing_kept}
use Rattle.recovery.specs.Node.{AreOfBlocks, AreOfLogged, AreOfOneChain, IsStarted, chain_in}
use Rattle.recovery.specs.Node.{logged_in, next_in_chain, stored_placement}
use Rattle.recovery.specs.Restoring.{HasRead, HasRun, IsRestored, start_error}
use Rattle.recovery.specs.declared.errors.StartError.{StartError}
use Rattle.recovery.specs.declared.errors.StartError.TheVariants as starts
use Rattle.recovery.proofs.Placing.{stricter}
use Rattle.recovery.proofs.Replaying.{AreRun, none_run, all_run}

-- what bytes stand for if rows are counted
counted : (image : List ℕ)
    → standing next_in_chain image ≡ restanding stored_placement
    (standing next_in_log image)
counted image = stands_stricter stored_placement stricter image

pub not_a_log : (image : List ℕ) → standing next_in_log image ≡ NotALog
    → standing next_in_chain image ≡ NotALog
not_a_log image is = counted image ∙ ap (restanding stored_placement) is

-- these blocks, marked or not
abbrev logged : List Stored → Bool → Logged
logged stored marked = record { blocks = blocks_in stored; marked = marked }

module _ (stored : List Stored) (chain : ChainState) (run : AreRun stored chain) where
  -- the log is damaged after these blocks
  pub damaged_after : (image : List ℕ) (at : ℕ) → standing next_in_log image ≡ Damaged stored at
      → standing next_in_chain image ≡ Damaged stored at
  damaged_after image at is = counted image ∙ ap (restanding stored_placement) is
      ∙ all_run stored chain run (λ held. Damaged held at)

  -- these are all blocks, of bytes with a head or without one
  chain_is : (log : LogState) (image : List ℕ) → (log.is_ready ≡ false → log.is_marked ≡ false)
      → IsLogStarted log stored image → chain_in image ≡ Some (logged_in log (blocks_in stored))
  chain_is log image unmarked started = elim (cases_Bool log.is_ready) [
    | inl ready ↦
        let holds = subst (λ (b : Bool). MatchBool b
        (standing next_in_log image ≡ Holds stored log.is_marked log.gate) (stored ≡ [])) ready
        started.1 in
        ap logged_of (counted image ∙ ap (restanding stored_placement) holds
        ∙ all_run stored chain run (λ held. Holds held log.is_marked log.gate))
    | inr headless ↦
        let blank = (subst (λ (b : Bool). MatchBool b (AgreesWithBlocks log image)
        (AgreesWithBlank log image)) headless started.0).stands in
        let none = subst (λ (b : Bool). MatchBool b
        (standing next_in_log image ≡ Holds stored log.is_marked log.gate) (stored ≡ [])) headless
        started.1 in
        ap logged_of (counted image ∙ ap (restanding stored_placement) blank)
        ∙ ap (λ (all : List Stored). Some (logged all false)) (sym none)
        ∙ ap (λ (m : Bool). Some (logged stored m)) (sym (unmarked headless))
  ]

  pub has_run : (log : LogState) (content : Option (List ℕ)) → AreAll log content stored
      → HasRun chain log content
  has_run log content all = record {
    stored = stored;
    all = all;
    stands = run.stands;
    counted = λ image told. chain_is log image all.held.headless
        (all.started image told);
  }

-- The chain of a log without blocks.
pub blank_run : (chain : ChainState) (log : LogState) (content : Option (List ℕ))
    → chain ≡ nothing_kept → AreAll log content [] → HasRun chain log content
blank_run chain log content is all = has_run [] chain (subst (AreRun []) (sym is) none_run) log
    content all

-- The chain of a log without blocks, whatever the device holds.
pub blank_read : (chain : ChainState) (log : LogState) (content : Option (List ℕ))
    → chain ≡ nothing_kept → AreAll log content [] → HasRead chain log content
blank_read chain log content is all = record
    { stored = []; all = all; digests_are = ap (λ (kept : ChainState). kept.digests) is }

-- the chain and the log of the same blocks
one_chain : (chain : ChainState) (log : LogState) (content : Option (List ℕ))
    → HasRead chain log content → AreOfOneChain chain log
one_chain chain log content read = record {
  count_is = read.all.held.count_is ∙ sym (length-map read.stored (λ (s : Stored). s.digest))
      ∙ ap (length {A = Digest}) (sym read.digests_are);
  last_is = read.all.held.last_is
      ∙ ap last_digest (sym (read.digests_are ∙ read.all.are_stored.digests_are));
  headless = read.all.held.headless;
}

-- the log agrees with its disk, if that is known
log_rests : (chain : ChainState) (log : LogState) (state : Option DiskState) → IsSettled state
    → HasRead chain log (content_of state) → Rests state (Agrees log)
log_rests chain log None rests read = tt
log_rests chain log (Some s) rests read = (rests, (read.all.started s.content refl).0)

-- The chain and the log of these blocks.
node_of : (chain : ChainState) (log : LogState) (state : Option DiskState) → IsSettled state
    → (run : HasRun chain log (content_of state))
    → AreOfBlocks chain log state (blocks_in run.stored)
node_of chain log None rests run = record {
  kept = run.stands;
  fits = run.all.held.fits;
  log = tt;
}
node_of chain log (Some s) rests run = record {
  kept = run.stands;
  fits = run.all.held.fits;
  log = (
    rests,
    record {
      agrees = (run.all.started s.content refl).0;
      stands = run.counted s.content
          refl;
    },
  );
}

module _ {C : Type 0} (kept : C → ChainState) (state : Option DiskState) (rests : IsSettled state)
  where
    pub started : (result : Result (C × LogState) StartError)
        → IsRestored kept (content_of state) result → (image : List ℕ) → content_of state ≡ Some image
        → IsStarted (λ (opened : C × LogState). AreOfLogged (kept opened.0) opened.1 state)
        (standing next_in_chain image) result
    started (Ok opened) run image told = (
      logged_in opened.1 (blocks_in run.stored),
      run.counted image told,
      (node_of (kept opened.0) opened.1 state rests run, refl),
    )
    started (Err starts.NotALog) run image told = run image told
    started (Err (starts.Damaged at)) run image told = run image told
    started (Err starts.DiskFault) run image told = tt
    started (Err starts.ScratchFault) run image told = tt
    started (Err starts.Memory) run image told = tt

    pub has_node : (result : Result (C × LogState) StartError)
        → IsRestored kept (content_of state) result
        → IfOk result (λ (opened : C × LogState). (blocks : List Block)
        × AreOfBlocks (kept opened.0) opened.1 state blocks)
    has_node (Ok opened) run =
        (blocks_in run.stored, node_of (kept opened.0) opened.1 state rests run)
    has_node (Err error) run = tt

    pub has_one_chain : (result : Result (C × LogState) StartError)
        → IfOk result (λ (opened : C × LogState). HasRead (kept opened.0) opened.1 (content_of state))
        → IfOk result (λ (opened : C × LogState). AreOfOneChain (kept opened.0) opened.1)
    has_one_chain (Ok opened) read = one_chain (kept opened.0) opened.1 (content_of state) read
    has_one_chain (Err error) read = tt

    pub has_log : (result : Result (C × LogState) StartError)
        → IfOk result (λ (opened : C × LogState). HasRead (kept opened.0) opened.1 (content_of state))
        → IfOk result (λ (opened : C × LogState). Rests state (Agrees opened.1))
    has_log (Ok opened) read = log_rests (kept opened.0) opened.1 state rests read
    has_log (Err error) read = tt

-- Nothing was started, since opening the log failed with this error.
pub failed_start : {C : Type 0} (kept : C → ChainState) (content : Option (List ℕ))
    (failed : LogError) (error : StartError) → error ≡ start_error failed
    → IsOpened content (Err failed) → IsRestored kept content (Err error)
failed_start {C} kept content failed error is opened = subst
    (λ (e : StartError). IsRestored {C = C} kept content (Err e)) (sym is) (there failed opened)
  where
    there : (failed : LogError) → IsOpened content (Err failed)
        → IsRestored {C = C} kept content (Err (start_error failed))
    there logs.NotALog opened = λ image told. not_a_log image (opened image told)
    there (logs.Damaged at) opened = absurd opened
    there logs.DiskFault opened = tt
    there logs.Memory opened = tt

-- Reading a block failed with this error, after blocks that have run.
pub failed_turn : {C : Type 0} (kept : C → ChainState) (content : Option (List ℕ))
    (stored : List Stored) (chain : ChainState) → AreRun stored chain
    → (failed : LogError) (error : StartError) → error ≡ start_error failed
    → IsTurn content stored (Err failed) → IsRestored kept content (Err error)
failed_turn {C} kept content stored chain run failed error is turn = subst
    (λ (e : StartError). IsRestored {C = C} kept content (Err e)) (sym is) (there failed turn)
  where
    there : (failed : LogError) → IsTurn content stored (Err failed)
        → IsRestored {C = C} kept content (Err (start_error failed))
    there logs.NotALog turn = absurd turn
    there (logs.Damaged at) turn = λ image told.
        (stored, damaged_after stored chain run image at (turn image told))
    there logs.DiskFault turn = tt
    there logs.Memory turn = tt
