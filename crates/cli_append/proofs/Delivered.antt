-- The fold of an input is that of the deliveries of its frames.
use Rattle.std.proofs.Common.{◌≡◌, ℕ, zero, suc, ◌+◌, ◌-◌, ◌≤◌, Bool, true, false, List, [], ◌∷◌}
use Rattle.std.proofs.Common.{length, refl, sym, ◌∙◌, ap, subst, arith}
use Rattle.std.specs.Prelude.{Option, Some, None, if◌then◌else◌, ◌==◌, ◌||◌, nat_lt, take, drop}
use Rattle.std.proofs.lemmas.Bool.{eqb-true, eqb-false}
use Rattle.std.specs.Int.{w32, from_be_bytes}
use Rattle.block_codec.specs.Frames.{FrameStep, End, Truncated, Length, Many, Frame, frame_step}
use Rattle.block_codec.specs.Frames.{sized_frame}
use Rattle.block_codec.specs.declared.limits.TheConstants.{MAX_BLOCK_BYTES, MAX_FRAMES}
use Rattle.chain_exec.specs.Compiled.{Compiler}
use Rattle.follower_steps.specs.Steps.{PlacerByMark, State, started, Step, first_turn}
use Rattle.follower_steps.specs.Steps.{further_turn}
use Rattle.follower_steps.specs.Events.{acknowledged, after, after_further, state_after}
use Rattle.cli_promises.specs.Following.{Followed, nothing_done, after_step, after_any, after_more}
use Rattle.cli_promises.specs.Following.{after_frame, FollowFold, follow_step, follow_from}
use Rattle.cli_promises.specs.FollowLaws.{FramesAreDelivered, InputsHaveFrames, InputsAreDelivered}
use Rattle.cli_promises.specs.FollowLaws.{AreFramesOf, deliveries}

-- ---- one frame

any_state : (compile : Compiler) (done : Followed) (step : Option Step)
    → (after_any compile done step).state ≡ state_after done.state step
any_state compile done None = refl
any_state compile done (Some step) = refl

further_state : (compile : Compiler) (place : PlacerByMark) (n : ℕ) (done : Followed)
    → (after_more compile place n done).state ≡ after_further place n done.state
further_state compile place zero done = refl
further_state compile place (suc n) done =
    let step : Option Step = further_turn place done.state in
    further_state compile place n (after_any compile done step)
    ∙ ap (λ (s : State). after_further place n s) (any_state compile done step)

pub frames_delivered : FramesAreDelivered
frames_delivered compile place done index bytes =
    let first = first_turn place done.state index bytes in
    ap (λ (s : State). acknowledged s)
    (further_state compile place (length first.state.waiting) (after_step compile done first))

-- ---- the frames of an input

neither : (frame rest : List ℕ) (test : Bool) (one other : FrameStep)
    → (one ≡ Frame frame rest → ⊥) → (other ≡ Frame frame rest → ⊥)
    → (if test then one else other) ≡ Frame frame rest → ⊥
neither frame rest true one other first second is = first is
neither frame rest false one other first second is = second is

-- after the greatest number of frames there is no further one
pub no_more : (input frame rest : List ℕ) → frame_step MAX_FRAMES input ≡ Frame frame rest → ⊥
unfolding frame_step
no_more input frame rest is =
    let count : ℕ = from_be_bytes w32 (take 4 input) in
    neither frame rest (length input == 0) End
    (if nat_lt (length input) 4 then Truncated
    else sized_frame MAX_FRAMES count (drop 4 input)) (λ e. cc e)
    (neither frame rest (nat_lt (length input) 4) Truncated
    (sized_frame MAX_FRAMES count (drop 4 input)) (λ e. cc e)
    (neither frame rest (count == 0 || nat_lt MAX_BLOCK_BYTES count) (Length count) Many
    (λ e. cc e) (λ e. cc e))) is

-- so a frame is read only after fewer
pub fewer_before : (count : ℕ) (input frame rest : List ℕ) → count ≤ MAX_FRAMES
    → frame_step count input ≡ Frame frame rest → count + 1 ≤ MAX_FRAMES
fewer_before count input frame rest bound is = by_test (count == MAX_FRAMES) refl
  where
    by_test : (test : Bool) → (count == MAX_FRAMES) ≡ test → count + 1 ≤ MAX_FRAMES
    by_test true same = absurd (no_more input frame rest
        (subst (λ (n : ℕ). frame_step n input ≡ Frame frame rest)
        (eqb-true count MAX_FRAMES same) is))
    by_test false other = omega (arith, bound, eqb-false count MAX_FRAMES other)

no_frames : (count : ℕ) (input : List ℕ) (step : FrameStep) → frame_step count input ≡ step
    → ((frame rest : List ℕ) → step ≡ Frame frame rest → ⊥) → AreFramesOf count input []
no_frames count input step is none frame rest other = none frame rest (sym is ∙ other)

frames_by : (n count : ℕ) (input : List ℕ) → count ≤ MAX_FRAMES
    → ((rest : List ℕ) → count + 1 ≤ MAX_FRAMES
    → (frames : List (List ℕ)) × AreFramesOf (count + 1) rest frames)
    → (step : FrameStep) → frame_step count input ≡ step
    → (frames : List (List ℕ)) × AreFramesOf count input frames
frames_by n count input bound others End is =
    ([], no_frames count input End is (λ frame rest e. cc e))
frames_by n count input bound others Truncated is =
    ([], no_frames count input Truncated is (λ frame rest e. cc e))
frames_by n count input bound others (Length size) is =
    ([], no_frames count input (Length size) is (λ frame rest e. cc e))
frames_by n count input bound others Many is =
    ([], no_frames count input Many is (λ frame rest e. cc e))
frames_by n count input bound others (Frame frame rest) is =
    let more = others rest (fewer_before count input frame rest bound is) in
    (frame ∷ more.0, (rest, is, more.1))

frames_from : (n count : ℕ) (input : List ℕ) → count + n ≡ MAX_FRAMES
    → (frames : List (List ℕ)) × AreFramesOf count input frames
frames_from zero count input total =
    let all : count ≡ MAX_FRAMES = omega (arith, total) in (
      [],
      λ frame rest is. no_more input frame rest
          (subst (λ (m : ℕ). frame_step m input ≡ Frame frame rest) all is),
    )
frames_from (suc n) count input total =
    frames_by n count input (omega (arith, total))
    (λ rest fits. frames_from n (count + 1) rest (omega (arith, total)))
    (frame_step count input) refl

pub have_frames : InputsHaveFrames
have_frames input = frames_from MAX_FRAMES 0 input refl

-- ---- the fold

module _ (compile : Compiler) (place : PlacerByMark) where
  -- the fold is at its end where no frame is read
  ends_here : (next : Followed → List ℕ → FollowFold) (count : ℕ) (done : Followed)
      (input : List ℕ) (step : FrameStep)
      → ((frame rest : List ℕ) → step ≡ Frame frame rest → ⊥)
      → (follow_step compile place next count done input step).done ≡ done
  ends_here next count done input End none = refl
  ends_here next count done input Truncated none = refl
  ends_here next count done input (Length size) none = refl
  ends_here next count done input Many none = refl
  ends_here next count done input (Frame frame rest) none = absurd (none frame rest refl)

  -- the fold of some frames leads where their deliveries do
  folded_state : (n count : ℕ) (done : Followed) (input : List ℕ) (frames : List (List ℕ))
      → count + n ≡ MAX_FRAMES → AreFramesOf count input frames
      → (follow_from compile place (suc n) done input).done.state
      ≡ after place done.state (deliveries count frames)
  unfolding follow_from
  folded_state n count done input [] total none =
      let here : MAX_FRAMES - n ≡ count = omega (arith, total) in
      ap (λ (d : Followed). d.state)
      (ends_here (follow_from compile place n) (MAX_FRAMES - n) done input
      (frame_step (MAX_FRAMES - n) input)
      (subst (λ (m : ℕ). (frame rest : List ℕ) → frame_step m input ≡ Frame frame rest → ⊥)
      (sym here) none))
  folded_state zero count done input (frame ∷ frames) total (rest, is, others) =
      let all : count ≡ MAX_FRAMES = omega (arith, total) in
      absurd (no_more input frame rest
      (subst (λ (m : ℕ). frame_step m input ≡ Frame frame rest) all is))
  folded_state (suc n) count done input (frame ∷ frames) total (rest, is, others) =
      let here : MAX_FRAMES - suc n ≡ count = omega (arith, total) in
      let next : Followed → List ℕ → FollowFold = follow_from compile place (suc n) in
      ap (λ (m : ℕ). (follow_step compile place next m done input (frame_step m input)).done.state)
      here
      ∙ ap (λ (s : FrameStep). (follow_step compile place next count done input s).done.state) is
      ∙ folded_state n (count + 1) (after_frame compile place done count frame) rest frames
      (omega (arith, total)) others
      ∙ ap (λ (s : State). after place s (deliveries (count + 1) frames))
      (frames_delivered compile place done count frame)

pub inputs_delivered : InputsAreDelivered
inputs_delivered compile place logged input frames are =
    folded_state compile place MAX_FRAMES 0 (nothing_done (started logged.blocks logged.marked))
    input frames refl are
