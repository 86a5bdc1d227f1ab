-- The fold of the frames of an input, look by look: what was done by the frames so far, and then
-- the fold of what is left, are the whole fold.
use Rattle.std.proofs.Common.{◌≡◌, ℕ, zero, suc, ◌+◌, ◌-◌, ◌≤◌, List, [], drop, refl, sym, ap}
use Rattle.std.proofs.Common.{subst, ◌∙◌, arith}
use Rattle.std.specs.Prelude.{Option, Some, None, Result, Ok, Err}
use Rattle.block_codec.specs.Frames.{FrameStep, End, Truncated, Length, Many, Frame, frame_step}
use Rattle.block_codec.specs.Frames.{IsFrameAnswer}
use Rattle.block_codec.specs.declared.error.FrameError.{FrameError}
use Rattle.block_codec.specs.declared.error.FrameError.TheVariants as errors
use Rattle.block_codec.specs.declared.limits.TheConstants.{MAX_FRAMES}
use Rattle.chain_exec.specs.Compiled.{Compiler}
use Rattle.chain_input.specs.Taking.{TurnRule, At, LooksAt, RefusesFrame}
use Rattle.chain_input.specs.Folding.{FoldEnd, Whole, Refused}
use Rattle.chain_input.specs.declared.cause.Cause.{Cause}
use Rattle.chain_input.specs.declared.cause.Cause.TheVariants as causes
use Rattle.chain_input.specs.declared.taking.Turn.TheVariants as turns
use Rattle.chain_replay.specs.declared.refusal.Refusal.{Refusal}
use Rattle.follower_steps.specs.Steps.{PlacerByMark}
use Rattle.cli_promises.specs.Following.{Followed, FollowFold, nothing_done, after_frame, fold_ends}
use Rattle.cli_promises.specs.Following.{follow_step, follow_from}
use Rattle.cli_append.proofs.Done.{more_done, more_none, more_more, after_frame_from}

-- what a look finds, if this is left
found : (count : ℕ) (before left : Option (List ℕ)) (rest : List ℕ)
    (answer : Result (Option (List ℕ × ℕ)) FrameError) → before ≡ Some rest
    → LooksAt count before answer left → IsFrameAnswer count rest answer left
found count before left rest answer is look =
    subst (λ (o : Option (List ℕ)). LooksAt count o answer left) is look

module _ (compile : Compiler) (place : PlacerByMark) where
  -- one step of the fold at the start of an input
  abbrev pub step_here : (Followed → List ℕ → FollowFold) → ℕ → Followed → List ℕ → FollowFold
  step_here next count done input =
      follow_step compile place next count done input (frame_step count input)

  -- one look at the start of the input
  pub follow_look : (count : ℕ) (done : Followed) (rest : List ℕ) → count ≤ MAX_FRAMES
      → follow_from compile place (MAX_FRAMES + 1 - count) done rest
      ≡ step_here (follow_from compile place (MAX_FRAMES - count)) count done rest
  unfolding follow_from
  follow_look count done rest bound =
      let m : ℕ = MAX_FRAMES - count in
      let e : MAX_FRAMES + 1 - count ≡ suc m = omega arith in
      let t : MAX_FRAMES - m ≡ count = omega arith in
      ap (λ (n : ℕ). follow_from compile place n done rest) e
      ∙ ap (λ (n : ℕ). follow_step compile place (follow_from compile place m) n done rest
      (frame_step n rest)) t

  -- after so many frames this is left of the input, and the fold of it goes on from what was done
  pub record Leads (input : List ℕ) (left : Option (List ℕ)) (count : ℕ) (first done : Followed)
      : Type 0 where
    pub rest : List ℕ
    pub left_is : left ≡ Some rest
    pub same : follow_from compile place (MAX_FRAMES + 1) first input
        ≡ follow_from compile place (MAX_FRAMES + 1 - count) done rest

  pub leads_first : (input : List ℕ) (left : Option (List ℕ)) (first : Followed)
      → left ≡ Some input → Leads input left 0 first first
  leads_first input left first is = record { rest = input; left_is = is; same = refl }

  -- one more frame
  pub leads_on : (input : List ℕ) (left after : Option (List ℕ)) (count : ℕ) (first done : Followed)
      (frame : List ℕ) → count ≤ MAX_FRAMES → Leads input left count first done
      → LooksAt count left (Ok (Some (frame, count + 1))) after
      → Leads input after (count + 1) first (after_frame compile place done count frame)
  leads_on input left after count first done frame bound l look =
      let a = found count left after l.rest (Ok (Some (frame, count + 1))) l.left_is look in
      let next : Followed → List ℕ → FollowFold = follow_from compile place (MAX_FRAMES - count) in
      let fewer : MAX_FRAMES - count ≡ MAX_FRAMES + 1 - (count + 1) = omega arith in
      record {
        rest = a.0;
        left_is = a.2;
        same = l.same ∙ follow_look count done l.rest bound
            ∙ ap (follow_step compile place next count done l.rest) a.1
            ∙ ap (λ (n : ℕ). follow_from compile place n
            (after_frame compile place done count frame) a.0) fewer;
      }

  -- ---- the end

  -- the fold ends so, after what was done
  pub record EndsSo (input : List ℕ) (left : Option (List ℕ)) (first done : Followed)
      (end : FoldEnd) : Type 0 where
    pub rest : List ℕ
    pub left_is : left ≡ Some rest
    pub same : follow_from compile place (MAX_FRAMES + 1) first input ≡ fold_ends done end rest

  -- the input has ended
  pub whole_so : (input : List ℕ) (before left : Option (List ℕ)) (count : ℕ)
      (first done : Followed) → count ≤ MAX_FRAMES → Leads input before count first done
      → LooksAt count before (Ok None) left → EndsSo input left first done Whole
  whole_so input before left count first done bound l look =
      let a = found count before left l.rest (Ok None) l.left_is look in
      let next : Followed → List ℕ → FollowFold = follow_from compile place (MAX_FRAMES - count) in
      record {
        rest = [];
        left_is = a.1;
        same = l.same ∙ follow_look count done l.rest bound
            ∙ ap (follow_step compile place next count done l.rest) a.0;
      }

  -- a frame is refused for its form
  pub refused_so : {T C E : Type 0} (rule : TurnRule T C E) (input : List ℕ) (before : At T C)
      (left : Option (List ℕ)) (taker : T) (count : ℕ) (first done : Followed) (cause : Cause)
      → count ≤ MAX_FRAMES → Leads input before.left count first done
      → ((frame : List ℕ) (refusal : Refusal)
      → rule before.taker before.chain frame taker (Ok (turns.Refused refusal)) → ⊥)
      → RefusesFrame rule count before left taker cause
      → EndsSo input left first done (Refused count cause)
  refused_so rule input before left taker count first done causes.Truncated bound l none
      (look, same) =
      let a = found count before.left left l.rest (Err errors.Truncated) l.left_is look in
      let next : Followed → List ℕ → FollowFold = follow_from compile place (MAX_FRAMES - count) in
      record {
        rest = [];
        left_is = a.1;
        same = l.same ∙ follow_look count done l.rest bound
            ∙ ap (follow_step compile place next count done l.rest) a.0;
      }
  refused_so rule input before left taker count first done (causes.Length size) bound l none
      (look, same) =
      let a = found count before.left left l.rest (Err (errors.Length size)) l.left_is look in
      let next : Followed → List ℕ → FollowFold = follow_from compile place (MAX_FRAMES - count) in
      record {
        rest = drop 4 l.rest;
        left_is = a.1;
        same = l.same ∙ follow_look count done l.rest bound
            ∙ ap (follow_step compile place next count done l.rest) a.0;
      }
  refused_so rule input before left taker count first done causes.Many bound l none (look, same) =
      let a = found count before.left left l.rest (Err errors.Many) l.left_is look in
      let next : Followed → List ℕ → FollowFold = follow_from compile place (MAX_FRAMES - count) in
      record {
        rest = drop 4 l.rest;
        left_is = a.1;
        same = l.same ∙ follow_look count done l.rest bound
            ∙ ap (follow_step compile place next count done l.rest) a.0;
      }
  refused_so rule input before left taker count first done (causes.Block refusal) bound l none
      has = absurd (none has.frame refusal has.turn_is)

  -- ---- what is still to come

  -- the second did what the first did, and more
  abbrev pub IsLonger : Followed → Followed → Type 0
  IsLonger done after = (more : Followed) × (after ≡ more_done done more)

  same_long : (done : Followed) → IsLonger done done
  same_long done = (nothing_done done.state, sym (more_none done))

  pub frame_longer : (done after : Followed) (index : ℕ) (bytes : List ℕ)
      → IsLonger (after_frame compile place done index bytes) after → IsLonger done after
  frame_longer done after index bytes (more, is) =
      let two : Followed = after_frame compile place (nothing_done done.state) index bytes in (
        more_done two more,
        is ∙ ap (λ (d : Followed). more_done d more) (after_frame_from compile place done index
            bytes) ∙ more_more done two more,
      )

  step_longer : (next : Followed → List ℕ → FollowFold)
      → ((done : Followed) (input : List ℕ) → IsLonger done (next done input).done) → (count : ℕ)
      (done : Followed) (input : List ℕ) (step : FrameStep)
      → IsLonger done (follow_step compile place next count done input step).done
  step_longer next longer count done input End = same_long done
  step_longer next longer count done input Truncated = same_long done
  step_longer next longer count done input (Length size) = same_long done
  step_longer next longer count done input Many = same_long done
  step_longer next longer count done input (Frame frame rest) =
      frame_longer done (next (after_frame compile place done count frame) rest).done count frame
      (longer (after_frame compile place done count frame) rest)

  -- a fold goes on from what was done
  pub fold_longer : (n : ℕ) (done : Followed) (input : List ℕ)
      → IsLonger done (follow_from compile place n done input).done
  unfolding follow_from
  fold_longer zero done input = same_long done
  fold_longer (suc n) done input =
      step_longer (follow_from compile place n) (fold_longer n) (MAX_FRAMES - n) done input
      (frame_step (MAX_FRAMES - n) input)

  -- the whole fold goes on from what was done by some frames
  pub leads_longer : (input : List ℕ) (left : Option (List ℕ)) (count : ℕ) (first done : Followed)
      → Leads input left count first done
      → IsLonger done (follow_from compile place (MAX_FRAMES + 1) first input).done
  leads_longer input left count first done l =
      subst (λ (f : FollowFold). IsLonger done f.done) (sym l.same)
      (fold_longer (MAX_FRAMES + 1 - count) done l.rest)

  -- and on from what was done by one more frame, whether or not it was taken
  pub within_longer : (input : List ℕ) (left after : Option (List ℕ)) (count : ℕ)
      (first done : Followed) (frame : List ℕ) → count ≤ MAX_FRAMES
      → Leads input left count first done → LooksAt count left (Ok (Some (frame, count + 1))) after
      → IsLonger (after_frame compile place done count frame)
      (follow_from compile place (MAX_FRAMES + 1) first input).done
  within_longer input left after count first done frame bound l look =
      leads_longer input after (count + 1) first (after_frame compile place done count frame)
      (leads_on input left after count first done frame bound l look)
