-- The loop over frames: one more turn, its end, and what carries through all turns.
use Rattle.std.proofs.Common.{◌≡◌, inl, inr, eqb, true≢false, ℕ, zero, suc, ◌+◌, ◌≤◌, List, Option, Some, refl, sym, ap, subst, ◌∙◌, arith}
use Rattle.std.specs.Prelude.{Result, Ok, Err, IsErrOf}
use Rattle.lc_base.specs.Faults.{HasCause}
use Rattle.block_codec.specs.declared.error.FrameError.{FrameError}
use Rattle.block_codec.specs.declared.error.FrameError.TheVariants as frames
use Rattle.block_codec.specs.declared.limits.TheConstants.{MAX_FRAMES}
use Rattle.std.proofs.lemmas.Bool.{cases_Bool, eqb-true, eq-eqb}
use Rattle.chain_input.specs.Turns.{IsCauseOf}
use Rattle.chain_input.specs.Taking.{TurnRule, At, LooksAt, HasTurn, TakesFrames, RefusesFrame, EndsAfter, TakesInput}
use Rattle.chain_input.specs.declared.cause.Cause.{Cause}
use Rattle.chain_input.specs.declared.cause.Cause.TheVariants as causes
use Rattle.chain_input.specs.declared.taking.Turn.{Turn}
use Rattle.chain_input.specs.declared.taking.Turn.TheVariants as turns
use Rattle.chain_input.specs.declared.taking.InputEnd.{InputEnd}
use Rattle.chain_input.specs.declared.taking.InputEnd.TheVariants as ends
use Rattle.chain_input.specs.declared.taking.InputStop.{InputStop}
use Rattle.chain_input.specs.declared.taking.InputStop.TheVariants as stops

module _ {T C E : Type 0} (turn : TurnRule T C E) where
  -- the turn of a frame that was read
  pub one_turn : (count more : ℕ) (before : At T C) (left : Option (List ℕ)) (taker : T) (frame : List ℕ) (result : Result (Turn C) E)
      → more ≡ count + 1 → LooksAt count before.left (Ok (Some (frame, more))) left → turn before.taker before.chain frame taker result → HasTurn turn count before left taker result
  one_turn count more before left taker frame result one_more read turn_is =
      record { frame = frame; read = subst (λ (n : ℕ). LooksAt count before.left (Ok (Some (frame, n))) left) one_more read; turn_is = turn_is }

  -- one more frame was taken
  pub one_more : (first before now : At T C) (count more : ℕ) → more ≡ count + 1 → TakesFrames turn first count before → HasTurn turn count before now.left now.taker (Ok (turns.Taken now.chain)) → TakesFrames turn first more now
  one_more first before now count more is so_far taken =
      let next : suc count ≡ more = omega (arith, is) in
      subst (λ (n : ℕ). TakesFrames turn first n now) next (before, so_far, taken)

  -- the form of the next frame is refused
  pub malformed : (count : ℕ) (before : At T C) (left : Option (List ℕ)) (error : FrameError) (cause : Cause) → LooksAt count before.left (Err error) left → IsCauseOf {E = InputStop E} stops.Fault stops.Memory error (Ok cause)
      → RefusesFrame turn count before left before.taker cause
  malformed count before left frames.Truncated cause read is =
      let same : causes.Truncated ≡ cause = cc is in
      subst (RefusesFrame turn count before left before.taker) same (read, refl)
  malformed count before left (frames.Length size) cause read is =
      let same : causes.Length size ≡ cause = cc is in
      subst (RefusesFrame turn count before left before.taker) same (read, refl)
  malformed count before left frames.Many cause read is =
      let same : causes.Many ≡ cause = cc is in
      subst (RefusesFrame turn count before left before.taker) same (read, refl)
  malformed count before left frames.Fault cause read is = absurd (cc is)
  malformed count before left frames.Memory cause read is = absurd (cc is)

  -- reading stopped before the next frame
  pub stopped : (count : ℕ) (before : At T C) (left : Option (List ℕ)) (error : FrameError) (stop : InputStop E) → IsCauseOf {E = InputStop E} stops.Fault stops.Memory error (Err stop) → EndsAfter turn count before left before.taker (Err stop)
  stopped count before left frames.Truncated stop is = absurd (cc is)
  stopped count before left (frames.Length size) stop is = absurd (cc is)
  stopped count before left frames.Many stop is = absurd (cc is)
  stopped count before left frames.Fault stop is =
      let same : stops.Fault ≡ stop = cc is in
      subst (λ (s : InputStop E). EndsAfter turn count before left before.taker (Err s)) same refl
  stopped count before left frames.Memory stop is =
      let same : stops.Memory ≡ stop = cc is in
      subst (λ (s : InputStop E). EndsAfter turn count before left before.taker (Err s)) same refl

  -- it ended after the frames that were taken
  pub ended : (first last : At T C) (count : ℕ) (left : Option (List ℕ)) (taker : T) (result : Result (InputEnd C) (InputStop E)) → count ≤ MAX_FRAMES → TakesFrames turn first count last → EndsAfter turn count last left taker result → TakesInput turn first left taker result
  ended first last count left taker result bound taken end = record { count = count; bound = bound; last = last; taken = taken; end = end }

  -- what holds before the first frame, and goes on with each frame that is taken, holds of all
  pub carried : (P : ℕ → At T C → Type 0) (first now : At T C) (count : ℕ) → count ≤ MAX_FRAMES → P 0 first
      → ((count : ℕ) (before after : At T C) → count ≤ MAX_FRAMES → P count before → HasTurn turn count before after.left after.taker (Ok (turns.Taken after.chain)) → P (count + 1) after)
      → TakesFrames turn first count now → P count now
  carried P first now zero bound begun goes_on taken = subst (P 0) (sym taken) begun
  carried P first now (suc count) bound begun goes_on (before, so_far, taken) =
      let fewer : count ≤ MAX_FRAMES = omega (arith, bound) in
      let next : count + 1 ≡ suc count = omega arith in
      subst (λ (n : ℕ). P n now) next (goes_on count before now fewer (carried P first before count fewer begun goes_on so_far) taken)

  -- what holds where the next look begins, and after the turn of a frame that is read there, holds
  -- at the end
  pub at_end : (P : T → Type 0) (count : ℕ) (before : At T C) (left : Option (List ℕ)) (taker : T) (result : Result (InputEnd C) (InputStop E)) → P before.taker
      → ((left : Option (List ℕ)) (turned : Result (Turn C) E) → HasTurn turn count before left taker turned → P taker) → EndsAfter turn count before left taker result → P taker
  at_end P count before left taker (Ok (ends.Whole chain)) here then end = subst P (sym end.1) here
  at_end P count before left taker (Ok (ends.Refused frame causes.Truncated)) here then (number, (look, same)) = subst P (sym same) here
  at_end P count before left taker (Ok (ends.Refused frame (causes.Length size))) here then (number, (look, same)) = subst P (sym same) here
  at_end P count before left taker (Ok (ends.Refused frame causes.Many)) here then (number, (look, same)) = subst P (sym same) here
  at_end P count before left taker (Ok (ends.Refused frame (causes.Block refusal))) here then (number, has) = then left (Ok (turns.Refused refusal)) has
  at_end P count before left taker (Err stops.Fault) here then same = subst P (sym same) here
  at_end P count before left taker (Err stops.Memory) here then same = subst P (sym same) here
  at_end P count before left taker (Err (stops.Taker stop)) here then has = then left (Err stop) has

  -- ---- a count of faults that each turn blames for a stop

  module _ (faults : T → ℕ) (stop : E) (each : (s t : T) (chain : C) (frame : List ℕ) (turned : Result (Turn C) E) → turn s chain frame t turned → HasCause (faults s) (faults t) (IsErrOf turned stop)) where
    turn_same : (s t : T) (chain : C) (frame : List ℕ) (turned : Turn C) → turn s chain frame t (Ok turned) → faults t ≡ faults s
    turn_same s t chain frame turned has =
        let cause = each s t chain frame (Ok turned) has in
        elim (cases_Bool (eqb (faults t) (faults s))) [
          | inl same ↦ eqb-true (faults t) (faults s) same
          | inr differ ↦
              let both : Ok turned ≡ Err stop = cause.told (λ is. true≢false (sym (eq-eqb (faults t) (faults s) is) ∙ differ)) in
              absurd (cc both)
        ]

    -- frames that are taken leave the count as it was
    pub unblamed : (first now : At T C) (count : ℕ) → count ≤ MAX_FRAMES → TakesFrames turn first count now → faults now.taker ≡ faults first.taker
    unblamed first now count bound taken =
        carried (λ (n : ℕ) (at : At T C). faults at.taker ≡ faults first.taker) first now count bound refl
        (λ n before after within so_far has. turn_same before.taker after.taker before.chain has.frame (turns.Taken after.chain) has.turn_is ∙ so_far) taken

    same_blames : (before now : ℕ) (B : Type 0) → now ≡ before → (B → ⊥) → HasCause before now B
    same_blames before now B same none = record { later = omega (arith, same); failed = λ blames. absurd (none blames); told = λ differ. absurd (differ same) }

    ends_blame : (count : ℕ) (first last : At T C) (left : Option (List ℕ)) (taker : T) (result : Result (InputEnd C) (InputStop E)) → faults last.taker ≡ faults first.taker → EndsAfter turn count last left taker result
        → HasCause (faults first.taker) (faults taker) (IsErrOf result (stops.Taker stop))
    ends_blame count first last left taker (Ok (ends.Whole chain)) same end = same_blames (faults first.taker) (faults taker) _ (ap faults end.1 ∙ same) (λ is. absurd (cc is))
    ends_blame count first last left taker (Ok (ends.Refused frame causes.Truncated)) same (number, (look, still)) = same_blames (faults first.taker) (faults taker) _ (ap faults still ∙ same) (λ is. absurd (cc is))
    ends_blame count first last left taker (Ok (ends.Refused frame (causes.Length size))) same (number, (look, still)) = same_blames (faults first.taker) (faults taker) _ (ap faults still ∙ same) (λ is. absurd (cc is))
    ends_blame count first last left taker (Ok (ends.Refused frame causes.Many)) same (number, (look, still)) = same_blames (faults first.taker) (faults taker) _ (ap faults still ∙ same) (λ is. absurd (cc is))
    ends_blame count first last left taker (Ok (ends.Refused frame (causes.Block refusal))) same (number, has) =
        same_blames (faults first.taker) (faults taker) _ (turn_same last.taker taker last.chain has.frame (turns.Refused refusal) has.turn_is ∙ same) (λ is. absurd (cc is))
    ends_blame count first last left taker (Err stops.Fault) same still = same_blames (faults first.taker) (faults taker) _ (ap faults still ∙ same) (λ is. absurd (cc is))
    ends_blame count first last left taker (Err stops.Memory) same still = same_blames (faults first.taker) (faults taker) _ (ap faults still ∙ same) (λ is. absurd (cc is))
    ends_blame count first last left taker (Err (stops.Taker other)) same has =
        let cause = each last.taker taker last.chain has.frame (Err other) has.turn_is in
        subst (λ (n : ℕ). HasCause n (faults taker) (IsErrOf {T = InputEnd C} (Err (stops.Taker other)) (stops.Taker stop))) same (record {
          later = cause.later;
          failed = λ blames. let is : other ≡ stop = cc blames in cause.failed (ap (λ (e : E). Err e) is);
          told = λ differ. let is : other ≡ stop = cc (cause.told differ) in ap (λ (e : E). Err (stops.Taker e)) is;
        })

    -- the count is blamed for the stop, from the first frame to the end
    pub blames : (first : At T C) (left : Option (List ℕ)) (taker : T) (result : Result (InputEnd C) (InputStop E)) → TakesInput turn first left taker result → HasCause (faults first.taker) (faults taker) (IsErrOf result (stops.Taker stop))
    blames first left taker result takes = ends_blame takes.count first takes.last left taker result (unblamed first takes.last takes.count takes.bound takes.taken) takes.end

  -- ---- the same turns, of another kind of taker

  module _ {U : Type 0} (f : T → U) (rule : TurnRule U C E) (as_rule : (s t : T) (chain : C) (frame : List ℕ) (turned : Result (Turn C) E) → turn s chain frame t turned → rule (f s) chain frame (f t) turned) where
    abbrev at_of : At T C → At U C
    at_of at = record { left = at.left; taker = f at.taker; chain = at.chain }

    turn_of : (count : ℕ) (before : At T C) (left : Option (List ℕ)) (taker : T) (turned : Result (Turn C) E) → HasTurn turn count before left taker turned → HasTurn rule count (at_of before) left (f taker) turned
    turn_of count before left taker turned has = record { frame = has.frame; read = has.read; turn_is = as_rule before.taker taker before.chain has.frame turned has.turn_is }

    frames_of : (first now : At T C) (count : ℕ) → TakesFrames turn first count now → TakesFrames rule (at_of first) count (at_of now)
    frames_of first now zero taken = ap at_of taken
    frames_of first now (suc count) (before, so_far, has) = (at_of before, frames_of first before count so_far, turn_of count before now.left now.taker (Ok (turns.Taken now.chain)) has)

    end_of : (count : ℕ) (before : At T C) (left : Option (List ℕ)) (taker : T) (result : Result (InputEnd C) (InputStop E)) → EndsAfter turn count before left taker result → EndsAfter rule count (at_of before) left (f taker) result
    end_of count before left taker (Ok (ends.Whole chain)) (look, same, kept) = (look, ap f same, kept)
    end_of count before left taker (Ok (ends.Refused frame causes.Truncated)) (number, (look, same)) = (number, (look, ap f same))
    end_of count before left taker (Ok (ends.Refused frame (causes.Length size))) (number, (look, same)) = (number, (look, ap f same))
    end_of count before left taker (Ok (ends.Refused frame causes.Many)) (number, (look, same)) = (number, (look, ap f same))
    end_of count before left taker (Ok (ends.Refused frame (causes.Block refusal))) (number, has) = (number, turn_of count before left taker (Ok (turns.Refused refusal)) has)
    end_of count before left taker (Err stops.Fault) same = ap f same
    end_of count before left taker (Err stops.Memory) same = ap f same
    end_of count before left taker (Err (stops.Taker stop)) has = turn_of count before left taker (Err stop) has

    pub input_of : (first : At T C) (left : Option (List ℕ)) (taker : T) (result : Result (InputEnd C) (InputStop E)) → TakesInput turn first left taker result → TakesInput rule (at_of first) left (f taker) result
    input_of first left taker result takes = record {
      count = takes.count;
      bound = takes.bound;
      last = at_of takes.last;
      taken = frames_of first takes.last takes.count takes.taken;
      end = end_of takes.count takes.last left taker result takes.end;
    }
