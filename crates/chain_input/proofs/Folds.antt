-- The fold by its looks at the start of an input: what a look that takes no frame says of it.
use Rattle.std.proofs.Common.{◌≡◌, ℕ, suc, ◌+◌, ◌-◌, ◌≤◌, List, [], drop, Option, Some, ap, subst, ◌∙◌, arith, append_assoc}
use Rattle.std.specs.Prelude.{◌++◌, None, Result, Ok, Err}
use Rattle.block_codec.specs.Frames.{frame_step, IsFrameAnswer}
use Rattle.block_codec.specs.Reading.{block_in}
use Rattle.block_codec.specs.declared.block.Block.{Block}
use Rattle.block_codec.specs.declared.error.FrameError.{FrameError}
use Rattle.block_codec.specs.declared.error.FrameError.TheVariants as errors
use Rattle.block_codec.specs.declared.limits.TheConstants.{MAX_FRAMES}
use Rattle.chain_replay.specs.Judging.{Placer, Taken, judgement_of}
use Rattle.chain_replay.specs.declared.refusal.Refusal.{Refusal}
use Rattle.chain_input.specs.Folding.{Fold, FoldEnd, Whole, Refused, ends_at, taken_before, fold_after_frame, fold_step, fold_from}
use Rattle.chain_input.specs.Taking.{TurnRule, At, LooksAt, RefusesFrame}
use Rattle.chain_input.specs.declared.cause.Cause.{Cause}
use Rattle.chain_input.specs.declared.cause.Cause.TheVariants as causes
use Rattle.chain_input.specs.declared.taking.Turn.TheVariants as turns

-- one step of the fold at the start of an input
abbrev pub step_at_start : Placer → (List Block → List ℕ → Fold) → ℕ → List Block → List ℕ → Fold
step_at_start place next count blocks input = fold_step block_in place next count blocks input (frame_step count input)

-- one look at the start of the input
pub folded_turn : (place : Placer) (count : ℕ) (blocks : List Block) (rest : List ℕ) → count ≤ MAX_FRAMES → fold_from block_in place (MAX_FRAMES + 1 - count) blocks rest ≡ step_at_start place (fold_from block_in place (MAX_FRAMES - count)) count blocks rest
unfolding fold_from
folded_turn place count blocks rest bound =
    let m : ℕ = MAX_FRAMES - count in
    let e : MAX_FRAMES + 1 - count ≡ suc m = omega arith in
    let t : MAX_FRAMES - m ≡ count = omega arith in
    ap (λ (n : ℕ). fold_from block_in place n blocks rest) e ∙ ap (λ (n : ℕ). fold_step block_in place (fold_from block_in place m) n blocks rest (frame_step n rest)) t

-- frames that are taken before others, and more before them
pub taken_taken : (a b : List Taken) (fold : Fold) → taken_before (a ++ b) fold ≡ taken_before a (taken_before b fold)
taken_taken a b fold = ap (λ (all : List Taken). record { taken = all; end = fold.end; left = fold.left }) (append_assoc a b fold.taken)

-- the fold ends here
pub record FoldEnds (place : Placer) (count : ℕ) (blocks : List Block) (rest : List ℕ) (left : Option (List ℕ)) (end : FoldEnd) : Type 0 where
  pub after_it : List ℕ
  pub left_is : left ≡ Some after_it
  pub is_end : (next : List Block → List ℕ → Fold) → step_at_start place next count blocks rest ≡ ends_at end after_it

-- what a look finds, if this is left
pub found : (count : ℕ) (before left : Option (List ℕ)) (rest : List ℕ) (answer : Result (Option (List ℕ × ℕ)) FrameError) → before ≡ Some rest → LooksAt count before answer left → IsFrameAnswer count rest answer left
found count before left rest answer is look = subst (λ (o : Option (List ℕ)). LooksAt count o answer left) is look

-- the input has ended
pub whole_ends : (place : Placer) (count : ℕ) (blocks : List Block) (before left : Option (List ℕ)) (rest : List ℕ) → before ≡ Some rest → LooksAt count before (Ok None) left → FoldEnds place count blocks rest left Whole
whole_ends place count blocks before left rest is look =
    let a = found count before left rest (Ok None) is look in
    record { after_it = []; left_is = a.1; is_end = λ next. ap (fold_step block_in place next count blocks rest) a.0 }

-- a frame goes on to a judgement, and then to what follows it
pub judged : (place : Placer) (count : ℕ) (blocks : List Block) (before left : Option (List ℕ)) (rest frame : List ℕ) → before ≡ Some rest → LooksAt count before (Ok (Some (frame, count + 1))) left
    → (others : List ℕ) × (left ≡ Some others) × ((next : List Block → List ℕ → Fold) → step_at_start place next count blocks rest ≡ fold_after_frame next count blocks others (judgement_of place blocks (block_in frame)))
judged place count blocks before left rest frame is look =
    let a = found count before left rest (Ok (Some (frame, count + 1))) is look in
    (a.0, a.2, λ next. ap (fold_step block_in place next count blocks rest) a.1)

-- the next frame is refused, by its form or by a taker that refuses what is judged so
pub refused_ends : {T C E : Type 0} (place : Placer) (turn : TurnRule T C E) (count : ℕ) (blocks : List Block) (before : At T C) (left : Option (List ℕ)) (taker : T) (cause : Cause) (rest : List ℕ) → before.left ≡ Some rest
    → ((frame : List ℕ) (refusal : Refusal) → turn before.taker before.chain frame taker (Ok (turns.Refused refusal)) → judgement_of place blocks (block_in frame) ≡ Err refusal)
    → RefusesFrame turn count before left taker cause → FoldEnds place count blocks rest left (Refused count cause)
refused_ends place turn count blocks before left taker causes.Truncated rest is as_judged (look, same) =
    let a = found count before.left left rest (Err errors.Truncated) is look in
    record { after_it = []; left_is = a.1; is_end = λ next. ap (fold_step block_in place next count blocks rest) a.0 }
refused_ends place turn count blocks before left taker (causes.Length size) rest is as_judged (look, same) =
    let a = found count before.left left rest (Err (errors.Length size)) is look in
    record { after_it = drop 4 rest; left_is = a.1; is_end = λ next. ap (fold_step block_in place next count blocks rest) a.0 }
refused_ends place turn count blocks before left taker causes.Many rest is as_judged (look, same) =
    let a = found count before.left left rest (Err errors.Many) is look in
    record { after_it = drop 4 rest; left_is = a.1; is_end = λ next. ap (fold_step block_in place next count blocks rest) a.0 }
refused_ends place turn count blocks before left taker (causes.Block refusal) rest is as_judged has =
    let j = judged place count blocks before.left left rest has.frame is has.read in
    record { after_it = j.0; left_is = j.1; is_end = λ next. j.2 next ∙ ap (fold_after_frame next count blocks j.0) (as_judged has.frame refusal has.turn_is) }
