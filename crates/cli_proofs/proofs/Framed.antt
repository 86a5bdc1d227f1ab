-- The frames of an input, by its looks at the start of what is left.
use Rattle.std.proofs.Common.{◌≡◌, ℕ, suc, ◌+◌, ◌-◌, ◌≤◌, List, [], ◌∷◌, ◌++◌, drop, refl, sym, ap}
use Rattle.std.proofs.Common.{◌∙◌, subst, arith, append_assoc, append-nil}
use Rattle.std.specs.Prelude.{Option, Some, None, Result, Ok, Err}
use Rattle.block_codec.specs.Frames.{frame_step, IsFrameAnswer}
use Rattle.block_codec.specs.declared.error.FrameError.{FrameError}
use Rattle.block_codec.specs.declared.error.FrameError.TheVariants as errors
use Rattle.block_codec.specs.declared.limits.TheConstants.{MAX_FRAMES}
use Rattle.chain_input.specs.Folding.{FoldEnd, Whole, Refused}
use Rattle.chain_input.specs.Taking.{LooksAt}
use Rattle.chain_input.specs.declared.cause.Cause.{Cause}
use Rattle.chain_input.specs.declared.cause.Cause.TheVariants as causes
use Rattle.cli_output.specs.Frames.{Framed, no_frame, frame_before, framed_step, framed_from}
use Rattle.cli_output.specs.Frames.{framed}

-- these frames, and then others
abbrev pub frames_before : List (List ℕ) → Framed → Framed
frames_before frames others =
    record { frames = frames ++ others.frames; end = others.end; left = others.left }

-- one look at the start of what is left
framed_turn : (count : ℕ) (rest : List ℕ) → count ≤ MAX_FRAMES
    → framed_from (MAX_FRAMES + 1 - count) rest
    ≡ framed_step (framed_from (MAX_FRAMES - count)) count rest (frame_step count rest)
unfolding framed_from
framed_turn count rest bound =
    let m : ℕ = MAX_FRAMES - count in
    let e : MAX_FRAMES + 1 - count ≡ suc m = omega arith in
    let t : MAX_FRAMES - m ≡ count = omega arith in
    ap (λ (n : ℕ). framed_from n rest) e
    ∙ ap (λ (n : ℕ). framed_step (framed_from m) n rest (frame_step n rest)) t

-- the frames so far, and then those of what is left, are all frames of the input
pub record Leads (input : List ℕ) (left : Option (List ℕ)) (count : ℕ)
    (frames : List (List ℕ)) : Type 0 where
  pub rest : List ℕ
  pub left_is : left ≡ Some rest
  pub same : framed input ≡ frames_before frames (framed_from (MAX_FRAMES + 1 - count) rest)

pub leads_first : (input : List ℕ) (left : Option (List ℕ)) → left ≡ Some input
    → Leads input left 0 []
leads_first input left is = record { rest = input; left_is = is; same = refl }

-- what a look finds, if this is left
looked : (count : ℕ) (before left : Option (List ℕ)) (rest : List ℕ)
    (answer : Result (Option (List ℕ × ℕ)) FrameError) → before ≡ Some rest
    → LooksAt count before answer left → IsFrameAnswer count rest answer left
looked count before left rest answer is look =
    subst (λ (o : Option (List ℕ)). LooksAt count o answer left) is look

-- one more frame
pub leads_more : (input : List ℕ) (before left : Option (List ℕ)) (count : ℕ)
    (frames : List (List ℕ)) (frame : List ℕ) → count ≤ MAX_FRAMES
    → LooksAt count before (Ok (Some (frame, count + 1))) left → Leads input before count frames
    → Leads input left (count + 1) (frames ++ frame ∷ [])
leads_more input before left count frames frame bound look leads =
    let a = looked count before left leads.rest (Ok (Some (frame, count + 1))) leads.left_is look in
    let fewer : MAX_FRAMES - count ≡ MAX_FRAMES + 1 - (count + 1) = omega arith in
    let others : Framed = framed_from (MAX_FRAMES + 1 - (count + 1)) a.0 in
    record {
      rest = a.0;
      left_is = a.2;
      same = leads.same
          ∙ ap (frames_before frames) (framed_turn count leads.rest bound
          ∙ ap (framed_step (framed_from (MAX_FRAMES - count)) count leads.rest) a.1
          ∙ ap (λ (n : ℕ). frame_before frame (framed_from n a.0)) fewer)
          ∙ ap (λ (all : List (List ℕ)). record { frames = all; end = others.end; left = others.left })
          (sym (append_assoc frames (frame ∷ []) others.frames));
    }

-- ---- the end

-- these are all frames of the input, and they end so
pub record Ends (input : List ℕ) (left : Option (List ℕ)) (frames : List (List ℕ))
    (end : FoldEnd) : Type 0 where
  pub after_it : List ℕ
  pub left_is : left ≡ Some after_it
  pub same : framed input ≡ record { frames = frames; end = end; left = after_it }

ends_by : (input : List ℕ) (before left : Option (List ℕ)) (count : ℕ) (frames : List (List ℕ))
    (end : FoldEnd) (after_it : List ℕ) → count ≤ MAX_FRAMES → left ≡ Some after_it
    → (leads : Leads input before count frames)
    → framed_step (framed_from (MAX_FRAMES - count)) count leads.rest (frame_step count leads.rest)
    ≡ no_frame end after_it → Ends input left frames end
ends_by input before left count frames end after_it bound left_is leads is = record {
  after_it = after_it;
  left_is = left_is;
  same = leads.same
      ∙ ap (frames_before frames) (framed_turn count leads.rest bound ∙ is)
      ∙ ap (λ (all : List (List ℕ)). record { frames = all; end = end; left = after_it })
      (append-nil frames);
}

-- the input has ended
pub whole_ends : (input : List ℕ) (before left : Option (List ℕ)) (count : ℕ)
    (frames : List (List ℕ)) → count ≤ MAX_FRAMES → LooksAt count before (Ok None) left
    → Leads input before count frames → Ends input left frames Whole
whole_ends input before left count frames bound look leads =
    let a = looked count before left leads.rest (Ok None) leads.left_is look in
    ends_by input before left count frames Whole [] bound a.1 leads
    (ap (framed_step (framed_from (MAX_FRAMES - count)) count leads.rest) a.0)

-- the next frame is refused for its form
pub truncated_ends : (input : List ℕ) (before left : Option (List ℕ)) (count : ℕ)
    (frames : List (List ℕ)) → count ≤ MAX_FRAMES → LooksAt count before (Err errors.Truncated) left
    → Leads input before count frames → Ends input left frames (Refused count causes.Truncated)
truncated_ends input before left count frames bound look leads =
    let a = looked count before left leads.rest (Err errors.Truncated) leads.left_is look in
    ends_by input before left count frames (Refused count causes.Truncated) [] bound a.1 leads
    (ap (framed_step (framed_from (MAX_FRAMES - count)) count leads.rest) a.0)

pub length_ends : (input : List ℕ) (before left : Option (List ℕ)) (count size : ℕ)
    (frames : List (List ℕ)) → count ≤ MAX_FRAMES
    → LooksAt count before (Err (errors.Length size)) left → Leads input before count frames
    → Ends input left frames (Refused count (causes.Length size))
length_ends input before left count size frames bound look leads =
    let a = looked count before left leads.rest (Err (errors.Length size)) leads.left_is look in
    ends_by input before left count frames (Refused count (causes.Length size)) (drop 4 leads.rest)
    bound a.1 leads (ap (framed_step (framed_from (MAX_FRAMES - count)) count leads.rest) a.0)

pub many_ends : (input : List ℕ) (before left : Option (List ℕ)) (count : ℕ)
    (frames : List (List ℕ)) → count ≤ MAX_FRAMES → LooksAt count before (Err errors.Many) left
    → Leads input before count frames → Ends input left frames (Refused count causes.Many)
many_ends input before left count frames bound look leads =
    let a = looked count before left leads.rest (Err errors.Many) leads.left_is look in
    ends_by input before left count frames (Refused count causes.Many) (drop 4 leads.rest) bound a.1
    leads (ap (framed_step (framed_from (MAX_FRAMES - count)) count leads.rest) a.0)
