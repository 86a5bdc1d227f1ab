-- If an input consists of bytes, so do a frame of it and what follows the frame.
use Rattle.std.proofs.Common.{◌≡◌, ◌⊎◌, inl, inr, ℕ, Bool, true, false, cond, eqb, ltb, List, length, take, drop, subst}
use Rattle.std.specs.Int.{w32, from_be_bytes}
use Rattle.byte_fields.specs.Spelling.{IsBytes}
use Rattle.byte_fields.proofs.Pieces.{IsBytes-drop, IsBytes-take}
use Rattle.block_codec.specs.Frames.{FrameStep, End, Truncated, Length, Many, Frame, frame_of, sized_frame, frame_step}
use Rattle.block_codec.specs.declared.limits.TheConstants.{MAX_FRAMES}

one_of : (b : Bool) (s t : FrameStep) (step : FrameStep) → cond b s t ≡ step → (s ≡ step) ⊎ (t ≡ step)
one_of true s t step e = inl e
one_of false s t step e = inr e

-- a frame is the first bytes after its length, and the rest follows it
taken_frame : (count : ℕ) (input frame rest : List ℕ) → IsBytes input → frame_of count input ≡ Frame frame rest → IsBytes frame × IsBytes rest
taken_frame count input frame rest fits e =
    elim (one_of (ltb (length input) count) Truncated (Frame (take count input) (drop count input)) (Frame frame rest) e) [
      | inl wrong ↦ absurd cc
      | inr is ↦
          let frame_is : take count input ≡ frame = cc in
          let rest_is : drop count input ≡ rest = cc in
          (subst IsBytes frame_is (IsBytes-take count input fits), subst IsBytes rest_is (IsBytes-drop count input fits))
    ]

many_or_frame : (taken count : ℕ) (input frame rest : List ℕ) → IsBytes input → cond (eqb taken MAX_FRAMES) Many (frame_of count input) ≡ Frame frame rest → IsBytes frame × IsBytes rest
many_or_frame taken count input frame rest fits e =
    elim (one_of (eqb taken MAX_FRAMES) Many (frame_of count input) (Frame frame rest) e) [
      | inl wrong ↦ absurd cc
      | inr is ↦ taken_frame count input frame rest fits is
    ]

length_or_frame : (bad : Bool) (taken count : ℕ) (input frame rest : List ℕ) → IsBytes input
    → cond bad (Length count) (cond (eqb taken MAX_FRAMES) Many (frame_of count input)) ≡ Frame frame rest → IsBytes frame × IsBytes rest
length_or_frame true taken count input frame rest fits e = absurd cc
length_or_frame false taken count input frame rest fits e = many_or_frame taken count input frame rest fits e

header_or_frame : (empty short : Bool) (step : FrameStep) (frame rest : List ℕ) → cond empty End (cond short Truncated step) ≡ Frame frame rest → step ≡ Frame frame rest
header_or_frame true short step frame rest e = absurd cc
header_or_frame false true step frame rest e = absurd cc
header_or_frame false false step frame rest e = e

pub frame_bytes : (taken : ℕ) (input frame rest : List ℕ) → IsBytes input → frame_step taken input ≡ Frame frame rest → IsBytes frame × IsBytes rest
unfolding frame_step
frame_bytes taken input frame rest fits e =
    let count : ℕ = from_be_bytes w32 (take 4 input) in
    let sized : sized_frame taken count (drop 4 input) ≡ Frame frame rest = header_or_frame (eqb (length input) 0) (ltb (length input) 4) (sized_frame taken count (drop 4 input)) frame rest e in
    length_or_frame _ taken count (drop 4 input) frame rest (IsBytes-drop 4 input fits) sized
