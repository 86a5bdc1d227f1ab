-- The fold of an input into a chain, by the turns of its frames.
use Rattle.std.proofs.Common.{◌≡◌, ℕ, ◌+◌, ◌-◌, ◌≤◌, List, [], ◌∷◌, ◌++◌, Option, Some, None, refl, sym, ap, subst, ◌∙◌, arith, append-nil}
use Rattle.std.specs.Prelude.{Result, Ok, IfSome}
use Rattle.std.proofs.lemmas.Grind.{flat_map-append}
use Rattle.block_codec.specs.Reading.{block_in}
use Rattle.block_codec.specs.declared.block.Block.{Block}
use Rattle.block_codec.specs.declared.block.TheConstants.{FIRST_VERSION}
use Rattle.block_codec.specs.declared.limits.TheConstants.{MAX_FRAMES}
use Rattle.chain_replay.specs.chain_exec.Compiled.{compiled_in}
use Rattle.chain_replay.specs.chain_exec.Replay.{replay}
use Rattle.chain_replay.specs.Chain.{ChainState, nothing_kept, StandsFor, placement_in}
use Rattle.chain_replay.specs.Judging.{Placer, Taken, added_by, added_by_all}
use Rattle.chain_input.specs.Folding.{Fold, FoldEnd, Whole, Refused, ends_at, taken_before, fold_after_frame, fold_from, fold_input}
use Rattle.chain_input.specs.Taking.{TurnRule, At, HasTurn, TakesInput}
use Rattle.chain_input.specs.Turns.{StandsWithLast, IsTurnIn, IsFoldResult}
use Rattle.chain_input.specs.declared.cause.Cause.{Cause}
use Rattle.chain_input.specs.declared.taking.Turn.{Turn}
use Rattle.chain_input.specs.declared.taking.Turn.TheVariants as turns
use Rattle.chain_input.specs.declared.taking.InputEnd.{InputEnd}
use Rattle.chain_input.specs.declared.taking.InputEnd.TheVariants as ends
use Rattle.chain_input.specs.declared.taking.InputStop.{InputStop}
use Rattle.chain_input.specs.declared.folding.Folded.TheVariants as found
use Rattle.chain_input.proofs.Taken.{carried}
use Rattle.chain_input.proofs.Folds.{folded_turn, taken_taken, FoldEnds, whole_ends, judged, refused_ends}

-- the place of a block in a chain that no log keeps
abbrev by_versions : Placer
by_versions = placement_in compiled_in

-- the fold of what is left, after the frames that were taken, is the fold of the whole input
record IsLeft (input : List ℕ) (left : Option (List ℕ)) (count : ℕ) (last : ℕ) (chain : ChainState) : Type 0 where
  taken : List Taken
  rest : List ℕ
  left_is : left ≡ Some rest
  stands : StandsWithLast chain last (added_by_all taken)
  same : taken_before taken (fold_from block_in by_versions (MAX_FRAMES + 1 - count) (added_by_all taken) rest) ≡ fold_input block_in by_versions input

no_blocks : StandsFor nothing_kept []
unfolding replay
no_blocks = record { chained = λ i block within. absurd (omega arith); digests_are = refl; history_is = refl }

-- the blocks that one more frame adds
added_push : (taken : List Taken) (frame : Taken) → added_by_all (taken ++ frame ∷ []) ≡ added_by_all taken ++ added_by frame
added_push taken frame = flat_map-append added_by taken (frame ∷ []) ∙ ap (λ (blocks : List Block). added_by_all taken ++ blocks) (append-nil (added_by frame))

module _ {T E : Type 0} (turn : TurnRule T ChainState E) (last_of : T → ℕ)
    (as_turn : (s t : T) (chain : ChainState) (frame : List ℕ) (turned : Turn ChainState) → turn s chain frame t (Ok turned) → IsTurnIn (last_of s) chain frame (last_of t) turned) where
  -- one more frame was taken
  taken_in : (input : List ℕ) (count : ℕ) (before after : At T ChainState) → count ≤ MAX_FRAMES → IsLeft input before.left count (last_of before.taker) before.chain
      → HasTurn turn count before after.left after.taker (Ok (turns.Taken after.chain)) → IsLeft input after.left (count + 1) (last_of after.taker) after.chain
  taken_in input count before after bound l has =
      let t = as_turn before.taker after.taker before.chain has.frame (turns.Taken after.chain) has.turn_is (added_by_all l.taken) l.stands in
      let j = judged by_versions count (added_by_all l.taken) before.left after.left l.rest has.frame l.left_is has.read in
      let fewer : MAX_FRAMES + 1 - (count + 1) ≡ MAX_FRAMES - count = omega arith in
      let added : added_by_all (l.taken ++ t.0 ∷ []) ≡ added_by_all l.taken ++ added_by t.0 = added_push l.taken t.0 in
      let next : List Block → List ℕ → Fold = fold_from block_in by_versions (MAX_FRAMES - count) in
      record {
        taken = l.taken ++ t.0 ∷ [];
        rest = j.0;
        left_is = j.1;
        stands = subst (StandsWithLast after.chain (last_of after.taker)) (sym added) t.2;
        same =
            ap (λ (n : ℕ). taken_before (l.taken ++ t.0 ∷ []) (fold_from block_in by_versions n (added_by_all (l.taken ++ t.0 ∷ [])) j.0)) fewer
            ∙ ap (λ (blocks : List Block). taken_before (l.taken ++ t.0 ∷ []) (next blocks j.0)) added
            ∙ taken_taken l.taken (t.0 ∷ []) (next (added_by_all l.taken ++ added_by t.0) j.0)
            ∙ ap (taken_before l.taken) (sym (folded_turn by_versions count (added_by_all l.taken) l.rest bound ∙ j.2 next ∙ ap (fold_after_frame next count (added_by_all l.taken) j.0) t.1))
            ∙ l.same;
      }

  -- the fold ends after the frames that were taken
  fold_is : (input : List ℕ) (count : ℕ) (before : At T ChainState) (left : Option (List ℕ)) (end : FoldEnd) → count ≤ MAX_FRAMES → (l : IsLeft input before.left count (last_of before.taker) before.chain) → (s : FoldEnds by_versions count (added_by_all l.taken) l.rest left end)
      → taken_before l.taken (ends_at end s.after_it) ≡ fold_input block_in by_versions input
  fold_is input count before left end bound l s = sym (ap (taken_before l.taken) (folded_turn by_versions count (added_by_all l.taken) l.rest bound ∙ s.is_end (fold_from block_in by_versions (MAX_FRAMES - count)))) ∙ l.same

  -- the frames that were taken, all together
  all_taken : (input : List ℕ) (taker : T) → last_of taker ≡ FIRST_VERSION → (left : Option (List ℕ)) (last : T) (result : Result (InputEnd ChainState) (InputStop E)) → (takes : TakesInput turn (record { left = Some input; taker = taker; chain = nothing_kept }) left last result)
      → IsLeft input takes.last.left takes.count (last_of takes.last.taker) takes.last.chain
  all_taken input taker none left last result takes =
      carried turn (λ (count : ℕ) (at : At T ChainState). IsLeft input at.left count (last_of at.taker) at.chain) (record { left = Some input; taker = taker; chain = nothing_kept }) takes.last takes.count takes.bound
      (record { taken = []; rest = input; left_is = refl; stands = record { kept = no_blocks; last_is = none }; same = refl })
      (taken_in input) takes.taken

  -- the input has ended
  pub folded_whole : (first : Option (List ℕ)) (taker : T) → last_of taker ≡ FIRST_VERSION → (left : Option (List ℕ)) (last : T) (chain : ChainState) → TakesInput turn (record { left = first; taker = taker; chain = nothing_kept }) left last (Ok (ends.Whole chain))
      → IfSome first (λ input. IsFoldResult (found.Whole chain) left (fold_input block_in by_versions input))
  folded_whole None taker none left last chain takes = tt
  folded_whole (Some input) taker none left last chain takes =
      let l = all_taken input taker none left last (Ok (ends.Whole chain)) takes in
      let s = whole_ends by_versions takes.count (added_by_all l.taken) takes.last.left left l.rest l.left_is takes.end.0 in
      subst (λ (fold : Fold). IsFoldResult (found.Whole chain) left fold) (fold_is input takes.count takes.last left Whole takes.bound l s)
      (refl, subst (λ (frames : List Taken). StandsFor chain (added_by_all frames)) (sym (append-nil l.taken)) (subst (λ (c : ChainState). StandsFor c (added_by_all l.taken)) (sym takes.end.2) l.stands.kept), s.left_is)

  -- a frame is refused
  pub folded_refusal : (first : Option (List ℕ)) (taker : T) → last_of taker ≡ FIRST_VERSION → (left : Option (List ℕ)) (last : T) (frame : ℕ) (cause : Cause) → TakesInput turn (record { left = first; taker = taker; chain = nothing_kept }) left last (Ok (ends.Refused frame cause))
      → IfSome first (λ input. IsFoldResult (found.Refused frame cause) left (fold_input block_in by_versions input))
  folded_refusal None taker none left last frame cause takes = tt
  folded_refusal (Some input) taker none left last frame cause takes =
      let l = all_taken input taker none left last (Ok (ends.Refused frame cause)) takes in
      let s = refused_ends by_versions turn takes.count (added_by_all l.taken) takes.last left last cause l.rest l.left_is
      (λ bytes refusal refused. as_turn takes.last.taker last takes.last.chain bytes (turns.Refused refusal) refused (added_by_all l.taken) l.stands) takes.end.1 in
      let number : Refused takes.count cause ≡ Refused frame cause = ap (λ (n : ℕ). Refused n cause) (sym takes.end.0) in
      subst (λ (fold : Fold). IsFoldResult (found.Refused frame cause) left fold) (fold_is input takes.count takes.last left (Refused takes.count cause) takes.bound l s)
      (number, s.left_is)
