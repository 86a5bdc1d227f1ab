-- The loop's invariant: the frames taken so far, and then the fold of what is left, are the whole
-- fold.
use Rattle.std.proofs.Common.{◌≡◌, inl, inr, ℕ, ◌+◌, ◌-◌, ◌≤◌, Bool, true, false, List, [], ◌∷◌}
use Rattle.std.proofs.Common.{◌++◌, refl, sym, ◌∙◌, ap, subst, arith, append_assoc, append-nil}
use Rattle.std.specs.Prelude.{Option, Some, None, Result, Ok, Err, is_ok, IfOk, IfSome, take}
use Rattle.lc_io.specs.Disk.{DiskState, Stays}
use Rattle.lc_io.specs.Outside.{Tell}
use Rattle.disk_model.specs.Disk.{Keeps, Rests}
use Rattle.disk_model.proofs.Calls.{stay_keeps}
use Rattle.disk_model.proofs.Moments.{then_keeps, weaker, stays_on}
use Rattle.block_codec.specs.Frames.{IsFrameAnswer}
use Rattle.block_codec.specs.Reading.{block_in}
use Rattle.block_codec.specs.declared.limits.TheConstants.{MAX_FRAMES}
use Rattle.block_codec.specs.declared.block.Block.{Block}
use Rattle.block_log.specs.Standing.{Logged}
use Rattle.chain_exec.specs.Compiled.{compiled_in}
use Rattle.chain_replay.specs.Judging.{Taken, judgement_of, added_by, added_by_all}
use Rattle.chain_replay.specs.declared.refusal.Refusal.{Refusal}
use Rattle.cli_promises.specs.cli_lines.Lines.{refused_line}
use Rattle.chain_input.specs.Folding.{Fold, FoldEnd, Whole, Refused, ends_at}
use Rattle.chain_input.specs.Folding.{taken_before, fold_after_frame, fold_step}
use Rattle.chain_input.specs.Folding.{fold_from}
use Rattle.chain_input.specs.declared.cause.Cause.{Cause}
use Rattle.chain_input.specs.declared.cause.Cause.TheVariants as causes
use Rattle.cli_promises.specs.recovery.Node.{NodeState, IsNodeOf, IsStepOf, next_in_chain, chain_in}
use Rattle.cli_promises.specs.recovery.Node.{stored_placement, logged_in}
use Rattle.cli_promises.specs.Promises.{Line, plain, IsPartly, Telling}
use Rattle.cli_promises.proofs.Tellings.{join, longer, none_to_tell, still}
use Rattle.cli_promises.proofs.Sure.{all_sure_kept, partly_more, partly_held}
use Rattle.cli_promises.specs.Appending.{IsKnown, line_of, lines_of, end_lines, fold_lines}
use Rattle.cli_promises.specs.Appending.{fold_end}
use Rattle.cli_promises.specs.Appending.{HasEnded, AppendsAll, GoesFrom}
use Rattle.chain_input.specs.declared.taking.Turn.{Turn}
use Rattle.chain_input.specs.declared.taking.Turn.TheVariants as turns
use Rattle.chain_input.proofs.Folds.{folded_turn, taken_taken, FoldEnds, whole_ends}
use Rattle.cli_append.specs.Steps.{lines_for, added_for, Takes}
use Rattle.cli_promises.specs.declared.ending.RunEnd.{RunEnd}
use Rattle.cli_promises.specs.declared.ending.RunEnd.TheVariants as ends
use Rattle.cli_promises.specs.declared.ending.RunStop.{RunStop}
use Rattle.cli_append.proofs.Stored.{Stored, held, nothing_stored, then_frame, then_stop}
use Rattle.cli_append.proofs.Promised.{added_append, added_push, lines_append}
use Rattle.cli_promises.proofs.Resting.{rests_each, with_none}
use Rattle.cli_append.proofs.Frames.{stands_at, still_known, takes_by}

-- ---- the fold

-- the fold of all frames of an input, from this chain on
abbrev fold_all : Logged → List ℕ → Fold
fold_all logged input = fold_from block_in (stored_placement logged.marked) (MAX_FRAMES + 1)
    logged.blocks input

-- ---- the fold of what is left, after the frames that were taken, is the fold of the whole input

pub record Leads (input : List ℕ) (left : Option (List ℕ)) (count : ℕ) (first : Logged) (blocks : List Block) (taken : List Taken) : Type 0 where
  pub rest : List ℕ
  pub left_is : left ≡ Some rest
  pub same : fold_all first input ≡ taken_before taken
      (fold_from block_in (stored_placement first.marked) (MAX_FRAMES + 1 - count) blocks rest)

-- what follows a frame that was judged: its line and block, and then others
judged_lines : (next : List Block → List ℕ → Fold) (count : ℕ) (blocks : List Block) (rest : List ℕ)
    (judgement : Result Taken Refusal)
    → (more : List Line) × (fold_lines compiled_in blocks (fold_after_frame next count blocks rest
    judgement) ≡ lines_for blocks judgement ++ more)
judged_lines next count blocks rest (Ok frame) =
    let f = next (blocks ++ added_by frame) rest in
    (lines_of compiled_in (blocks ++ added_by frame) f.taken ++ end_lines f.end, refl)
judged_lines next count blocks rest (Err refusal) =
    (end_lines (Refused count (causes.Block refusal)), refl)

judged_added : (next : List Block → List ℕ → Fold) (count : ℕ) (blocks : List Block) (rest : List ℕ)
    (judgement : Result Taken Refusal)
    → (others : List Block) × (added_by_all (fold_after_frame next count blocks rest
    judgement).taken ≡ added_for judgement ++ others)
judged_added next count blocks rest (Ok frame) =
    (added_by_all (next (blocks ++ added_by frame) rest).taken, refl)
judged_added next count blocks rest (Err refusal) = ([], refl)

-- the lines of all frames, if some were taken before the others
lines_before : (first : List Block) (taken : List Taken) (fold : Fold)
    → fold_lines compiled_in first (taken_before taken fold) ≡ lines_of compiled_in first taken
    ++ fold_lines compiled_in (first ++ added_by_all taken) fold
lines_before first taken fold =
    ap (λ (l : List Line). l ++ end_lines fold.end) (lines_append first taken fold.taken)
    ∙ append_assoc (lines_of compiled_in first taken)
    (lines_of compiled_in (first ++ added_by_all taken) fold.taken) (end_lines fold.end)

module _ {D : Type 0} (now : D → ℕ) (disk : D → ℕ → Option DiskState)
    (told : D → Option (List Tell)) where
  pub record Progress (old new : D) (node : NodeState) (count : ℕ) (left_old left_new : Option (List ℕ)) (first : Logged) : Type 0 where
    pub taken : List Taken
    pub blocks : List Block
    pub stored : Stored now disk told old new node first blocks (added_by_all taken)
        (lines_of compiled_in first.blocks taken)
    pub leads : (input : List ℕ) → left_old ≡ Some input
        → Leads input left_new count first blocks taken

  pub begun : (old : D) (node : NodeState) (left : Option (List ℕ)) (first : Logged)
      → node.log.is_marked ≡ first.marked → IsNodeOf node (disk old (now old)) first.blocks
      → Progress old old node 0 left left first
  begun old node left first mark is = record {
    taken = [];
    blocks = first.blocks;
    stored = nothing_stored now disk told old node first mark is;
    leads = λ input is. record { rest = input; left_is = is; same = refl };
  }

  -- the node of the frames so far is that of some blocks
  pub node_is : (old new : D) (node : NodeState) (count : ℕ) (left_old left_new : Option (List ℕ))
      (first : Logged)
      → Progress old new node count left_old left_new first
      → (blocks : List Block) × IsNodeOf node (disk new (now new)) blocks
  node_is old new node count left_old left_new first p = (p.blocks, p.stored.is_node)

  -- one more frame
  pub goes_on : (old mid new : D) (node longer_node : NodeState) (count more : ℕ)
      (left_old left_mid left_new : Option (List ℕ)) (first : Logged) (bytes : List ℕ)
      → Progress old mid node count left_old left_mid first → count ≤ MAX_FRAMES → more ≡ count + 1
      → IfSome left_mid (λ input. IsFrameAnswer count input (Ok (Some (bytes, more))) left_new)
      → ((blocks : List Block) → IsNodeOf node (disk mid (now mid)) blocks → Takes now disk told mid
      new (logged_in node.log blocks) (judgement_of (stored_placement node.log.is_marked) blocks
      (block_in bytes)) (Ok (turns.Taken longer_node)))
      → Progress old new longer_node more left_old left_new first
  goes_on old mid new node longer_node count more left_old left_mid left_new first bytes p bound
      one_more answer takes =
      let j : Result Taken Refusal = judgement_of (stored_placement first.marked) p.blocks
      (block_in bytes) in
      let t = takes_by now disk told mid new node (held first p.blocks) (block_in bytes)
      (Ok (turns.Taken longer_node)) p.stored.mark_is (takes p.blocks p.stored.is_node) in
      let frame : Taken = t.answer.0 in
      let e : j ≡ Ok frame = t.answer.1 in
      let lines : List Line = lines_of compiled_in first.blocks p.taken in
      let all : List Taken = p.taken ++ frame ∷ [] in
      let added : added_by_all all ≡ added_by_all p.taken ++ added_by frame = added_push p.taken
      frame in
      let lines_are : lines_of compiled_in first.blocks all ≡ lines ++ line_of compiled_in p.blocks
      frame ∷ [] =
      lines_append first.blocks p.taken (frame ∷ [])
      ∙ ap (λ (l : List Block). lines ++ line_of compiled_in l frame ∷ [])
      (sym p.stored.blocks_are) in
      record {
        taken = all;
        blocks = p.blocks ++ added_by frame;
        stored = subst (λ (blocks : List Block). Stored now disk told old new longer_node first
            (p.blocks ++ added_by frame) blocks (lines_of compiled_in first.blocks all)) (sym added)
            (subst (λ (ls : List Line). Stored now disk told old new longer_node first
            (p.blocks ++ added_by frame) (added_by_all p.taken ++ added_by frame) ls)
            (sym lines_are)
            (then_frame now disk told old mid new node longer_node first p.blocks
            (added_by_all p.taken) lines (block_in bytes) p.stored t));
        leads = λ input is.
            let l = p.leads input is in
            let a = subst (λ (o : Option (List ℕ)). IfSome o (λ rest. IsFrameAnswer count rest
            (Ok (Some (bytes, more))) left_new)) l.left_is answer in
            let next : List Block → List ℕ → Fold = fold_from block_in
            (stored_placement first.marked) (MAX_FRAMES - count) in
            let fewer : MAX_FRAMES - count ≡ MAX_FRAMES + 1 - more = omega (arith, one_more) in
            record {
              rest = a.0;
              left_is = a.2;
              same = l.same
                  ∙ ap (taken_before p.taken) (folded_turn (stored_placement first.marked) count
                  p.blocks l.rest bound ∙ ap (fold_step block_in (stored_placement first.marked)
                  next count p.blocks l.rest) a.1
                  ∙ ap (fold_after_frame next count p.blocks a.0) e)
                  ∙ sym (taken_taken p.taken (frame ∷ []) (next (p.blocks ++ added_by frame) a.0))
                  ∙ ap (λ (n : ℕ). taken_before all
                  (fold_from block_in (stored_placement first.marked) n
                  (p.blocks ++ added_by frame) a.0)) fewer;
            };
      }

  -- ---- the end

  -- the fold ends here
  ends_same : (old new : D) (node : NodeState) (count : ℕ) (left_old left_mid left : Option
      (List ℕ)) (first : Logged) (end : FoldEnd) (input : List ℕ)
      → (p : Progress old new node count left_old left_mid first) → count ≤ MAX_FRAMES
      → (l : Leads input left_mid count first p.blocks p.taken)
      → (s : FoldEnds (stored_placement first.marked) count p.blocks l.rest left end)
      → taken_before p.taken (ends_at end s.after_it) ≡ fold_all first input
  ends_same old new node count left_old left_mid left first end input p bound l s = sym (l.same
      ∙ ap (taken_before p.taken) (folded_turn (stored_placement first.marked) count p.blocks l.rest
      bound ∙ s.is_end (fold_from block_in (stored_placement first.marked) (MAX_FRAMES - count))))

  -- what was printed and left up to the end of the fold
  all_of : (old new : D) (left : Option (List ℕ)) (first : Logged) (blocks : List Block)
      (taken : List Taken) (end : FoldEnd) (rest : List ℕ) (result : Result RunEnd RunStop)
      → (IsKnown (disk old (now old)) → Keeps now disk old new (IsPartly next_in_chain first
      (added_by_all taken))) → blocks ≡ first.blocks ++ added_by_all taken
      → (IsKnown (disk old (now old)) → Telling next_in_chain now disk told old new
      (lines_of compiled_in first.blocks taken ++ end_lines end) (is_ok result))
      → IfOk result (λ answer. fold_end answer ≡ end)
      → left ≡ Some rest → Rests (disk new (now new))
      (λ image. chain_in image ≡ Some (held first blocks))
      → (is_ok result ≡ true → added_by_all taken ≡ [] → Stays now disk old new)
      → AppendsAll now disk told old new left first (taken_before taken (ends_at end rest)) result
  all_of old new left first blocks taken end rest result images same telling is left_is rests
      unwritten = record {
        images = λ is_told. subst (λ (l : List Taken). Keeps now disk old new
            (IsPartly next_in_chain first (added_by_all l))) (sym (append-nil taken)) (images is_told);
        lines = λ is_told. subst (λ (l : List Taken). Telling next_in_chain now disk told old new
            (lines_of compiled_in first.blocks l ++ end_lines end) (is_ok result))
            (sym (append-nil taken)) (telling is_told);
        unwritten = λ ok none. unwritten ok (ap added_by_all (sym (append-nil taken)) ∙ none);
        ended = at_end result is;
      }
    where
      at_end : (result : Result RunEnd RunStop) → IfOk result (λ answer. fold_end answer ≡ end)
          → IfOk result (HasEnded (disk new (now new)) left first
          (taken_before taken (ends_at end rest)))
      at_end (Ok answer) is = record {
        end_is = is;
        left_is = left_is;
        log = subst (λ (l : List Block). Rests (disk new (now new))
            (λ image. chain_in image ≡ Some (held first l)))
            (same ∙ ap (λ (l : List Taken). first.blocks ++ added_by_all l)
            (sym (append-nil taken))) rests;
      }
      at_end (Err stop) is = tt

  same_rests : (mid new : D) (P : List ℕ → Type 0) → Rests (disk mid (now mid)) P
      → Stays now disk mid new → Rests (disk new (now new)) P
  same_rests mid new P rests stays =
      subst (λ (o : Option DiskState). Rests o P) (sym stays.last) rests

  -- the fold ends here, and its last line is printed, if it has one
  ended_at : (old mid new : D) (node : NodeState) (count : ℕ) (left_old left_mid left : Option
      (List ℕ)) (first : Logged) (end : FoldEnd) (input : List ℕ) (result : Result RunEnd RunStop)
      → (p : Progress old mid node count left_old left_mid first) → count ≤ MAX_FRAMES
      → (l : Leads input left_mid count first p.blocks p.taken)
      → FoldEnds (stored_placement first.marked) count p.blocks l.rest left end
      → (IsKnown (disk mid (now mid)) → Keeps now disk mid new
      (λ image. chain_in image ≡ Some (held first p.blocks))) → (IsKnown (disk mid (now mid))
      → Telling next_in_chain now disk told mid new (end_lines end) (is_ok result))
      → IfOk result (λ answer. fold_end answer ≡ end) → Rests (disk new (now new))
      (λ image. chain_in image ≡ Some (held first p.blocks))
      → (is_ok result ≡ true → Stays now disk mid new)
      → AppendsAll now disk told old new left first (fold_all first input) result
  ended_at old mid new node count left_old left_mid left first end input result p bound l s images
      telling end_is rests stays =
      let lines : List Line = lines_of compiled_in first.blocks p.taken in
      let P : List ℕ → Type 0 = λ image. chain_in image ≡ Some (held first p.blocks) in
      let Q : List ℕ → Type 0 = IsPartly next_in_chain first (added_by_all p.taken) in
      let still_is = λ (is_told : IsKnown (disk old (now old))). still_known now disk told old mid Q
      (p.stored.images is_told) is_told in
      subst (λ (f : Fold). AppendsAll now disk told old new left first f result)
      (ends_same old mid node count left_old left_mid left first end input p bound l s)
      (all_of old new left first p.blocks p.taken end s.after_it result
      (λ is_told. then_keeps now disk old mid new Q (p.stored.images is_told)
      (weaker now disk mid new P Q (images (still_is is_told))
      (λ image at. subst (λ (a : List Block). IsPartly next_in_chain first a image)
      (append-nil (added_by_all p.taken)) (partly_held next_in_chain first
      (added_by_all p.taken) [] (held first p.blocks) image
      (ap (held first) p.stored.blocks_are) at))))
      p.stored.blocks_are
      (λ is_told. join next_in_chain now disk told old mid new P lines
      (end_lines end) (is_ok result) (p.stored.telling is_told)
      (images (still_is is_told))
      (λ image at. all_sure_kept next_in_chain (held first p.blocks) [] lines image p.stored.sure
      (at ∙ ap Some (sym (with_none (held first p.blocks))))) (telling (still_is is_told)))
      end_is s.left_is rests
      (λ ok none. stays_on now disk old mid new (p.stored.unwritten none) (stays ok)))

  whole_end : (result : Result RunEnd RunStop) → IfOk result (λ answer. answer ≡ ends.Whole)
      → IfOk result (λ answer. fold_end answer ≡ Whole)
  whole_end (Ok answer) is = ap fold_end is
  whole_end (Err stop) is = tt

  -- the input has ended, and the disk is looked at
  pub whole_input : (old mid new : D) (node : NodeState) (count : ℕ) (left_old left_mid left : Option
      (List ℕ)) (first : Logged) (input : List ℕ) (result : Result RunEnd RunStop)
      → Progress old mid node count left_old left_mid
      first → count ≤ MAX_FRAMES → left_old ≡ Some input
      → IfSome left_mid (λ input. IsFrameAnswer count input (Ok None) left)
      → Stays now disk mid new → told new ≡ told mid
      → IfOk result (λ answer. answer ≡ ends.Whole) → AppendsAll now disk
      told old new left first (fold_all first input) result
  whole_input old mid new node count left_old left_mid left first input result p bound is answer
      stays same end =
      let l = p.leads input is in
      let s = whole_ends (stored_placement first.marked) count p.blocks left_mid left l.rest
      l.left_is answer in
      let P : List ℕ → Type 0 = λ image. chain_in image ≡ Some (held first p.blocks) in
      let rests = stands_at node.log (held first p.blocks) (disk mid (now mid)) p.stored.mark_is
      p.stored.is_node.log in
      ended_at old mid new node count left_old left_mid left first Whole input result p bound l s
      (λ is_told. still next_in_chain now disk told mid new P (rests_each (disk mid (now mid)) P
      rests) stays)
      (λ is_told. none_to_tell next_in_chain now disk told mid new (is_ok result) same)
      (whole_end result end) (same_rests mid new P rests stays) (λ ok. stays)

  refused_end : (frame count : ℕ) (cause : Cause) (result : Result RunEnd RunStop)
      → frame ≡ count → IfOk result (λ answer. answer ≡ ends.Refused frame cause)
      → IfOk result (λ answer. fold_end answer ≡ Refused count cause)
  refused_end frame count cause (Ok answer) number is =
      ap fold_end is ∙ ap (λ (n : ℕ). Refused n cause) number
  refused_end frame count cause (Err stop) number is = tt

  -- a frame is refused, and its line is printed
  refused_at : (old mid new : D) (node : NodeState) (count frame : ℕ)
      (left_old left_mid left : Option (List ℕ)) (first : Logged) (input : List ℕ) (cause : Cause)
      (result : Result RunEnd RunStop) → (p : Progress old mid node count left_old left_mid
      first)
      → count ≤ MAX_FRAMES → frame ≡ count → (l : Leads input left_mid count first p.blocks p.taken)
      → FoldEnds (stored_placement first.marked) count p.blocks l.rest left
      (Refused count cause)
      → (IsKnown (disk mid (now mid)) → Keeps now disk mid new
      (λ image. chain_in image ≡ Some (held first p.blocks))) → (IsKnown (disk mid (now mid))
      → Telling next_in_chain now disk told mid new (plain (refused_line frame cause) ∷ [])
      (is_ok result))
      → IfOk result (λ answer. answer ≡ ends.Refused frame cause) → Rests (disk new (now new))
      (λ image. chain_in image ≡ Some (held first p.blocks))
      → (is_ok result ≡ true → Stays now disk mid new)
      → AppendsAll now disk told old new left first (fold_all first input) result
  refused_at old mid new node count frame left_old left_mid left first input cause result p bound
      number l s images line end rests stays =
      ended_at old mid new node count left_old left_mid left first (Refused count cause) input
      result p bound l s images
      (λ is_told. subst (λ (n : ℕ). Telling next_in_chain now disk told mid new
      (plain (refused_line n cause) ∷ []) (is_ok result)) number (line is_told))
      (refused_end frame count cause result number end) rests stays

  -- the form of the frame is refused
  pub refused_form : (old mid new : D) (node : NodeState) (count frame : ℕ)
      (left_old left_mid left : Option (List ℕ)) (first : Logged) (input : List ℕ) (cause : Cause)
      (result : Result RunEnd RunStop)
      → (p : Progress old mid node count left_old left_mid first) → count ≤ MAX_FRAMES
      → frame ≡ count → left_old ≡ Some input → ((rest : List ℕ) → left_mid ≡ Some rest
      → FoldEnds (stored_placement first.marked) count p.blocks rest left (Refused count cause))
      → Stays now disk mid new
      → Telling next_in_chain now disk told mid new (plain (refused_line frame cause) ∷ [])
      (is_ok result) → IfOk result (λ answer. answer ≡ ends.Refused frame cause)
      → AppendsAll now disk told old new left first (fold_all first input) result
  refused_form old mid new node count frame left_old left_mid left first input cause result p bound
      number is ends_here stays line end =
      let l = p.leads input is in
      let P : List ℕ → Type 0 = λ image. chain_in image ≡ Some (held first p.blocks) in
      let rests = stands_at node.log (held first p.blocks) (disk mid (now mid)) p.stored.mark_is
      p.stored.is_node.log in
      refused_at old mid new node count frame left_old left_mid left first input cause result p
      bound number l (ends_here l.rest l.left_is)
      (λ is_told. still next_in_chain now disk told mid new P (rests_each (disk mid (now mid)) P
      rests) stays) (λ is_told. line) end (same_rests mid new P rests stays) (λ ok. stays)

  -- the block of the frame is refused
  pub refused_block : (old mid next new : D) (node : NodeState) (count frame : ℕ)
      (left_old left_mid left : Option (List ℕ)) (first : Logged) (input bytes : List ℕ)
      (refusal : Refusal) (result : Result RunEnd RunStop)
      → (p : Progress old mid node count left_old left_mid first) → count ≤ MAX_FRAMES
      → frame ≡ count → left_old ≡ Some input → ((rest : List ℕ) → left_mid ≡ Some rest
      → FoldEnds (stored_placement first.marked) count p.blocks rest left
      (Refused count (causes.Block refusal)))
      → ((blocks : List Block) → IsNodeOf node (disk mid (now mid)) blocks → Takes now disk told mid
      next (logged_in node.log blocks) (judgement_of (stored_placement node.log.is_marked)
      blocks (block_in bytes)) (Ok (turns.Refused refusal))) → Stays now disk next new
      → Telling next_in_chain now disk told next new
      (plain (refused_line frame (causes.Block refusal)) ∷ []) (is_ok result)
      → IfOk result (λ answer. answer ≡ ends.Refused frame (causes.Block refusal))
      → AppendsAll now disk told old new left first (fold_all first input) result
  refused_block old mid next new node count frame left_old left_mid left first input bytes refusal
      result p bound number is ends_here takes stays line end =
      let l = p.leads input is in
      let P : List ℕ → Type 0 = λ image. chain_in image ≡ Some (held first p.blocks) in
      let t = takes_by now disk told mid next node (held first p.blocks) (block_in bytes)
      (Ok (turns.Refused refusal)) p.stored.mark_is (takes p.blocks p.stored.is_node) in
      let e = t.answer.0 in
      let before = λ (is_told : IsKnown (disk mid (now mid))). subst
      (λ (r : Result Taken Refusal). Keeps now disk mid next (IsStepOf (held first p.blocks) r))
      e (t.images is_told) in
      let after : Keeps now disk next new P = still next_in_chain now disk told next new P
      (rests_each (disk next (now next)) P t.answer.1) stays in
      let nothing = λ (is_told : IsKnown (disk mid (now mid))). subst
      (λ (r : Result Taken Refusal). Telling next_in_chain now disk told mid next
      (lines_for p.blocks r) true) e (t.lines is_told) in
      refused_at old mid new node count frame left_old left_mid left first input
      (causes.Block refusal) result p bound number l (ends_here l.rest l.left_is)
      (λ is_told. then_keeps now disk mid next new P (before is_told) after)
      (λ is_told. join next_in_chain now disk told mid next new P []
      (plain (refused_line frame (causes.Block refusal)) ∷ []) (is_ok result) (nothing is_told)
      after (λ image at. tt) line) end (same_rests next new P t.answer.1 stays)
      (λ ok. stays_on now disk mid next new (t.unwritten refl (ap added_for e)) stays)

  -- ---- a stop

  stopped : (old new : D) (left : Option (List ℕ)) (first : Logged) (fold : Fold)
      (lines more : List Line) (added others : List Block) (all : Bool) (stop : RunStop)
      → (IsKnown (disk old (now old)) → Keeps now disk old new (IsPartly next_in_chain first added))
      → (IsKnown (disk old (now old)) → Telling next_in_chain now disk told old new lines all)
      → fold_lines compiled_in first.blocks fold ≡ lines ++ more → added_by_all fold.taken ≡ added
      ++ others → AppendsAll now disk told old new left first fold (Err stop)
  stopped old new left first fold lines more added others all stop images telling lines_are
      added_are = record {
        images = λ is_told. weaker now disk old new (IsPartly next_in_chain first added)
            (IsPartly next_in_chain first (added_by_all fold.taken)) (images is_told)
            (λ image at. subst (λ (a : List Block). IsPartly next_in_chain first a image)
            (sym added_are) (partly_more next_in_chain first added others image at));
        lines = λ is_told. subst (λ (l : List Line). Telling next_in_chain now disk told old new l
            false) (sym lines_are) (longer next_in_chain now disk told old new lines more all
            (telling is_told));
        unwritten = λ ok none. absurd (cc ok);
        ended = tt;
      }

  -- the source failed, or memory ran out before the frame
  pub stopped_before : (old new : D) (node : NodeState) (count : ℕ) (left_old left_mid left : Option
      (List ℕ)) (first : Logged) (input : List ℕ) (stop : RunStop) → Progress old new node count
      left_old left_mid first → left_old ≡ Some input
      → AppendsAll now disk told old new left first (fold_all first input) (Err stop)
  stopped_before old new node count left_old left_mid left first input stop p is =
      let l = p.leads input is in
      let f : Fold = fold_from block_in (stored_placement first.marked) (MAX_FRAMES + 1 - count)
      p.blocks l.rest in
      subst (λ (x : Fold). AppendsAll now disk told old new left first x (Err stop)) (sym l.same)
      (stopped old new left first (taken_before p.taken f) (lines_of compiled_in first.blocks
      p.taken) (fold_lines compiled_in (first.blocks ++ added_by_all p.taken) f)
      (added_by_all p.taken) (added_by_all f.taken) true stop p.stored.images p.stored.telling
      (lines_before first.blocks p.taken f) (added_append p.taken f.taken))

  -- taking a frame was stopped
  pub stopped_at : (old mid new : D) (node : NodeState) (count more : ℕ)
      (left_old left_mid left : Option (List ℕ)) (first : Logged) (input bytes : List ℕ)
      (stop : RunStop) → Progress old mid node count left_old left_mid first → count ≤ MAX_FRAMES
      → left_old ≡ Some input → IfSome left_mid (λ input. IsFrameAnswer count input
      (Ok (Some (bytes, more))) left)
      → ((blocks : List Block) → IsNodeOf node (disk mid (now mid)) blocks → Takes now disk told mid
      new (logged_in node.log blocks) (judgement_of (stored_placement node.log.is_marked) blocks
      (block_in bytes)) (Err stop))
      → AppendsAll now disk told old new left first (fold_all first input) (Err stop)
  stopped_at old mid new node count more left_old left_mid left first input bytes stop p bound is
      answer takes =
      let l = p.leads input is in
      let t = takes_by now disk told mid new node (held first p.blocks) (block_in bytes) (Err stop)
      p.stored.mark_is (takes p.blocks p.stored.is_node) in
      let j : Result Taken Refusal = judgement_of (stored_placement first.marked) p.blocks
      (block_in bytes) in
      let a = subst (λ (o : Option (List ℕ)). IfSome o (λ rest. IsFrameAnswer count rest
      (Ok (Some (bytes, more))) left)) l.left_is answer in
      let next : List Block → List ℕ → Fold =
      fold_from block_in (stored_placement first.marked) (MAX_FRAMES - count) in
      let f : Fold = fold_after_frame next count p.blocks a.0 j in
      let same : fold_all first input ≡ taken_before p.taken f = l.same ∙ ap (taken_before p.taken)
      (folded_turn (stored_placement first.marked) count p.blocks l.rest bound
      ∙ ap (fold_step block_in (stored_placement first.marked) next count p.blocks l.rest) a.1)
      in
      let lines : List Line = lines_of compiled_in first.blocks p.taken in
      let added : List Block = added_by_all p.taken in
      let line = judged_lines next count p.blocks a.0 j in
      let others = judged_added next count p.blocks a.0 j in
      let q = then_stop now disk told old mid new node first p.blocks added lines j stop p.stored t
      in
      subst (λ (x : Fold). AppendsAll now disk told old new left first x (Err stop)) (sym same)
      (stopped old new left first (taken_before p.taken f) (lines ++ lines_for p.blocks j) line.0
      (added ++ added_for j) others.0 false stop q.0 q.1
      (lines_before first.blocks p.taken f ∙ ap (λ (b : List Block). lines ++ fold_lines compiled_in
      b f) (sym p.stored.blocks_are) ∙ ap (λ (ls : List Line). lines ++ ls) line.1
      ∙ sym (append_assoc lines (lines_for p.blocks j) line.0))
      (added_append p.taken f.taken ∙ ap (λ (b : List Block). added ++ b) others.1
      ∙ sym (append_assoc added (added_for j) others.0)))

  -- ---- whether or not it is known what the source has left

  step_goes : (first : Logged) (blocks added : List Block) (judgement : Result Taken Refusal)
      (image : List ℕ)
      → blocks ≡ first.blocks ++ added → IsStepOf (held first blocks) judgement image
      → GoesFrom first image
  step_goes first blocks added (Ok frame) image same (inl is) =
      (added, is ∙ ap (λ (b : List Block). Some (held first b)) same)
  step_goes first blocks added (Ok frame) image same (inr is) = (
    added ++ added_by frame,
    is
        ∙ ap (λ (b : List Block). Some (held first b)) (ap (λ (b : List Block). b ++ added_by frame)
        same ∙ append_assoc first.blocks added (added_by frame)),
  )
  step_goes first blocks added (Err refusal) image same is =
      (added, is ∙ ap (λ (b : List Block). Some (held first b)) same)

  pub goes_from : (old new : D) (node : NodeState) (count : ℕ) (left_old left_new : Option (List ℕ))
      (first : Logged)
      → Progress old new node count left_old left_new first → IsKnown (disk old (now old))
      → Keeps now disk old new (GoesFrom first)
  goes_from old new node count left_old left_new first p is_told = weaker now disk old new
      (IsPartly next_in_chain first (added_by_all p.taken)) (GoesFrom first)
      (p.stored.images is_told) (λ image partly. (take partly.0 (added_by_all p.taken), partly.1))

  pub goes_still : (old mid new : D) (first : Logged) → Keeps now disk old mid (GoesFrom first)
      → Stays now disk mid new → Keeps now disk old new (GoesFrom first)
  goes_still old mid new first keeps stays =
      stay_keeps now disk old mid new (GoesFrom first) keeps stays

  pub goes_step : (old mid new : D) (node : NodeState) (count : ℕ) (left_old left_new : Option
      (List ℕ)) (first : Logged) (bytes : List ℕ) (result : Result (Turn NodeState) RunStop)
      → Progress old mid node count left_old left_new first
      → ((blocks : List Block) → IsNodeOf node (disk mid (now mid)) blocks → Takes now disk told mid
      new (logged_in node.log blocks) (judgement_of (stored_placement node.log.is_marked) blocks
      (block_in bytes)) result) → IsKnown (disk old (now old)) → Keeps now disk old new
      (GoesFrom first)
  goes_step old mid new node count left_old left_new first bytes result p takes is_told =
      let t = takes_by now disk told mid new node (held first p.blocks) (block_in bytes) result
      p.stored.mark_is (takes p.blocks p.stored.is_node) in
      let j : Result Taken Refusal = judgement_of (stored_placement first.marked) p.blocks
      (block_in bytes) in
      then_keeps now disk old mid new (GoesFrom first) (goes_from old mid node count left_old
      left_new first p is_told)
      (weaker now disk mid new (IsStepOf (held first p.blocks) j) (GoesFrom first)
      (t.images ((p.stored.images is_told).told ∙ is_told)) (λ image step. step_goes first
      p.blocks (added_by_all p.taken) j image p.stored.blocks_are step))
