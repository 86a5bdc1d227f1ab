-- What was stored and told so far, whatever it was read from: the blocks that were added to the
-- first ones, and the lines that were printed.
use Rattle.std.proofs.Common.{◌≡◌, inl, inr, ℕ, true, false, List, [], ◌∷◌, ◌++◌, refl, sym, ◌∙◌}
use Rattle.std.proofs.Common.{ap, subst, append_assoc, append-nil}
use Rattle.std.specs.Prelude.{Option, Some, Result, Ok, Err}
use Rattle.lc_io.specs.Disk.{DiskState, Stays}
use Rattle.lc_io.specs.Outside.{Tell}
use Rattle.disk_model.specs.Disk.{Keeps}
use Rattle.disk_model.proofs.Moments.{started, then_keeps, weaker, stays_on, stays_here}
use Rattle.block_codec.specs.declared.block.Block.{Block}
use Rattle.block_log.specs.Standing.{Logged}
use Rattle.chain_exec.specs.Compiled.{compiled_in}
use Rattle.chain_replay.specs.Judging.{Taken, judgement_of, added_by}
use Rattle.chain_replay.specs.declared.refusal.Refusal.{Refusal}
use Rattle.cli_promises.specs.recovery.Node.{NodeState, IsNodeOf, IsStepOf, next_in_chain, chain_in}
use Rattle.cli_promises.specs.recovery.Node.{stored_placement}
use Rattle.cli_promises.specs.Promises.{Line, KeepsLines, IsPartly, Telling}
use Rattle.cli_promises.proofs.Tellings.{none_to_tell, join}
use Rattle.cli_promises.proofs.Sure.{AreSure, all_sure_more, sure_push, all_sure_kept}
use Rattle.cli_promises.proofs.Sure.{partly_more, partly_held, partly_longer}
use Rattle.cli_promises.specs.Appending.{IsKnown, line_of}
use Rattle.chain_input.specs.declared.taking.Turn.TheVariants as turns
use Rattle.cli_append.specs.Steps.{lines_for, added_for, Takes}
use Rattle.cli_promises.specs.declared.ending.RunStop.{RunStop}
use Rattle.cli_append.proofs.Promised.{line_sure}
use Rattle.cli_promises.proofs.Resting.{rests_each, with_none}
use Rattle.cli_append.proofs.Frames.{stands_at, still_known}

-- ---- one frame that was judged

-- the chain of these blocks, marked as the first one was
abbrev pub held : Logged → List Block → Logged
held first blocks = record { blocks = blocks; marked = first.marked }

partly_step : (first : Logged) (added blocks : List Block) (judgement : Result Taken Refusal)
    (image : List ℕ)
    → blocks ≡ first.blocks ++ added → IsStepOf (held first blocks) judgement image
    → IsPartly next_in_chain first (added ++ added_for judgement) image
partly_step first added blocks (Ok frame) image same (inl is) =
    partly_held next_in_chain first added (added_by frame) (held first blocks) image
    (ap (held first) same) is
partly_step first added blocks (Ok frame) image same (inr is) =
    partly_longer next_in_chain first added (added_by frame) (held first blocks) image
    (ap (held first) same) is
partly_step first added blocks (Err refusal) image same is =
    partly_held next_in_chain first added [] (held first blocks) image (ap (held first) same) is

kept_step : (logged : Logged) (lines : List Line) (judgement : Result Taken Refusal)
    (image : List ℕ)
    → AreSure logged lines → IsStepOf logged judgement image → KeepsLines next_in_chain lines image
kept_step logged lines (Ok frame) image sure (inl is) =
    all_sure_kept next_in_chain logged [] lines image sure (is ∙ ap Some (sym (with_none logged)))
kept_step logged lines (Ok frame) image sure (inr is) =
    all_sure_kept next_in_chain logged (added_by frame) lines image sure is
kept_step logged lines (Err refusal) image sure is =
    all_sure_kept next_in_chain logged [] lines image sure (is ∙ ap Some (sym (with_none logged)))

-- lists that are empty together are both empty
both_empty : (a b : List Block) → a ++ b ≡ [] → (a ≡ []) × (b ≡ [])
both_empty [] b none = (refl, none)
both_empty (block ∷ a) b none = absurd (cc none)

module _ {D : Type 0} (now : D → ℕ) (disk : D → ℕ → Option DiskState)
    (told : D → Option (List Tell)) where
  -- `blocks` are `first` and those that were added, and stand on the disk of the node; the lines
  -- were printed, and each keeps its promise
  pub record Stored (old new : D) (node : NodeState) (first : Logged) (blocks added : List Block) (lines : List Line) : Type 0 where
    pub blocks_are : blocks ≡ first.blocks ++ added
    pub mark_is : node.log.is_marked ≡ first.marked
    pub is_node : IsNodeOf node (disk new (now new)) blocks
    pub sure : AreSure (held first blocks) lines
    pub telling : IsKnown (disk old (now old))
        → Telling next_in_chain now disk told old new lines true
    pub images : IsKnown (disk old (now old))
        → Keeps now disk old new (IsPartly next_in_chain first added)
    pub unwritten : added ≡ [] → Stays now disk old new

  -- nothing was stored
  pub nothing_stored : (old : D) (node : NodeState) (first : Logged)
      → node.log.is_marked ≡ first.marked → IsNodeOf node (disk old (now old)) first.blocks
      → Stored old old node first first.blocks [] []
  nothing_stored old node first mark is =
      let rests = stands_at node.log first (disk old (now old)) mark is.log in
      record {
        blocks_are = sym (append-nil first.blocks);
        mark_is = mark;
        is_node = is;
        sure = tt;
        telling = λ is_told. none_to_tell next_in_chain now disk told old old true refl;
        images = λ is_told. started now disk old (IsPartly next_in_chain first [])
            (λ s image at shows. (
              0,
              rests_each (disk old (now old)) (λ c. chain_in c ≡ Some first)
                  rests s image at shows ∙ ap Some (sym (with_none first)),
            ));
        unwritten = λ none. stays_here now disk old;
      }

  -- and then a frame was taken
  pub then_frame : (old mid new : D) (node longer_node : NodeState) (first : Logged)
      (blocks added : List Block) (lines : List Line) (spelled : Result Block ℕ) → Stored old mid
      node first blocks added lines
      → (t : Takes now disk told mid new (held first blocks)
      (judgement_of (stored_placement first.marked) blocks spelled)
      (Ok (turns.Taken longer_node)))
      → Stored old new longer_node first (blocks ++ added_by t.answer.0)
      (added ++ added_by t.answer.0) (lines ++ line_of compiled_in blocks t.answer.0 ∷ [])
  then_frame old mid new node longer_node first blocks added lines spelled p t =
      let frame : Taken = t.answer.0 in
      let e : judgement_of (stored_placement first.marked) blocks spelled ≡ Ok frame = t.answer.1 in
      let keeps = subst (λ (r : Result Taken Refusal). IsKnown (disk mid (now mid)) → Keeps now disk
      mid new (IsStepOf (held first blocks) r)) e t.images in
      let line = subst (λ (r : Result Taken Refusal). IsKnown (disk mid (now mid))
      → Telling next_in_chain now disk told mid new (lines_for blocks r) true) e t.lines in
      let still_is = λ (is_told : IsKnown (disk old (now old))). still_known now disk told old mid
      (IsPartly next_in_chain first added) (p.images is_told) is_told in
      record {
        blocks_are = ap (λ (l : List Block). l ++ added_by frame) p.blocks_are
            ∙ append_assoc first.blocks added (added_by frame);
        mark_is = t.answer.3;
        is_node = t.answer.2;
        sure = sure_push (held first (blocks ++ added_by frame)) lines (line_of compiled_in blocks
            frame) (all_sure_more (held first blocks) (added_by frame) lines p.sure)
            (line_sure (held first blocks) spelled frame e);
        telling = λ is_told. join next_in_chain now disk told old mid new
            (IsStepOf (held first blocks) (Ok frame)) lines (line_of compiled_in blocks frame ∷ [])
            true (p.telling is_told) (keeps (still_is is_told))
            (λ image step. kept_step (held first blocks) lines (Ok frame) image p.sure step)
            (line (still_is is_told));
        images = λ is_told.
            let P : List ℕ → Type 0 = IsPartly next_in_chain first (added ++ added_by frame) in
            then_keeps now disk old mid new P
            (weaker now disk old mid (IsPartly next_in_chain first added) P (p.images is_told)
            (partly_more next_in_chain first added (added_by frame)))
            (weaker now disk mid new (IsStepOf (held first blocks) (Ok frame)) P
            (keeps (still_is is_told)) (λ image step. partly_step first added blocks (Ok frame)
            image p.blocks_are step));
        unwritten = λ none.
            let parts = both_empty added (added_by frame) none in
            stays_on now disk old mid new (p.unwritten parts.0)
            (t.unwritten refl (ap added_for e ∙ parts.1));
      }

  -- or taking it was stopped: a crash leaves its block or not, and its line was begun or not
  pub then_stop : (old mid new : D) (node : NodeState) (first : Logged) (blocks added : List Block)
      (lines : List Line) (judgement : Result Taken Refusal) (stop : RunStop) → Stored old mid node
      first blocks added lines
      → Takes now disk told mid new (held first blocks) judgement (Err stop)
      → (IsKnown (disk old (now old)) → Keeps now disk old new (IsPartly next_in_chain first
      (added ++ added_for judgement)))
      × (IsKnown (disk old (now old)) → Telling next_in_chain now disk told old new
      (lines ++ lines_for blocks judgement) false)
  then_stop old mid new node first blocks added lines judgement stop p t =
      let P : List ℕ → Type 0 = IsPartly next_in_chain first (added ++ added_for judgement) in
      let still_is = λ (is_told : IsKnown (disk old (now old))). still_known now disk told old mid
      (IsPartly next_in_chain first added) (p.images is_told) is_told in (
        λ is_told. then_keeps now disk old mid new P
            (weaker now disk old mid (IsPartly next_in_chain first added) P (p.images is_told)
            (partly_more next_in_chain first added (added_for judgement)))
            (weaker now disk mid new (IsStepOf (held first blocks) judgement) P
            (t.images (still_is is_told)) (λ image step. partly_step first added blocks
            judgement image p.blocks_are step)),
        λ is_told. join next_in_chain now disk told old mid new (IsStepOf (held first blocks)
            judgement) lines (lines_for blocks judgement) false (p.telling is_told)
            (t.images (still_is is_told))
            (λ image step. kept_step (held first blocks) lines judgement image p.sure step)
            (t.lines (still_is is_told)),
      )
