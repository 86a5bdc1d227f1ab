-- One frame: what was printed for it, and what a crash may leave.
use Rattle.std.proofs.Common.{◌≡◌, inr, ℕ, Bool, true, false, List, [], ◌∷◌, ◌++◌, refl, sym, ◌∙◌}
use Rattle.std.proofs.Common.{ap, subst}
use Rattle.std.specs.Prelude.{Option, Some, None, Result, Ok, Err}
use Rattle.lc_io.specs.Disk.{DiskState, Stays}
use Rattle.lc_io.specs.Outside.{Tell}
use Rattle.disk_model.specs.Disk.{Keeps, Rests, content_of}
use Rattle.disk_model.proofs.Moments.{then_keeps, weaker, stays_here}
use Rattle.block_codec.specs.declared.block.Block.{Block}
use Rattle.block_log.specs.Standing.{Logged, with_blocks}
use Rattle.block_log.specs.Log.{LogState}
use Rattle.chain_exec.specs.Compiled.{compiled_in}
use Rattle.chain_replay.specs.Judging.{Taken, Known, Added, judgement_of, added_by}
use Rattle.chain_replay.specs.declared.refusal.Refusal.{Refusal}
use Rattle.cli_promises.specs.recovery.Node.{NodeState, HoldsChain, IsNodeOf, IsStepOf, IsAppended}
use Rattle.cli_promises.specs.recovery.Node.{was_added}
use Rattle.cli_promises.specs.recovery.Node.{blocks_after, next_in_chain, chain_in}
use Rattle.cli_promises.specs.recovery.Node.{stored_placement}
use Rattle.cli_promises.specs.recovery.Node.{logged_in}
use Rattle.cli_promises.specs.recovery.declared.node.Appended.{Appended}
use Rattle.cli_promises.specs.recovery.declared.node.Appended.TheVariants as appendeds
use Rattle.cli_promises.specs.Promises.{Promise, IsKeptAt, Telling}
use Rattle.cli_promises.proofs.Tellings.{none_told, none_to_tell, still, told_since}
use Rattle.cli_promises.proofs.Sure.{sure_kept}
use Rattle.cli_promises.proofs.Resting.{rests_each}
use Rattle.cli_promises.specs.Appending.{IsKnown, line_of}
use Rattle.cli_promises.specs.Lines.{appended_text}
use Rattle.cli_append.specs.Steps.{lines_for, added_for, Takes}
use Rattle.cli_promises.specs.declared.ending.RunStop.{RunStop}
use Rattle.chain_input.specs.declared.taking.Turn.{Turn}
use Rattle.chain_input.specs.declared.taking.Turn.TheVariants as turns
use Rattle.cli_append.proofs.Promised.{line_sure}

-- a disk that is known has a content
pub content_known : (state : Option DiskState) → IsKnown state
    → (content : List ℕ) × (content_of state ≡ Some content)
content_known None is_told = absurd (cc is_told)
content_known (Some state) is_told = (state.content, refl)

-- the content on the disk of a node stands for its chain
pub stands_at : (log : LogState) (logged : Logged) (state : Option DiskState)
    → log.is_marked ≡ logged.marked → Rests state (HoldsChain log logged.blocks)
    → Rests state (λ image. chain_in image ≡ Some logged)
stands_at log logged None same rests = tt
stands_at log logged (Some state) same rests = (
  rests.0,
  rests.1.stands ∙ ap (λ (m : Bool). Some (record {
    blocks = logged.blocks;
    marked = m;
  })) same,
)

-- what is printed for a frame that was taken is its line
pub took : (old node : NodeState) (appended : Appended) (blocks : List Block)
    (judgement : Result Taken Refusal) → IsAppended old blocks judgement node appended
    → (frame : Taken) × (judgement ≡ Ok frame)
    × (appended_text appended ≡ (line_of compiled_in blocks frame).text)
took old node (appendeds.Known number) blocks judgement (block, is, number_is, same) =
    (Known block, is, rw number_is refl)
took old node (appendeds.Added number rows receipts root) blocks judgement
    (block, is, number_is, rows_is, receipts_are, root_is) =
    (Added block, is, rw (number_is, rows_is, receipts_are, root_is) refl)

-- a block that is not added is reported as one that is held
not_added : (old node : NodeState) (appended : Appended) (blocks : List Block)
    (judgement : Result Taken Refusal)
    → IsAppended old blocks judgement node appended → added_for judgement ≡ []
    → was_added appended ≡ false
not_added old node (appendeds.Known number) blocks judgement is none = refl
not_added old node (appendeds.Added number rows receipts root) blocks judgement
    (block, is, number_is, rows_is, receipts_are, root_is) none = absurd
    (cc (sym (ap added_for is) ∙ none))

module _ {D : Type 0} (now : D → ℕ) (disk : D → ℕ → Option DiskState)
    (told : D → Option (List Tell)) where
  -- a disk that was known stays known
  pub still_known : (old new : D) (P : List ℕ → Type 0) → Keeps now disk old new P
      → IsKnown (disk old (now old)) → IsKnown (disk new (now new))
  still_known old new P keeps is_told = keeps.told ∙ is_told

  -- while the line of a frame is printed, the disk holds its chain
  after_images : (mid new : D) (logged : Logged) (frame : Taken)
      → Rests (disk mid (now mid)) (λ image. chain_in image
      ≡ Some (with_blocks logged (added_by frame)))
      → Stays now disk mid new → Keeps now disk mid new (IsStepOf logged (Ok frame))
  after_images mid new logged frame rests stays =
      let P : List ℕ → Type 0 = λ image. chain_in image ≡ Some (with_blocks logged (added_by frame))
      in
      weaker now disk mid new P (IsStepOf logged (Ok frame)) (still next_in_chain now disk told mid
      new P (rests_each (disk mid (now mid)) P rests) stays) (λ image is. inr is)

  -- a frame was stored, and its line printed, or its first bytes
  pub stored : (old mid new : D) (logged : Logged) (spelled : Result Block ℕ)
      (start node : NodeState) (appended : Appended) (bytes : List ℕ) (all : Bool)
      → IsAppended start logged.blocks (judgement_of (stored_placement logged.marked) logged.blocks
      spelled) node appended → bytes ≡ appended_text appended → node.log.is_marked
      ≡ logged.marked
      → (IsKnown (disk old (now old)) → Keeps now disk old mid
      (IsStepOf logged (judgement_of (stored_placement logged.marked) logged.blocks spelled)))
      → told mid ≡ told old
      → IsNodeOf node (disk mid (now mid)) (blocks_after logged.blocks
      (judgement_of (stored_placement logged.marked) logged.blocks spelled))
      → ((promise : Promise) → IsKeptAt next_in_chain now disk mid promise → Telling next_in_chain
      now disk told mid new (record { text = bytes; promise = promise } ∷ []) all)
      → Stays now disk mid new
      → (frame : Taken) × (judgement_of (stored_placement logged.marked) logged.blocks spelled
      ≡ Ok frame) × IsNodeOf node (disk new (now new)) (logged.blocks ++ added_by frame)
      × (IsKnown (disk old (now old)) → Keeps now disk old new (IsStepOf logged (Ok frame)))
      × (IsKnown (disk old (now old)) → Telling next_in_chain now disk told old new
      (line_of compiled_in logged.blocks frame ∷ []) all)
  stored old mid new logged spelled start node appended bytes all is text mark images same is_node
      tell stays =
      let t = took start node appended logged.blocks (judgement_of (stored_placement logged.marked)
      logged.blocks spelled) is in
      let frame : Taken = t.0 in
      let e : judgement_of (stored_placement logged.marked) logged.blocks spelled ≡ Ok frame = t.1
      in
      let node_is = subst (λ (j : Result Taken Refusal). IsNodeOf node (disk mid (now mid))
      (blocks_after logged.blocks j)) e is_node in
      let step = subst (λ (j : Result Taken Refusal). IsKnown (disk old (now old)) → Keeps now disk
      old mid (IsStepOf logged j)) e images in
      let rests = stands_at node.log (with_blocks logged (added_by frame)) (disk mid (now mid)) mark
      node_is.log in
      let promise : Promise = (line_of compiled_in logged.blocks frame).promise in
      let here : IsKeptAt next_in_chain now disk mid promise = λ s image at shows.
      sure_kept next_in_chain (with_blocks logged (added_by frame)) promise image
      (line_sure logged spelled frame e) (rests_each (disk mid (now mid))
      (λ image. chain_in image ≡ Some (with_blocks logged (added_by frame))) rests s image at
      shows) in
      let one = subst (λ (b : List ℕ). Telling next_in_chain now disk told mid new
      (record { text = b; promise = promise } ∷ []) all) (text ∙ t.2) (tell promise here) in (
        frame,
        e,
        subst (λ (o : Option DiskState). IsNodeOf node o (logged.blocks ++ added_by frame))
            (sym stays.last) node_is,
        λ is_told. then_keeps now disk old mid new (IsStepOf logged (Ok frame)) (step is_told)
            (after_images mid new logged frame rests stays),
        λ is_told. told_since next_in_chain now disk told old mid new
            (line_of compiled_in logged.blocks frame ∷ []) all same one,
      )

  pub takes_whole : (old mid new : D) (logged : Logged) (spelled : Result Block ℕ)
      (start node : NodeState) (appended : Appended) (bytes : List ℕ)
      → IsAppended start logged.blocks (judgement_of (stored_placement logged.marked) logged.blocks
      spelled) node appended → bytes ≡ appended_text appended → node.log.is_marked
      ≡ logged.marked
      → (IsKnown (disk old (now old)) → Keeps now disk old mid
      (IsStepOf logged (judgement_of (stored_placement logged.marked) logged.blocks spelled)))
      → told mid ≡ told old
      → IsNodeOf node (disk mid (now mid)) (blocks_after logged.blocks
      (judgement_of (stored_placement logged.marked) logged.blocks spelled))
      → ((promise : Promise) → IsKeptAt next_in_chain now disk mid promise → Telling next_in_chain
      now disk told mid new (record { text = bytes; promise = promise } ∷ []) true)
      → Stays now disk mid new → (was_added appended ≡ false → mid ≡ old)
      → Takes now disk told old new logged (judgement_of (stored_placement logged.marked)
      logged.blocks spelled) (Ok (turns.Taken node))
  takes_whole old mid new logged spelled start node appended bytes is text mark images same is_node
      tell stays untouched =
      let s = stored old mid new logged spelled start node appended bytes true is text mark images
      same is_node tell stays in
      subst (λ (j : Result Taken Refusal). Takes now disk told old new logged j
      (Ok (turns.Taken node))) (sym s.1) (record {
        images = s.3;
        lines = s.4;
        unwritten = λ ok none. subst (λ (m : D). Stays now disk m new)
            (untouched (not_added start node appended logged.blocks
            (judgement_of (stored_placement logged.marked) logged.blocks spelled) is
            (ap added_for s.1 ∙ none))) stays;
        answer = (s.0, refl, s.2, mark);
      })

  pub takes_part : (old mid new : D) (logged : Logged) (spelled : Result Block ℕ)
      (start node : NodeState) (appended : Appended) (bytes : List ℕ) (stop : RunStop)
      → IsAppended start logged.blocks (judgement_of (stored_placement logged.marked) logged.blocks
      spelled) node appended → bytes ≡ appended_text appended → node.log.is_marked
      ≡ logged.marked
      → (IsKnown (disk old (now old)) → Keeps now disk old mid
      (IsStepOf logged (judgement_of (stored_placement logged.marked) logged.blocks spelled)))
      → told mid ≡ told old
      → IsNodeOf node (disk mid (now mid)) (blocks_after logged.blocks
      (judgement_of (stored_placement logged.marked) logged.blocks spelled))
      → ((promise : Promise) → IsKeptAt next_in_chain now disk mid promise → Telling next_in_chain
      now disk told mid new (record { text = bytes; promise = promise } ∷ []) false)
      → Stays now disk mid new
      → Takes now disk told old new logged (judgement_of (stored_placement logged.marked)
      logged.blocks spelled) (Err stop)
  takes_part old mid new logged spelled start node appended bytes stop is text mark images same
      is_node tell stays =
      let s = stored old mid new logged spelled start node appended bytes false is text mark images
      same is_node tell stays in
      subst (λ (j : Result Taken Refusal). Takes now disk told old new logged j (Err stop))
      (sym s.1) (record {
        images = s.3;
        lines = s.4;
        unwritten = λ ok none. absurd (cc ok);
        answer = tt;
      })

  -- nothing was printed for a frame
  pub takes_none : (old new : D) (logged : Logged) (judgement : Result Taken Refusal)
      (stop : RunStop) → (IsKnown (disk old (now old)) → Keeps now disk old new
      (IsStepOf logged judgement)) → told new ≡ told old
      → Takes now disk told old new logged judgement (Err stop)
  takes_none old new logged judgement stop images same = record {
    images = images;
    lines =
        λ is_told. none_told next_in_chain now disk told old new (lines_for logged.blocks judgement)
        same;
    unwritten = λ ok none. absurd (cc ok);
    answer = tt;
  }

  -- a frame was refused
  pub takes_refusal : (old new : D) (logged : Logged) (judgement : Result Taken Refusal)
      (node : NodeState) (refusal : Refusal) → node.log.is_marked ≡ logged.marked
      → (IsKnown (disk old (now old)) → Keeps now disk old new (IsStepOf logged judgement))
      → told new ≡ told old
      → new ≡ old → judgement ≡ Err refusal → IsNodeOf node (disk new (now new)) logged.blocks
      → Takes now disk told old new logged judgement (Ok (turns.Refused refusal))
  takes_refusal old new logged judgement node refusal mark images same untouched is is_node =
      record {
        images = images;
        lines = λ is_told. subst (λ (j : Result Taken Refusal). Telling next_in_chain now disk told old
            new (lines_for logged.blocks j) true) (sym is) (none_to_tell next_in_chain now disk told old
            new true same);
        unwritten = λ ok none. subst (λ (m : D). Stays now disk old m) (sym untouched)
            (stays_here now disk old);
        answer = (is, stands_at node.log logged (disk new (now new)) mark is_node.log);
      }

  -- what an append of a node says of images, if the disk is known
  pub images_told : (old new : D) (logged : Logged) (judgement : Result Taken Refusal)
      → ((content : List ℕ) → content_of (disk old (now old)) ≡ Some content → Keeps now disk old
      new (IsStepOf logged judgement))
      → IsKnown (disk old (now old)) → Keeps now disk old new (IsStepOf logged judgement)
  images_told old new logged judgement images is_told = let c = content_known (disk old (now old))
      is_told in images c.0 c.1

  -- by the mark of the node, a frame is taken as by that of the chain
  pub takes_by : (old new : D) (node : NodeState) (logged : Logged) (spelled : Result Block ℕ)
      (result : Result (Turn NodeState) RunStop) → node.log.is_marked ≡ logged.marked
      → Takes now disk told old new (logged_in node.log logged.blocks)
      (judgement_of (stored_placement node.log.is_marked) logged.blocks spelled) result
      → Takes now disk told old new logged (judgement_of (stored_placement logged.marked)
      logged.blocks spelled) result
  takes_by old new node logged spelled result mark takes =
      subst (λ (m : Bool). Takes now disk told old new
      (record { blocks = logged.blocks; marked = m }) (judgement_of (stored_placement m)
      logged.blocks spelled) result) mark takes
