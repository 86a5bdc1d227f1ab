-- What a follower reports of a block, by what its node returned for it.
use Rattle.std.proofs.Common.{◌≡◌, inl, inr, ℕ, Bool, false, List, [], ◌∷◌, ◌++◌, length, refl}
use Rattle.std.proofs.Common.{sym, ◌∙◌, ap, subst, arith}
use Rattle.std.specs.Prelude.{Option, Some, None, is_some, IfOk, IsErrOf, Result, Ok, Err}
use Rattle.std.proofs.lemmas.List.{append-nil, length-append}
use Rattle.lc_base.specs.Faults.{HasCause}
use Rattle.lc_base.specs.declared.digest.Digest.{Digest}
use Rattle.lc_io.specs.Disk.{DiskState}
use Rattle.lc_io.specs.Scratch.{ScratchState, Serves}
use Rattle.disk_model.specs.Disk.{Keeps}
use Rattle.disk_model.proofs.Moments.{weaker}
use Rattle.block_codec.specs.Placement.{bytes_digest}
use Rattle.block_codec.specs.Reading.{block_in}
use Rattle.block_codec.specs.declared.block.Block.{Block}
use Rattle.follower_steps.specs.chain_replay.Judging.{Taken, judgement_of}
use Rattle.follower_steps.specs.chain_replay.Judging as judging
use Rattle.follower_steps.specs.chain_replay.declared.refusal.Refusal.{Refusal}
use Rattle.recovery.specs.Node.{NodeState, IsNodeOf, IsAppendAnswer, IsNodeAfter, IsStepOf, IfNode}
use Rattle.recovery.specs.Node.{Blames, IsAsJudged, node_judgement}
use Rattle.recovery.specs.Node.{is_disk_fault, is_scratch_fault, blocks_after, logged_in, chain_in}
use Rattle.recovery.specs.Node.{stored_placement}
use Rattle.recovery.specs.Node as nodes
use Rattle.recovery.specs.declared.node.Appended.{Appended}
use Rattle.recovery.specs.declared.node.Appended.TheVariants as appendeds
use Rattle.recovery.specs.declared.errors.AppendError.{AppendError}
use Rattle.recovery.specs.declared.errors.AppendError.TheVariants as errors
use Rattle.follower_steps.specs.declared.waiting.Waiting.{Waiting}
use Rattle.follower_steps.specs.Steps.{State, AreAhead, judged, decided, position_of}
use Rattle.follower_steps.proofs.Nearby.{ahead_longer}
use Rattle.follow_core.specs.declared.turn.Turn.{Turn}
use Rattle.follow_core.specs.declared.turn.FollowFault.{FollowFault}
use Rattle.follow_core.specs.declared.turn.FollowFault.TheVariants as faults
use Rattle.follow_core.specs.Follower.{FollowerState, IsFollowerOf, HasMade, IsTurnImage}
use Rattle.follow_core.specs.Turning.{IsDecided, adds, reaches_disk, node_turn, with_waiting}

abbrev pub NodeAnswer : Type 0
NodeAnswer = Result (NodeState × Appended) (Option NodeState × AppendError)

-- what is returned for the block of the frame `index`, while these blocks wait
abbrev pub follower_turn : ℕ → List Waiting → NodeAnswer → Result (FollowerState × Turn) FollowFault
follower_turn index waiting answer = with_waiting waiting (node_turn index answer)

-- a cause of one thing is one of another that comes with it
pub cause_as : {A B : Type 0} (before now : ℕ) → (A → B) → (B → A) → HasCause before now A
    → HasCause before now B
cause_as before now to from cause = record {
  later = cause.later;
  failed = λ b. cause.failed (from b);
  told = λ other. to (cause.told other);
}

-- ---- the step

module _ (old : NodeState) (disk : Option DiskState) (state : State) (index : ℕ)
    (waiting : List Waiting)
  where
    -- a node of the state's blocks, after a block with this judgement
    follower_of : (node : NodeState) (judgement : Result Taken Refusal)
        → waiting ≡ state.waiting → node.log.is_marked ≡ state.marked
        → IsNodeOf node disk (blocks_after state.blocks judgement)
        → IsFollowerOf (record { node = node; waiting = waiting }) disk
        (judged state index judgement).state
    follower_of node (Ok (judging.Added block)) waits marked is =
        record { node = is; marked = marked; waiting = waits }
    follower_of node (Ok (judging.Known block)) waits marked is = record {
      node = subst (IsNodeOf node disk) (append-nil state.blocks) is;
      marked = marked;
      waiting = waits;
    }
    follower_of node (Err refusal) waits marked is =
        record { node = is; marked = marked; waiting = waits }

    pub answer_made : (judgement : Result Taken Refusal) (answer : NodeAnswer)
        → waiting ≡ state.waiting → old.log.is_marked ≡ state.marked
        → IfNode (λ node. node.log.is_marked ≡ old.log.is_marked) answer
        → IsAppendAnswer old disk state.blocks judgement answer
        → HasMade disk state.blocks (judged state index judgement)
        (follower_turn index waiting answer)
    answer_made judgement (Ok (node, appendeds.Known number)) waits marked same (told, is) =
        let (block, known, number_is, still) = told in (
          (
            block,
            ap (λ (j : Result Taken Refusal). (judged state index j).turned) known,
            number_is,
          ),
          follower_of node judgement waits (same ∙ marked) is,
        )
    answer_made judgement (Ok (node, appendeds.Added number rows receipts root)) waits marked same
        (told, is) =
        let (block, added, number_is, rows_are, receipts_are, root_is) = told in (
          (
            block,
            ap (λ (j : Result Taken Refusal). (judged state index j).turned) added,
            number_is,
            rows_are,
            receipts_are,
            root_is,
          ),
          follower_of node judgement waits (same ∙ marked) is,
        )
    answer_made judgement (Err (Some node, errors.Refused refusal)) waits marked same told =
        let (refused, back, is) = told in
        let old_is : old ≡ node = cc back in (
          ap (λ (j : Result Taken Refusal). (judged state index j).turned) refused,
          follower_of node judgement waits (same ∙ marked)
              (subst
              (λ (j : Result Taken Refusal). IsNodeOf node disk (blocks_after state.blocks j))
              (sym refused) (subst (λ (n : NodeState). IsNodeOf n disk state.blocks) old_is is)),
        )
    answer_made judgement (Err (None, errors.Refused refusal)) waits marked same told = tt
    answer_made judgement (Err (back, errors.DiskFault)) waits marked same told = tt
    answer_made judgement (Err (back, errors.ScratchFault)) waits marked same told = tt
    answer_made judgement (Err (back, errors.Memory)) waits marked same told = tt

-- the chain of a state, marked as the log of its node is
same_logged : (blocks : List Block) (marked other : Bool) (image : List ℕ) → marked ≡ other
    → chain_in image ≡ Some (record { blocks = blocks; marked = marked })
    → chain_in image ≡ Some (record { blocks = blocks; marked = other })
same_logged blocks marked other image same is =
    subst (λ (m : Bool). chain_in image ≡ Some (record { blocks = blocks; marked = m })) same is

same_blocks : (blocks others : List Block) (marked : Bool) (image : List ℕ) → blocks ≡ others
    → chain_in image ≡ Some (record { blocks = blocks; marked = marked })
    → chain_in image ≡ Some (record { blocks = others; marked = marked })
same_blocks blocks others marked image same is =
    subst (λ (b : List Block). chain_in image ≡ Some (record { blocks = b; marked = marked })) same
    is

step_image : (node : NodeState) (state : State) (index : ℕ) (judgement : Result Taken Refusal)
    (image : List ℕ) → node.log.is_marked ≡ state.marked
    → IsStepOf (logged_in node.log state.blocks) judgement image
    → IsTurnImage state (judged state index judgement).state image
step_image node state index (Ok frame) image marked (inl is) =
    inl (same_logged state.blocks node.log.is_marked state.marked image marked is)
step_image node state index (Ok (judging.Added block)) image marked (inr is) =
    inr (same_logged (state.blocks ++ block ∷ []) node.log.is_marked state.marked image marked is)
step_image node state index (Ok (judging.Known block)) image marked (inr is) =
    inl (same_blocks (state.blocks ++ []) state.blocks state.marked image (append-nil state.blocks)
    (same_logged (state.blocks ++ []) node.log.is_marked state.marked image marked is))
step_image node state index (Err refusal) image marked is =
    inl (same_logged state.blocks node.log.is_marked state.marked image marked is)

-- ---- what a follower of this node makes

module _ (node : NodeState) (waiting : List Waiting) (state : State) (index : ℕ)
    (bytes : List ℕ)
  where
    pub decided_made : (old new : Option DiskState) (answer : NodeAnswer)
        → IsFollowerOf (record { node = node; waiting = waiting }) old state
        → IfNode (λ next. next.log.is_marked ≡ node.log.is_marked) answer
        → ((blocks : List Block) → IsNodeOf node old blocks → IsAppendAnswer node new blocks
        (judgement_of (stored_placement node.log.is_marked) blocks (block_in bytes)) answer)
        → HasMade new state.blocks (decided stored_placement state index bytes)
        (follower_turn index waiting answer)
    decided_made old new answer is same answers = answer_made node new state index waiting
        (judgement_of (stored_placement state.marked) state.blocks (block_in bytes)) answer
        is.waiting is.marked same
        (subst (λ (m : Bool). IsAppendAnswer node new state.blocks
        (judgement_of (stored_placement m) state.blocks (block_in bytes)) answer) is.marked
        (answers state.blocks is.node))

    pub decided_images : {D : Type 0} (now : D → ℕ) (disk : D → ℕ → Option DiskState) (old new : D)
        → node.log.is_marked ≡ state.marked
        → Keeps now disk old new (IsStepOf (logged_in node.log state.blocks)
        (judgement_of (stored_placement node.log.is_marked) state.blocks (block_in bytes)))
        → Keeps now disk old new
        (IsTurnImage state (decided stored_placement state index bytes).state)
    decided_images now disk old new marked keeps =
        let judgement : Bool → Result Taken Refusal = λ m.
        judgement_of (stored_placement m) state.blocks (block_in bytes) in
        weaker now disk old new
        (IsStepOf (logged_in node.log state.blocks) (judgement state.marked))
        (IsTurnImage state (decided stored_placement state index bytes).state)
        (subst (λ (m : Bool). Keeps now disk old new
        (IsStepOf (logged_in node.log state.blocks) (judgement m))) marked keeps)
        (λ image is. step_image node state index (judgement state.marked) image marked is)

-- ---- whatever is known of the devices

module _ (old : NodeState) (waiting : List Waiting)
    (free : is_some (position_of (length old.chain.digests) waiting) ≡ false)
    (ahead : AreAhead (length old.chain.digests) waiting) (index : ℕ) (bytes : List ℕ)
  where
    same_ahead : (node : NodeState) → node ≡ old → AreAhead (length node.chain.digests) waiting
    same_ahead node same =
        subst (λ (n : NodeState). AreAhead (length n.chain.digests) waiting) (sym same) ahead

    -- what waits is ahead of the node that is returned
    pub still_ahead : (answer : NodeAnswer) → IsNodeAfter old bytes answer
        → IfOk (node_turn index answer)
        (λ done. AreAhead (length done.0.chain.digests) waiting)
    still_ahead (Ok (node, appendeds.Known number)) same = same_ahead node same
    still_ahead (Ok (node, appendeds.Added number rows receipts root)) (number_is, longer, more) =
        subst (λ (held : ℕ). AreAhead held waiting)
        (omega (
          arith,
          ap (length {A = Digest}) longer,
          length-append old.chain.digests (bytes_digest bytes ∷ []),
        ))
        (ahead_longer (length old.chain.digests) waiting ahead free)
    still_ahead (Err (Some node, errors.Refused refusal)) same = same_ahead node same
    still_ahead (Err (None, errors.Refused refusal)) same = tt
    still_ahead (Err (back, errors.DiskFault)) same = tt
    still_ahead (Err (back, errors.ScratchFault)) same = tt
    still_ahead (Err (back, errors.Memory)) same = tt

module _ (index : ℕ) (waiting : List Waiting) where
  pub is_decided : (old : NodeState) (bytes : List ℕ) (answer : NodeAnswer)
      → IsNodeAfter old bytes answer → IsAsJudged (node_judgement old bytes) answer
      → IfOk (follower_turn index waiting answer)
      (λ done. IsDecided old index bytes done.0.node done.1)
  is_decided old bytes (Ok (node, appendeds.Known number)) same kept = (same, kept)
  is_decided old bytes (Ok (node, appendeds.Added number rows receipts root)) longer kept = longer
  is_decided old bytes (Err (Some node, errors.Refused refusal)) same kept =
      (same, refl, (refusal, refl, kept))
  is_decided old bytes (Err (None, errors.Refused refusal)) same kept = tt
  is_decided old bytes (Err (back, errors.DiskFault)) same kept = tt
  is_decided old bytes (Err (back, errors.ScratchFault)) same kept = tt
  is_decided old bytes (Err (back, errors.Memory)) same kept = tt

  pub node_made : (P : NodeState → Type 0) (answer : NodeAnswer) → IfNode P answer
      → IfOk (follower_turn index waiting answer) (λ done. P done.0.node)
  node_made P (Ok done) p = p
  node_made P (Err (Some node, errors.Refused refusal)) p = p
  node_made P (Err (None, errors.Refused refusal)) p = tt
  node_made P (Err (back, errors.DiskFault)) p = tt
  node_made P (Err (back, errors.ScratchFault)) p = tt
  node_made P (Err (back, errors.Memory)) p = tt

  pub waiting_made : (answer : NodeAnswer)
      → IfOk (follower_turn index waiting answer) (λ done. done.0.waiting ≡ waiting)
  waiting_made (Ok done) = refl
  waiting_made (Err (Some node, errors.Refused refusal)) = refl
  waiting_made (Err (None, errors.Refused refusal)) = tt
  waiting_made (Err (back, errors.DiskFault)) = tt
  waiting_made (Err (back, errors.ScratchFault)) = tt
  waiting_made (Err (back, errors.Memory)) = tt

  pub reaches_made : (answer : NodeAnswer)
      → reaches_disk adds (follower_turn index waiting answer) ≡ nodes.reaches_disk answer
  reaches_made (Ok (node, appendeds.Known number)) = refl
  reaches_made (Ok (node, appendeds.Added number rows receipts root)) = refl
  reaches_made (Err (Some node, errors.Refused refusal)) = refl
  reaches_made (Err (None, errors.Refused refusal)) = refl
  reaches_made (Err (back, errors.DiskFault)) = refl
  reaches_made (Err (back, errors.ScratchFault)) = refl
  reaches_made (Err (back, errors.Memory)) = refl

  -- ---- who is blamed

  disk_to : (answer : NodeAnswer) → Blames is_disk_fault answer
      → IsErrOf (follower_turn index waiting answer) faults.DiskFault
  disk_to (Ok done) b = absurd b
  disk_to (Err (Some node, errors.Refused refusal)) b = absurd (cc b)
  disk_to (Err (None, errors.Refused refusal)) b = absurd (cc b)
  disk_to (Err (back, errors.DiskFault)) b = refl
  disk_to (Err (back, errors.ScratchFault)) b = absurd (cc b)
  disk_to (Err (back, errors.Memory)) b = absurd (cc b)

  disk_from : (answer : NodeAnswer)
      → IsErrOf (follower_turn index waiting answer) faults.DiskFault → Blames is_disk_fault answer
  disk_from (Ok done) e = absurd (cc e)
  disk_from (Err (Some node, errors.Refused refusal)) e = absurd (cc e)
  disk_from (Err (None, errors.Refused refusal)) e = absurd (cc e)
  disk_from (Err (back, errors.DiskFault)) e = refl
  disk_from (Err (back, errors.ScratchFault)) e = absurd (cc e)
  disk_from (Err (back, errors.Memory)) e = absurd (cc e)

  scratch_to : (answer : NodeAnswer) → Blames is_scratch_fault answer
      → IsErrOf (follower_turn index waiting answer) faults.ScratchFault
  scratch_to (Ok done) b = absurd b
  scratch_to (Err (Some node, errors.Refused refusal)) b = absurd (cc b)
  scratch_to (Err (None, errors.Refused refusal)) b = absurd (cc b)
  scratch_to (Err (back, errors.DiskFault)) b = absurd (cc b)
  scratch_to (Err (back, errors.ScratchFault)) b = refl
  scratch_to (Err (back, errors.Memory)) b = absurd (cc b)

  scratch_from : (answer : NodeAnswer)
      → IsErrOf (follower_turn index waiting answer) faults.ScratchFault
      → Blames is_scratch_fault answer
  scratch_from (Ok done) e = absurd (cc e)
  scratch_from (Err (Some node, errors.Refused refusal)) e = absurd (cc e)
  scratch_from (Err (None, errors.Refused refusal)) e = absurd (cc e)
  scratch_from (Err (back, errors.DiskFault)) e = absurd (cc e)
  scratch_from (Err (back, errors.ScratchFault)) e = refl
  scratch_from (Err (back, errors.Memory)) e = absurd (cc e)

  pub disk_blamed : (answer : NodeAnswer) (before now : ℕ)
      → HasCause before now (Blames is_disk_fault answer)
      → HasCause before now (IsErrOf (follower_turn index waiting answer) faults.DiskFault)
  disk_blamed answer before now cause =
      cause_as before now (disk_to answer) (disk_from answer) cause

  pub scratch_blamed : {S : Type 0} (state : S → ScratchState) (count : S → ℕ) (old new : S)
      (answer : NodeAnswer) → Serves state count old new (Blames is_scratch_fault answer)
      → Serves state count old new
      (IsErrOf (follower_turn index waiting answer) faults.ScratchFault)
  scratch_blamed state count old new answer serves = record {
    retains = serves.retains;
    cause = cause_as (count old) (count new) (scratch_to answer) (scratch_from answer) serves.cause;
  }
