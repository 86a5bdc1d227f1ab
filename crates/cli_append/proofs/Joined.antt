-- What a follower did, one part after another.
use Rattle.std.proofs.Common.{◌≡◌, ℕ, true, false, List, [], ◌∷◌, ◌++◌, take, drop, refl, sym, ◌∙◌}
use Rattle.std.proofs.Common.{ap, subst, append_assoc}
use Rattle.std.specs.Prelude.{Option, Some, Result, Ok, Err, is_ok, IfOk}
use Rattle.std.proofs.lemmas.List.{take-append-drop}
use Rattle.lc_io.specs.Disk.{DiskState}
use Rattle.lc_io.specs.Outside.{Tell}
use Rattle.disk_model.specs.Disk.{IsImage}
use Rattle.disk_model.proofs.Moments.{started, then_keeps, weaker, stays_on, stays_here}
use Rattle.block_codec.specs.declared.block.Block.{Block}
use Rattle.block_log.specs.Standing.{with_blocks}
use Rattle.cli_promises.specs.recovery.Node.{next_in_chain, chain_in}
use Rattle.cli_promises.specs.Promises.{IsPartly}
use Rattle.cli_promises.proofs.Tellings.{none_told, none_to_tell, join, longer}
use Rattle.cli_promises.proofs.Sure.{all_sure_kept, partly_more, partly_longer}
use Rattle.cli_promises.specs.Appending.{IsKnown}
use Rattle.cli_promises.specs.declared.ending.RunStop.{RunStop}
use Rattle.cli_promises.proofs.Resting.{rests_each, with_none}
use Rattle.cli_append.proofs.Frames.{stands_at, still_known}
use Rattle.follow_core.specs.Follower.{FollowerState, IsFollowerOf}
use Rattle.follower_steps.specs.Steps.{State}
use Rattle.follower_steps.specs.Events.{acknowledged}
use Rattle.cli_promises.specs.Following.{Followed, nothing_done, all_acknowledged}
use Rattle.cli_append.specs.FollowSteps.{chain_held, Follows}
use Rattle.cli_append.proofs.Done.{Grown, more_done}

-- lists that are empty together are both empty
both_empty : (a b : List Block) → a ++ b ≡ [] → (a ≡ []) × (b ≡ [])
both_empty [] b none = (refl, none)
both_empty (block ∷ a) b none = absurd (cc none)

-- some first ones of the blocks added later, after those added before
partly_then : (state : State) (one two : Followed) (image : List ℕ) → Grown state one
    → IsPartly next_in_chain (chain_held one.state) two.added image
    → IsPartly next_in_chain (chain_held state) (one.added ++ two.added) image
partly_then state one two image grown (count, is) =
    let front : List Block = take count two.added in
    let same : chain_held one.state ≡ with_blocks (chain_held state) one.added =
    rw (grown.blocks_are, grown.marked_is) refl in
    let part = partly_more next_in_chain (chain_held state) (one.added ++ front)
    (drop count two.added) image
    (partly_longer next_in_chain (chain_held state) one.added front (chain_held one.state) image
    same is) in
    subst (λ (a : List Block). IsPartly next_in_chain (chain_held state) a image)
    (append_assoc one.added front (drop count two.added)
    ∙ ap (λ (a : List Block). one.added ++ a) (take-append-drop count two.added)) part

module _ {D : Type 0} (now : D → ℕ) (disk : D → ℕ → Option DiskState)
    (told : D → Option (List Tell)) where
  -- what was done wholly, and then more, or a part of it
  pub then_follows : {T : Type 0} (old mid new : D) (state : State) (one two : Followed)
      (follower : FollowerState) (follower_in : T → FollowerState) (result : Result T RunStop)
      → Follows now disk told old mid state one (λ f. f) (Ok follower) → Grown state one
      → Follows now disk told mid new one.state two follower_in result
      → Follows now disk told old new state (more_done one two) follower_in result
  then_follows old mid new state one two follower follower_in result first grown second =
      let P : List ℕ → Type 0 = IsPartly next_in_chain (chain_held state) one.added in
      let Q : List ℕ → Type 0 = IsPartly next_in_chain (chain_held one.state) two.added in
      let R : List ℕ → Type 0 =
      IsPartly next_in_chain (chain_held state) (one.added ++ two.added) in
      let still_is = λ (is_told : IsKnown (disk old (now old))). still_known now disk told old mid P
      (first.images is_told) is_told in
      record {
        images = λ is_told. then_keeps now disk old mid new R
            (weaker now disk old mid P R (first.images is_told)
            (partly_more next_in_chain (chain_held state) one.added two.added))
            (weaker now disk mid new Q R (second.images (still_is is_told))
            (λ image partly. partly_then state one two image grown partly));
        lines = λ is_told. join next_in_chain now disk told old mid new Q one.lines two.lines
            (is_ok result) (first.lines is_told) (second.images (still_is is_told))
            (λ image partly. all_sure_kept next_in_chain (chain_held one.state)
            (take partly.0 two.added) one.lines image grown.sure partly.1)
            (second.lines (still_is is_told));
        unwritten = λ ok none.
            let parts = both_empty one.added two.added none in
            stays_on now disk old mid new (first.unwritten refl parts.0)
            (second.unwritten ok parts.1);
        answer = second.answer;
      }

  -- more was to be done after what was stopped
  pub stop_follows : {T U : Type 0} (old new : D) (state : State) (one two : Followed)
      (follower_in : T → FollowerState) (other_in : U → FollowerState) (stop : RunStop)
      → Follows now disk told old new state one follower_in (Err stop)
      → Follows now disk told old new state (more_done one two) other_in (Err stop)
  stop_follows old new state one two follower_in other_in stop first = record {
    images = λ is_told. weaker now disk old new
        (IsPartly next_in_chain (chain_held state) one.added)
        (IsPartly next_in_chain (chain_held state) (one.added ++ two.added)) (first.images is_told)
        (partly_more next_in_chain (chain_held state) one.added two.added);
    lines = λ is_told. longer next_in_chain now disk told old new one.lines two.lines false
        (first.lines is_told);
    unwritten = λ ok none. absurd (cc ok);
    answer = tt;
  }

  -- the disk of a follower holds its chain
  pub chain_rests : (old : D) (state : State) (follower : FollowerState)
      → IsFollowerOf follower (disk old (now old)) state → (s : DiskState) (image : List ℕ)
      → disk old (now old) ≡ Some s → IsImage s image
      → chain_in image ≡ Some (chain_held state)
  chain_rests old state follower is = rests_each (disk old (now old))
      (λ image. chain_in image ≡ Some (chain_held state))
      (stands_at follower.node.log (chain_held state) (disk old (now old)) is.marked is.node.log)

  -- nothing is done yet
  pub none_follows : (old : D) (state : State) (follower : FollowerState)
      → IsFollowerOf follower (disk old (now old)) state
      → Follows now disk told old old state (nothing_done state) (λ f. f) (Ok follower)
  none_follows old state follower is = record {
    images = λ is_told. started now disk old (IsPartly next_in_chain (chain_held state) [])
        (λ s image at shows. (
          0,
          chain_rests old state follower is s image at shows
              ∙ ap Some (sym (with_none (chain_held state))),
        ));
    lines = λ is_told. none_to_tell next_in_chain now disk told old old true refl;
    unwritten = λ ok none. stays_here now disk old;
    answer = is;
  }

  -- nothing was done of what was to be done
  pub not_followed : {T : Type 0} (old : D) (state : State) (done : Followed)
      (follower : FollowerState) (follower_in : T → FollowerState) (stop : RunStop)
      → IsFollowerOf follower (disk old (now old)) state
      → Follows now disk told old old state done follower_in (Err stop)
  not_followed old state done follower follower_in stop is = record {
    images = λ is_told. started now disk old
        (IsPartly next_in_chain (chain_held state) done.added)
        (λ s image at shows. (
          0,
          chain_rests old state follower is s image at shows
              ∙ ap Some (sym (with_none (chain_held state))),
        ));
    lines = λ is_told. none_told next_in_chain now disk told old old done.lines refl;
    unwritten = λ ok none. absurd (cc ok);
    answer = tt;
  }

  -- all blocks that are held were acknowledged
  pub acknowledged_follows : (old new : D) (state : State) (done : Followed)
      (result : Result FollowerState RunStop)
      → Follows now disk told old new state done (λ f. f) result
      → Follows now disk told old new state (all_acknowledged done) (λ f. f) result
  acknowledged_follows old new state done result is = record {
    images = is.images;
    lines = is.lines;
    unwritten = is.unwritten;
    answer = in_state result is.answer;
  }
    where
      in_state : (result : Result FollowerState RunStop)
          → IfOk result (λ f. IsFollowerOf f (disk new (now new)) done.state)
          → IfOk result (λ f. IsFollowerOf f (disk new (now new)) (acknowledged done.state))
      in_state (Ok follower) is =
          record { node = is.node; marked = is.marked; waiting = is.waiting }
      in_state (Err stop) is = tt
