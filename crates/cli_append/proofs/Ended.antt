-- How `follow` ends, by what its follower did: the last line is printed, or it stops before.
use Rattle.std.proofs.Common.{◌≡◌, ℕ, true, false, List, [], ◌∷◌, length, take, refl, sym}
use Rattle.std.proofs.Common.{◌∙◌, ap, subst, append-nil}
use Rattle.std.specs.Prelude.{Option, Some, Result, Ok, Err, is_ok, IfOk}
use Rattle.std.proofs.lemmas.List.{length-map}
use Rattle.lc_base.specs.declared.digest.Digest.{Digest}
use Rattle.lc_io.specs.Disk.{DiskState, Stays}
use Rattle.lc_io.specs.Outside.{Tell}
use Rattle.disk_model.specs.Disk.{Keeps, Rests}
use Rattle.disk_model.proofs.Moments.{weaker}
use Rattle.block_codec.specs.Placement.{digest_of}
use Rattle.block_codec.specs.declared.block.Block.{Block}
use Rattle.block_log.specs.Standing.{Logged}
use Rattle.chain_input.specs.Folding.{FoldEnd, Whole}
use Rattle.cli_promises.specs.recovery.Node.{next_in_chain, chain_in}
use Rattle.cli_promises.specs.Promises.{Line, plain, IsPartly, Telling}
use Rattle.cli_promises.proofs.Tellings.{longer, still}
use Rattle.cli_promises.specs.Appending.{IsKnown, GoesFrom, fold_end}
use Rattle.cli_promises.specs.declared.ending.RunEnd.{RunEnd}
use Rattle.cli_promises.specs.declared.ending.RunStop.{RunStop}
use Rattle.cli_append.proofs.Frames.{stands_at}
use Rattle.cli_promises.proofs.Resting.{with_none}
use Rattle.follow_core.specs.Follower.{FollowerState, IsFollowerOf}
use Rattle.follower_steps.specs.Steps.{State}
use Rattle.cli_promises.specs.FollowLines.{follow_line}
use Rattle.cli_promises.specs.Following.{Followed, FollowFold, fold_ends, last_line}
use Rattle.cli_promises.specs.Following.{HasFollowed, FollowsAll}
use Rattle.cli_append.specs.FollowSteps.{chain_held, Follows}
use Rattle.cli_append.proofs.Done.{done_with, more_done, Grown, chain_grown}
use Rattle.cli_append.proofs.Joined.{then_follows, stop_follows, chain_rests}

-- nothing but a line was done
abbrev pub line_done : State → Line → Followed
line_done state line = done_with state (line ∷ []) []

-- the last line counts the blocks that are held, and those that wait
pub counts_held : (state : State) (follower : FollowerState) (disk : Option DiskState)
    → IsFollowerOf follower disk state
    → plain (follow_line (length follower.node.chain.digests) (length follower.waiting))
    ≡ last_line state Whole
counts_held state follower disk is =
    rw (
      ap (length {A = Digest}) is.node.kept.digests_are ∙ length-map state.blocks digest_of,
      is.waiting,
    ) refl

pub same_counts : (blocks waiting held kept : ℕ) → blocks ≡ held → waiting ≡ kept
    → follow_line blocks waiting ≡ follow_line held kept
same_counts blocks waiting held kept same also = rw (same, also) refl

module _ {D : Type 0} (now : D → ℕ) (disk : D → ℕ → Option DiskState)
    (told : D → Option (List Tell)) where
  -- a line that is printed by itself
  line_follows : {T : Type 0} (mid new : D) (state : State) (follower : FollowerState) (line : Line)
      (result : Result T RunStop) → IsFollowerOf follower (disk mid (now mid)) state
      → Stays now disk mid new → Telling next_in_chain now disk told mid new (line ∷ [])
      (is_ok result)
      → Follows now disk told mid new state (line_done state line) (λ end. follower) result
  line_follows {T} mid new state follower line result is stays telling = record {
    images = λ is_told. still next_in_chain now disk told mid new
        (IsPartly next_in_chain (chain_held state) [])
        (λ s image at shows. (
          0,
          chain_rests now disk told mid state follower is s image at shows
              ∙ ap Some (sym (with_none (chain_held state))),
        )) stays;
    lines = λ is_told. telling;
    unwritten = λ ok none. stays;
    answer = still_is result;
  }
    where
      still_is : (result : Result T RunStop)
          → IfOk result (λ end. IsFollowerOf follower (disk new (now new)) state)
      still_is (Ok end) =
          subst (λ (o : Option DiskState). IsFollowerOf follower o state) (sym stays.last) is
      still_is (Err stop) = tt

  has_followed : (new : D) (left : Option (List ℕ)) (state : State) (done : Followed)
      (follower : FollowerState) (end : FoldEnd) (rest : List ℕ) (result : Result RunEnd RunStop)
      → Grown state done → left ≡ Some rest → IfOk result (λ answer. fold_end answer ≡ end)
      → IfOk result (λ answer. IsFollowerOf follower (disk new (now new)) done.state)
      → IfOk result (HasFollowed (disk new (now new)) left (chain_held state)
      (fold_ends done end rest))
  has_followed new left state done follower end rest (Ok answer) grown left_is is here = record {
    end_is = is;
    left_is = left_is;
    log = subst (λ (l : Logged). Rests (disk new (now new)) (λ image. chain_in image ≡ Some l))
        (chain_grown state done grown)
        (stands_at follower.node.log (chain_held done.state) (disk new (now new)) here.marked
        here.node.log);
  }
  has_followed new left state done follower end rest (Err stop) grown left_is is here = tt

  -- all frames were delivered, and the last line is printed
  pub then_line : (old mid new : D) (left : Option (List ℕ)) (state : State) (done : Followed)
      (follower : FollowerState) (end : FoldEnd) (rest : List ℕ)
      (result : Result RunEnd RunStop)
      → Follows now disk told old mid state done (λ f. f) (Ok follower) → Grown state done
      → left ≡ Some rest → IfOk result (λ answer. fold_end answer ≡ end)
      → Stays now disk mid new
      → Telling next_in_chain now disk told mid new (last_line done.state end ∷ []) (is_ok result)
      → FollowsAll now disk told old new left (chain_held state) (fold_ends done end rest) result
  then_line old mid new left state done follower end rest result first grown left_is is stays
      telling =
      let line : Line = last_line done.state end in
      let all = then_follows now disk told old mid new state done (line_done done.state line)
      follower (λ answer. follower) result first grown
      (line_follows mid new done.state follower line result first.answer stays telling) in
      record {
        images = λ is_told. subst (λ (b : List Block). Keeps now disk old new
            (IsPartly next_in_chain (chain_held state) b)) (append-nil done.added)
            (all.images is_told);
        lines = all.lines;
        unwritten = λ ok none. all.unwritten ok (append-nil done.added ∙ none);
        ended = has_followed new left state done follower end rest result grown left_is is
            all.answer;
      }

  -- it stopped after what was done, and there was more to do
  pub then_stop : {T : Type 0} (old new : D) (left : Option (List ℕ)) (state : State)
      (done more : Followed) (follower_in : T → FollowerState) (fold : FollowFold) (stop : RunStop)
      → Follows now disk told old new state done follower_in (Err stop)
      → fold.done ≡ more_done done more
      → FollowsAll now disk told old new left (chain_held state) fold (Err stop)
  then_stop {T} old new left state done more follower_in fold stop first is =
      let all : Follows now disk told old new state fold.done follower_in (Err stop) =
      subst (λ (d : Followed). Follows now disk told old new state d follower_in (Err stop))
      (sym is) (stop_follows now disk told old new state done more follower_in follower_in stop
      first) in
      record {
        images = all.images;
        lines = λ is_told. longer next_in_chain now disk told old new fold.done.lines
            (last_line fold.done.state fold.end ∷ []) false (all.lines is_told);
        unwritten = λ ok none. absurd (cc ok);
        ended = tt;
      }

  -- what was done, as what was stopped then
  pub stopped_then : (old new : D) (state : State) (done : Followed) (follower : FollowerState)
      (stop : RunStop)
      → Follows now disk told old new state done (λ f. f) (Ok follower)
      → Follows now disk told old new state done (λ (f : FollowerState). f) (Err stop)
  stopped_then old new state done follower stop first = record {
    images = first.images;
    lines = λ is_told. part (first.lines is_told);
    unwritten = λ ok none. absurd (cc ok);
    answer = tt;
  }
    where
      part : Telling next_in_chain now disk told old new done.lines true
          → Telling next_in_chain now disk told old new done.lines false
      part t = record {
        tells = t.tells;
        added = t.added;
        begun = t.begun;
        whole = λ all. absurd (cc all);
        kept = t.kept;
      }

  -- a crash leaves the chain from before, and any blocks after it
  pub goes_from : {T : Type 0} (old new : D) (state : State) (done : Followed)
      (follower_in : T → FollowerState) (result : Result T RunStop)
      → Follows now disk told old new state done follower_in result
      → IsKnown (disk old (now old)) → Keeps now disk old new (GoesFrom (chain_held state))
  goes_from old new state done follower_in result first is_told =
      weaker now disk old new (IsPartly next_in_chain (chain_held state) done.added)
      (GoesFrom (chain_held state)) (first.images is_told)
      (λ image (count, is). (take count done.added, is))
