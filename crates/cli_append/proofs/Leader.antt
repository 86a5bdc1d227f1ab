-- The chain of a follower with all blocks that it added is a prefix of its leader's.
use Rattle.std.proofs.Common.{ℕ, zero, suc, ◌+◌, ◌-◌, List, [], ◌∷◌, sym, subst}
use Rattle.std.specs.Prelude.{IfSome}
use Rattle.std.specs.List.{All}
use Rattle.std.proofs.lemmas.List.Elements.{All-nil, All-cons, All-head, All-tail}
use Rattle.block_codec.specs.Frames.{FrameStep, End, Truncated, Length, Many, Frame, frame_step}
use Rattle.block_codec.specs.declared.limits.TheConstants.{MAX_FRAMES}
use Rattle.block_codec.specs.declared.block.Block.{Block}
use Rattle.chain_exec.specs.Compiled.{compiled_in}
use Rattle.cli_promises.specs.recovery.Node.{stored_placement}
use Rattle.follower_steps.proofs.Follows.{follows}
use Rattle.follower_steps.specs.Steps.{State, started}
use Rattle.follower_steps.specs.Events.{Event, Delivery, frame_of, IsFrameOf}
use Rattle.follower_steps.specs.Events.{AreEventsOf, after}
use Rattle.follower_steps.specs.Laws.{IsPrefixOf, IsFollowing}
use Rattle.cli_promises.specs.Following.{Followed, FollowFold, nothing_done, after_frame}
use Rattle.cli_promises.specs.Following.{follow_step}
use Rattle.cli_promises.specs.Following.{follow_from, follow_all}
use Rattle.cli_promises.specs.FollowLaws.{FollowsItsLeader, deliveries}
use Rattle.cli_append.proofs.Done.{Grown, grown_none, grown_more, grown_frame, after_frame_from}
use Rattle.cli_append.proofs.Delivered.{inputs_delivered}

-- ---- the chain at the end of an input

grown_next : (state : State) (done : Followed) (index : ℕ) (bytes : List ℕ) → Grown state done
    → Grown state (after_frame compiled_in stored_placement done index bytes)
grown_next state done index bytes grown =
    subst (Grown state) (sym (after_frame_from compiled_in stored_placement done index bytes))
    (grown_more state done
    (after_frame compiled_in stored_placement (nothing_done done.state) index bytes) grown
    (grown_frame done.state index bytes))

grown_step : (state : State) (next : Followed → List ℕ → FollowFold)
    → ((done : Followed) (input : List ℕ) → Grown state done → Grown state (next done input).done)
    → (count : ℕ) (done : Followed) (input : List ℕ) (step : FrameStep) → Grown state done
    → Grown state (follow_step compiled_in stored_placement next count done input step).done
grown_step state next others count done input End grown = grown
grown_step state next others count done input Truncated grown = grown
grown_step state next others count done input (Length size) grown = grown
grown_step state next others count done input Many grown = grown
grown_step state next others count done input (Frame frame rest) grown =
    others (after_frame compiled_in stored_placement done count frame) rest
    (grown_next state done count frame grown)

-- a fold lengthens the chain by the blocks that it adds
pub grown_fold : (state : State) (n : ℕ) (done : Followed) (input : List ℕ) → Grown state done
    → Grown state (follow_from compiled_in stored_placement n done input).done
unfolding follow_from
grown_fold state zero done input grown = grown
grown_fold state (suc n) done input grown =
    grown_step state (follow_from compiled_in stored_placement n) (grown_fold state n)
    (MAX_FRAMES - n) done input (frame_step (MAX_FRAMES - n) input) grown

-- ---- the events

events_of : (leader : List Block) (index : ℕ) (frames : List (List ℕ))
    → All (IsFrameOf leader) frames → AreEventsOf leader (deliveries index frames)
events_of leader index [] all =
    All-nil (λ (e : Event). IfSome (frame_of e) (IsFrameOf leader))
events_of leader index (frame ∷ frames) all =
    All-cons (λ (e : Event). IfSome (frame_of e) (IsFrameOf leader)) (Delivery index frame)
    (deliveries (index + 1) frames) (All-head (IsFrameOf leader) frame frames all)
    (events_of leader (index + 1) frames (All-tail (IsFrameOf leader) frame frames all))

pub follows_leader : FollowsItsLeader
follows_leader leader chain logged prefix input frames are all =
    let start : State = started logged.blocks logged.marked in
    let fold : FollowFold = follow_all compiled_in stored_placement logged input in
    let following : IsFollowing leader (after stored_placement start (deliveries 0 frames)) =
    follows compiled_in leader chain (deliveries 0 frames) (events_of leader 0 frames all)
    logged.blocks logged.marked prefix in
    let here = subst (λ (s : State). IsPrefixOf s.blocks leader)
    (sym (inputs_delivered compiled_in stored_placement logged input frames are))
    following.prefix in
    let grown = grown_fold start (MAX_FRAMES + 1) (nothing_done start) input (grown_none start) in
    subst (λ (b : List Block). IsPrefixOf b leader) grown.blocks_are here
