-- What is returned for a frame, by what its delivery returned.
use Rattle.std.proofs.Common.{◌≡◌, ℕ, sym, ◌∙◌, ap}
use Rattle.std.specs.Prelude.{Result, Ok, Err, IsErrOf}
use Rattle.lc_base.specs.Faults.{HasCause}
use Rattle.chain_input.specs.declared.taking.Turn.{Turn as FrameTurn}
use Rattle.chain_input.specs.declared.taking.Turn.TheVariants as frame_turns
use Rattle.chain_replay.specs.declared.refusal.Refusal.{Refusal}
use Rattle.cli_promises.specs.declared.ending.RunStop.{RunStop}
use Rattle.follow_core.specs.Follower.{FollowerState}
use Rattle.cli_append.specs.declared.follow_taking.Following.{Following}
use Rattle.cli_append.specs.FollowSteps.{next_following}

-- a frame that was taken was delivered, to the follower that goes on
pub took : (next : ℕ) (answer : Result FollowerState RunStop) (longer : Following)
    → Ok (frame_turns.Taken longer) ≡ next_following next answer
    → (answer ≡ Ok longer.follower) × (longer.next ≡ next)
took next (Ok follower) longer is =
    let same : longer ≡ record { follower = follower; next = next } = cc is in (
      ap (λ (l : Following). Ok l.follower) (sym same),
      ap (λ (l : Following). l.next) same,
    )
took next (Err stop) longer is = absurd (cc is)

-- no frame is refused for its block
pub not_refused : (next : ℕ) (answer : Result FollowerState RunStop) (refusal : Refusal)
    → Ok (frame_turns.Refused refusal) ≡ next_following next answer → ⊥
not_refused next (Ok follower) refusal is = cc is
not_refused next (Err stop) refusal is = cc is

-- a stop is that of the delivery
pub stopped_by : (next : ℕ) (answer : Result FollowerState RunStop) (stop : RunStop)
    → Err stop ≡ next_following next answer → answer ≡ Err stop
stopped_by next (Ok follower) stop is = absurd (cc is)
stopped_by next (Err other) stop is = let same : stop ≡ other = cc is in ap Err (sym same)

stop_comes : (next : ℕ) (answer : Result FollowerState RunStop) (stop : RunStop)
    → answer ≡ Err stop → next_following next answer ≡ Err stop
stop_comes next (Ok follower) stop is = absurd (cc is)
stop_comes next (Err other) stop is = let same : other ≡ stop = cc is in ap Err same

-- what the delivery blames, the frame's turn blames
pub turn_blames : (before now next : ℕ) (answer : Result FollowerState RunStop)
    (result : Result (FrameTurn Following) RunStop) (stop : RunStop)
    → result ≡ next_following next answer → HasCause before now (IsErrOf answer stop)
    → HasCause before now (IsErrOf result stop)
turn_blames before now next answer result stop is cause = record {
  later = cause.later;
  failed = λ blames. cause.failed (stopped_by next answer stop (sym blames ∙ is));
  told = λ differ. is ∙ stop_comes next answer stop (cause.told differ);
}
