-- A block that is known is held, and the line of its turn promises that it stays.
use Rattle.std.proofs.Common.{◌≡◌, ℕ, List, length, refl, sym, ◌∙◌, ap, subst}
use Rattle.std.proofs.Common.{append-nil}
use Rattle.std.specs.Prelude.{Option, Some, None, Result, Ok, Err, slice_get}
use Rattle.std.specs.Prelude.{slice_index_or}
use Rattle.std.specs.Option.{option_map}
use Rattle.block_codec.specs.Reading.{block_in}
use Rattle.block_codec.specs.declared.block.Block.{Block}
use Rattle.cli_promises.specs.recovery.Node.{stored_placement}
use Rattle.chain_replay.specs.Judging.{Taken, judgement_of}
use Rattle.chain_replay.specs.Judging as judging
use Rattle.chain_replay.specs.declared.refusal.Refusal.{Refusal}
use Rattle.cli_append.proofs.Promised.{line_sure}
use Rattle.follower_steps.specs.declared.waiting.Waiting.{Waiting}
use Rattle.follower_steps.specs.declared.waiting.Arrival.{Arrival}
use Rattle.follower_steps.specs.declared.waiting.Arrival.TheVariants as arrivals
use Rattle.follower_steps.specs.Steps.{State, Step, Known, judged, decided, arrived}
use Rattle.follower_steps.specs.Steps.{arrival_in, turn_at}
use Rattle.follower_steps.specs.Steps.{without, position_of}
use Rattle.cli_append.specs.FollowSteps.{chain_held}
use Rattle.cli_promises.specs.FollowLaws.{KnownIsHeld, PromisesTheHeld}

judged_known : (state : State) (index : ℕ) (spelled : Result Block ℕ)
    (judgement : Result Taken Refusal) (known : Block)
    → judgement_of (stored_placement state.marked) state.blocks spelled ≡ judgement
    → (judged state index judgement).turned ≡ Known known
    → PromisesTheHeld state.blocks known
judged_known state index spelled (Ok (judging.Added block)) known is turned = absurd (cc turned)
judged_known state index spelled (Ok (judging.Known block)) known is turned =
    let same : block ≡ known = cc turned in
    let there = line_sure (chain_held state) spelled (judging.Known block) is in
    subst (PromisesTheHeld state.blocks) same (record {
      held = slice_index_or state.blocks block.number block;
      there = ap (λ (b : List Block). slice_get b block.number) (sym (append-nil state.blocks))
          ∙ there;
      promise_is = refl;
    })
judged_known state index spelled (Err refusal) known is turned = absurd (cc turned)

decided_known : (state : State) (index : ℕ) (bytes : List ℕ) (known : Block)
    → (decided stored_placement state index bytes).turned ≡ Known known
    → PromisesTheHeld state.blocks known
decided_known state index bytes known turned =
    judged_known state index (block_in bytes)
    (judgement_of (stored_placement state.marked) state.blocks (block_in bytes)) known refl turned

arrived_known : (state : State) (index : ℕ) (bytes : List ℕ) (arrival : Arrival) (known : Block)
    → (arrived stored_placement state index bytes arrival).turned ≡ Known known
    → PromisesTheHeld state.blocks known
arrived_known state index bytes (arrivals.Held held) known turned =
    decided_known state index bytes known turned
arrived_known state index bytes arrivals.Due known turned =
    decided_known state index bytes known turned
arrived_known state index bytes (arrivals.Early early) known turned = absurd (cc turned)
arrived_known state index bytes (arrivals.Dropped cause) known turned = absurd (cc turned)

out_known : (state : State) (at : ℕ) (found : Option Waiting) (step : Step) (known : Block)
    → option_map (λ (block : Waiting). decided stored_placement (without state at) block.index
    block.bytes) found ≡ Some step → step.turned ≡ Known known
    → PromisesTheHeld state.blocks known
out_known state at None step known made turned = absurd (cc made)
out_known state at (Some block) step known made turned =
    let same : decided stored_placement (without state at) block.index block.bytes ≡ step =
    cc made in
    decided_known (without state at) block.index block.bytes known
    (ap (λ (s : Step). s.turned) same ∙ turned)

at_known : (state : State) (found : Option ℕ) (step : Step) (known : Block)
    → turn_at stored_placement state found ≡ Some step → step.turned ≡ Known known
    → PromisesTheHeld state.blocks known
at_known state None step known made turned = absurd (cc made)
at_known state (Some at) step known made turned =
    out_known state at (slice_get state.waiting at) step known made turned

pub known_held : KnownIsHeld
known_held = record {
  first = λ state index bytes known turned. arrived_known state index bytes
      (arrival_in (length state.blocks) state.waiting (block_in bytes)) known turned;
  further = λ state step known made turned. at_known state
      (position_of (length state.blocks) state.waiting) step known made turned;
}
