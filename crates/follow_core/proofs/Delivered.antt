-- The first turn of a delivery: a follower that keeps, knows or drops a block without the chain
-- leaves its disk as it is.
use Rattle.std.proofs.Common.{◌≡◌, inl, ℕ, Bool, true, false, List, [], ◌∷◌, ◌++◌, map, length}
use Rattle.std.proofs.Common.{refl, sym, ◌∙◌, ap, subst, arith}
use Rattle.std.specs.Prelude.{Option, Some, IfOk, Result, Ok, Err, if◌then◌else◌, slice_get}
use Rattle.std.proofs.lemmas.List.{length-map}
use Rattle.lc_base.specs.Faults.{HasCause}
use Rattle.lc_base.specs.declared.digest.Digest.{Digest}
use Rattle.lc_base.specs.declared.memory.Memory.{Memory}
use Rattle.lc_io.specs.Disk.{DiskState}
use Rattle.disk_model.specs.Disk.{Keeps, content_of}
use Rattle.disk_model.proofs.Moments.{weaker}
use Rattle.block_codec.specs.Placement.{bytes_digest, digest_of, held_placement, is_same_digest}
use Rattle.block_codec.specs.Reading.{block_in}
use Rattle.block_codec.specs.declared.block.Block.{Block}
use Rattle.block_codec.specs.declared.placement.Placement.{Placement}
use Rattle.block_codec.specs.declared.placement.Placement.TheVariants as placements
use Rattle.block_codec.specs.declared.placement.Misplaced.TheVariants as misplaced
use Rattle.follower_steps.specs.chain_replay.Judging.{judgement_of, judged_by_placement}
use Rattle.follower_steps.specs.chain_replay.declared.refusal.Refusal.TheVariants as refusals
use Rattle.recovery.specs.Node.{NodeState, IsNodeOf, IsStepOf, chain_in, logged_in}
use Rattle.recovery.specs.Node.{stored_placement}
use Rattle.recovery.proofs.Nodes.{still}
use Rattle.follower_steps.specs.declared.cause.Cause.{Cause}
use Rattle.follower_steps.specs.declared.cause.Cause.TheVariants as causes
use Rattle.follower_steps.specs.declared.waiting.Waiting.{Waiting}
use Rattle.follower_steps.specs.declared.waiting.Arrival.{Arrival}
use Rattle.follower_steps.specs.declared.waiting.Arrival.TheVariants as arrivals
use Rattle.follower_steps.specs.Steps.{State, Step, Kept, arrival_in, arrived, first_turn}
use Rattle.follower_steps.specs.Steps.{judged, kept}
use Rattle.follower_steps.specs.Steps as steps
use Rattle.follower_steps.proofs.Arrivals.{held_is}
use Rattle.follow_core.specs.declared.turn.Turn.{Turn}
use Rattle.follow_core.specs.declared.turn.Turn.TheVariants as turns
use Rattle.follow_core.specs.declared.turn.FollowFault.{FollowFault}
use Rattle.follow_core.specs.Follower.{FollowerState, IsFollowerOf, IsTurn, HasMade, IsTurnImage}
use Rattle.follow_core.specs.Turning.{IsFirstTurn, held_turn, waiting_with}

-- the number of held blocks is that of the node's digests
pub count_is : (follower : FollowerState) (disk : Option DiskState) (state : State)
    → IsFollowerOf follower disk state → length follower.node.chain.digests ≡ length state.blocks
count_is follower disk state is =
    ap (length {A = Digest}) is.node.kept.digests_are ∙ length-map state.blocks digest_of

-- the first turn goes by the arrival, which the follower tells by what it keeps
pub first_is : (follower : FollowerState) (disk : Option DiskState) (state : State) (index : ℕ)
    (bytes : List ℕ) (arrival : Arrival) → IsFollowerOf follower disk state
    → arrival ≡ arrival_in (length follower.node.chain.digests) follower.waiting (block_in bytes)
    → first_turn stored_placement state index bytes
    ≡ arrived stored_placement state index bytes arrival
first_is follower disk state index bytes arrival is same =
    ap (arrived stored_placement state index bytes)
    (ap (λ (n : ℕ). arrival_in n state.waiting (block_in bytes))
    (sym (count_is follower disk state is))
    ∙ ap (λ (w : List Waiting).
    arrival_in (length follower.node.chain.digests) w (block_in bytes)) (sym is.waiting) ∙ sym same)

-- what waits goes by the arrival too
pub waiting_is : (follower : FollowerState) (index : ℕ) (bytes : List ℕ) (arrival : Arrival)
    (result : Result (FollowerState × Turn) FollowFault)
    → arrival ≡ arrival_in (length follower.node.chain.digests) follower.waiting (block_in bytes)
    → IfOk result (λ done. done.0.waiting ≡ waiting_with follower.waiting index bytes arrival)
    → IfOk result (λ done. done.0.waiting ≡ waiting_with follower.waiting index bytes
    (arrival_in (length follower.node.chain.digests) follower.waiting (block_in bytes)))
waiting_is follower index bytes arrival result same is = subst
    (λ (a : Arrival). IfOk result
    (λ done. done.0.waiting ≡ waiting_with follower.waiting index bytes a)) same is

-- ---- a block that is kept, or dropped

kept_answer : (follower : FollowerState) (disk : Option DiskState) (state : State)
    (index number : ℕ) (bytes : List ℕ) (result : Result (FollowerState × Turn) FollowFault)
    → IsFollowerOf follower disk state
    → IfOk result (λ done. done.0.node ≡ follower.node)
    → IfOk result (λ done. done.0.waiting
    ≡ follower.waiting ++ record { index = index; number = number; bytes = bytes } ∷ [])
    → IfOk result (λ done. done.1 ≡ turns.Kept number)
    → HasMade disk state.blocks (kept state index number bytes) result
kept_answer follower disk state index number bytes (Ok (next, turn)) is node_is waiting_is turn_is =
    let block : Waiting = record { index = index; number = number; bytes = bytes } in (
      subst (IsTurn state.blocks (Kept number)) (sym turn_is) refl,
      record {
        node = subst (λ (n : NodeState). IsNodeOf n disk state.blocks) (sym node_is) is.node;
        marked = ap (λ (n : NodeState). n.log.is_marked) node_is ∙ is.marked;
        waiting = waiting_is ∙ ap (λ (w : List Waiting). w ++ block ∷ []) is.waiting;
      },
    )
kept_answer follower disk state index number bytes (Err fault) is node_is waiting_is turn_is = tt

pub kept_made : (follower : FollowerState) (disk : Option DiskState) (state : State)
    (index number : ℕ) (bytes : List ℕ) (result : Result (FollowerState × Turn) FollowFault)
    → IsFollowerOf follower disk state
    → arrivals.Early number
    ≡ arrival_in (length follower.node.chain.digests) follower.waiting (block_in bytes)
    → IfOk result (λ done. done.0.node ≡ follower.node)
    → IfOk result (λ done. done.0.waiting
    ≡ follower.waiting ++ record { index = index; number = number; bytes = bytes } ∷ [])
    → IfOk result (λ done. done.1 ≡ turns.Kept number)
    → HasMade disk state.blocks (first_turn stored_placement state index bytes) result
kept_made follower disk state index number bytes result is same node_is waiting_is turn_is = subst
    (λ (s : Step). HasMade disk state.blocks s result)
    (sym (first_is follower disk state index bytes (arrivals.Early number) is same))
    (kept_answer follower disk state index number bytes result is node_is waiting_is turn_is)

pub dropped_made : (follower : FollowerState) (disk : Option DiskState) (state : State) (index : ℕ)
    (bytes : List ℕ) (cause : Cause) → IsFollowerOf follower disk state
    → arrivals.Dropped cause
    ≡ arrival_in (length follower.node.chain.digests) follower.waiting (block_in bytes)
    → HasMade disk state.blocks (first_turn stored_placement state index bytes)
    (Ok (follower, turns.Dropped index cause))
dropped_made follower disk state index bytes cause is same = subst
    (λ (s : Step). HasMade disk state.blocks s (Ok (follower, turns.Dropped index cause)))
    (sym (first_is follower disk state index bytes (arrivals.Dropped cause) is same)) (refl, is)

-- a follower that leaves its disk as it is
pub still_turn : {D : Type 0} (now : D → ℕ) (disk : D → ℕ → Option DiskState) (old : D)
    (follower : FollowerState) (state next : State) (content : List ℕ)
    → IsFollowerOf follower (disk old (now old)) state
    → content_of (disk old (now old)) ≡ Some content
    → Keeps now disk old old (IsTurnImage state next)
still_turn now disk old follower state next content is told =
    weaker now disk old old
    (IsStepOf (logged_in follower.node.log state.blocks) (Err (refusals.Malformed 0)))
    (IsTurnImage state next)
    (still now disk old follower.node state.blocks content (Err (refusals.Malformed 0)) is.node
    told)
    (λ image is_old. inl (subst (λ (m : Bool). chain_in image ≡ Some (record {
      blocks = state.blocks;
      marked = m;
    })) is.marked is_old))

-- ---- the arrival, as the call tells it

-- what the parts of a follower say of an arrival
arrival_of_parts : (follower : FollowerState) (held : ℕ) (waiting : List Waiting)
    (bytes : List ℕ) (arrival : Arrival) → held ≡ length follower.node.chain.digests
    → waiting ≡ follower.waiting → arrival ≡ arrival_in held waiting (block_in bytes)
    → arrival ≡ arrival_in (length follower.node.chain.digests) follower.waiting (block_in bytes)
arrival_of_parts follower held waiting bytes arrival held_as waiting_as is =
    is ∙ ap (λ (n : ℕ). arrival_in n waiting (block_in bytes)) held_as
    ∙ ap (λ (w : List Waiting).
    arrival_in (length follower.node.chain.digests) w (block_in bytes)) waiting_as

pub arrival_if_told : (follower : FollowerState) (held : ℕ) (waiting : List Waiting)
    (bytes : List ℕ) (result : Result Arrival Memory) → held ≡ length follower.node.chain.digests
    → waiting ≡ follower.waiting
    → IfOk result (λ arrival. arrival ≡ arrival_in held waiting (block_in bytes))
    → IfOk result (λ arrival. arrival
    ≡ arrival_in (length follower.node.chain.digests) follower.waiting (block_in bytes))
arrival_if_told follower held waiting bytes (Ok arrival) held_as waiting_as is =
    arrival_of_parts follower held waiting bytes arrival held_as waiting_as is
arrival_if_told follower held waiting bytes (Err memory) held_as waiting_as is = tt

-- what the call says of one
pub arrival_told : (follower : FollowerState) (spelled bytes : List ℕ) (told arrival : Arrival)
    → spelled ≡ bytes → told ≡ arrival
    → told ≡ arrival_in (length follower.node.chain.digests) follower.waiting (block_in spelled)
    → arrival ≡ arrival_in (length follower.node.chain.digests) follower.waiting (block_in bytes)
arrival_told follower spelled bytes told arrival bytes_as arrival_as is =
    sym arrival_as ∙ is ∙ ap (λ (b : List ℕ).
    arrival_in (length follower.node.chain.digests) follower.waiting (block_in b)) bytes_as

-- the turn goes by the arrival, too
pub turn_is : (follower : FollowerState) (index : ℕ) (bytes : List ℕ) (arrival : Arrival)
    (result : Result (FollowerState × Turn) FollowFault)
    → arrival ≡ arrival_in (length follower.node.chain.digests) follower.waiting (block_in bytes)
    → IfOk result (λ done. IsFirstTurn follower.node index bytes arrival done.0.node done.1)
    → IfOk result (λ done. IsFirstTurn follower.node index bytes
    (arrival_in (length follower.node.chain.digests) follower.waiting (block_in bytes))
    done.0.node done.1)
turn_is follower index bytes arrival result same is = subst
    (λ (a : Arrival). IfOk result
    (λ done. IsFirstTurn follower.node index bytes a done.0.node done.1)) same is

pub kept_turn : (follower : FollowerState) (index number : ℕ) (bytes : List ℕ)
    (result : Result (FollowerState × Turn) FollowFault)
    → IfOk result (λ done. done.0.node ≡ follower.node)
    → IfOk result (λ done. done.1 ≡ turns.Kept number)
    → IfOk result (λ done. IsFirstTurn follower.node index bytes (arrivals.Early number)
    done.0.node done.1)
kept_turn follower index number bytes (Ok done) node_is turn_is = (node_is, turn_is)
kept_turn follower index number bytes (Err fault) node_is turn_is = tt

-- ---- a block whose number is held

held_judged : (disk : Option DiskState) (follower : FollowerState) (state : State)
    (index number : ℕ) (block : Block) (have : Digest) (same : Bool) → block.number ≡ number
    → IsFollowerOf follower disk state
    → HasMade disk state.blocks
    (judged state index (judged_by_placement block
    (if same then placements.Known else placements.Not (misplaced.Fork have))))
    (Ok (
      follower,
      if same then turns.Known number
          else turns.Dropped index (causes.Refused (refusals.Placed (misplaced.Fork have))),
    ))
held_judged disk follower state index number block have true number_is is =
    ((block, refl, sym number_is), is)
held_judged disk follower state index number block have false number_is is = (refl, is)

-- the chain decides about it by its digest and that of the held one
pub held_made : (follower : FollowerState) (disk : Option DiskState) (state : State)
    (index number : ℕ) (bytes : List ℕ) (have : Digest) (turn : Turn)
    → ((block : Block) → block_in bytes ≡ Ok block → bytes_digest bytes ≡ digest_of block)
    → IsFollowerOf follower disk state
    → arrivals.Held number
    ≡ arrival_in (length follower.node.chain.digests) follower.waiting (block_in bytes)
    → slice_get follower.node.chain.digests number ≡ Some have
    → turn ≡ held_turn index number have (bytes_digest bytes)
    → HasMade disk state.blocks (first_turn stored_placement state index bytes)
    (Ok (follower, turn))
held_made follower disk state index number bytes have turn spells is same got turn_as =
    let (block, read, number_is, within) = held_is (length follower.node.chain.digests)
    follower.waiting (block_in bytes) number (sym same) in
    let spelled = spells block read in
    let here : slice_get (map digest_of state.blocks) block.number ≡ Some have =
    ap (λ (ds : List Digest). slice_get ds block.number) (sym is.node.kept.digests_are)
    ∙ ap (slice_get follower.node.chain.digests) number_is ∙ got in
    let placed : stored_placement state.marked state.blocks block
    ≡ held_placement have (bytes_digest bytes) =
    rw here (ap (held_placement have) (sym spelled)) in
    let step : first_turn stored_placement state index bytes
    ≡ judged state index (judged_by_placement block
    (held_placement have (bytes_digest bytes))) =
    first_is follower disk state index bytes (arrivals.Held number) is same
    ∙ ap (λ (d : Result Block ℕ). judged state index
    (judgement_of (stored_placement state.marked) state.blocks d)) read
    ∙ ap (λ (p : Placement). judged state index (judged_by_placement block p)) placed in
    subst (λ (s : Step). HasMade disk state.blocks s (Ok (follower, turn))) (sym step)
    (subst (λ (t : Turn). HasMade disk state.blocks (judged state index
    (judged_by_placement block (held_placement have (bytes_digest bytes))))
    (Ok (follower, t))) (sym turn_as)
    (held_judged disk follower state index number block have
    (is_same_digest have (bytes_digest bytes)) number_is is))

-- a block that is due: the chain decides
pub due_made : (follower : FollowerState) (disk new : Option DiskState) (state : State) (index : ℕ)
    (bytes : List ℕ) (result : Result (FollowerState × Turn) FollowFault)
    → IsFollowerOf follower disk state
    → arrivals.Due
    ≡ arrival_in (length follower.node.chain.digests) follower.waiting (block_in bytes)
    → HasMade new state.blocks (steps.decided stored_placement state index bytes) result
    → HasMade new state.blocks (first_turn stored_placement state index bytes) result
due_made follower disk new state index bytes result is same = subst
    (λ (s : Step). HasMade new state.blocks s result)
    (sym (first_is follower disk state index bytes arrivals.Due is same))

pub due_images : {D : Type 0} (now : D → ℕ) (disk : D → ℕ → Option DiskState) (old new : D)
    (follower : FollowerState) (state : State) (index : ℕ) (bytes : List ℕ)
    → IsFollowerOf follower (disk old (now old)) state
    → arrivals.Due
    ≡ arrival_in (length follower.node.chain.digests) follower.waiting (block_in bytes)
    → Keeps now disk old new
    (IsTurnImage state (steps.decided stored_placement state index bytes).state)
    → Keeps now disk old new
    (IsTurnImage state (first_turn stored_placement state index bytes).state)
due_images now disk old new follower state index bytes is same = subst
    (λ (s : Step). Keeps now disk old new (IsTurnImage state s.state))
    (sym (first_is follower (disk old (now old)) state index bytes arrivals.Due is same))

-- what holds of the node before holds of it while a block is kept
pub kept_keeps : (P : NodeState → Type 0) (node : NodeState)
    (result : Result (FollowerState × Turn) FollowFault)
    → IfOk result (λ done. done.0.node ≡ node) → P node → IfOk result (λ done. P done.0.node)
kept_keeps P node (Ok done) is p = subst P (sym is) p
kept_keeps P node (Err fault) is p = tt

-- nothing failed, and nothing is blamed
pub unblamed : (count : ℕ) (Blames : Type 0) → (Blames → ⊥) → HasCause count count Blames
unblamed count Blames none = record {
  later = omega arith;
  failed = λ blames. absurd (none blames);
  told = λ other. absurd (other refl);
}
