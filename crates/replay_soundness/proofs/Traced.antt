-- Accepted proofs of ancestors show those of replays, as replayed chains are typed ledgers.
use Rattle.std.proofs.Common.{ℕ, ◌<◌, ◌^◌, length, map, arith}
use Rattle.std.proofs.lemmas.List.{length-map}
use Rattle.block_codec.specs.Placement.{digest_of}
use Rattle.chain_input.specs.chain_exec.Replay.{replay}
use Rattle.text_clashes.proofs.proof_checks.TraceSound.{trace_is_sound}
use Rattle.replay_soundness.proofs.TypedChains.{replays_are_typed}
use Rattle.replay_soundness.specs.Traces.{AcceptedTracesAreOfReplays}

pub accepted_traces_are_of_replays : AcceptedTracesAreOfReplays
accepted_traces_are_of_replays root key at proof trace is accepted compile blocks block has =
    let typed = replays_are_typed compile blocks (has.right, has.chain) in
    let few : length (map digest_of blocks) < 2 ^ 32 = typed.few in
    let fits : block < 2 ^ 32 = omega (arith, has.within, few, length-map blocks digest_of) in
    trace_is_sound root key at proof trace is accepted (replay compile blocks).rows
    (map digest_of blocks) block typed.history fits has.root_is
