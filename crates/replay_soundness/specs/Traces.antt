-- What accepted proofs of ancestors say of replays: the ancestors are those of the replay, or texts
-- clash.
use Rattle.std.specs.Prelude.{◌≡◌, ℕ, List, map, Option, Ok}
use Rattle.lc_base.specs.History.{up_to}
use Rattle.merkle_tree.specs.Clash.{Clash}
use Rattle.block_codec.specs.Placement.{digest_of}
use Rattle.block_codec.specs.declared.block.Block.{Block}
use Rattle.chain_input.specs.chain_exec.Compiled.{Compiler}
use Rattle.chain_input.specs.chain_exec.Replay.{replay}
use Rattle.root_laws.specs.declared.trace.Trace.{Trace}
use Rattle.root_laws.specs.Ancestors.{trace_at}
use Rattle.text_clashes.specs.proof_checks.declared.trace_proof.TraceProof.{TraceProof}
use Rattle.text_clashes.specs.proof_checks.TraceChecks.{trace_verdict}
use Rattle.text_clashes.specs.proof_checks.TraceTexts.{IsTraceProof, trace_texts}
use Rattle.text_clashes.specs.proof_checks.TraceSoundness.{TracesOrClashes}
use Rattle.replay_soundness.specs.Soundness.{HasRoot, replayed_texts}

-- The last version of a key up to a block, with its ancestors, by replaying the blocks and taking
-- their rows up to the block of a root.
abbrev pub replayed_trace : Compiler → List Block → ℕ → List ℕ → ℕ → Option Trace
replayed_trace compile blocks block key at = trace_at (up_to (replay compile blocks).rows block) key at

-- A text of the proof and one of the replay differ and have one digest.
abbrev pub TraceClashesWithReplay : Compiler → List Block → ℕ → TraceProof → Type 0
TraceClashesWithReplay compile blocks block proof =
    Clash (trace_texts proof) (replayed_texts compile blocks block)

-- The version and its ancestors are those of the replay of every chain with this root, at the block
-- at which the chain has it; or there is a clash with the texts of that chain.
abbrev pub TracesAsReplays : List ℕ → List ℕ → ℕ → TraceProof → Option Trace → Type 0
TracesAsReplays root key at proof trace =
    (compile : Compiler) (blocks : List Block) (block : ℕ) → HasRoot compile blocks block root
    → TracesOrClashes (replay compile blocks).rows (map digest_of blocks) block key at
    (trace_texts proof) trace

-- An accepted proof shows the version and its ancestors of every chain with the root, or there is a
-- clash.
abbrev pub AcceptedTracesAreOfReplays : Type 0
AcceptedTracesAreOfReplays =
    (root key : List ℕ) (at : ℕ) (proof : TraceProof) (trace : Option Trace) → IsTraceProof proof
    → trace_verdict root key at proof ≡ Ok trace → TracesAsReplays root key at proof trace
