-- What accepted range proofs say of replays: the versions are those of the replay, or texts clash.
use Rattle.std.specs.Prelude.{◌≡◌, ℕ, List, map, Ok}
use Rattle.lc_base.specs.History.{up_to}
use Rattle.lc_base.specs.declared.row.Version.{Version}
use Rattle.merkle_tree.specs.Clash.{Clash}
use Rattle.block_codec.specs.Placement.{digest_of}
use Rattle.block_codec.specs.declared.block.Block.{Block}
use Rattle.chain_input.specs.chain_exec.Compiled.{Compiler}
use Rattle.chain_input.specs.chain_exec.Replay.{replay}
use Rattle.root_laws.specs.Ranges.{between}
use Rattle.text_clashes.specs.proof_checks.declared.range_proof.RangeProof.{RangeProof}
use Rattle.text_clashes.specs.proof_checks.RangeChecks.{range_verdict}
use Rattle.text_clashes.specs.proof_checks.RangeTexts.{IsRangeProof, range_texts}
use Rattle.text_clashes.specs.proof_checks.RangeSoundness.{RangesOrClashes}
use Rattle.replay_soundness.specs.Soundness.{HasRoot, replayed_texts}

-- All versions of a key between two blocks, by replaying the blocks and taking their rows up to the
-- block of a root.
abbrev pub replayed_range : Compiler → List Block → ℕ → List ℕ → ℕ → ℕ → List Version
replayed_range compile blocks block key from to =
    between (up_to (replay compile blocks).rows block) key from to

-- A text of the proof and one of the replay differ and have one digest.
abbrev pub RangeClashesWithReplay : Compiler → List Block → ℕ → RangeProof → Type 0
RangeClashesWithReplay compile blocks block range =
    Clash (range_texts range) (replayed_texts compile blocks block)

-- The versions are those of the replay of every chain with this root, at the block at which the
-- chain has it; or there is a clash with the texts of that chain.
abbrev pub RangesAsReplays : List ℕ → List ℕ → ℕ → ℕ → RangeProof → List Version → Type 0
RangesAsReplays root key from to range versions =
    (compile : Compiler) (blocks : List Block) (block : ℕ) → HasRoot compile blocks block root
    → RangesOrClashes (replay compile blocks).rows (map digest_of blocks) block key from to
    (range_texts range) versions

-- An accepted range proof shows the versions of every chain with the root, or there is a clash.
abbrev pub AcceptedRangesAreOfReplays : Type 0
AcceptedRangesAreOfReplays =
    (root key : List ℕ) (from to : ℕ) (range : RangeProof) (versions : List Version)
    → IsRangeProof range → range_verdict root key from to range ≡ Ok versions
    → RangesAsReplays root key from to range versions
