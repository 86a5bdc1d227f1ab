-- The roots of what is kept are those of the blocks that it stands for.
use Rattle.std.proofs.Common.{◌≡◌, ℕ, ◌<◌, ◌≤◌, List, length, Option, Some, None, ap, subst, ◌∙◌}
use Rattle.std.specs.Prelude.{MatchOption}
use Rattle.std.proofs.lemmas.List.{length-map}
use Rattle.lc_base.specs.declared.digest.Digest.{Digest}
use Rattle.block_codec.specs.Placement.{digest_of}
use Rattle.block_codec.specs.declared.block.Block.{Block}
use Rattle.chain_replay.specs.chain_exec.Compiled.{compiled_in}
use Rattle.chain_replay.specs.chain_exec.Effect.{History}
use Rattle.chain_replay.specs.chain_exec.Replay.{replay}
use Rattle.chain_replay.specs.Chain.{ChainState, StandsFor}
use Rattle.root_laws.specs.Root.{root_of}
use Rattle.rooted_chain.specs.Roots.{root_in}

-- the root at a block is that of replaying the blocks
pub rooted : (kept : ChainState) (blocks : List Block) (at : ℕ) → StandsFor kept blocks → root_of kept.rows kept.digests at ≡ root_in compiled_in blocks at
rooted kept blocks at stands =
    ap (λ (h : History). root_of h.rows kept.digests at) stands.history_is
    ∙ ap (λ (digests : List Digest). root_of (replay compiled_in blocks).rows digests at) stands.digests_are

-- there is one digest for each block
pub as_many : (kept : ChainState) (blocks : List Block) → StandsFor kept blocks → length kept.digests ≡ length blocks
as_many kept blocks stands = ap (length {A = Digest}) stands.digests_are ∙ length-map blocks digest_of

-- the root that is returned is that of the replay, or else the block is past the last one
pub root_told : (told : Option Digest) (kept : ChainState) (blocks : List Block) (at : ℕ) → StandsFor kept blocks
    → MatchOption told (length kept.digests ≤ at) (λ root. (at < length kept.digests) × (root.0 ≡ root_of kept.rows kept.digests at))
    → MatchOption told (length blocks ≤ at) (λ root. (at < length blocks) × (root.0 ≡ root_in compiled_in blocks at))
root_told None kept blocks at stands is = subst (λ (n : ℕ). n ≤ at) (as_many kept blocks stands) is
root_told (Some root) kept blocks at stands is = (subst (λ (n : ℕ). at < n) (as_many kept blocks stands) is.0, is.1 ∙ rooted kept blocks at stands)
