-- A chain while the blocks of a seed are added to it.
use Rattle.std.specs.Prelude.{◌≡◌, ℕ, ◌*◌, ◌≤◌, Bool, true, length, map}
use Rattle.lc_base.specs.declared.digest.Digest.{Digest}
use Rattle.dep_capture.specs.declared.limits.TheConstants.{MAX_KEYS_PUT}
use Rattle.block_codec.specs.Placement.{digest_of}
use Rattle.rooted_chain.specs.chain_replay.Chain.{ChainState, StandsFor}
use Rattle.chain_pack.specs.declared.limits.TheConstants.{MAX_TXS_MADE}
use Rattle.chain_pack.specs.Generator.{Progress, first_blocks, progress}

-- The chain holds the first `added` blocks of a seed, which the generator has made; the last of
-- them is the parent of the next one. What these blocks did is known only if it is known which
-- bytes the scratch device holds.
pub record HasAdded (known : Bool) (seed count added : ℕ) (chain : ChainState) (generator : Progress)
    (parent : Digest) : Type 0 where
  pub digests_are : chain.digests ≡ map digest_of (first_blocks seed added).blocks
  pub stands : known ≡ true → StandsFor chain (first_blocks seed added).blocks
  pub few_rows : length chain.rows ≤ MAX_KEYS_PUT * MAX_TXS_MADE * added
  pub generator_is : generator ≡ progress seed count added
  pub parent_is : parent ≡ (first_blocks seed added).parent
