-- The versions of the blocks of a chain only rise.
use Rattle.std.proofs.Common.{◌≡◌, ◌⊎◌, inl, inr, ℕ, zero, suc, ◌+◌, ◌-◌, ◌<◌, ◌≤◌, Bool, true}
use Rattle.std.proofs.Common.{false, List, length, get_or, take, refl, ◌∙◌, ap, subst, arith}
use Rattle.std.specs.Prelude.{◌==◌, ◌||◌}
use Rattle.std.proofs.lemmas.Bool.{eq-eqb}
use Rattle.std.proofs.lemmas.List.{take_more}
use Rattle.block_codec.specs.Placement.{last_version, is_marked_by, wanted_version}
use Rattle.block_codec.specs.declared.block.Block.{Block}
use Rattle.block_codec.specs.declared.block.TheConstants.{FIRST_VERSION, SECOND_VERSION}
use Rattle.block_codec.proofs.Versions.{last_version_of, next_version}
use Rattle.chain_input.specs.chain_exec.Compiled.{Compiler}
use Rattle.chain_input.specs.chain_exec.Replay.{replay}
use Rattle.chain_input.specs.chain_replay.Chain.{IsChain}
use Rattle.replay_soundness.specs.Chains.{HaveRisingVersions, VersionsOnlyRise}

-- the first version or the second
abbrev IsEither : ℕ → Type 0
IsEither version = (version ≡ FIRST_VERSION) ⊎ (version ≡ SECOND_VERSION)

wanted_is_either : (marked : Bool) (version : ℕ) → version ≡ wanted_version marked
    → IsEither version
wanted_is_either true version is = inr is
wanted_is_either false version is = inl is

first_is_least : (version : ℕ) → IsEither version → FIRST_VERSION ≤ version
first_is_least version (inl first) = omega (arith, first)
first_is_least version (inr second) = omega (arith, second)

-- the block after one of the version `last` has no lower one
no_lower : (last : ℕ) (block : Block) → IsEither last
    → block.version ≡ wanted_version (is_marked_by last block) → last ≤ block.version
no_lower last block (inl first) is =
    let least = first_is_least block.version
    (wanted_is_either (is_marked_by last block) block.version is) in
    omega (arith, first, least)
no_lower last block (inr second) is =
    let high : block.version ≡ SECOND_VERSION =
    is ∙ ap (λ (m : Bool). wanted_version (m || block.version == SECOND_VERSION))
    (eq-eqb last SECOND_VERSION second) in
    omega (arith, second, high)

module _ (compile : Compiler) (blocks : List Block) (chain : IsChain compile blocks) where
  -- each block has the version that those before it want
  wanted : (i : ℕ) (d : Block) → i < length blocks → (get_or blocks i d).version
      ≡ wanted_version (is_marked_by (last_version (take i blocks)) (get_or blocks i d))
  wanted i d within =
      let block = get_or blocks i d in
      next_version (is_marked_by (last_version (take i blocks)) block)
      (length (replay compile (take i blocks)).rows) (take i blocks) block (chain i d within)

  each : (i : ℕ) (d : Block) → i < length blocks → IsEither (get_or blocks i d).version
  each i d within = wanted_is_either
      (is_marked_by (last_version (take i blocks)) (get_or blocks i d)) (get_or blocks i d).version
      (wanted i d within)

  -- the block after another has no lower version
  next_rises : (i : ℕ) (d : Block) → i + 1 < length blocks
      → (get_or blocks i d).version ≤ (get_or blocks (i + 1) d).version
  next_rises i d within =
      let here : i < length blocks = omega (arith, within) in
      let last : last_version (take (i + 1) blocks) ≡ (get_or blocks i d).version =
      ap last_version (take_more blocks i d here)
      ∙ last_version_of (take i blocks) (get_or blocks i d) in
      no_lower (get_or blocks i d).version (get_or blocks (i + 1) d) (each i d here)
      (wanted (i + 1) d within
      ∙ ap (λ (v : ℕ). wanted_version (is_marked_by v (get_or blocks (i + 1) d))) last)

  -- and so has each block that is so many after it
  later_rises : (more i j : ℕ) (d : Block) → j ≡ i + more → j < length blocks
      → (get_or blocks i d).version ≤ (get_or blocks j d).version
  later_rises zero i j d is within =
      let same : j ≡ i = omega (arith, is) in
      rw same (omega arith)
  later_rises (suc more) i j d is within =
      let before : i + more + 1 ≡ j = omega (arith, is) in
      let lower = later_rises more i (i + more) d refl (omega (arith, is, within)) in
      let next = next_rises (i + more) d (omega (arith, is, within)) in
      subst (λ (n : ℕ). (get_or blocks i d).version ≤ (get_or blocks n d).version) before
      (omega (arith, lower, next))

pub versions_only_rise : VersionsOnlyRise
versions_only_rise compile blocks chain = record {
  each = each compile blocks chain;
  rise = λ i j d apart within.
      later_rises compile blocks chain (j - i) i j d (omega (arith, apart)) within;
}
