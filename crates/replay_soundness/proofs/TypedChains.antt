-- The rows of a chain are a typed ledger, by induction on its blocks from the first one on.
use Rattle.std.proofs.Common.{◌≡◌, ℕ, ◌+◌, ◌<◌, ◌≤◌, List, [], ◌∷◌, ◌++◌, length, get_or, map, sym, ap, subst, ◌∙◌, arith}
use Rattle.std.specs.Prelude.{◌==◌, slice_get}
use Rattle.std.specs.List.{All}
use Rattle.std.proofs.Math.Seq.{get_or-append_seam, take-append_seam}
use Rattle.std.proofs.lemmas.List.{append-nil, append_assoc, length-append, length-map}
use Rattle.std.proofs.lemmas.List.Elements.{All-map}
use Rattle.sha2.proofs.Facts256.{length-sha256}
use Rattle.lc_base.specs.declared.digest.Digest.{Digest}
use Rattle.lc_base.specs.declared.row.Row.{Row}
use Rattle.block_codec.specs.Spelling.{IsBlock}
use Rattle.block_codec.specs.Placement.{digest_of, last_digest, last_version, is_marked_by, most_blocks}
use Rattle.block_codec.specs.declared.block.TheConstants.{SECOND_VERSION}
use Rattle.block_codec.specs.declared.block.Block.{Block}
use Rattle.block_codec.specs.declared.placement.Placement.TheVariants.{Next}
use Rattle.block_codec.proofs.Placements.{next_has_passed}
use Rattle.block_codec.proofs.Versions.{few_with_next, last_version_of, most_of_all}
use Rattle.chain_input.specs.chain_exec.Compiled.{Compiler}
use Rattle.chain_input.specs.chain_exec.Replay.{history_after, replay}
use Rattle.chain_input.proofs.chain_exec.TheLaws.{replay_grows}
use Rattle.chain_input.specs.chain_replay.Chain.{placement_in}
use Rattle.replay_soundness.specs.TypedChains.{IsLawfulChain}
use Rattle.replay_soundness.specs.TypedLaws.{CompilesValues, IsTypedBefore, ChainsOfValuesAreTyped, ReplaysAreTyped}
use Rattle.replay_soundness.proofs.Compiling.{compilers_give_values}
use Rattle.replay_soundness.proofs.Replays.{after_typed, nothing_typed_before}

module _ (compile : Compiler) (good : CompilesValues compile) where
  -- the blocks so far left a typed history of their own rows, and are at most as many as a chain may
  -- have that ends so
  record AreTyped (blocks : List Block) : Type 0 where
    history : IsTypedBefore (length blocks) (replay compile blocks)
    few : length blocks ≤ most_blocks (last_version blocks == SECOND_VERSION)

  one_more : (blocks : List Block) (block : Block) → AreTyped blocks → IsBlock block → placement_in compile blocks block ≡ Next → AreTyped (blocks ++ block ∷ [])
  one_more blocks block typed is next =
      let digests : List Digest = map digest_of blocks in
      let rows : List Row = (replay compile blocks).rows in
      let last = last_version blocks in
      let has = next_has_passed (is_marked_by last block) (length blocks)
      (length rows) (slice_get digests block.number) (last_digest digests) block (digest_of block)
      next in
      let few = few_with_next last (length blocks) (length rows) (slice_get digests block.number)
      (last_digest digests) block (digest_of block) next typed.few in
      let after : IsTypedBefore (block.number + 1) (history_after compile (replay compile blocks) block) =
      after_typed compile good (replay compile blocks) block (subst (λ n. IsTypedBefore n (replay compile blocks)) (sym has.number) typed.history) is has.few_rows in
      let longer : length (blocks ++ block ∷ []) ≡ block.number + 1 = length-append blocks (block ∷ []) ∙ ap (λ n. n + 1) (sym has.number) in
      record {
        history = subst (IsTypedBefore (length (blocks ++ block ∷ []))) (sym (replay_grows compile blocks block).history)
            (subst (λ n. IsTypedBefore n (history_after compile (replay compile blocks) block)) (sym longer) after);
        few = subst (λ n. n ≤ most_blocks (last_version (blocks ++ block ∷ []) == SECOND_VERSION))
            (sym (length-append blocks (block ∷ [])))
            (subst (λ (version : ℕ). length blocks + 1 ≤ most_blocks (version == SECOND_VERSION))
            (sym (last_version_of blocks block)) few);
      }

  all_typed : (more blocks : List Block) → AreTyped blocks → IsLawfulChain compile (blocks ++ more) → AreTyped (blocks ++ more)
  all_typed [] blocks typed chain = subst AreTyped (sym (append-nil blocks)) typed
  all_typed (block ∷ more) blocks typed chain =
      let within : length blocks < length (blocks ++ block ∷ more) = omega (arith, length-append blocks (block ∷ more)) in
      let there : get_or (blocks ++ block ∷ more) (length blocks) block ≡ block = get_or-append_seam blocks block more block in
      let is : IsBlock block = subst IsBlock there (chain.lawful (length blocks) block within) in
      let next : placement_in compile blocks block ≡ Next =
      sym (ap (λ (before : List Block). placement_in compile before (get_or (blocks ++ block ∷ more) (length blocks) block)) (take-append_seam blocks (block ∷ more)) ∙ ap (placement_in compile blocks) there)
      ∙ chain.chained (length blocks) block within in
      let same : (blocks ++ block ∷ []) ++ more ≡ blocks ++ block ∷ more = append_assoc blocks (block ∷ []) more in
      subst AreTyped same (all_typed more (blocks ++ block ∷ []) (one_more blocks block typed is next) (subst (IsLawfulChain compile) (sym same) chain))

  nothing_typed : AreTyped []
  unfolding replay
  nothing_typed = record { history = nothing_typed_before; few = omega arith }

pub chains_of_values_are_typed : ChainsOfValuesAreTyped
chains_of_values_are_typed compile blocks is =
    let typed = all_typed compile is.0 blocks [] (nothing_typed compile is.0) is.1 in
    let counted : length (map digest_of blocks) ≡ length blocks = length-map blocks digest_of in
    record {
      history = typed.history.rows;
      within = subst (λ (n : ℕ). All (λ (row : Row). row.block < n) (replay compile blocks).rows) (sym counted) typed.history.before;
      few = let few = most_of_all (last_version blocks == SECOND_VERSION) (length blocks) typed.few in
          omega (arith, few, counted);
      digests_fit = All-map (λ (digest : Digest). length digest.0 ≡ 32) digest_of blocks (λ i d within. length-sha256 _);
    }

pub replays_are_typed : ReplaysAreTyped
replays_are_typed compile blocks is = chains_of_values_are_typed compile blocks (compilers_give_values compile is.0, is.1)
