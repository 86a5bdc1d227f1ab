-- Made proofs are accepted by the light files of their chains.
use Rattle.std.proofs.Common.{◌≡◌, ◌∙◌, inl, inr, ◌<◌, ℕ, List, length, map, refl, sym}
use Rattle.std.proofs.Common.{ap, arith, Some, Ok}
use Rattle.std.specs.Prelude.{slice_get}
use Rattle.std.proofs.lemmas.Option.{slice_get_cases, get_or_from_slice_get}
use Rattle.lc_base.specs.declared.answer.Answer.{Answer}
use Rattle.lc_base.specs.declared.answer.Query.{Query}
use Rattle.lc_base.specs.declared.digest.Digest.{Digest}
use Rattle.lc_base.specs.declared.row.Row.{Row}
use Rattle.block_codec.specs.Placement.{digest_of}
use Rattle.chain_input.specs.chain_exec.Replay.{replay}
use Rattle.replay_soundness.specs.Soundness.{replayed_answer}
use Rattle.replay_soundness.proofs.TypedChains.{replays_are_typed}
use Rattle.proof_codec.specs.declared.proof.Proof.{Proof}
use Rattle.text_clashes.specs.proof_checks.Checks.{verdict}
use Rattle.text_clashes.specs.proof_checks.Making.{made_proof}
use Rattle.root_laws.specs.Root.{digest_at, root_of}
use Rattle.text_clashes.proofs.proof_checks.MadeThere.{made_is_there}
use Rattle.text_clashes.proofs.proof_checks.Tests.{own_verdict}
use Rattle.light_client.specs.declared.block_root.BlockRoot.{BlockRoot}
use Rattle.light_client.specs.Checking.{light_answer, light_judgement, HasBlockOf}
use Rattle.light_client.specs.Ledgers.{IsFileOf}
use Rattle.light_client.proofs.Judged.{as_ok, accepted_then}
use Rattle.light_client.proofs.Verdicts.{verdict_is}
use Rattle.replay_soundness.specs.LightSoundness.{MadeProofsAreAcceptedByFiles}

-- What is made has the query, the block, and the block's digest.
made_query : (rows : List Row) (digests : List Digest) (block : ℕ) (query : Query)
    → (made_proof rows digests block query).query ≡ query
unfolding made_proof
made_query rows digests block query = refl

made_root_at : (rows : List Row) (digests : List Digest) (block : ℕ) (query : Query)
    → (made_proof rows digests block query).leaf_proof.root_at ≡ block
unfolding made_proof
made_root_at rows digests block query = refl

made_digest : (rows : List Row) (digests : List Digest) (block : ℕ) (query : Query)
    → (made_proof rows digests block query).leaf_proof.block_digest.0 ≡ digest_at digests block
unfolding made_proof
made_digest rows digests block query = refl

digest_there : (digests : List Digest) (block : ℕ) (digest : Digest)
    → slice_get digests block ≡ Some digest → digest_at digests block ≡ digest.0
digest_there digests block digest there =
    ap (λ (d : Digest). d.0) (get_or_from_slice_get digests block digest _ there)

digest_is : (a b : Digest) → a.0 ≡ b.0 → a ≡ b
digest_is a b e = ap (λ (bytes : List ℕ). record { 0 = bytes }) e

-- An answer by a proof with this query, at this block.
answer_is : (proof : Proof) (query : Query) (block : ℕ) (answer : Answer) → proof.query ≡ query
    → proof.leaf_proof.root_at ≡ block
    → light_answer proof answer ≡ record { query = query; root_at = block; answer = answer }
answer_is proof query block answer same at = rw (← same, ← at) refl

module _ (rows : List Row) (digests : List Digest) (block : ℕ) (query : Query)
    (file : List BlockRoot) (file_is : IsFileOf rows digests file) where
  abbrev made : Proof
  made = made_proof rows digests block query

  -- The file has the made proof's block, with its digest.
  has_block : (known : BlockRoot) → slice_get file block ≡ Some known → HasBlockOf file made known
  has_block known there = record {
    known = ap (slice_get file) (made_root_at rows digests block query) ∙ there;
    same_digest = digest_is known.digest made.leaf_proof.block_digest
        (sym (digest_there digests block known.digest (file_is.digests_are block known there))
        ∙ sym (made_digest rows digests block query));
  }

  pub judged : (answer : Answer) → block < length file
      → verdict (root_of rows digests block) query made ≡ Ok answer
      → light_judgement file made
      ≡ as_ok (record { query = query; root_at = block; answer = answer })
  judged answer within passes = elim (slice_get_cases file block).1 [
    | inr (past, none) ↦ absurd (omega (arith, within, past))
    | inl (known, inside, there, own) ↦
        let query_is = made_query rows digests block query in
        accepted_then file made known (has_block known there) answer
        (sym (own_verdict known.root.0 made)
        ∙ ap (λ (q : Query). verdict known.root.0 q made) query_is
        ∙ ap (λ (root : List ℕ). verdict root query made)
        (sym (file_is.roots_are block known there))
        ∙ passes)
        ∙ ap as_ok (answer_is made query block answer query_is
        (made_root_at rows digests block query))
  ]

pub made_proofs_are_accepted_by_files : MadeProofsAreAcceptedByFiles
made_proofs_are_accepted_by_files compile blocks file block query has within key early =
    let rows = (replay compile blocks).rows in
    let digests = map digest_of blocks in
    let there = made_is_there rows digests block query
    (replays_are_typed compile blocks (has.right, has.chain))
    (omega (arith, within, has.file_is.few)) key early in (
      there.0,
      λ bytes is.
          verdict_is file bytes (made_proof rows digests block query) is
          ∙ judged rows digests block query file has.file_is
          (replayed_answer compile blocks block query) within there.1,
    )
