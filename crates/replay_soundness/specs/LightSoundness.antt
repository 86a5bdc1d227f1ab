-- What proofs say of chains to one who has a light file.
use Rattle.std.specs.Prelude.{◌≡◌, ◌<◌, ◌≤◌, ℕ, List, length, map, Ok}
use Rattle.lc_base.specs.declared.answer.Query.{Query}
use Rattle.lc_base.specs.KeyBytes.{IsKey}
use Rattle.byte_fields.specs.Spelling.{IsBytes}
use Rattle.block_codec.specs.Placement.{digest_of}
use Rattle.block_codec.specs.declared.block.Block.{Block}
use Rattle.chain_input.specs.chain_exec.Compiled.{Compiler, IsCompiler}
use Rattle.chain_input.specs.chain_exec.Replay.{replay}
use Rattle.replay_soundness.specs.TypedChains.{IsLawfulChain}
use Rattle.replay_soundness.specs.Soundness.{AnswersAsReplay, replayed_answer}
use Rattle.text_clashes.specs.proof_checks.Making.{made_proof}
use Rattle.proof_codec.specs.declared.proof.Proof.{Proof}
use Rattle.proof_codec.specs.Spelling.{IsProof}
use Rattle.proof_codec.specs.Viewing.{Spells}
use Rattle.light_client.specs.declared.block_root.BlockRoot.{BlockRoot}
use Rattle.light_client.specs.Checking.{LightAnswer, light_verdict}
use Rattle.light_client.specs.Ledgers.{IsFileOf}

-- The blocks are a chain, under a right compiler; it has at least as many blocks as the light file,
-- and those of the file have the digests and the roots of the file, as replaying the chain has
-- them.
pub record IsFileOfChain (compile : Compiler) (blocks : List Block)
    (file : List BlockRoot) : Type 0 where
  pub right : IsCompiler compile
  pub chain : IsLawfulChain compile blocks
  pub file_is : IsFileOf (replay compile blocks).rows (map digest_of blocks) file

-- The bytes spell a proof for the query and at the block, which the file has; and the answer is
-- that of replaying every chain of which the file is, up to the block, or there is a clash with the
-- texts of that chain.
pub record AnswersByFile (file : List BlockRoot) (bytes : List ℕ)
    (found : LightAnswer) : Type 0 where
  pub given : Proof
  pub spelled : Spells bytes given
  pub query_is : found.query ≡ given.query
  pub root_at_is : found.root_at ≡ given.leaf_proof.root_at
  pub known : found.root_at < length file
  pub sound : (compile : Compiler) (blocks : List Block) → IsFileOfChain compile blocks file
      → AnswersAsReplay compile blocks found.root_at found.query given found.answer

-- ---- the laws

-- What bytes answer by a light file is the answer of every chain of which the file is, up to the
-- block of the proof's root, or there is a clash.
abbrev pub LightAnswersAreOfReplays : Type 0
LightAnswersAreOfReplays =
    (file : List BlockRoot) (bytes : List ℕ) (found : LightAnswer) → IsBytes bytes
    → light_verdict file bytes ≡ Ok found → AnswersByFile file bytes found

-- The proof that is made of a chain at a block of the file can be spelled, and bytes that spell it
-- answer what replaying the chain answers up to that block.
abbrev pub MadeProofsAreAcceptedByFiles : Type 0
MadeProofsAreAcceptedByFiles =
    (compile : Compiler) (blocks : List Block) (file : List BlockRoot) (block : ℕ) (query : Query)
    → IsFileOfChain compile blocks file → block < length file
    → IsKey query.key → query.at ≤ block
    → let made = made_proof (replay compile blocks).rows (map digest_of blocks) block query in
    IsProof made × ((bytes : List ℕ) → Spells bytes made → light_verdict file bytes
    ≡ Ok (record {
      query = query;
      root_at = block;
      answer = replayed_answer compile blocks block query;
    }))
