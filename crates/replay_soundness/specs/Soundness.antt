-- What accepted proofs say of replays: the answer is that of the replay, or texts clash.
use Rattle.std.specs.Prelude.{◌≡◌, ◌≢◌, ◌⊎◌, ◌<◌, ℕ, List, length, map, Option, Some, Ok}
use Rattle.std.specs.Prelude.{IsSomeAnd}
use Rattle.byte_fields.specs.Spelling.{IsBytes}
use Rattle.lc_base.specs.declared.answer.Query.{Query}
use Rattle.lc_base.specs.declared.answer.Answer.{Answer}
use Rattle.lc_base.specs.declared.answer.Answer.TheVariants.{Nothing}
use Rattle.lc_base.specs.History.{up_to, scan}
use Rattle.merkle_tree.specs.Clash.{Clash}
use Rattle.block_codec.specs.Placement.{digest_of}
use Rattle.block_codec.specs.Spelling.{Decoder, IsDecoder}
use Rattle.block_codec.specs.declared.block.Block.{Block}
use Rattle.block_log.specs.Standing.{Logged, next_block, chain_of}
use Rattle.chain_input.specs.chain_exec.Compiled.{Compiler, IsCompiler}
use Rattle.chain_input.specs.chain_exec.Replay.{replay}
use Rattle.chain_input.specs.chain_replay.Chain.{placement_by_mark}
use Rattle.rooted_chain.specs.Roots.{root_in}
use Rattle.proof_codec.specs.declared.proof.Proof.{Proof}
use Rattle.proof_codec.specs.Spelling.{IsProof}
use Rattle.text_clashes.specs.proof_checks.Checks.{verdict}
use Rattle.text_clashes.specs.proof_checks.ProofTexts.{proof_texts}
use Rattle.text_clashes.specs.proof_checks.LedgerTexts.{ledger_texts}
use Rattle.text_clashes.specs.proof_checks.Soundness.{AnswersOrClashes}
use Rattle.text_clashes.specs.FirstClash.{IsFirstAt, IsFirstClash}
use Rattle.replay_soundness.specs.TypedChains.{IsLawfulChain}

-- ---- premises

-- The blocks are a chain, under a right compiler, and it has this root at this block.
pub record HasRoot (compile : Compiler) (blocks : List Block) (block : ℕ) (root : List ℕ) : Type 0 where
  pub right : IsCompiler compile
  pub chain : IsLawfulChain compile blocks
  pub within : block < length blocks
  pub root_is : root_in compile blocks block ≡ root

-- The proof passes all checks under this root and for this query, and has this answer.
pub record IsAccepted (root : List ℕ) (query : Query) (proof : Proof) (answer : Answer) : Type 0 where
  pub lawful : IsProof proof
  pub accepted : verdict root query proof ≡ Ok answer

-- ---- conclusions

-- The answer of replaying the blocks and scanning their rows up to this block.
abbrev pub replayed_answer : Compiler → List Block → ℕ → Query → Answer
replayed_answer compile blocks block query = scan (up_to (replay compile blocks).rows block) query

-- The texts that are hashed for the root at this block.
abbrev pub replayed_texts : Compiler → List Block → ℕ → List (List ℕ)
replayed_texts compile blocks block = ledger_texts (replay compile blocks).rows (map digest_of blocks) block

-- A text of the proof and one of the replay differ and have one digest.
abbrev pub ClashesWithReplay : Compiler → List Block → ℕ → Proof → Type 0
ClashesWithReplay compile blocks block proof = Clash (proof_texts proof) (replayed_texts compile blocks block)

-- The answer is that of the replay, or there is a clash.
abbrev pub AnswersAsReplay : Compiler → List Block → ℕ → Query → Proof → Answer → Type 0
AnswersAsReplay compile blocks block query proof answer =
    AnswersOrClashes (replay compile blocks).rows (map digest_of blocks) block query (proof_texts proof) answer

-- The answer is that of the replay of every chain with this root, at the block at which the chain
-- has it; or there is a clash with the texts of that chain.
abbrev pub AnswersAsReplays : List ℕ → Query → Proof → Answer → Type 0
AnswersAsReplays root query proof answer =
    (compile : Compiler) (blocks : List Block) (block : ℕ) → HasRoot compile blocks block root
    → AnswersAsReplay compile blocks block query proof answer

-- ---- the laws

-- An accepted proof has the answer of every chain with the root, or there is a clash.
abbrev pub AcceptedProofsAnswerAsReplays : Type 0
AcceptedProofsAnswerAsReplays =
    (root : List ℕ) (query : Query) (proof : Proof) (answer : Answer) → IsAccepted root query proof answer
    → AnswersAsReplays root query proof answer

-- A proof that is accepted under the root at a block of the chain that a log stands for, where each
-- block is placed as the mark stands before it or doesn't, has the answer of that chain, or there is
-- a clash.
abbrev pub AcceptedProofsAnswerAsLogs : Type 0
AcceptedProofsAnswerAsLogs =
    (read : Decoder) (compile : Compiler) (image : List ℕ) (logged : Logged) (block : ℕ) (query : Query) (proof : Proof) (answer : Answer)
    → IsDecoder read → IsCompiler compile → IsBytes image → chain_of (next_block read (placement_by_mark compile)) image ≡ Some logged
    → block < length logged.blocks → IsAccepted (root_in compile logged.blocks block) query proof answer
    → AnswersAsReplay compile logged.blocks block query proof answer

-- Two proofs that are accepted for one query under a root that a chain has, have one answer, or one
-- of them clashes with the texts of the chain.
abbrev pub AcceptedAnswersAgree : Type 0
AcceptedAnswersAgree =
    (compile : Compiler) (blocks : List Block) (block : ℕ) (root : List ℕ) (query : Query) (a b : Proof) (x y : Answer)
    → HasRoot compile blocks block root → IsAccepted root query a x → IsAccepted root query b y
    → (x ≡ y) ⊎ (ClashesWithReplay compile blocks block a ⊎ ClashesWithReplay compile blocks block b)

-- If one proof is accepted that answers nothing, and another that answers something, there is a
-- clash.
abbrev pub NothingAndSomethingClash : Type 0
NothingAndSomethingClash =
    (compile : Compiler) (blocks : List Block) (block : ℕ) (root : List ℕ) (query : Query) (a b : Proof) (something : Answer)
    → HasRoot compile blocks block root → IsAccepted root query a Nothing → IsAccepted root query b something → something ≢ Nothing
    → ClashesWithReplay compile blocks block a ⊎ ClashesWithReplay compile blocks block b

-- Two chains with one root, under which a proof is accepted, answer the query alike, each up to its
-- block, or the proof clashes with the texts of one of them.
abbrev pub ChainsWithOneRootAnswerAlike : Type 0
ChainsWithOneRootAnswerAlike =
    (compile : Compiler) (blocks others : List Block) (block other : ℕ) (root : List ℕ) (query : Query) (proof : Proof) (answer : Answer)
    → HasRoot compile blocks block root → HasRoot compile others other root → IsAccepted root query proof answer
    → (replayed_answer compile blocks block query ≡ replayed_answer compile others other query)
    ⊎ (ClashesWithReplay compile blocks block proof ⊎ ClashesWithReplay compile others other proof)

-- If an accepted proof answers otherwise than the replay of a chain with the root, the search for
-- the first clash of its texts with those of the chain finds one.
abbrev pub WrongAnswersAreExposed : Type 0
WrongAnswersAreExposed =
    (compile : Compiler) (blocks : List Block) (block : ℕ) (root : List ℕ) (query : Query) (proof : Proof) (answer : Answer) (found : Option (ℕ × ℕ))
    → HasRoot compile blocks block root → IsAccepted root query proof answer → answer ≢ replayed_answer compile blocks block query
    → IsFirstClash (proof_texts proof) (replayed_texts compile blocks block) found
    → IsSomeAnd found (IsFirstAt (proof_texts proof) (replayed_texts compile blocks block))
