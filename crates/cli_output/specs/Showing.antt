-- What the answers, ancestors and versions that `verify` prints prove, what `expose` prints for a
-- wrong answer, what the answers that `light` prints prove, and whose chain `follow` goes on with.
use Rattle.std.specs.Prelude.{◌≡◌, ◌≢◌, ◌⊎◌, ◌≤◌, ◌<◌, ℕ, ◌+◌, List, [], ◌∷◌, ◌++◌, map, Some}
use Rattle.std.specs.Prelude.{length, take, Result, Ok, IfOk}
use Rattle.std.specs.List.{All}
use Rattle.hex.specs.Hex.{decode_of}
use Rattle.lc_base.specs.declared.answer.Answer.{Answer}
use Rattle.lc_base.specs.declared.answer.Query.{Query}
use Rattle.block_codec.specs.declared.block.Block.{Block}
use Rattle.block_log.specs.Standing.{Logged}
use Rattle.cli_promises.specs.chain_exec.Compiled.{Compiler, IsCompiler}
use Rattle.proof_codec.specs.declared.proof.Proof.{Proof}
use Rattle.proof_codec.specs.Viewing.{Spells}
use Rattle.proof_checks.specs.ProofTexts.{proof_texts}
use Rattle.replay_soundness.specs.text_clashes.FirstClash.{text_at, ClashAt}
use Rattle.proof_commands.specs.Verifying.{hex_text, ProofOf, SpellsFor, IsVerification}
use Rattle.proof_commands.specs.declared.verification.Shown.{Shown}
use Rattle.proof_commands.specs.declared.verification.Shown.TheVariants as shows
use Rattle.cli_words.specs.declared.question.Question.{Question}
use Rattle.cli_words.specs.declared.question.Question.TheVariants.{Version, Ancestors, Between}
use Rattle.proof_commands.specs.declared.verification.Verification.TheVariants.{Accepted}
use Rattle.replay_soundness.specs.Soundness.{HasRoot, replayed_answer}
use Rattle.replay_soundness.specs.Soundness.{replayed_texts}
use Rattle.replay_soundness.specs.Soundness.{ClashesWithReplay}
use Rattle.replay_soundness.specs.Traces.{TraceClashesWithReplay}
use Rattle.replay_soundness.specs.Ranges.{RangeClashesWithReplay}
use Rattle.root_laws.specs.AncestorLaws.{AncestorsAreReached, ReachedVersionsAreAncestors}
use Rattle.root_laws.specs.AncestorLaws.{AncestorsRise}
use Rattle.byte_fields.specs.Spelling.{IsBytes}
use Rattle.block_codec.specs.Placement.{digest_of}
use Rattle.cli_promises.specs.chain_exec.Replay.{replay}
use Rattle.replay_soundness.specs.LightSoundness.{AnswersByFile, IsFileOfChain}
use Rattle.replay_soundness.specs.TypedChains.{IsLawfulChain}
use Rattle.proof_checks.specs.Making.{made_proof}
use Rattle.lc_base.specs.History.{up_to}
use Rattle.lc_base.specs.KeyBytes.{IsKey}
use Rattle.proof_codec.specs.Spelling.{IsProof}
use Rattle.replay_soundness.specs.light_client.Checking.{LightAnswer, IsLightVerdict}
use Rattle.replay_soundness.specs.light_client.Checking.{light_verdict}
use Rattle.replay_soundness.specs.light_client.declared.reject.LightReject.{LightReject}
use Rattle.replay_soundness.specs.light_client.Format.{light_bytes, light_in}
use Rattle.replay_soundness.specs.light_client.declared.block_root.BlockRoot.{BlockRoot}
use Rattle.replay_soundness.specs.light_client.Making.{block_roots_of}
use Rattle.cli_promises.specs.Promises.{Line, plain, Appends}
use Rattle.cli_promises.specs.chain_replay.Chain.{IsChain}
use Rattle.cli_promises.specs.follower_steps.Events.{IsFrameOf}
use Rattle.cli_promises.specs.follower_steps.Laws.{IsPrefixOf}
use Rattle.cli_promises.specs.FollowLaws.{AreFramesOf}
use Rattle.replay_soundness.specs.chain_input.Folding.{FoldEnd}
use Rattle.cli_promises.specs.cli_lines.declared.status.Status.TheVariants as statuses
use Rattle.cli_output.specs.Output.{Output, FitsInput, IsVerifyOutput, IsExposeOutput}
use Rattle.cli_output.specs.Output.{told_bytes, make_light_output, light_output, follow_to}
use Rattle.cli_output.specs.Frames.{framed}
use Rattle.cli_output.specs.Lights.{proof_lines, refused_lines}
use Rattle.cli_output.specs.Proofs.{clash_line}
use Rattle.cli_output.specs.Questions.{shown_in, shown_lines}

-- The input is this proof of the question's kind, in hex.
abbrev pub IsProofInHex : (question : Question) → List ℕ → ProofOf question → Type 0
IsProofInHex question input proof =
    (bytes : List ℕ) × (decode_of (hex_text input) ≡ Ok bytes) × SpellsFor question bytes proof

-- What is shown for a question by replaying the blocks of a chain and taking their rows up to a
-- block.
abbrev pub replayed_shown : Compiler → List Block → ℕ → Question → Shown
replayed_shown compile blocks block question =
    shown_in (up_to (replay compile blocks).rows block) question

-- A text of a proof of the question's kind and one of a chain's ledger up to a block differ and have
-- one digest.
abbrev pub ClashesFor : (question : Question) → Compiler → List Block → ℕ → ProofOf question → Type 0
ClashesFor (Version query) compile blocks block proof =
    ClashesWithReplay compile blocks block proof
ClashesFor (Ancestors key at) compile blocks block proof =
    TraceClashesWithReplay compile blocks block proof
ClashesFor (Between key from to) compile blocks block proof =
    RangeClashesWithReplay compile blocks block proof

-- The lines are those of what replaying the blocks of any chain that has the root shows for the
-- question, up to the block at which the chain has it; or a text of the proof and one of that
-- chain's ledger differ and have one digest.
abbrev pub TellsReplays : List ℕ → (question : Question) → ProofOf question → List Line → Type 0
TellsReplays root question proof lines =
    (compile : Compiler) (blocks : List Block) (block : ℕ) → HasRoot compile blocks block root
    → (lines ≡ map plain (shown_lines (replayed_shown compile blocks block question)))
    ⊎ ClashesFor question compile blocks block proof

-- If `verify` ends well, the input is a proof of the question's kind, and what it prints is what
-- every chain with the root shows, or there is a clash.
abbrev pub ProvedAnswersHold : List ℕ → Question → List ℕ → Type 0
ProvedAnswersHold root question input =
    (output : Output) → IsVerifyOutput root question input output → output.status ≡ statuses.Done
    → (proof : ProofOf question) × IsProofInHex question input proof
    × TellsReplays root question proof output.lines

-- The line is that of a text of the first list and one of the second, which differ and have one
-- digest.
abbrev pub TellsClash : List (List ℕ) → List (List ℕ) → List Line → Type 0
TellsClash given own lines =
    (one : ℕ) × (other : ℕ) × ClashAt given own one other × (lines ≡ plain (clash_line (text_at given one) (text_at own other)) ∷ [])

-- If a chain has the root at the block, the question is about no later one, and `verify` accepts
-- the input with another answer than that of replaying the chain up to the block, then `expose`
-- prints a text of the proof and one of the chain's ledger that differ and have one digest.
abbrev pub WrongAnswersAreTold : List ℕ → Query → ℕ → List ℕ → Type 0
WrongAnswersAreTold root query root_at input =
    (compile : Compiler) (blocks : List Block) (answer : Answer) (output : Output)
    → HasRoot compile blocks root_at root → query.at ≤ root_at → FitsInput input
    → IsVerification root (Version query) input (Accepted (shows.Answer answer))
    → answer ≢ replayed_answer compile blocks root_at query → IsExposeOutput compile root query root_at input blocks output
    → (proof : Proof) × IsProofInHex (Version query) input proof
    × TellsClash (proof_texts proof) (replayed_texts compile blocks root_at) output.lines

-- Which versions the ancestors of a version are, in a lawful history: those that are reached from it
-- by one or more dependencies, each once, in the order of their blocks and keys.
pub record AncestorsAreTheReached : Type 0 where
  pub reached : AncestorsAreReached
  pub all : ReachedVersionsAreAncestors
  pub rise : AncestorsRise

-- ---- light files

-- The lines of some bytes, with their number, are those of the verdict on them: if they are
-- accepted, they spell a proof at a block that the light file has, and the answer is that of
-- replaying any chain of which the file is, up to that block, or texts clash.
abbrev pub IsProofTold : List BlockRoot → ℕ → List ℕ → List (List ℕ) → Type 0
IsProofTold file index bytes lines =
    (verdict : Result LightAnswer LightReject) × IsLightVerdict file bytes verdict
    × IfOk verdict (AnswersByFile file bytes) × (lines ≡ proof_lines index verdict)

-- The lines are those of each of these bytes in order, of which the first have the number `index`,
-- and then that of a frame that is refused, if they end so.
abbrev pub AreProofsTold : List BlockRoot → FoldEnd → ℕ → List (List ℕ) → List (List ℕ) → Type 0
AreProofsTold file end index [] lines = lines ≡ refused_lines end
AreProofsTold file end index (bytes ∷ others) lines =
    (own : List (List ℕ)) × (more : List (List ℕ)) × (lines ≡ own ++ more)
    × IsProofTold file index bytes own × AreProofsTold file end (index + 1) others more

-- For each frame that follows a light file in an input of bytes, `light` prints the verdict on it,
-- which is the answer of every chain of which the file is, unless texts clash.
abbrev pub LightAnswersHold : List ℕ → Type 0
LightAnswersHold input =
    (file : List BlockRoot) (rest : List ℕ) → IsBytes input → light_in input ≡ Some (file, rest)
    → (lines : List (List ℕ)) × ((light_output input).lines ≡ map plain lines)
    × AreProofsTold file (framed rest).end 0 (framed rest).frames lines

-- The light file of these blocks: of each its digest, and the root at it.
abbrev pub light_file_of : Compiler → List Block → List BlockRoot
light_file_of compile blocks = block_roots_of (replay compile blocks).rows (map digest_of blocks)

-- What `light make` prints over these blocks of the log is their light file. If they are a chain it
-- is the file of that chain; so each proof that is made of it, at one of its blocks, can be spelled,
-- and bytes that spell it answer by the file what replaying the chain answers up to that block.
pub record IsMadeWhole (compile : Compiler) (blocks : List Block) (input : List ℕ) : Type 0 where
  pub printed : told_bytes (make_light_output compile input blocks)
      ≡ light_bytes (light_file_of compile blocks)
  pub of_chain : IsCompiler compile → IsLawfulChain compile blocks
      → IsFileOfChain compile blocks (light_file_of compile blocks)
  pub accepts : IsCompiler compile → IsLawfulChain compile blocks → (block : ℕ) (query : Query)
      → block < length blocks → IsKey query.key → query.at ≤ block
      → let made = made_proof (replay compile blocks).rows (map digest_of blocks) block query in
      IsProof made × ((bytes : List ℕ) → Spells bytes made
      → light_verdict (light_file_of compile blocks) bytes
      ≡ Ok (record {
        query = query;
        root_at = block;
        answer = replayed_answer compile blocks block query;
      }))

-- Over any blocks `light make` prints their light file; by it each proof that is made of them, if
-- they are a chain, is accepted with the replay's answer.
abbrev pub MadeLightFilesAreWhole : Type 0
MadeLightFilesAreWhole =
    (compile : Compiler) (blocks : List Block) (input : List ℕ) → IsMadeWhole compile blocks input

-- ---- a leader

-- If the chain of the log is a prefix of a leader's chain, and each frame of the input has one of
-- the leader's blocks, in any order and any number of times, then the chain of the log with the
-- blocks that `follow` appends to it, or with any number of the first ones of these, as a crash may
-- leave it, is a prefix of the leader's.
abbrev pub FollowedChainsArePrefixes : List ℕ → Type 0
FollowedChainsArePrefixes input =
    (compile : Compiler) (leader added : List Block) (frames : List (List ℕ)) (logged : Logged)
    → IsCompiler compile → IsChain compile leader → IsPrefixOf logged.blocks leader
    → AreFramesOf 0 input frames → All (IsFrameOf leader) frames
    → (follow_to compile input logged).change ≡ Appends added
    → IsPrefixOf (logged.blocks ++ added) leader
    × ((count : ℕ) → IsPrefixOf (logged.blocks ++ take count added) leader)
