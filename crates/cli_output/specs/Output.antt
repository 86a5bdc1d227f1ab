-- What each command must print for an input and the content of the disk, how it ends, what it
-- leaves of the input, and what it does to the log. There is one such output.
use Rattle.std.specs.Prelude.{◌≡◌, ℕ, ◌+◌, ◌-◌, ◌<◌, ◌≤◌, ◌==◌, ◌&&◌, nat_le, nat_lt, false}
use Rattle.std.specs.Prelude.{if◌then◌else◌, List, [], ◌∷◌, ◌++◌, length, drop, map, Option}
use Rattle.std.specs.Prelude.{Some, None, Ok, Err, codes}
use Rattle.std.specs.List.{concat}
use Rattle.lc_base.specs.declared.answer.Query.{Query}
use Rattle.block_codec.specs.Placement.{digest_of}
use Rattle.block_codec.specs.Spelling.{Decoder, IsDecoder}
use Rattle.block_codec.specs.declared.block.TheConstants.{FIRST_VERSION, SECOND_VERSION}
use Rattle.block_codec.specs.declared.block.Block.{Block}
use Rattle.block_codec.specs.declared.limits.TheConstants.{MAX_FRAMES}
use Rattle.block_log.specs.Standing.{Standing, Blank, NotALog, Damaged, Holds, NextBlock}
use Rattle.block_log.specs.Standing.{Logged, nothing_logged, next_block, blocks_in, standing}
use Rattle.block_log.specs.Log.{log_placement}
use Rattle.contract_tree.specs.Tree.{FunctionTree}
use Rattle.contract_parse.specs.Syntax.{Outcome as SourceOutcome, IsOutcome}
use Rattle.contract_tokens.specs.declared.edition.TheConstants.{FIRST_EDITION, SECOND_EDITION}
use Rattle.contract_check.specs.Faults.{check_fault}
use Rattle.contract_check.specs.declared.fault.Fault.{Fault}
use Rattle.contract_print.specs.Canonical.{contract_text}
use Rattle.cli_promises.specs.chain_exec.Compiled.{Compiler, IsCompiler}
use Rattle.cli_promises.specs.chain_exec.Replay.{replay}
use Rattle.cli_promises.specs.chain_replay.Chain.{placement_by_mark}
use Rattle.cli_promises.specs.chain_replay.Chain.{placement_in}
use Rattle.cli_promises.specs.chain_replay.Judging.{added_by_all}
use Rattle.replay_soundness.specs.rooted_chain.Roots.{root_in}
use Rattle.replay_soundness.specs.chain_input.Folding.{Fold, FoldEnd, Whole}
use Rattle.replay_soundness.specs.chain_input.Folding.{Refused, fold_from}
use Rattle.replay_soundness.specs.chain_input.Folding.{fold_input}
use Rattle.replay_soundness.specs.light_client.Format.{light_in}
use Rattle.replay_soundness.specs.light_client.Reading.{left_of_none}
use Rattle.replay_soundness.specs.light_client.declared.block_root.BlockRoot.{BlockRoot}
use Rattle.cli_promises.specs.Promises.{Line, plain, Change, NoChange, Appends}
use Rattle.cli_promises.specs.Appending.{fold_lines, marked_line, upgrade_text, upgrade_change}
use Rattle.cli_promises.specs.Following.{FollowFold, follow_all, follow_lines}
use Rattle.chain_pack.specs.Draft.{texts_of_draft}
use Rattle.chain_pack.specs.Generator.{blocks_of_seed}
use Rattle.chain_load.specs.Loads.{load_of}
use Rattle.proof_codec.specs.declared.proof.Proof.{Proof}
use Rattle.proof_checks.specs.ProofTexts.{proof_texts}
use Rattle.replay_soundness.specs.Soundness.{replayed_texts}
use Rattle.replay_soundness.specs.text_clashes.FirstClash.{IsFirstClash}
use Rattle.proof_commands.specs.Verifying.{IsVerification}
use Rattle.proof_commands.specs.declared.verification.Verification.{Verification}
use Rattle.cli_words.specs.declared.question.Question.{Question}
use Rattle.cli_words.specs.declared.question.Question.TheVariants.{Version}
use Rattle.cli_words.specs.declared.question.Asked.{Asked}
use Rattle.cli_words.specs.declared.question.Asked.TheVariants.{At, AtLast}
use Rattle.cli_words.specs.declared.words.Edition.{Edition}
use Rattle.cli_words.specs.declared.words.Edition.TheVariants as editions
use Rattle.cli_words.specs.declared.words.BlockVersion.{BlockVersion}
use Rattle.cli_words.specs.declared.words.BlockVersion.TheVariants as versions
use Rattle.cli_words.specs.declared.words.Generation.{Generation}
use Rattle.cli_words.specs.declared.words.Command.{Command}
use Rattle.cli_words.specs.declared.words.Command.TheVariants.{Scan, Fmt, Pack, Gen, Load, Append}
use Rattle.cli_words.specs.declared.words.Command.TheVariants.{Follow, Upgrade}
use Rattle.cli_words.specs.declared.words.Command.TheVariants.{Root, Ask, Prove, Verify, Expose}
use Rattle.cli_words.specs.declared.words.Command.TheVariants.{MakeLight, Light}
use Rattle.cli_promises.specs.cli_lines.Lines.{usage_line, beyond_line, root_line}
use Rattle.cli_output.specs.LoadLine.{load_line}
use Rattle.cli_promises.specs.cli_lines.Lines.{refused_line}
use Rattle.cli_promises.specs.cli_lines.Lines.{syntax_cause}
use Rattle.cli_promises.specs.cli_lines.Lines.{check_cause}
use Rattle.cli_promises.specs.cli_lines.Lines.{not_a_log_line, damaged_line}
use Rattle.cli_promises.specs.cli_lines.Outcome.{status_of, outcome_with, bad_input}
use Rattle.cli_promises.specs.cli_lines.declared.whole.TheConstants.{MAX_WHOLE_INPUT_BYTES}
use Rattle.cli_promises.specs.cli_lines.declared.outcome.Outcome.{Outcome}
use Rattle.cli_promises.specs.cli_lines.declared.outcome.Ending.{Ending}
use Rattle.cli_promises.specs.cli_lines.declared.outcome.Ending.TheVariants as endings
use Rattle.cli_promises.specs.cli_lines.declared.status.Status.{Status}
use Rattle.cli_promises.specs.cli_lines.declared.status.Status.TheVariants as statuses
use Rattle.cli_output.specs.Texts.{lines_of}
use Rattle.cli_output.specs.Questions.{shown_in, last_block, shown_lines, made_bytes}
use Rattle.cli_output.specs.Blocks.{frame, draft_outcome}
use Rattle.cli_output.specs.Proofs.{proof_line, verification_outcome, is_accepted, IsAcceptedHex}
use Rattle.cli_output.specs.Proofs.{clash_outcome}
use Rattle.cli_output.specs.Frames.{Framed, framed}
use Rattle.cli_output.specs.Lights.{light_pieces, all_proof_lines, refused_lines, rejects_one}
use Rattle.cli_output.specs.Lights.{light_ending}

-- ---- outputs

-- The lines to print, each by itself, with what each promises of the log; how the command ends;
-- what is left of the input; and what becomes of the log. A frame is printed as a line that
-- promises nothing.
pub record Output : Type 0 where
  pub lines : List Line
  pub status : Status
  pub left : List ℕ
  pub change : Change

-- The bytes that are printed.
abbrev pub told_bytes : Output → List ℕ
told_bytes output = concat (map (λ line. line.text) output.lines)

-- The output of an outcome, with what is left of the input. It promises nothing, and the log stays
-- as it is.
abbrev pub output_of : Outcome → List ℕ → Output
output_of outcome left = record { lines = map plain outcome.pieces; status = status_of outcome.ending; left = left; change = NoChange }

-- The output for words that are no command: `usage`, with the input left.
abbrev pub usage_output : List ℕ → Output
usage_output input = record { lines = plain usage_line ∷ []; status = statuses.Usage; left = input; change = NoChange }

-- ---- a question over the blocks of an input

-- The outcome for a block past the head, or for a chain of no block.
abbrev pub beyond_outcome : Option ℕ → Outcome
beyond_outcome head = outcome_with (beyond_line head ∷ []) endings.Beyond

-- The outcome for a block past the last one of these, or for no block.
abbrev pub beyond_head : List Block → Outcome
beyond_head blocks =
    if length blocks == 0 then beyond_outcome None else beyond_outcome (Some (length blocks - 1))

-- The outcome for a question about a block of a chain: these lines, if the chain has the block.
abbrev pub outcome_at : ℕ → List Block → List (List ℕ) → Outcome
outcome_at at blocks lines =
    if length blocks == 0 then beyond_outcome None
    else (if nat_lt at (length blocks) then outcome_with lines endings.Done else beyond_outcome (Some (length blocks - 1)))

-- The outcome of a question over the blocks of a chain: what is shown for it over the chain's rows,
-- if the chain has the last block that it is about.
abbrev pub ask_outcome : Compiler → Question → List Block → Outcome
ask_outcome compile question blocks = outcome_at (last_block question) blocks
    (shown_lines (shown_in (replay compile blocks).rows question))

-- The outcome of `scan` over blocks, by how the frames end.
abbrev pub scan_outcome : Compiler → Query → List Block → FoldEnd → Outcome
scan_outcome compile query blocks Whole = ask_outcome compile (Version query) blocks
scan_outcome compile query blocks (Refused frame cause) =
    outcome_with (refused_line frame cause ∷ []) endings.Refused

-- The output of `scan`: a refused frame decides it, wherever that is in the input.
abbrev pub scan_output : Compiler → Query → Fold → Output
scan_output compile query fold =
    output_of (scan_outcome compile query (added_by_all fold.taken) fold.end) fold.left

-- ---- inputs that are read whole

-- The input is short enough to be read whole.
abbrev pub FitsInput : List ℕ → Type 0
FitsInput input = length input ≤ MAX_WHOLE_INPUT_BYTES

-- The output for an input that is too long: what follows the first byte past the bound is left.
abbrev pub long_output : List ℕ → Output
long_output input = output_of (bad_input (codes "long")) (drop (MAX_WHOLE_INPUT_BYTES + 1) input)

-- The number of an edition of the contract language.
abbrev pub edition_number : Edition → ℕ
edition_number editions.First = FIRST_EDITION
edition_number editions.Second = SECOND_EDITION

-- The outcome of `fmt` for functions: their canonical text, line by line, unless one of their names
-- or kinds is invalid.
abbrev pub fmt_outcome : List FunctionTree → Option Fault → Outcome
fmt_outcome functions (Some fault) = bad_input (check_cause fault)
fmt_outcome functions None = outcome_with (lines_of (contract_text functions)) endings.Done

-- The outcome of `fmt` for a source: the first fault of its syntax, or the outcome for the
-- functions that it parses to.
abbrev pub source_outcome : SourceOutcome → Outcome
source_outcome (Ok functions) = fmt_outcome functions (check_fault functions)
source_outcome (Err fault) = bad_input (syntax_cause fault.0 fault.1)

-- The output of `fmt` for an input in an edition: the outcome for the source that it is, or that it
-- is too long.
pub data IsFmtOutput (edition : ℕ) (input : List ℕ) : Output → Type 0 where
  Long : MAX_WHOLE_INPUT_BYTES < length input → IsFmtOutput edition input (long_output input)
  Source : FitsInput input → (outcome : SourceOutcome) → IsOutcome edition input outcome →
      IsFmtOutput edition input (output_of (source_outcome outcome) [])

-- What `fmt` prints in an edition for an input without a fault, it prints again, in that edition,
-- for what it printed, if that is short enough to be read whole.
abbrev pub FormatsAgain : ℕ → List ℕ → Type 0
FormatsAgain edition input =
    (output : Output) → IsFmtOutput edition input output → output.status ≡ statuses.Done → FitsInput (told_bytes output) →
    IsFmtOutput edition (told_bytes output) output

-- The output of `verify` for an input and a root: the outcome of verifying the proof that the input
-- is, in hex, or that it is too long.
pub data IsVerifyOutput (root : List ℕ) (question : Question) (input : List ℕ)
    : Output → Type 0 where
  LongProof : MAX_WHOLE_INPUT_BYTES < length input
      → IsVerifyOutput root question input (long_output input)
  Verified : FitsInput input → (found : Verification) → IsVerification root question input found
      → IsVerifyOutput root question input (output_of (verification_outcome found) [])

-- The number of a version of blocks.
abbrev pub version_number : BlockVersion → ℕ
version_number versions.First = FIRST_VERSION
version_number versions.Second = SECOND_VERSION

-- The output of `pack` in a version for an input: the outcome for the draft that it is, packed into
-- blocks of that version, or that it is too long.
abbrev pub pack_output : ℕ → List ℕ → Output
pack_output version input =
    if nat_lt MAX_WHOLE_INPUT_BYTES (length input) then long_output input
    else output_of (draft_outcome (texts_of_draft version input)) []

-- ---- blocks that are made

-- The output of `gen`: the frame of each block. It leaves the input.
abbrev pub gen_output : Generation → List ℕ → Output
gen_output generation input =
    record { lines = map plain (map frame (blocks_of_seed generation.blocks generation.seed)); status = statuses.Done; left = input; change = NoChange }

-- The outcome of `load`: the line of the load of these blocks.
abbrev pub load_outcome : Compiler → Generation → Outcome
load_outcome compile generation =
    outcome_with (load_line (load_of compile generation.blocks generation.seed) ∷ []) endings.Done

-- The output of `load`, which leaves the input.
abbrev pub load_output : Compiler → Generation → List ℕ → Output
load_output compile generation input = output_of (load_outcome compile generation) input

-- ---- the log

-- The next block of a log, with the rows of the blocks before it counted, by a decoder and a
-- compiler: after a mark the second version is next, else the first.
abbrev pub next_by : Decoder → Compiler → NextBlock
next_by read compile = next_block read (placement_by_mark compile)

-- The next block of a log by itself, by a decoder: no block runs, so no row is counted.
abbrev pub log_next_by : Decoder → NextBlock
log_next_by read = next_block read log_placement

-- The output for a disk that holds something other than a log. The input stays as it is.
abbrev pub not_a_log_output : List ℕ → Output
not_a_log_output input = output_of (outcome_with (not_a_log_line ∷ []) endings.NotALog) input

-- The output for a log that is damaged at an offset. The input stays as it is.
abbrev pub damaged_output : ℕ → List ℕ → Output
damaged_output at input = output_of (outcome_with (damaged_line at ∷ []) endings.Damaged) input

-- The output of a command over the chain that the bytes on the disk stand for. If they are
-- something other than a log, or damaged, that is printed, and the input and the disk stay as they
-- are.
abbrev pub on_log : (Logged → Output) → List ℕ → Standing → Output
on_log over input Blank = over nothing_logged
on_log over input NotALog = not_a_log_output input
on_log over input (Damaged before at) = damaged_output at input
on_log over input (Holds stored marked gate) = over (record { blocks = blocks_in stored; marked = marked })

-- An output of a command over the chain that the bytes on the disk stand for, if its outputs over
-- chains are those that `Over` admits.
abbrev pub IsOnLog : (Logged → Output → Type 0) → List ℕ → Standing → Output → Type 0
IsOnLog Over input Blank output = Over nothing_logged output
IsOnLog Over input NotALog output = output ≡ not_a_log_output input
IsOnLog Over input (Damaged before at) output = output ≡ damaged_output at input
IsOnLog Over input (Holds stored marked gate) output = Over (record { blocks = blocks_in stored; marked = marked }) output

-- How `append` and `follow` end, by how the frames end.
abbrev pub fold_ending : FoldEnd → Ending
fold_ending Whole = endings.Done
fold_ending (Refused frame cause) = endings.Refused

-- The output of `append` for the frames of an input, from these blocks on: a line for each frame
-- that was taken, and one for a refusal. The blocks that are added are appended to the log.
abbrev pub append_output : Compiler → List Block → Fold → Output
append_output compile blocks fold =
    record { lines = fold_lines compile blocks fold; status = status_of (fold_ending fold.end); left = fold.left; change = Appends (added_by_all fold.taken) }

-- The output of `append` for the frames of an input, over the chain of a log: they are folded by
-- its mark.
abbrev pub append_to : Decoder → Compiler → List ℕ → Logged → Output
append_to read compile input logged =
    append_output compile logged.blocks (fold_from read (placement_by_mark compile logged.marked) (MAX_FRAMES + 1) logged.blocks input)

-- The output of `follow` for the frames of an input, by what becomes of them: a line for each turn,
-- and one at the end. The blocks that are added are appended to the log.
abbrev pub follow_output : FollowFold → Output
follow_output fold = record {
  lines = follow_lines fold;
  status = status_of (fold_ending fold.end);
  left = fold.left;
  change = Appends fold.done.added;
}

-- The output of `follow` for the frames of an input, over the chain of a log: they are delivered to
-- a follower that starts with it.
abbrev pub follow_to : Compiler → List ℕ → Logged → Output
follow_to compile input logged =
    follow_output (follow_all compile (placement_by_mark compile) logged input)

-- The output of `upgrade` over the chain of a log: the number of its blocks, and it is marked; or
-- that it was marked already, and it stays as it is. The input is left.
abbrev pub upgrade_output : List ℕ → Logged → Output
upgrade_output input logged =
    record { lines = marked_line (upgrade_text logged.marked (length logged.blocks)) ∷ []; status = statuses.Done; left = input; change = upgrade_change logged.marked }

-- The block that a question names, or else the last one.
abbrev pub at_or_last : Option ℕ → List Block → ℕ
at_or_last (Some at) blocks = at
at_or_last None blocks = length blocks - 1

-- The question that is asked over blocks: one that names none is about the last one.
abbrev pub question_in : Asked → List Block → Question
question_in (At question) blocks = question
question_in (AtLast kind key) blocks =
    Version (record { kind = kind; key = key; at = at_or_last None blocks })

-- The output of what is asked over the blocks of the log. It leaves the input.
abbrev pub ask_output : Compiler → Asked → List ℕ → List Block → Output
ask_output compile asked input blocks =
    output_of (ask_outcome compile (question_in asked blocks) blocks) input

-- The outcome of `root` for a block of a chain: the root at it, if the chain has the block.
abbrev pub root_outcome : Compiler → ℕ → List Block → Outcome
root_outcome compile at blocks =
    outcome_at at blocks (root_line at (root_in compile blocks at) ∷ [])

-- The output of `root` for a block of the log. It leaves the input.
abbrev pub root_output : Compiler → Option ℕ → List ℕ → List Block → Output
root_output compile at input blocks =
    output_of (root_outcome compile (at_or_last at blocks) blocks) input

-- The bytes of the proof that is made over the blocks of a chain, for one who has the root at a
-- block.
abbrev pub made_in : Compiler → List Block → Question → ℕ → List ℕ
made_in compile blocks question root_at =
    made_bytes (replay compile blocks).rows (map digest_of blocks) root_at question

-- The outcome of `prove`: the line of the proof, if the chain has the block of the root and the
-- question is about no later one.
abbrev pub prove_outcome : Compiler → Question → ℕ → List Block → Outcome
prove_outcome compile question root_at blocks =
    if nat_le (last_block question) root_at && nat_lt root_at (length blocks)
    then outcome_with (proof_line (made_in compile blocks question root_at) ∷ []) endings.Done
    else beyond_head blocks

-- The output of `prove` over the blocks of the log. It leaves the input.
abbrev pub prove_output : Compiler → Question → ℕ → List ℕ → List Block → Output
prove_output compile question root_at input blocks =
    output_of (prove_outcome compile question root_at blocks) input

-- The blocks reach the block of the root, and the question is about no later one.
abbrev pub Reach : List Block → Query → ℕ → Type 0
Reach blocks query root_at = (root_at < length blocks) × (query.at ≤ root_at)

-- The output of `expose` for an input and a root, against the blocks of the log up to `root_at`. If
-- the log has no such block, or the question is about a later one, that is printed, and the input
-- is left as it is. Else, for an input that is too long, or that `verify` does not accept, the
-- output is that of `verify`. For a proof that is accepted the first clash is printed, a text of it
-- and one of the log that differ and have one digest, or that there is none.
pub data IsExposeOutput (compile : Compiler) (root : List ℕ) (query : Query) (root_at : ℕ) (input : List ℕ) (blocks : List Block) : Output → Type 0 where
  OutOfReach : (Reach blocks query root_at → ⊥)
      → IsExposeOutput compile root query root_at input blocks (output_of (beyond_head blocks) input)
  LongExposed : Reach blocks query root_at → MAX_WHOLE_INPUT_BYTES < length input →
      IsExposeOutput compile root query root_at input blocks (long_output input)
  NotAccepted : Reach blocks query root_at → FitsInput input → (found : Verification)
      → IsVerification root (Version query) input found → is_accepted found ≡ false
      → IsExposeOutput compile root query root_at input blocks
      (output_of (verification_outcome found) [])
  Exposed : Reach blocks query root_at → FitsInput input → (proof : Proof) → IsAcceptedHex root query input proof →
      (clash : Option (ℕ × ℕ)) → IsFirstClash (proof_texts proof) (replayed_texts compile blocks root_at) clash →
      IsExposeOutput compile root query root_at input blocks (output_of (clash_outcome (proof_texts proof) (replayed_texts compile blocks root_at) clash) [])

-- ---- light files

-- The outcome of `light make`: the light file of a chain of these blocks, piece by piece.
abbrev pub make_light_outcome : Compiler → List Block → Outcome
make_light_outcome compile blocks =
    outcome_with (light_pieces (replay compile blocks).rows (map digest_of blocks)) endings.Done

-- The output of `light make` over the blocks of the log. It leaves the input.
abbrev pub make_light_output : Compiler → List ℕ → List Block → Output
make_light_output compile input blocks = output_of (make_light_outcome compile blocks) input

-- The outcome of `light` for the frames that follow a light file, each of which is a proof: the
-- lines of each, and one for a frame that is refused for its form.
abbrev pub checked_outcome : List BlockRoot → Framed → Outcome
checked_outcome file framed = outcome_with
    (all_proof_lines file 0 framed.frames ++ refused_lines framed.end)
    (light_ending (rejects_one file framed.frames) framed.end)

-- The outcome of `light`, by the light file at the start of an input and what follows that, if
-- there is one.
abbrev pub light_outcome : Option (List BlockRoot × List ℕ) → Outcome
light_outcome None = bad_input (codes "light")
light_outcome (Some read) = checked_outcome read.0 (framed read.1)

-- What it leaves of the input.
abbrev pub light_left : List ℕ → Option (List BlockRoot × List ℕ) → List ℕ
light_left input None = left_of_none input
light_left input (Some read) = (framed read.1).left

-- The output of `light` for an input.
abbrev pub light_output : List ℕ → Output
light_output input = output_of (light_outcome (light_in input)) (light_left input (light_in input))

-- ---- the output of a command

-- The output that a command, or words that are none, must have for an input and the content of the
-- disk, by a decoder and a compiler.
abbrev pub Wants : Decoder → Compiler → Option Command → List ℕ → List ℕ → Output → Type 0
Wants read compile None input content output = output ≡ usage_output input
Wants read compile (Some (Scan query)) input content output = output ≡ scan_output compile query (fold_input read (placement_in compile) input)
Wants read compile (Some (Fmt edition)) input content output = IsFmtOutput (edition_number edition) input output
Wants read compile (Some (Pack version)) input content output = output ≡ pack_output (version_number version) input
Wants read compile (Some (Gen generation)) input content output = output ≡ gen_output generation input
Wants read compile (Some (Load generation)) input content output = output ≡ load_output compile generation input
Wants read compile (Some Append) input content output =
    output ≡ on_log (append_to read compile input) input (standing (next_by read compile) content)
Wants read compile (Some Follow) input content output =
    output ≡ on_log (follow_to compile input) input (standing (next_by read compile) content)
Wants read compile (Some Upgrade) input content output =
    output ≡ on_log (upgrade_output input) input (standing (next_by read compile) content)
Wants read compile (Some (Root at)) input content output =
    output ≡ on_log (λ logged. root_output compile at input logged.blocks) input (standing (next_by read compile) content)
Wants read compile (Some (Ask asked)) input content output =
    output ≡ on_log (λ logged. ask_output compile asked input logged.blocks) input
    (standing (next_by read compile) content)
Wants read compile (Some (Prove question root_at)) input content output =
    output ≡ on_log (λ logged. prove_output compile question root_at input logged.blocks) input
    (standing (next_by read compile) content)
Wants read compile (Some (Verify root question)) input content output =
    IsVerifyOutput root.0 question input output
Wants read compile (Some (Expose root query root_at)) input content output =
    IsOnLog (λ logged. IsExposeOutput compile root.0 query root_at input logged.blocks) input (standing (next_by read compile) content) output
Wants read compile (Some MakeLight) input content output =
    output ≡ on_log (λ logged. make_light_output compile input logged.blocks) input
    (standing (next_by read compile) content)
Wants read compile (Some Light) input content output = output ≡ light_output input

-- This is the output of the command, by a right decoder and a right compiler.
abbrev pub IsWanted : Option Command → List ℕ → List ℕ → Output → Type 0
IsWanted command input content output =
    (read : Decoder) × IsDecoder read × (compile : Compiler) × IsCompiler compile × Wants read compile command input content output

-- There is an output that is wanted, and only one.
pub record IsOneOutput (Wanted : Output → Type 0) : Type 0 where
  pub output : Output
  pub wanted : Wanted output
  pub only : (other : Output) → Wanted other → other ≡ output
