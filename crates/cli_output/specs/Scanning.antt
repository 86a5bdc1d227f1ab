-- How the results of the commands' functions meet the definitions of their outputs.
use Rattle.std.specs.Prelude.{◌≡◌, ℕ, Bool, List, Option, Some, Result, IfOk}
use Rattle.lc_base.specs.declared.answer.Query.{Query}
use Rattle.lc_io.specs.Disk.{DiskState}
use Rattle.disk_model.specs.Disk.{content_of}
use Rattle.block_codec.specs.Reading.{block_in}
use Rattle.block_codec.specs.declared.block.Block.{Block}
use Rattle.cli_promises.specs.chain_exec.Compiled.{compiled_in}
use Rattle.cli_promises.specs.chain_replay.Chain.{ChainState, StandsFor}
use Rattle.cli_words.specs.declared.words.Command.{Command}
use Rattle.cli_words.specs.declared.words.Command.TheVariants.{Root, Ask, Prove, Expose}
use Rattle.cli_words.specs.declared.words.Command.TheVariants.{MakeLight}
use Rattle.cli_words.specs.declared.question.Question.{Question}
use Rattle.cli_promises.specs.cli_lines.declared.outcome.Outcome.{Outcome}
use Rattle.cli_promises.specs.cli_lines.declared.outcome.Ending.{Ending}
use Rattle.cli_promises.specs.cli_lines.declared.outcome.Ending.TheVariants as endings
use Rattle.cli_output.specs.Output.{Output, output_of, IsFmtOutput, IsVerifyOutput, IsExposeOutput}
use Rattle.cli_output.specs.Output.{root_output, ask_output, prove_output, Wants}
use Rattle.cli_output.specs.Output.{make_light_output}
use Rattle.cli_output.specs.Running.{leaves, HeldIsGiven, IsGiven}
use Rattle.cli_output.specs.Uses.{reads_input, uses_disk}
use Rattle.cli_output.specs.declared.stop.OutcomeStop.{OutcomeStop}

-- The output is that of this outcome and of what is left of the input.
abbrev pub GivesOutput : Outcome → Option (List ℕ) → Output → Type 0
GivesOutput outcome left output =
    (output ≡ output_of outcome output.left) × (left ≡ Some output.left)

-- The output of this outcome and of what is left of the input satisfies this.
abbrev pub GivesAny : (Output → Type 0) → Outcome → Option (List ℕ) → Type 0
GivesAny Wanted outcome left =
    (rest : List ℕ) × (left ≡ Some rest) × Wanted (output_of outcome rest)

-- The outcome and what is left of the input are those of `fmt` in an edition.
abbrev pub IsFmtOutcome : ℕ → Outcome → Option (List ℕ) → List ℕ → Type 0
IsFmtOutcome edition outcome left input = GivesAny (IsFmtOutput edition input) outcome left

-- The outcome and what is left of the input are those of `verify`.
abbrev pub IsVerifyOutcome : List ℕ → Question → Outcome → Option (List ℕ) → List ℕ → Type 0
IsVerifyOutcome root question outcome left input =
    GivesAny (IsVerifyOutput root question input) outcome left

-- The outcome and what is left of the input are those of `expose` against the blocks of the log.
abbrev pub IsExposeOutcome : List ℕ → Query → ℕ → List Block → Outcome → Option (List ℕ) → List ℕ
    → Type 0
IsExposeOutcome root query root_at blocks outcome left input =
    GivesAny (IsExposeOutput compiled_in root query root_at input blocks) outcome left

-- With what is left of the input, the outcome makes an output that satisfies this.
abbrev pub GivesFrom : (Output → Type 0) → Option (List ℕ) → Option (List ℕ) → Outcome → Type 0
GivesFrom Wanted left_old left_new outcome =
    (rest : List ℕ) × (left_new ≡ leaves left_old rest) × Wanted (output_of outcome rest)

-- Whatever the input and the content of the disk are: if those that the command uses are known, and
-- so are the bytes of the scratch device if it uses that, the outcome that was found makes an
-- output that the command must have. `held` is whether it is known which bytes the device holds.
abbrev pub IsFoundFor : Option DiskState → Option (List ℕ) → Option (List ℕ) → Bool
    → Option Command → Result Outcome OutcomeStop → Type 0
IsFoundFor state left_old left_new held command found =
    HeldIsGiven held command → (input content : List ℕ) → IsGiven (reads_input command) left_old input → IsGiven (uses_disk command) (content_of state) content
    → IfOk found (GivesFrom (Wants block_in compiled_in command input content) left_old left_new)

-- The output that a command which asks the blocks of the log must have for an input over them.
-- Others have none.
abbrev pub WantsOver : Command → List ℕ → List Block → Output → Type 0
WantsOver (Root at) input blocks output = output ≡ root_output compiled_in at input blocks
WantsOver (Ask asked) input blocks output = output ≡ ask_output compiled_in asked input blocks
WantsOver (Prove question root_at) input blocks output =
    output ≡ prove_output compiled_in question root_at input blocks
WantsOver (Expose root query root_at) input blocks output =
    IsExposeOutput compiled_in root.0 query root_at input blocks output
WantsOver MakeLight input blocks output = output ≡ make_light_output compiled_in input blocks
WantsOver other input blocks output = ⊥

-- The same as `IsFoundFor` for such a command, over all blocks that this stands for.
abbrev pub IsFoundOver : ChainState → Option (List ℕ) → Option (List ℕ) → Command
    → Result Outcome OutcomeStop → Type 0
IsFoundOver kept left_old left_new command found =
    (input : List ℕ) → IsGiven (reads_input (Some command)) left_old input → (blocks : List Block) → StandsFor kept blocks
    → IfOk found (GivesFrom (WantsOver command input blocks) left_old left_new)

-- How a question about a block of a chain ends: it is answered, or the chain has no such block.
abbrev pub EndsAsked : Ending → Type 0
EndsAsked endings.Done = Unit {0}
EndsAsked endings.Beyond = Unit {0}
EndsAsked other = ⊥

-- How the search for a clash with a proof ends: it was made, the chain has no such block, the proof
-- is not accepted, or the input is no hex or too long.
abbrev pub EndsExposed : Ending → Type 0
EndsExposed endings.Done = Unit {0}
EndsExposed endings.Beyond = Unit {0}
EndsExposed endings.Rejected = Unit {0}
EndsExposed endings.BadInput = Unit {0}
EndsExposed other = ⊥
