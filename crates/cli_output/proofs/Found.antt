-- What a command found makes an output that it must have.
use Rattle.std.proofs.Common.{◌≡◌, ℕ, Bool, true, false, List, Option, Some, None, Result, Ok, Err}
use Rattle.std.proofs.Common.{refl, ap, ◌∙◌, subst}
use Rattle.std.specs.Prelude.{◌||◌, IfOk, IfSome}
use Rattle.lc_io.specs.Disk.{DiskState}
use Rattle.disk_model.specs.Disk.{content_of}
use Rattle.block_codec.specs.Reading.{block_in}
use Rattle.block_log.specs.Standing.{standing}
use Rattle.cli_promises.specs.chain_exec.Compiled.{compiled_in}
use Rattle.cli_promises.specs.chain_replay.Chain.{ChainState}
use Rattle.cli_promises.specs.recovery.Node.{IsChainStored, IsNoStart, next_in_chain}
use Rattle.cli_promises.specs.recovery.declared.errors.StartError.{StartError}
use Rattle.cli_promises.specs.cli_lines.declared.outcome.Outcome.{Outcome}
use Rattle.cli_words.specs.declared.words.Command.{Command}
use Rattle.cli_words.specs.declared.words.Command.TheVariants.{Scan, Fmt, Pack, Gen, Load, Append}
use Rattle.cli_words.specs.declared.words.Command.TheVariants.{Follow, Upgrade}
use Rattle.cli_words.specs.declared.words.Command.TheVariants.{Root, Ask, Prove, Verify, Expose}
use Rattle.cli_words.specs.declared.words.Command.TheVariants.{MakeLight, Light}
use Rattle.cli_output.specs.Output.{Output, output_of, root_output, ask_output, prove_output}
use Rattle.cli_output.specs.Output.{make_light_output}
use Rattle.cli_output.specs.Output.{IsOnLog, Wants}
use Rattle.cli_output.specs.Uses.{ChainUse, NoChain, InputRows, LogRows, LogLineage, LogRoots}
use Rattle.cli_output.specs.Uses.{MadeLineage}
use Rattle.cli_output.specs.Uses.{LogAppended, LogMarked, use_of, is_log_lineage, is_log_asked}
use Rattle.cli_output.specs.Uses.{is_log_changed, keeps_bodies, reads_input, uses_disk}
use Rattle.cli_output.specs.Uses.{uses_scratch, asks_log, asks_lineage}
use Rattle.cli_output.specs.Running.{leaves, HeldIsGiven, IsGiven}
use Rattle.cli_output.specs.Scanning.{GivesAny, GivesFrom, WantsOver, IsFoundFor, IsFoundOver}
use Rattle.cli_output.specs.Telling.{start_outcome}
use Rattle.cli_output.specs.declared.stop.OutcomeStop.{OutcomeStop}
use Rattle.cli_output.proofs.Meets.{told_input, left_read, is_on_log_blocks, is_on_no_log}
use Rattle.cli_output.proofs.Meets.{on_log_is}

-- ---- what is known

pub left_given : (uses : Bool) (left : Option (List ℕ)) (input : List ℕ) → IsGiven uses left input
    → left ≡ leaves left input
left_given true None input given = absurd given
left_given false None input given = refl
left_given true (Some bytes) input given = ap Some given
left_given false (Some bytes) input given = ap Some given

content_given : (uses : Bool) (state : Option DiskState) (content : List ℕ) → uses ≡ true
    → IsGiven uses (content_of state) content → content_of state ≡ Some content
content_given uses state content is given = told_input (content_of state) content
    (subst (λ (b : Bool). IsGiven b (content_of state) content) is given)

-- ---- what is used

lineage_asks : (chain : ChainUse) → is_log_lineage chain ≡ true → is_log_asked chain ≡ true
lineage_asks NoChain is = absurd (cc is)
lineage_asks InputRows is = absurd (cc is)
lineage_asks LogRows is = absurd (cc is)
lineage_asks LogLineage is = refl
lineage_asks LogRoots is = absurd (cc is)
lineage_asks MadeLineage is = absurd (cc is)
lineage_asks LogAppended is = absurd (cc is)
lineage_asks LogMarked is = absurd (cc is)

lineage_keeps : (chain : ChainUse) → is_log_lineage chain ≡ true → keeps_bodies chain ≡ true
lineage_keeps NoChain is = absurd (cc is)
lineage_keeps InputRows is = absurd (cc is)
lineage_keeps LogRows is = absurd (cc is)
lineage_keeps LogLineage is = refl
lineage_keeps LogRoots is = refl
lineage_keeps MadeLineage is = absurd (cc is)
lineage_keeps LogAppended is = absurd (cc is)
lineage_keeps LogMarked is = absurd (cc is)

asked_uses : (chain : ChainUse) → is_log_asked chain ≡ true
    → (is_log_asked chain || is_log_changed chain) ≡ true
asked_uses NoChain is = absurd (cc is)
asked_uses InputRows is = absurd (cc is)
asked_uses LogRows is = refl
asked_uses LogLineage is = refl
asked_uses LogRoots is = refl
asked_uses MadeLineage is = absurd (cc is)
asked_uses LogAppended is = absurd (cc is)
asked_uses LogMarked is = absurd (cc is)

-- a command that asks the lineage of the log asks the log
pub asks_it : (command : Option Command) → asks_lineage command ≡ true → asks_log command ≡ true
asks_it command is = lineage_asks (use_of command).chain is

-- and needs the scratch device
pub needs_scratch : (command : Option Command) → asks_lineage command ≡ true
    → uses_scratch command ≡ true
needs_scratch command is = lineage_keeps (use_of command).chain is

-- one that asks the log uses the disk
pub needs_disk : (command : Option Command) → asks_log command ≡ true → uses_disk command ≡ true
needs_disk command is = asked_uses (use_of command).chain is

-- ---- commands that read an input

from_read : (Wanted : Output → Type 0) (found : Result Outcome OutcomeStop)
    (left_old left_new : Option (List ℕ)) (input : List ℕ) → left_old ≡ Some input
    → IfOk found (λ outcome. GivesAny Wanted outcome left_new)
    → IfOk found (GivesFrom Wanted left_old left_new)
from_read Wanted (Ok outcome) left_old left_new input left_is (rest, left, wanted) = (
  rest,
  left
      ∙ left_read left_old input rest left_is,
  wanted,
)
from_read Wanted (Err stop) left_old left_new input left_is gives = tt

pub read_found : (Wanted : List ℕ → Output → Type 0) (found : Result Outcome OutcomeStop)
    (left_old left_new : Option (List ℕ))
    → IfSome left_old (λ input. IfOk found (λ outcome. GivesAny (Wanted input) outcome left_new))
    → (input : List ℕ) → IsGiven true left_old input
    → IfOk found (GivesFrom (Wanted input) left_old left_new)
read_found Wanted found left_old left_new gives input given =
    let left_is = told_input left_old input given in
    from_read (Wanted input) found left_old left_new input left_is
    (subst (λ (left : Option (List ℕ)). IfSome left
    (λ input. IfOk found (λ outcome. GivesAny (Wanted input) outcome left_new))) left_is gives)

-- ---- commands that read none

pub unread_found : (wanted : Outcome) (found : Result Outcome OutcomeStop) (uses : Bool)
    (left : Option (List ℕ)) (input : List ℕ) → IsGiven uses left input
    → IfOk found (λ outcome. outcome ≡ wanted)
    → IfOk found (GivesFrom (λ output. output ≡ output_of wanted input) left left)
unread_found wanted (Ok outcome) uses left input given is = (
  input,
  left_given uses left input given,
  ap
      (λ (o : Outcome). output_of o input) is,
)
unread_found wanted (Err stop) uses left input given is = tt

-- ---- commands that ask the blocks of the log

log_wanted : (command : Command) → asks_log (Some command) ≡ true → (input content : List ℕ)
    (output : Output) → IsOnLog (λ logged. WantsOver command input logged.blocks) input (standing next_in_chain content) output
    → Wants block_in compiled_in (Some command) input content output
log_wanted (Root at) asks input content output is = on_log_is (λ logged. root_output compiled_in at input logged.blocks) input
    (standing next_in_chain content) output is
log_wanted (Ask asked) asks input content output is = on_log_is
    (λ logged. ask_output compiled_in asked input logged.blocks) input
    (standing next_in_chain content) output is
log_wanted (Prove question root_at) asks input content output is = on_log_is
    (λ logged. prove_output compiled_in question root_at input logged.blocks) input
    (standing next_in_chain content) output is
log_wanted (Expose root query root_at) asks input content output is = is
log_wanted MakeLight asks input content output is = on_log_is
    (λ logged. make_light_output compiled_in input logged.blocks) input
    (standing next_in_chain content) output is
log_wanted (Scan query) asks input content output is = absurd (cc asks)
log_wanted (Fmt edition) asks input content output is = absurd (cc asks)
log_wanted (Pack version) asks input content output is = absurd (cc asks)
log_wanted (Gen generation) asks input content output is = absurd (cc asks)
log_wanted (Load generation) asks input content output is = absurd (cc asks)
log_wanted Append asks input content output is = absurd (cc asks)
log_wanted Follow asks input content output is = absurd (cc asks)
log_wanted Upgrade asks input content output is = absurd (cc asks)
log_wanted (Verify root question) asks input content output is = absurd (cc asks)
log_wanted Light asks input content output is = absurd (cc asks)

-- their chain was started
pub asked_found : (state : Option DiskState) (command : Command) (kept : ChainState)
    (found : Result Outcome OutcomeStop) (left_old left_new : Option (List ℕ)) (held : Bool)
    → asks_log (Some command) ≡ true
    → (HeldIsGiven held (Some command) → (content : List ℕ) → content_of state ≡ Some content
    → IsChainStored (standing next_in_chain content) (Ok kept))
    → (HeldIsGiven held (Some command) → IsFoundOver kept left_old left_new command found)
    → IsFoundFor state left_old left_new held (Some command) found
asked_found state command kept (Ok outcome) left_old left_new held asks started over heard input
    content given_input given =
    let s = started heard content
    (content_given (uses_disk (Some command)) state content (needs_disk (Some command) asks) given) in
    let from = over heard input given_input s.0.blocks s.2 in (
      from.0,
      from.1,
      log_wanted command asks input content (output_of outcome from.0)
          (is_on_log_blocks (λ logged. WantsOver command input logged.blocks) input
          (standing next_in_chain content) s.0 (output_of outcome from.0) s.1 from.2),
    )
asked_found state command kept (Err stop) left_old left_new held asks started over heard input
    content given_input given = tt

-- nothing could be started
pub no_start_found : (state : Option DiskState) (command : Command) (error : StartError)
    (found : Result Outcome OutcomeStop) (left : Option (List ℕ)) (held : Bool)
    → asks_log (Some command) ≡ true
    → (HeldIsGiven held (Some command) → (content : List ℕ) → content_of state ≡ Some content
    → IsNoStart (standing next_in_chain content) error)
    → IfOk found (λ outcome. start_outcome error ≡ Ok outcome)
    → IsFoundFor state left left held (Some command) found
no_start_found state command error (Ok outcome) left held asks started is heard input content
    given_input given =
    let s = started heard content
    (content_given (uses_disk (Some command)) state content (needs_disk (Some command) asks) given) in (
      input,
      left_given (reads_input (Some command)) left input given_input,
      log_wanted command asks input content (output_of outcome input)
          (is_on_no_log (λ logged. WantsOver command input logged.blocks) input
          (standing next_in_chain content) error outcome s is),
    )
no_start_found state command error (Err stop) left held asks started is heard input content
    given_input given = tt
