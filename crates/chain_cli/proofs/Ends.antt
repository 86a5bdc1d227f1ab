-- Each command ends only with statuses that it may end with.
use Rattle.std.proofs.Common.{◌≡◌, inl, inr, true, false, List, ℕ, [], Option, Some, None}
use Rattle.std.proofs.Common.{Result, Ok, Err, refl, sym, ap, ◌∙◌, subst}
use Rattle.std.specs.Prelude.{◌⊎◌, ◌||◌, IfOk}
use Rattle.lc_io.specs.Disk.{DiskState}
use Rattle.lc_io.specs.Outside.{Tell}
use Rattle.contract_tree.specs.Tree.{FunctionTree}
use Rattle.contract_parse.specs.Syntax.{Outcome as SourceOutcome}
use Rattle.contract_check.specs.Faults.{check_fault}
use Rattle.contract_check.specs.declared.fault.Fault.{Fault}
use Rattle.chain_pack.specs.declared.error.PackError.{PackError}
use Rattle.cli_append.specs.cli_promises.declared.ending.RunEnd.{RunEnd}
use Rattle.cli_append.specs.cli_promises.declared.ending.RunEnd.TheVariants as appends
use Rattle.cli_append.specs.cli_promises.declared.ending.RunStop.{RunStop}
use Rattle.cli_words.specs.Words.{CanBeGiven, IsCount, IsQuestion}
use Rattle.cli_words.specs.declared.question.Question.{Question}
use Rattle.cli_words.specs.declared.question.Question.TheVariants.{Version, Ancestors, Between}
use Rattle.cli_words.specs.declared.words.Generation.{Generation}
use Rattle.cli_words.specs.declared.words.Command.{Command}
use Rattle.cli_words.specs.declared.words.BlockVersion.{BlockVersion}
use Rattle.cli_words.specs.declared.words.Edition.{Edition}
use Rattle.cli_words.specs.declared.words.Command.TheVariants.{Scan, Fmt, Pack, Gen, Load, Append}
use Rattle.cli_words.specs.declared.words.Command.TheVariants.{Follow, Upgrade}
use Rattle.cli_words.specs.declared.words.Command.TheVariants.{Root, Ask, Prove, Verify, Expose}
use Rattle.cli_words.specs.declared.words.Command.TheVariants.{MakeLight, Light}
use Rattle.cli_lines.specs.Outcome.{status_of}
use Rattle.cli_lines.specs.declared.outcome.Outcome.{Outcome}
use Rattle.cli_lines.specs.declared.outcome.Ending.{Ending}
use Rattle.cli_lines.specs.declared.outcome.Ending.TheVariants as endings
use Rattle.cli_lines.specs.declared.status.Status.{Status}
use Rattle.cli_lines.specs.declared.status.Status.TheVariants as statuses
use Rattle.cli_output.specs.Blocks.{draft_outcome}
use Rattle.cli_output.specs.Output.{Output, output_of, edition_number, fmt_outcome}
use Rattle.cli_output.specs.Output.{source_outcome, IsFmtOutput, Long, Source}
use Rattle.cli_output.specs.Uses.{Use, reads_input, uses_disk, uses_scratch, changes_log, use_of}
use Rattle.cli_output.specs.Uses.{ChainUse, NoChain, InputRows, LogRows, LogLineage, LogRoots}
use Rattle.cli_output.specs.Uses.{MadeLineage, LogAppended, LogMarked, appends_log, is_asked}
use Rattle.cli_output.specs.Uses.{is_log_asked, is_log_appended, is_log_changed}
use Rattle.cli_output.specs.Uses.{is_frames, is_whole, keeps_bodies}
use Rattle.cli_output.specs.Running.{MayEnd, IsSilent, found_no_log}
use Rattle.cli_output.specs.Questions.{IsInOrder}
use Rattle.cli_output.specs.Scanning.{EndsAsked}
use Rattle.cli_output.specs.Telling.{status_of_result, status_of_stop, status_of_found}
use Rattle.cli_output.specs.Telling.{OnlyReads, OnlyTells, run_answer, upgrade_answer, Tells}
use Rattle.cli_output.specs.declared.stop.OutcomeStop.{OutcomeStop}
use Rattle.cli_output.specs.declared.stop.OutcomeStop.TheVariants as outcomes
use Rattle.cli_output.proofs.Ends.{may_end, asked_ends}
use Rattle.cli_append.specs.recovery.Node.{next_in_chain}
use Rattle.cli_append.specs.cli_promises.declared.ending.RunStop.TheVariants as stops

-- ---- inputs that are read whole

functions_end : (edition : Edition) (functions : List FunctionTree) (fault : Option Fault)
    → MayEnd (status_of (fmt_outcome functions fault).ending) (Some (Fmt edition))
functions_end edition functions None = refl
functions_end edition functions (Some fault) = refl

source_ends : (edition : Edition) (outcome : SourceOutcome)
    → MayEnd (status_of (source_outcome outcome).ending) (Some (Fmt edition))
source_ends edition (Ok functions) = functions_end edition functions (check_fault functions)
source_ends edition (Err fault) = refl

output_ends : (edition : Edition) (input : List ℕ) (output : Output)
    → IsFmtOutput (edition_number edition) input output
    → MayEnd output.status (Some (Fmt edition))
output_ends edition input _ (Long long) = refl
output_ends edition input _ (Source fits outcome is) = source_ends edition outcome

pub fmt_ends : (edition : Edition) (source : List ℕ) (outcome : Outcome)
    → IsFmtOutput (edition_number edition) source (output_of outcome [])
    → MayEnd (status_of outcome.ending) (Some (Fmt edition))
fmt_ends edition source outcome is = output_ends edition source (output_of outcome []) is

draft_ends : (version : BlockVersion) (found : Result (List (List ℕ)) PackError)
    → MayEnd (status_of (draft_outcome found).ending) (Some (Pack version))
draft_ends version (Ok blocks) = refl
draft_ends version (Err fault) = refl

pub pack_ends : (version : BlockVersion) (outcome : Outcome)
    (found : Result (List (List ℕ)) PackError)
    → outcome ≡ draft_outcome found → MayEnd (status_of outcome.ending) (Some (Pack version))
pack_ends version outcome found is =
    subst (λ (o : Outcome). MayEnd (status_of o.ending) (Some (Pack version)))
    (sym is) (draft_ends version found)

-- ---- `append`, and what uses the same

pub answer_ends : (command : Command) → use_of (Some command) ≡ use_of (Some Append)
    → (answer : Result RunEnd RunStop)
    → MayEnd (status_of_result (run_answer answer)) (Some command)
answer_ends command uses (Ok appends.Whole) = refl
answer_ends command uses (Ok (appends.Refused frame cause)) =
    ap (λ (u : Use). is_frames u.input) uses
answer_ends command uses (Err stops.Unreadable) =
    ap (λ (u : Use). is_frames u.input || is_whole u.input) uses
answer_ends command uses (Err stops.Untold) = tt
answer_ends command uses (Err stops.DiskFault) =
    ap (λ (u : Use). is_log_asked u.chain || is_log_changed u.chain) uses
answer_ends command uses (Err stops.ScratchFault) = ap (λ (u : Use). keeps_bodies u.chain) uses
answer_ends command uses (Err stops.Memory) = tt

pub answer_has_log : (answer : Result RunEnd RunStop)
    → found_no_log (status_of_result (run_answer answer)) ≡ false
answer_has_log (Ok appends.Whole) = refl
answer_has_log (Ok (appends.Refused frame cause)) = refl
answer_has_log (Err stops.Unreadable) = refl
answer_has_log (Err stops.Untold) = refl
answer_has_log (Err stops.DiskFault) = refl
answer_has_log (Err stops.ScratchFault) = refl
answer_has_log (Err stops.Memory) = refl

-- ---- `upgrade`

pub upgrade_ends : {T : Type 0} (answer : Result T RunStop) → (answer ≡ Err stops.Unreadable → ⊥)
    → (answer ≡ Err stops.ScratchFault → ⊥)
    → MayEnd (status_of_result (upgrade_answer answer)) (Some Upgrade)
upgrade_ends (Ok done) reads keeps = refl
upgrade_ends (Err stops.Unreadable) reads keeps = absurd (reads refl)
upgrade_ends (Err stops.Untold) reads keeps = tt
upgrade_ends (Err stops.DiskFault) reads keeps = refl
upgrade_ends (Err stops.ScratchFault) reads keeps = absurd (keeps refl)
upgrade_ends (Err stops.Memory) reads keeps = tt

pub upgrade_silent : {T : Type 0} (answer : Result T RunStop) (old mid new : Option (List Tell))
    → mid ≡ old → (answer ≡ Err stops.Unreadable → ⊥) → (answer ≡ Err stops.ScratchFault → ⊥)
    → (answer ≡ Err stops.DiskFault → new ≡ mid) → (answer ≡ Err stops.Memory → new ≡ mid)
    → IsSilent (status_of_result (upgrade_answer answer)) old new
upgrade_silent (Ok done) old mid new same reads keeps disk memory = tt
upgrade_silent (Err stops.Unreadable) old mid new same reads keeps disk memory =
    absurd (reads refl)
upgrade_silent (Err stops.Untold) old mid new same reads keeps disk memory = tt
upgrade_silent (Err stops.DiskFault) old mid new same reads keeps disk memory = disk refl ∙ same
upgrade_silent (Err stops.ScratchFault) old mid new same reads keeps disk memory =
    absurd (keeps refl)
upgrade_silent (Err stops.Memory) old mid new same reads keeps disk memory = memory refl ∙ same

stop_has_log : (stop : RunStop) → found_no_log (status_of_stop stop) ≡ false
stop_has_log stops.Unreadable = refl
stop_has_log stops.Untold = refl
stop_has_log stops.DiskFault = refl
stop_has_log stops.ScratchFault = refl
stop_has_log stops.Memory = refl

-- ---- whole runs

-- a command that prints what it makes
pub done_ends : (result : Result Ending RunStop) (command : Command)
    → IfOk result (λ ending. ending ≡ endings.Done) → OnlyTells result
    → MayEnd (status_of_result result) (Some command)
done_ends (Ok ending) command done only = subst
    (λ (e : Ending). MayEnd (status_of e) (Some command)) (sym done) refl
done_ends (Err stops.Unreadable) command done only = absurd (only.reads refl)
done_ends (Err stops.Untold) command done only = tt
done_ends (Err stops.DiskFault) command done only = absurd (only.writes refl)
done_ends (Err stops.ScratchFault) command done only = absurd (only.keeps refl)
done_ends (Err stops.Memory) command done only = tt

-- ---- what was found

-- a command that only reads its input
pub read_ends : (found : Result Outcome OutcomeStop) (command : Option Command)
    → reads_input command ≡ true
    → IfOk found (λ outcome. MayEnd (status_of outcome.ending) command) → OnlyReads found
    → MayEnd (status_of_found found) command
read_ends found command reads ends only = may_end found command ends (λ e. reads)
    (λ e. absurd (only.disk e)) (λ e. absurd (only.scratch e))

pub load_ends : (generation : Generation) (found : Result Outcome OutcomeStop)
    → IfOk found (λ outcome. outcome.ending ≡ endings.Done)
    → (found ≡ Err outcomes.Unreadable → ⊥) → (found ≡ Err outcomes.DiskFault → ⊥)
    → MayEnd (status_of_found found) (Some (Load generation))
load_ends generation (Ok outcome) done reads disk = subst
    (λ (e : Ending). MayEnd (status_of e) (Some (Load generation))) (sym done) refl
load_ends generation (Err outcomes.Unreadable) done reads disk = absurd (reads refl)
load_ends generation (Err outcomes.DiskFault) done reads disk = absurd (disk refl)
load_ends generation (Err outcomes.ScratchFault) done reads disk = refl
load_ends generation (Err outcomes.Memory) done reads disk = tt

-- an outcome that says that there is no log was found, not printed
pub no_log_found : {D : Type 0} (now : D → ℕ) (disk : D → ℕ → Option DiskState)
    (told : D → Option (List Tell)) (old new : D) (found : Result Outcome OutcomeStop)
    (result : Result Ending RunStop) → Tells next_in_chain now disk told old new found result
    → found_no_log (status_of_result result) ≡ true → found_no_log (status_of_found found) ≡ true
no_log_found now disk told old new (Ok outcome) (Ok ending) says none = subst
    (λ (e : Ending). found_no_log (status_of e) ≡ true) says.ending none
no_log_found now disk told old new (Ok outcome) (Err stop) says none =
    absurd (cc (none, stop_has_log stop))
no_log_found now disk told old new (Err stop) result says none = subst
    (λ (r : Result Ending RunStop). found_no_log (status_of_result r) ≡ true) says.stop_is none

-- a command that leaves the log as it is appends no block
appends_none : (chain : ChainUse) → is_log_appended chain ≡ true → is_log_changed chain ≡ false → ⊥
appends_none LogAppended is keeps = cc keeps
appends_none NoChain is keeps = cc is
appends_none InputRows is keeps = cc is
appends_none LogRows is keeps = cc is
appends_none LogLineage is keeps = cc is
appends_none LogRoots is keeps = cc is
appends_none MadeLineage is keeps = cc is
appends_none LogMarked is keeps = cc is

-- nor does `upgrade`
marks_none : (command : Command) → command ≡ Upgrade → appends_log (Some command) ≡ true → ⊥
marks_none command same is =
    let appends : appends_log (Some Upgrade) ≡ true =
    subst (λ (c : Command). appends_log (Some c) ≡ true) same is in
    cc appends

-- `append`, `follow` and `upgrade` change the log, and no other command does
changed_by : (command : Command) → (changes_log (Some command) ≡ false)
    ⊎ ((command ≡ Append) ⊎ ((command ≡ Follow) ⊎ (command ≡ Upgrade)))
changed_by (Scan query) = inl refl
changed_by (Fmt edition) = inl refl
changed_by (Pack version) = inl refl
changed_by (Gen generation) = inl refl
changed_by (Load generation) = inl refl
changed_by Append = inr (inl refl)
changed_by Follow = inr (inr (inl refl))
changed_by Upgrade = inr (inr (inr refl))
changed_by (Root at) = inl refl
changed_by (Ask asked) = inl refl
changed_by (Prove question root_at) = inl refl
changed_by (Verify root question) = inl refl
changed_by (Expose root query root_at) = inl refl
changed_by MakeLight = inl refl
changed_by Light = inl refl

pub others_keep : (command : Command) → (command ≡ Append → ⊥) → (command ≡ Follow → ⊥)
    → (command ≡ Upgrade → ⊥) → changes_log (Some command) ≡ false
others_keep command appends follows marks = elim (changed_by command) [
  | inl keeps ↦ keeps
  | inr other ↦ elim other [
    | inl is ↦ absurd (appends is)
    | inr rest ↦ elim rest [
      | inl is ↦ absurd (follows is)
      | inr is ↦ absurd (marks is)
    ]
  ]
]

-- and of these `upgrade` appends no block: so what holds for the two others holds for a command
-- that does
pub for_appends : (P : Command → Type 0) → P Append → P Follow → (command : Command)
    → appends_log (Some command) ≡ true → P command
for_appends P appends follows command is = elim (changed_by command) [
  | inl keeps ↦ absurd (appends_none (use_of (Some command)).chain is keeps)
  | inr other ↦ elim other [
    | inl same ↦ subst P (sym same) appends
    | inr rest ↦ elim rest [
      | inl same ↦ subst P (sym same) follows
      | inr same ↦ absurd (marks_none command same is)
    ]
  ]
]

-- they use the disk and the scratch device
abbrev UsesBoth : Command → Type 0
UsesBoth command = (uses_disk (Some command) ≡ true) × (uses_scratch (Some command) ≡ true)

pub uses_both : (command : Command) → appends_log (Some command) ≡ true → UsesBoth command
uses_both = for_appends UsesBoth (refl, refl) (refl, refl)

-- a load that words can spell is of a number of blocks that may be made
pub is_count : (command : Command) (generation : Generation) → command ≡ Load generation
    → CanBeGiven command → IsCount generation.blocks
is_count command generation is given = let can : CanBeGiven (Load generation) = subst CanBeGiven is
    given in can.count

pub of_given : (status : Status) (command given : Command) → command ≡ given
    → MayEnd status (Some given) → MayEnd status (Some command)
of_given status command given is ends = subst (λ (c : Command). MayEnd status (Some c)) (sym is)
    ends

-- a question over the lineage of the log, which reads no input
pub lineage_ends : (found : Result Outcome OutcomeStop) (command given : Command)
    → command ≡ given → (use_of (Some given)).chain ≡ LogLineage
    → IfOk found (λ outcome. EndsAsked outcome.ending) → (found ≡ Err outcomes.Unreadable → ⊥)
    → MayEnd (status_of_found found) (Some command)
lineage_ends found command given is uses ends reads =
    let disk : uses_disk (Some given) ≡ true =
    ap (λ (chain : ChainUse). is_log_asked chain || is_log_changed chain) uses in
    of_given (status_of_found found) command given is
    (may_end found (Some given) (asked_ends found (Some given) (ap is_asked uses) ends)
    (λ e. absurd (reads e)) (λ e. disk) (λ e. ap keeps_bodies uses))

-- the blocks of a question that words can spell are in order
in_order : (question : Question) → IsQuestion question → IsInOrder question
in_order (Version query) is = tt
in_order (Ancestors key at) is = tt
in_order (Between key from to) is = is.1.in_order

pub proved_in_order : (command : Command) (question : Question) (root_at : ℕ)
    → command ≡ Prove question root_at → CanBeGiven command → IsInOrder question
proved_in_order command question root_at is given =
    let can : CanBeGiven (Prove question root_at) = subst CanBeGiven is given in
    in_order question can.0

-- a command that found no log uses the disk
no_log_uses : (status : Status) (command : Option Command) → found_no_log status ≡ true
    → MayEnd status command → uses_disk command ≡ true
no_log_uses statuses.NotALog command none ends = ends
no_log_uses statuses.Damaged command none ends = ends
no_log_uses statuses.Done command none ends = absurd (cc none)
no_log_uses statuses.Usage command none ends = absurd (cc none)
no_log_uses statuses.Unreadable command none ends = absurd (cc none)
no_log_uses statuses.Untold command none ends = absurd (cc none)
no_log_uses statuses.DiskFault command none ends = absurd (cc none)
no_log_uses statuses.Memory command none ends = absurd (cc none)
no_log_uses statuses.Refused command none ends = absurd (cc none)
no_log_uses statuses.Beyond command none ends = absurd (cc none)
no_log_uses statuses.Rejected command none ends = absurd (cc none)
no_log_uses statuses.BadInput command none ends = absurd (cc none)
no_log_uses statuses.ScratchFault command none ends = absurd (cc none)

-- so a command that doesn't use the disk does not end as if it had found no log
pub found_log : (status : Status) (given : Command) → uses_disk (Some given) ≡ false
    → MayEnd status (Some given) → found_no_log status ≡ true → ⊥
found_log status given unused ends none = cc (unused, no_log_uses status (Some given) none ends)
