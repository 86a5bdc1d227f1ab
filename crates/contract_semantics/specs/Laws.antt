-- Laws of the meaning of contracts. `functions` are the functions of a contract, and a scene is
-- where it is called; the same call in the same scene always has the same result.
use Rattle.std.specs.Prelude.{◌≡◌, ◌≢◌, ◌≤◌, ◌<◌, ◌+◌, ℕ, Bool, true, false, List, ◌++◌, Some, IsSomeAnd}
use Rattle.std.specs.List.{All}
use Rattle.lc_base.specs.History.{scan, newest}
use Rattle.lc_base.specs.declared.row.Row.{Row}
use Rattle.lc_base.specs.declared.row.Dep.{Dep}
use Rattle.lc_base.specs.declared.answer.Query.{Query}
use Rattle.lc_base.specs.declared.value.Value.{Value}
use Rattle.lc_base.specs.declared.tx_status.TxStatus.{TxStatus}
use Rattle.lc_base.specs.declared.tx_status.TxStatus.TheVariants as statuses
use Rattle.contract_tree.specs.Tree.{Tree, FunctionTree, StatementTrees, While}
use Rattle.dep_capture.specs.Captured.{WasBacked}
use Rattle.dep_capture.specs.Capture.{captured_none}
use Rattle.dep_capture.specs.declared.access.Read.{Read}
use Rattle.dep_capture.specs.declared.access.Put.{Put}
use Rattle.world_state.specs.Rows.{held_in}
use Rattle.contract_semantics.specs.declared.site.CallSite.{CallSite}
use Rattle.contract_semantics.specs.declared.variable.Variable.{Variable}
use Rattle.contract_semantics.specs.Scenes.{Scene, scene_of}
use Rattle.contract_semantics.specs.Puts.{is_own}
use Rattle.contract_semantics.specs.Steps.{Machine, machine, Failed, after}
use Rattle.contract_semantics.specs.Reading.{block_of}
use Rattle.contract_semantics.specs.Statements.{loop_run, statement_run, statements_run}
use Rattle.contract_semantics.specs.Calls.{first_variables, function_run, call_result}
use Rattle.contract_semantics.specs.CallLookups.{questions_of, keys_met}

-- ---- the budget

-- The cost of a function and what its body leaves of the budget add up to the budget.
abbrev pub CostAndLeftAreTheBudget : Type 0
CostAndLeftAreTheBudget =
    (s : Scene) (function : FunctionTree) (args : List Value)
    → (function_run s function args).outcome.cost
    + (after (statements_run s function.body (first_variables function.params args)
    (machine s.site.budget captured_none))).left
    ≡ s.site.budget

-- What is left of a budget never grows, whatever statements run.
abbrev pub NothingIsPaidBack : Type 0
NothingIsPaidBack =
    (s : Scene) (body : StatementTrees) (variables : List Variable) (m : Machine)
    → (after (statements_run s body variables m)).left ≤ m.left

-- The scene with another budget.
abbrev pub with_budget : ℕ → Scene → Scene
with_budget budget s = record s { site = record s.site { budget = budget } }

-- A call that didn't end with OutOfSteps has the same result with a larger budget: the same status,
-- cost, reads, and puts.
abbrev pub LargerBudgetChangesNothing : Type 0
LargerBudgetChangesNothing =
    (functions : List FunctionTree) (s : Scene) (args : List Value) (more : ℕ)
    → (call_result functions s args).outcome.status ≢ statuses.OutOfSteps
    → call_result functions (with_budget (s.site.budget + more) s) args ≡ call_result functions s args

-- The clock of a loop isn't a limit of its own: with any clock that is at least what is left of the
-- budget, the turns of a loop do what the loop does.
abbrev pub LongerClockChangesNothing : Type 0
LongerClockChangesNothing =
    (s : Scene) (at : ℕ) (test : Tree) (body : StatementTrees) (variables : List Variable)
    (m : Machine) (clock : ℕ)
    → m.left ≤ clock
    → loop_run s test body clock variables m ≡ statement_run s (While at test body) variables m

-- ---- dependencies

-- What was read before is a prefix of what is read after.
abbrev pub ReadsAreOnlyAdded : Type 0
ReadsAreOnlyAdded =
    (s : Scene) (body : StatementTrees) (variables : List Variable) (m : Machine)
    → (added : List Read)
    × ((after (statements_run s body variables m)).capture.reads ≡ m.capture.reads ++ added)

-- Each read of a call has the version that its key had before the block, however the call ends.
abbrev pub ReadsAreOfVersionsBefore : Type 0
ReadsAreOfVersionsBefore =
    (functions : List FunctionTree) (s : Scene) (args : List Value)
    → All (λ (read : Read). read.version ≡ block_of (s.place.newest read.key))
    (call_result functions s args).capture.reads

-- The dependency was read, and names the version that its key had before the block.
pub record IsReadVersion (s : Scene) (reads : List Read) (dep : Dep) : Type 0 where
  pub read : WasBacked reads dep
  pub version : block_of (s.place.newest dep.key) ≡ Some dep.block

-- Each dependency of each put of a call was read by the call, and names the version that its key
-- had before the block, however the call ends.
abbrev pub DependenciesAreReads : Type 0
DependenciesAreReads =
    (functions : List FunctionTree) (s : Scene) (args : List Value)
    → All (λ (put : Put). All (IsReadVersion s (call_result functions s args).capture.reads) put.deps)
    (call_result functions s args).capture.puts

-- So if a call runs over a history, each dependency names the block of the newest row of its key
-- among the rows of the blocks before.
abbrev pub DependenciesAreNewestRows : Type 0
DependenciesAreNewestRows =
    (functions : List FunctionTree) (rows : List Row) (written : List ℕ → Bool) (site : CallSite)
    (args : List Value)
    → All
    (λ (put : Put). All (λ (dep : Dep). IsSomeAnd (newest rows dep.key) (λ row. row.block ≡ dep.block))
    put.deps)
    (call_result functions (scene_of rows written site) args).capture.puts

-- A put of a key that is the contract's own and that the block hasn't written before.
pub record IsOwnAndUnwritten (s : Scene) (put : Put) : Type 0 where
  pub own : is_own s.site.contract put.key ≡ true
  pub unwritten : s.place.written put.key ≡ false

-- Each key that a call puts is the contract's own, and the block hasn't written it before, however
-- the call ends.
abbrev pub PutsAreOwnAndUnwritten : Type 0
PutsAreOwnAndUnwritten =
    (functions : List FunctionTree) (s : Scene) (args : List Value)
    → All (IsOwnAndUnwritten s) (call_result functions s args).capture.puts

-- Statements that fail have a status other than Ok. So a call has the status Ok exactly if its
-- function came to its end or returned.
abbrev pub FailuresAreNotOk : Type 0
FailuresAreNotOk =
    (s : Scene) (body : StatementTrees) (variables : List Variable) (m n : Machine)
    (status : TxStatus)
    → statements_run s body variables m ≡ Failed status n
    → status ≢ statuses.Ok

-- ---- what a call depends on

-- The scenes have the same newest version of each key that was read.
abbrev pub HoldAlike : Scene → Scene → List Read → Type 0
HoldAlike s t reads = All (λ (read : Read). t.place.newest read.key ≡ s.place.newest read.key) reads

-- The rows of the scenes answer each question alike.
abbrev pub AnswerAlike : Scene → Scene → List Query → Type 0
AnswerAlike s t questions = All (λ query. scan t.rows query ≡ scan s.rows query) questions

-- The scenes agree for each key on whether the block has written it.
abbrev pub AreWrittenAlike : Scene → Scene → List (List ℕ) → Type 0
AreWrittenAlike s t keys = All (λ key. t.place.written key ≡ s.place.written key) keys

-- A statement about a call in two scenes.
abbrev pub InTwoScenes : Type 1
InTwoScenes = List FunctionTree → Scene → Scene → List Value → Type 0

-- For each call in two scenes of one call site, the premise implies the law.
abbrev pub AtOneSite : InTwoScenes → InTwoScenes → Type 0
AtOneSite Premise Law =
    (functions : List FunctionTree) (s t : Scene) (args : List Value)
    → t.site ≡ s.site → Premise functions s t args → Law functions s t args

-- Both statements hold.
abbrev pub Both : InTwoScenes → InTwoScenes → InTwoScenes
Both One Other functions s t args = One functions s t args × Other functions s t args

-- The scenes have the same newest version of each key that the call read in the first.
abbrev pub ReadsHoldAlike : InTwoScenes
ReadsHoldAlike functions s t args = HoldAlike s t (call_result functions s args).capture.reads

-- The scenes answer alike each question that the call asked in the first.
abbrev pub QuestionsAnswerAlike : InTwoScenes
QuestionsAnswerAlike functions s t args = AnswerAlike s t (questions_of functions s args)

-- The scenes agree, for each key that the call met in the first, on whether the block has written
-- it.
abbrev pub KeysAreWrittenAlike : InTwoScenes
KeysAreWrittenAlike functions s t args = AreWrittenAlike s t (keys_met functions s args)

-- Everything that is recorded of the call in the first scene is the same in both.
abbrev pub IsRecordedAlike : InTwoScenes
IsRecordedAlike = Both ReadsHoldAlike (Both QuestionsAnswerAlike KeysAreWrittenAlike)

-- The call has the same result in both: the same status, cost, reads, and puts, and so the same
-- rows and dependencies.
abbrev pub EndsAlike : InTwoScenes
EndsAlike functions s t args = call_result functions t args ≡ call_result functions s args

-- The call asks the same questions in both, and meets the same keys.
abbrev pub LooksUpAlike : InTwoScenes
LooksUpAlike functions s t args =
    (questions_of functions t args ≡ questions_of functions s args)
    × (keys_met functions t args ≡ keys_met functions s args)

-- What is recorded of a call is all that it depends on, however it ends.
abbrev pub WhatIsRecordedIsComplete : Type 0
WhatIsRecordedIsComplete = AtOneSite IsRecordedAlike EndsAlike

-- If what is recorded is the same, the call asks the same questions and meets the same keys.
abbrev pub LookupsAreTheSame : Type 0
LookupsAreTheSame = AtOneSite IsRecordedAlike LooksUpAlike

-- Each question of a call is about a block before its own.
abbrev pub QuestionsAreOfBlocksBefore : Type 0
QuestionsAreOfBlocksBefore =
    (functions : List FunctionTree) (s : Scene) (args : List Value)
    → All (λ (query : Query). query.at < s.site.number) (questions_of functions s args)

-- The same for two histories: if the newest rows of the keys that were read hold the same, the rows
-- answer the questions alike, and the keys that were met are written alike, a call has the same
-- result.
abbrev pub HistoriesWithTheSameReadsGiveTheSame : Type 0
HistoriesWithTheSameReadsGiveTheSame =
    (functions : List FunctionTree) (rows rows' : List Row) (written written' : List ℕ → Bool)
    (site : CallSite) (args : List Value)
    → All (λ (read : Read). held_in rows' read.key ≡ held_in rows read.key)
    (call_result functions (scene_of rows written site) args).capture.reads
    → All (λ query. scan rows' query ≡ scan rows query)
    (questions_of functions (scene_of rows written site) args)
    → All (λ key. written' key ≡ written key) (keys_met functions (scene_of rows written site) args)
    → call_result functions (scene_of rows' written' site) args
    ≡ call_result functions (scene_of rows written site) args
