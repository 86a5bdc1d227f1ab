-- The laws of calls follow from what holds of each step.
use Rattle.std.proofs.Common.{◌≡◌, ◌≢◌, ◌≤◌, ◌+◌, ◌-◌, ◌==◌, ℕ, Bool, true, false, List, Option, Some, None, is_some, refl, sym, ap, subst, ◌∙◌, arith, le_refl, true≢false, if◌then◌else◌}
use Rattle.std.specs.Prelude.{nat_le, IsSomeAnd}
use Rattle.std.specs.List.{All}
use Rattle.std.specs.Option.{option_map}
use Rattle.std.specs.Cmp.Lexicographic.{pointwise, bytes_decides}
use Rattle.std.proofs.lemmas.List.Elements.{All-nil, All-weaker, All-contains}
use Rattle.std.proofs.lemmas.List.Folds.{Any-from_list_any}
use Rattle.lc_base.specs.History.{newest, scan}
use Rattle.lc_base.specs.declared.row.Row.{Row}
use Rattle.lc_base.specs.declared.row.Dep.{Dep}
use Rattle.lc_base.specs.declared.value.Value.{Value}
use Rattle.lc_base.specs.declared.tx_status.TxStatus.{TxStatus}
use Rattle.lc_base.specs.declared.tx_status.TxStatus.TheVariants as statuses
use Rattle.contract_tree.specs.Tree.{Tree, FunctionTree}
use Rattle.dep_capture.specs.Captured.{Captured, WasBacked}
use Rattle.dep_capture.specs.Capture.{captured_none, was_read}
use Rattle.dep_capture.specs.declared.access.Read.{Read}
use Rattle.dep_capture.specs.declared.access.Put.{Put}
use Rattle.world_state.specs.declared.held.Held.{Held}
use Rattle.world_state.specs.Rows.{held_of}
use Rattle.contract_semantics.specs.declared.variable.Variable.{Variable}
use Rattle.contract_semantics.specs.Scenes.{Scene, scene_of}
use Rattle.contract_semantics.specs.Operators.{holds}
use Rattle.contract_semantics.specs.Reading.{block_of}
use Rattle.contract_semantics.specs.Steps.{Machine, machine, Step, Done, Failed, after, and_then}
use Rattle.contract_semantics.specs.Expressions.{value_of}
use Rattle.contract_semantics.specs.Statements.{Ending, Goes, Turn, Ended, block_ended, turn_again, loop_turn, statements_run}
use Rattle.contract_semantics.specs.Calls.{CallResult, are_arguments, first_variables, function_of_name, refused_call, call_ended, function_run, function_called, call_result}
use Rattle.contract_semantics.specs.Lookups.{Lookups, no_lookups, value_lookups}
use Rattle.contract_semantics.specs.CallLookups.{statements_lookups, function_lookups, call_lookups}
use Rattle.contract_semantics.specs.Laws.{with_budget, HoldAlike, AnswerAlike, AreWrittenAlike}
use Rattle.contract_semantics.specs.Laws.{IsReadVersion, CostAndLeftAreTheBudget, NothingIsPaidBack}
use Rattle.contract_semantics.specs.Laws.{LargerBudgetChangesNothing, LongerClockChangesNothing}
use Rattle.contract_semantics.specs.Laws.{ReadsAreOnlyAdded, ReadsAreOfVersionsBefore}
use Rattle.contract_semantics.specs.Laws.{DependenciesAreReads, DependenciesAreNewestRows}
use Rattle.contract_semantics.specs.Laws.{WhatIsRecordedIsComplete, LookupsAreTheSame}
use Rattle.contract_semantics.specs.Laws.{HistoriesWithTheSameReadsGiveTheSame}
use Rattle.contract_semantics.proofs.Tame.{IsOf, Moves, Agree, Tame, ran_out, richer, raised}
use Rattle.contract_semantics.proofs.Tame.{is_out_of_steps, moves_same, tame_done, tame_then_quiet}
use Rattle.contract_semantics.proofs.Expressions.{tame_value}
use Rattle.contract_semantics.proofs.Loops.{clocks_same, charge_lowers, charge_ends}
use Rattle.contract_semantics.proofs.Statements.{tame_statements, tame_after_test}

-- ---- the budget

ended_cost : (budget : ℕ) (step : Step Ending) → (after step).left ≤ budget → (call_ended budget step).outcome.cost + (after step).left ≡ budget
ended_cost budget (Done ending m) le = omega (arith, le)
ended_cost budget (Failed status m) le = omega (arith, le)

abbrev pub by_fit : Bool → CallResult → CallResult
by_fit fits run = if fits then run else refused_call statuses.BadArgs

pub cost_and_left_are_the_budget : CostAndLeftAreTheBudget
cost_and_left_are_the_budget s function args =
    let m = machine s.site.budget captured_none in
    let variables = first_variables function.params args in
    ended_cost s.site.budget (statements_run s function.body variables m) ((tame_statements function.body variables).lowers s m)

pub nothing_is_paid_back : NothingIsPaidBack
nothing_is_paid_back s body variables m = (tame_statements body variables).lowers s m

-- ---- a larger budget

not_out : (status : TxStatus) → status ≢ statuses.OutOfSteps → is_out_of_steps status ≡ false
not_out statuses.Ok h = refl
not_out statuses.Conflict h = refl
not_out statuses.NoKey h = refl
not_out statuses.Foreign h = refl
not_out statuses.NoContract h = refl
not_out statuses.NoFunction h = refl
not_out statuses.BadArgs h = refl
not_out statuses.OutOfSteps h = absurd (h refl)
not_out statuses.Overflow h = refl
not_out statuses.DivZero h = refl
not_out statuses.WrongKind h = refl
not_out statuses.BadBlock h = refl
not_out statuses.BadIndex h = refl
not_out statuses.TextTooLong h = refl
not_out statuses.BadKey h = refl
not_out statuses.Taken h = refl
not_out statuses.BadSource h = refl
not_out statuses.TooMany h = refl
not_out statuses.NotRead h = refl
not_out statuses.Failed h = refl

step_not_out : (budget : ℕ) (step : Step Ending) → (call_ended budget step).outcome.status ≢ statuses.OutOfSteps → ran_out step ≡ false
step_not_out budget (Done ending m) h = refl
step_not_out budget (Failed status m) h = not_out status h

same_cost : (budget more left : ℕ) → budget + more - (left + more) ≡ budget - left
same_cost budget more left = omega arith

ended_raised : (budget more : ℕ) (step : Step Ending) → call_ended (budget + more) (raised more step) ≡ call_ended budget step
ended_raised budget more (Done ending m) = ap (λ cost. record { outcome = record { status = statuses.Ok; cost = cost }; capture = m.capture }) (same_cost budget more m.left)
ended_raised budget more (Failed status m) = ap (λ cost. record { outcome = record { status = status; cost = cost }; capture = m.capture }) (same_cost budget more m.left)

run_richer : (s : Scene) (function : FunctionTree) (args : List Value) (more : ℕ) → (function_run s function args).outcome.status ≢ statuses.OutOfSteps → function_run (with_budget (s.site.budget + more) s) function args ≡ function_run s function args
run_richer s function args more h =
    let t : Scene = with_budget (s.site.budget + more) s in
    let variables = first_variables function.params args in
    let m : Machine = machine s.site.budget captured_none in
    let tame = tame_statements function.body variables in
    ap (call_ended (s.site.budget + more))
    (((tame.told s (richer more m)).1 t (record { number = refl; contract = refl; sender = refl; newest = λ key k. refl; history = λ query k. refl; written = λ key k. refl })).0
    ∙ tame.scales more s m (step_not_out s.site.budget (statements_run s function.body variables m) h))
    ∙ ended_raised s.site.budget more (statements_run s function.body variables m)

fit_richer : (run run' : CallResult) (fits : Bool) → (by_fit fits run).outcome.status ≢ statuses.OutOfSteps → (run.outcome.status ≢ statuses.OutOfSteps → run' ≡ run) → by_fit fits run' ≡ by_fit fits run
fit_richer run run' true h k = k h
fit_richer run run' false h k = refl

called_richer : (s : Scene) (args : List Value) (more : ℕ) (o : Option FunctionTree) → (function_called s args o).outcome.status ≢ statuses.OutOfSteps → function_called (with_budget (s.site.budget + more) s) args o ≡ function_called s args o
called_richer s args more None h = refl
called_richer s args more (Some function) h = fit_richer (function_run s function args) (function_run (with_budget (s.site.budget + more) s) function args) (are_arguments function.params args) h (run_richer s function args more)

pub larger_budget_changes_nothing : LargerBudgetChangesNothing
unfolding call_result
larger_budget_changes_nothing functions s args more h = called_richer s args more (function_of_name functions s.site.function) h

-- ---- a longer clock

abbrev after_test : (List Variable → Machine → Step Ending) → List Variable → Bool → Machine → Step Turn
after_test body variables goes_on m = if goes_on then and_then (and_then (body variables m) (block_ended variables)) turn_again else Done (Ended (Goes variables)) m

abbrev the_test : Scene → Tree → List Variable → Machine → Step Bool
the_test s test variables m = and_then (value_of s variables test m) (λ value m. Done (holds value) m)

tame_test : (test : Tree) (variables : List Variable) → Tame (λ s m. the_test s test variables m) (λ s m. value_lookups s variables test m)
tame_test test variables = tame_then_quiet (tame_value variables test) (λ value. tame_done (holds value))

pub longer_clock_changes_nothing : LongerClockChangesNothing
longer_clock_changes_nothing s at test body variables m clock le =
    clocks_same (loop_turn s test (statements_run s body))
    (λ variables m. charge_lowers (the_test s test variables) (after_test (statements_run s body) variables)
    (λ m. (tame_test test variables).lowers s m) (λ goes_on m. (tame_after_test (λ s. statements_run s body) (λ s. statements_lookups s body) (tame_statements body) variables goes_on).lowers s m) m (nat_le 1 m.left) refl)
    (λ variables m e. charge_ends (the_test s test variables) (after_test (statements_run s body) variables) m e)
    clock m.left variables m le (le_refl m.left)

-- ---- reads and dependencies

pub reads_are_only_added : ReadsAreOnlyAdded
reads_are_only_added s body variables m = ((tame_statements body variables).told s m).0.reads

ended_capture : (budget : ℕ) (step : Step Ending) → (call_ended budget step).capture ≡ (after step).capture
ended_capture budget (Done ending m) = refl
ended_capture budget (Failed status m) = refl

run_moves : (s : Scene) (function : FunctionTree) (args : List Value) → Moves s captured_none (function_run s function args).capture
run_moves s function args =
    let m : Machine = machine s.site.budget captured_none in
    let step : Step Ending = statements_run s function.body (first_variables function.params args) m in
    subst (Moves s captured_none) (sym (ended_capture s.site.budget step)) ((tame_statements function.body (first_variables function.params args)).told s m).0

fit_moves : (s : Scene) (run : CallResult) (fits : Bool) → Moves s captured_none run.capture → Moves s captured_none (by_fit fits run).capture
fit_moves s run true h = h
fit_moves s run false h = moves_same s captured_none

called_moves : (s : Scene) (args : List Value) (o : Option FunctionTree) → Moves s captured_none (function_called s args o).capture
called_moves s args None = moves_same s captured_none
called_moves s args (Some function) = fit_moves s (function_run s function args) (are_arguments function.params args) (run_moves s function args)

pub call_moves : (functions : List FunctionTree) (s : Scene) (args : List Value) → Moves s captured_none (call_result functions s args).capture
unfolding call_result
call_moves functions s args = called_moves s args (function_of_name functions s.site.function)

pub reads_are_of_versions_before : ReadsAreOfVersionsBefore
reads_are_of_versions_before functions s args = (call_moves functions s args).truth (All-nil (IsOf s))

pub dependencies_are_reads : DependenciesAreReads
dependencies_are_reads functions s args =
    let c : Captured = (call_result functions s args).capture in
    All-weaker (λ (put : Put). All (WasBacked c.reads) put.deps) (λ (put : Put). All (IsReadVersion s c.reads) put.deps)
    (λ put h. All-weaker (WasBacked c.reads) (IsReadVersion s c.reads) (λ dep w. record { read = w; version = sym (All-contains (IsOf s) c.reads (record { key = dep.key; version = Some dep.block }) (reads_are_of_versions_before functions s args) w) }) put.deps h)
    c.puts ((call_moves functions s args).backed (All-nil (λ (put : Put). All (WasBacked captured_none.reads) put.deps)))

number_in : Option ℕ → ℕ
number_in None = 0
number_in (Some n) = n

newest_row : (o : Option Row) (block : ℕ) → block_of (option_map held_of o) ≡ Some block → IsSomeAnd o (λ row. row.block ≡ block)
unfolding number_in
newest_row None block e = absurd (true≢false (sym (ap is_some e)))
newest_row (Some row) block e = ap number_in e

pub dependencies_are_newest_rows : DependenciesAreNewestRows
dependencies_are_newest_rows functions rows written site args =
    let s : Scene = scene_of rows written site in
    let c : Captured = (call_result functions s args).capture in
    All-weaker (λ (put : Put). All (IsReadVersion s c.reads) put.deps) (λ (put : Put). All (λ (dep : Dep). IsSomeAnd (newest rows dep.key) (λ row. row.block ≡ dep.block)) put.deps)
    (λ put h. All-weaker (IsReadVersion s c.reads) (λ (dep : Dep). IsSomeAnd (newest rows dep.key) (λ row. row.block ≡ dep.block)) (λ dep r. newest_row (newest rows dep.key) dep.block r.version) put.deps h)
    c.puts (dependencies_are_reads functions s args)

-- ---- what a call depends on

-- What holds of each read holds of each key that was read.
each_key : (f g : List ℕ → Option Held) (reads : List Read) → All (λ (read : Read). f read.key ≡ g read.key) reads → (key : List ℕ) → was_read reads key ≡ true → f key ≡ g key
each_key f g reads h key w =
    let a = Any-from_list_any (λ (read : Read). pointwise ◌==◌ read.key key) reads w in
    let same : a.1.key ≡ key = (bytes_decides a.1.key key).0 a.4 in
    let there : f a.1.key ≡ g a.1.key = subst (λ (read : Read). f read.key ≡ g read.key) a.3 (h a.0 a.1 a.2) in
    subst (λ key. f key ≡ g key) same there

abbrev Same : CallResult → CallResult → Lookups → Lookups → Type 0
Same again run look lookups = (again ≡ run) × (look ≡ lookups)

run_told : (s t : Scene) (function : FunctionTree) (args : List Value)
    → Agree s t (statements_lookups s function.body (first_variables function.params args) (machine s.site.budget captured_none)) (function_run s function args).capture.reads
    → (call_ended s.site.budget (statements_run t function.body (first_variables function.params args) (machine s.site.budget captured_none)) ≡ function_run s function args)
    × (statements_lookups t function.body (first_variables function.params args) (machine s.site.budget captured_none) ≡ statements_lookups s function.body (first_variables function.params args) (machine s.site.budget captured_none))
run_told s t function args a =
    let variables = first_variables function.params args in
    let m : Machine = machine s.site.budget captured_none in
    let step : Step Ending = statements_run s function.body variables m in
    let k = ((tame_statements function.body variables).told s m).1 t (subst (λ (c : Captured). Agree s t (statements_lookups s function.body variables m) c.reads) (ended_capture s.site.budget step) a) in
    (ap (call_ended s.site.budget) k.0, k.1)

abbrev pub look_fit : Bool → Lookups → Lookups
look_fit fits look = if fits then look else no_lookups

fit_told : (s t : Scene) (again run : CallResult) (look lookups : Lookups) (fits : Bool) → (Agree s t lookups run.capture.reads → Same again run look lookups)
    → Agree s t (look_fit fits lookups) (by_fit fits run).capture.reads → Same (by_fit fits again) (by_fit fits run) (look_fit fits look) (look_fit fits lookups)
fit_told s t again run look lookups true h a = h a
fit_told s t again run look lookups false h a = (refl, refl)

-- The scene `t` with the call site of `s`.
abbrev at_site : Scene → Scene → Scene
at_site s t = record t { site = s.site }

called_told : (s t : Scene) (args : List Value) (o : Option FunctionTree) → Agree s (at_site s t) (function_lookups s args o) (function_called s args o).capture.reads
    → Same (function_called (at_site s t) args o) (function_called s args o) (function_lookups (at_site s t) args o) (function_lookups s args o)
called_told s t args None a = (refl, refl)
called_told s t args (Some function) a =
    let m : Machine = machine s.site.budget captured_none in
    let variables = first_variables function.params args in
    fit_told s (at_site s t) (function_run (at_site s t) function args) (function_run s function args) (statements_lookups (at_site s t) function.body variables m) (statements_lookups s function.body variables m) (are_arguments function.params args)
    (run_told s (at_site s t) function args) a

call_told_here : (functions : List FunctionTree) (s t : Scene) (args : List Value) → Agree s (at_site s t) (call_lookups functions s args) (call_result functions s args).capture.reads
    → Same (call_result functions (at_site s t) args) (call_result functions s args) (call_lookups functions (at_site s t) args) (call_lookups functions s args)
unfolding call_result call_lookups
call_told_here functions s t args a = called_told s t args (function_of_name functions s.site.function) a

pub call_told : (functions : List FunctionTree) (s t : Scene) (args : List Value) → t.site ≡ s.site
    → HoldAlike s t (call_result functions s args).capture.reads
    → AnswerAlike s t (call_lookups functions s args).asked
    → AreWrittenAlike s t (call_lookups functions s args).met
    → Same (call_result functions t args) (call_result functions s args) (call_lookups functions t args) (call_lookups functions s args)
call_told functions s t args site hold answer written =
    let k = call_told_here functions s t args (record {
      number = refl;
      contract = refl;
      sender = refl;
      newest = each_key t.place.newest s.place.newest (call_result functions s args).capture.reads hold;
      history = λ query there. All-contains (λ query. scan t.rows query ≡ scan s.rows query) (call_lookups functions s args).asked query answer there;
      written = λ key there. All-contains (λ key. t.place.written key ≡ s.place.written key) (call_lookups functions s args).met key written there;
    }) in (
      ap (λ site. call_result functions (record t { site = site }) args) site ∙ k.0,
      ap (λ site. call_lookups functions (record t { site = site }) args) site ∙ k.1,
    )

pub what_is_recorded_is_complete : WhatIsRecordedIsComplete
what_is_recorded_is_complete functions s t args site alike = (call_told functions s t args site alike.0 alike.1.0 alike.1.1).0

pub lookups_are_the_same : LookupsAreTheSame
lookups_are_the_same functions s t args site alike =
    let k = (call_told functions s t args site alike.0 alike.1.0 alike.1.1).1 in
    (ap (λ (l : Lookups). l.asked) k, ap (λ (l : Lookups). l.met) k)

pub histories_with_the_same_reads_give_the_same : HistoriesWithTheSameReadsGiveTheSame
histories_with_the_same_reads_give_the_same functions rows rows' written written' site args hold answer met =
    what_is_recorded_is_complete functions (scene_of rows written site) (scene_of rows' written' site) args refl (hold, (answer, met))
