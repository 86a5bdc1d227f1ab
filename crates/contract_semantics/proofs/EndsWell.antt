-- Of a call that ends with Ok, the keys that it met are unwritten, so it can be exchanged with
-- another.
use Rattle.std.proofs.Common.{◌≡◌, ◌==◌, ◌||◌, ℕ, Bool, true, false, List, Contains, Option, Some, None, refl, sym, ap, ap₂, subst, ◌∙◌, get_or, true≢false, ⊎_elim, ◌⊎◌, inl, inr}
use Rattle.std.specs.List.{All, list_any}
use Rattle.std.specs.Cmp.Lexicographic.{pointwise, bytes_decides, nat_list_eq_equiv}
use Rattle.std.proofs.lemmas.List.Elements.{All-nil, All-weaker, All-contains, Contains-get_or}
use Rattle.std.proofs.lemmas.List.Folds.{Any-from_list_any, list_any-from_Any}
use Rattle.lc_base.specs.declared.value.Value.{Value}
use Rattle.lc_base.specs.declared.tx_status.TxStatus.{TxStatus}
use Rattle.lc_base.specs.declared.tx_status.TxStatus.TheVariants as statuses
use Rattle.contract_tree.specs.Tree.{FunctionTree}
use Rattle.dep_capture.specs.Captured.{Captured}
use Rattle.dep_capture.specs.Capture.{captured_none, was_read, was_put}
use Rattle.dep_capture.specs.declared.access.Read.{Read}
use Rattle.dep_capture.specs.declared.access.Put.{Put}
use Rattle.contract_semantics.specs.Scenes.{Scene}
use Rattle.contract_semantics.specs.Steps.{Machine, machine, Step, Done, Failed}
use Rattle.contract_semantics.specs.Statements.{Ending, statements_run}
use Rattle.contract_semantics.specs.Calls.{CallResult, are_arguments, first_variables, function_of_name, call_ended, function_run, function_called, call_result}
use Rattle.contract_semantics.specs.Lookups.{Lookups}
use Rattle.contract_semantics.specs.CallLookups.{statements_lookups, function_lookups, call_lookups}
use Rattle.contract_semantics.specs.CallLookups.{keys_met}
use Rattle.contract_semantics.specs.Laws.{QuestionsAreOfBlocksBefore, IsOwnAndUnwritten}
use Rattle.contract_semantics.specs.Laws.{PutsAreOwnAndUnwritten, FailuresAreNotOk}
use Rattle.contract_semantics.specs.ExchangeLaws.{IsUsedAndUnwritten, IsApartFrom}
use Rattle.contract_semantics.specs.ExchangeLaws.{KeysMetAreReadOrPut, ReadsAndPutsAreComplete}
use Rattle.contract_semantics.specs.ExchangeLaws.{PutsOfOthersChangeNothing, CallsCanBeExchanged}
use Rattle.contract_semantics.specs.ExchangeLaws.{after_puts, with_site}
use Rattle.contract_semantics.proofs.Tame.{AsksBefore, no_questions, EndsClear, FailsBadly}
use Rattle.contract_semantics.proofs.Tame.{is_ok_status}
use Rattle.contract_semantics.proofs.Statements.{tame_statements}
use Rattle.contract_semantics.proofs.TheLaws.{call_moves, what_is_recorded_is_complete, by_fit}
use Rattle.contract_semantics.proofs.TheLaws.{look_fit}

-- ---- failures

fails_at : (step : Step Ending) (status : TxStatus) (n : Machine) → step ≡ Failed status n → FailsBadly step → is_ok_status status ≡ false
fails_at step status n e h = subst FailsBadly e h

pub failures_are_not_ok : FailuresAreNotOk
failures_are_not_ok s body variables m n status e is_ok =
    true≢false (sym (ap is_ok_status is_ok) ∙ fails_at (statements_run s body variables m) status n e ((tame_statements body variables).fails s m))

pub puts_are_own_and_unwritten : PutsAreOwnAndUnwritten
puts_are_own_and_unwritten functions s args = (call_moves functions s args).fresh (All-nil (IsOwnAndUnwritten s))

-- ---- questions

fit_asks : (s : Scene) (lookups : Lookups) (fits : Bool) → AsksBefore s lookups → AsksBefore s (look_fit fits lookups)
fit_asks s lookups true h = h
fit_asks s lookups false h = no_questions s

called_asks : (s : Scene) (args : List Value) (o : Option FunctionTree) → AsksBefore s (function_lookups s args o)
called_asks s args None = no_questions s
called_asks s args (Some function) =
    let m : Machine = machine s.site.budget captured_none in
    let variables = first_variables function.params args in
    fit_asks s (statements_lookups s function.body variables m) (are_arguments function.params args) ((tame_statements function.body variables).asks s m)

pub questions_are_of_blocks_before : QuestionsAreOfBlocksBefore
unfolding call_lookups
questions_are_of_blocks_before functions s args = called_asks s args (function_of_name functions s.site.function)

-- ---- keys met by a call that ends with Ok

each_of : {X : Type 0} (P : X → Type 0) (xs : List X) → ((x : X) → Contains xs x → P x) → All P xs
each_of P xs h k d lt = h (get_or xs k d) (Contains-get_or xs k d lt)

abbrev MeetsWell : Scene → CallResult → Lookups → Type 0
MeetsWell s run lookups = run.outcome.status ≡ statuses.Ok → All (IsUsedAndUnwritten s run.capture) lookups.met

step_meets : (s : Scene) (budget : ℕ) (step : Step Ending) (lookups : Lookups) → EndsClear s lookups step → FailsBadly step → MeetsWell s (call_ended budget step) lookups
step_meets s budget (Done ending n) lookups clear fails well = each_of (IsUsedAndUnwritten s n.capture) lookups.met (λ key there. let h = clear key there in record { unwritten = h.0; used = h.1 })
step_meets s budget (Failed status n) lookups clear fails well = absurd (true≢false (sym (ap is_ok_status well) ∙ fails))

fit_meets : (s : Scene) (run : CallResult) (lookups : Lookups) (fits : Bool) → MeetsWell s run lookups → MeetsWell s (by_fit fits run) (look_fit fits lookups)
fit_meets s run lookups true h = h
fit_meets s run lookups false h = λ well. All-nil (IsUsedAndUnwritten s captured_none)

called_meets : (s : Scene) (args : List Value) (o : Option FunctionTree) → MeetsWell s (function_called s args o) (function_lookups s args o)
called_meets s args None = λ well. All-nil (IsUsedAndUnwritten s captured_none)
called_meets s args (Some function) =
    let m : Machine = machine s.site.budget captured_none in
    let variables = first_variables function.params args in
    let tame = tame_statements function.body variables in
    fit_meets s (function_run s function args) (statements_lookups s function.body variables m) (are_arguments function.params args)
    (step_meets s s.site.budget (statements_run s function.body variables m) (statements_lookups s function.body variables m) (tame.clear s m) (tame.fails s m))

pub keys_met_are_read_or_put : KeysMetAreReadOrPut
unfolding call_result call_lookups
keys_met_are_read_or_put functions s args well = called_meets s args (function_of_name functions s.site.function) well

-- ---- keys that were read or put

-- What holds of the key of each item holds of a key that is among them.
key_holds : {X : Type 0} (key_in : X → List ℕ) (P : List ℕ → Type 0) (xs : List X) → All (λ x. P (key_in x)) xs → (key : List ℕ) → list_any (λ x. pointwise ◌==◌ (key_in x) key) xs ≡ true → P key
key_holds key_in P xs h key w =
    let a = Any-from_list_any (λ x. pointwise ◌==◌ (key_in x) key) xs w in
    let same : key_in a.1 ≡ key = (bytes_decides (key_in a.1) key).0 a.4 in
    let there : P (key_in a.1) = subst (λ x. P (key_in x)) a.3 (h a.0 a.1 a.2) in
    subst P same there

either_of : (a b : Bool) → (a || b) ≡ true → (a ≡ true) ⊎ (b ≡ true)
either_of true b h = inl refl
either_of false b h = inr h

neither : (a b : Bool) → (a || b) ≡ false → (a ≡ false) × (b ≡ false)
neither true b h = absurd (true≢false h)
neither false b h = (refl, h)

apart_key : (written : List ℕ → Bool) (c : Captured) → IsApartFrom written c → (key : List ℕ) → (was_read c.reads key || was_put c.puts key) ≡ true → written key ≡ false
apart_key written c apart key used = ⊎_elim
    (key_holds (λ (read : Read). read.key) (λ key. written key ≡ false) c.reads apart.reads key)
    (key_holds (λ (put : Put). put.key) (λ key. written key ≡ false) c.puts apart.puts key)
    (either_of (was_read c.reads key) (was_put c.puts key) used)

-- ---- calls that end with Ok

pub reads_and_puts_are_complete : ReadsAndPutsAreComplete
reads_and_puts_are_complete functions s t args well site hold answer apart =
    let c : Captured = (call_result functions s args).capture in
    what_is_recorded_is_complete functions s t args site (
      hold,
      (
        answer,
        each_of (λ key. t.place.written key ≡ s.place.written key) (keys_met functions s args) (λ key there.
            let h = All-contains (IsUsedAndUnwritten s c) (keys_met functions s args) key (keys_met_are_read_or_put functions s args well) there in
            apart_key t.place.written c apart key h.used ∙ sym h.unwritten),
      ),
    )

pub puts_of_others_change_nothing : PutsOfOthersChangeNothing
puts_of_others_change_nothing functions s args others well apart =
    let t : Scene = after_puts others s in
    let c : Captured = (call_result functions s args).capture in
    what_is_recorded_is_complete functions s t args refl (
      λ k d lt. refl,
      (
        λ k d lt. refl,
        each_of (λ key. t.place.written key ≡ s.place.written key) (keys_met functions s args) (λ key there.
            let h = All-contains (IsUsedAndUnwritten s c) (keys_met functions s args) key (keys_met_are_read_or_put functions s args well) there in
            ap₂ (λ a b. a || b) h.unwritten (apart_key (was_put others) c apart key h.used) ∙ sym h.unwritten),
      ),
    )

-- ---- two calls

not_true : (b : Bool) → (b ≡ true → ⊥) → b ≡ false
not_true true h = absurd (h refl)
not_true false h = refl

-- The second call did not put a key that the first call had put before it.
put_once : (functions' : List FunctionTree) (s : Scene) (puts : List Put) (args' : List Value) (key : List ℕ) → was_put puts key ≡ true → was_put (call_result functions' (after_puts puts s) args').capture.puts key ≡ false
put_once functions' s puts args' key w =
    let t : Scene = after_puts puts s in
    not_true (was_put (call_result functions' t args').capture.puts key) (λ again.
    let unwritten : t.place.written key ≡ false = key_holds (λ (put : Put). put.key) (λ key. t.place.written key ≡ false) (call_result functions' t args').capture.puts
    (All-weaker (IsOwnAndUnwritten t) (λ (put : Put). t.place.written put.key ≡ false) (λ put h. h.unwritten) (call_result functions' t args').capture.puts (puts_are_own_and_unwritten functions' t args')) key again in
    true≢false (sym w ∙ (neither (s.place.written key) (was_put puts key) unwritten).1))

pub calls_can_be_exchanged : CallsCanBeExchanged
calls_can_be_exchanged functions functions' s site' args args' well well' apart =
    let first : CallResult = call_result functions s args in
    let here : Scene = with_site site' s in
    let t : Scene = after_puts first.capture.puts here in
    let second : CallResult = call_result functions' t args' in (
      what_is_recorded_is_complete functions' t here args' refl (
        λ k d lt. refl,
        (
          λ k d lt. refl,
          each_of (λ key. here.place.written key ≡ t.place.written key) (keys_met functions' t args') (λ key there.
              let h = All-contains (IsUsedAndUnwritten t second.capture) (keys_met functions' t args') key (keys_met_are_read_or_put functions' t args' well') there in
              (neither (s.place.written key) (was_put first.capture.puts key) h.unwritten).0 ∙ sym h.unwritten),
        ),
      ),
      puts_of_others_change_nothing functions s args second.capture.puts well (record {
        reads = apart;
        puts = each_of (λ (put : Put). was_put second.capture.puts put.key ≡ false) first.capture.puts (λ put there. put_once functions' here first.capture.puts args' put.key (list_any-from_Any (λ (other : Put). pointwise ◌==◌ other.key put.key) first.capture.puts (there.0, put, there.1, there.2, nat_list_eq_equiv.refl put.key)));
      }),
    )
