-- A call puts typed values under keys, so it writes typed rows.
use Rattle.std.proofs.Common.{◌≡◌, ◌==◌, ℕ, ◌<◌, ◌^◌, Bool, true, false, List, [], ◌∷◌, find, reverse, Option, Some, None, refl, sym, ◌∙◌, true≢false, if◌then◌else◌, arith}
use Rattle.std.specs.Prelude.{IfSome}
use Rattle.std.specs.Option.{option_map}
use Rattle.std.specs.List.{All}
use Rattle.std.specs.Cmp.Lexicographic.{pointwise}
use Rattle.std.proofs.lemmas.List.Elements.{All-nil, All-cons, All-head, All-tail, All-map, All-weaker}
use Rattle.lc_base.specs.KeyBytes.{IsKey}
use Rattle.lc_base.specs.History.{newest}
use Rattle.lc_base.specs.declared.row.Row.{Row}
use Rattle.lc_base.specs.declared.value.Value.{Value}
use Rattle.lc_base.specs.declared.tx_status.TxStatus.{TxStatus}
use Rattle.lc_base.specs.declared.tx_status.TxStatus.TheVariants as statuses
use Rattle.byte_fields.specs.Spelling.{IsValue}
use Rattle.contract_tree.specs.declared.tree.Param.{Param}
use Rattle.contract_tree.specs.Tree.{FunctionTree}
use Rattle.dep_capture.specs.Captured.{Captured, AreLawfulRows}
use Rattle.dep_capture.specs.Capture.{captured_none, row_of_put, rows_of_puts}
use Rattle.dep_capture.specs.declared.access.Put.{Put}
use Rattle.dep_capture.specs.declared.access.Read.{Read}
use Rattle.dep_capture.proofs.Keeping.{rows_are_lawful}
use Rattle.world_state.specs.Rows.{held_of}
use Rattle.contract_semantics.specs.declared.site.CallSite.{CallSite}
use Rattle.contract_semantics.specs.Scenes.{Scene, scene_of}
use Rattle.contract_semantics.specs.Steps.{Machine, machine, Step, Done, Failed}
use Rattle.contract_semantics.specs.Statements.{Ending, statements_run}
use Rattle.contract_semantics.specs.Calls.{CallResult, are_arguments, first_variables, call_ended, function_run, function_called, refused_call, call_result, rows_written}
use Rattle.contract_semantics.proofs.Tame.{FailsBadly, is_ok_status}
use Rattle.contract_semantics.proofs.Statements.{tame_statements}
use Rattle.replay_soundness.specs.TypedLaws.{CallsWriteTypedRows}
use Rattle.root_laws.specs.TypedLedger.{IsTypedRow, IsTypedHistory}
use Rattle.replay_soundness.specs.Literals.{RunValues, AreFunctionsOfValues}
use Rattle.replay_soundness.proofs.Keeping.{IsTypedPut, IsTyped, Ends}
use Rattle.replay_soundness.proofs.Reading.{IsTypedScene, found_typed, all_reverse}
use Rattle.replay_soundness.proofs.Expressions.{HoldsValue}
use Rattle.replay_soundness.proofs.Puts.{EndingHolds}
use Rattle.replay_soundness.proofs.Statements.{statements_keep}

pub none_typed : IsTyped captured_none
none_typed = record {
  lawful = record {
    few_reads = omega arith;
    few_puts = omega arith;
    reads_once = λ i j d lt within. absurd (omega arith);
    puts_once = λ i j d lt within. absurd (omega arith);
    backed_deps = λ k d within. absurd (omega arith);
  };
  puts = All-nil IsTypedPut;
}

bound_holds : (params : List Param) (args : List Value) → All IsValue args → All HoldsValue (first_variables params args)
bound_holds [] args h = All-nil HoldsValue
bound_holds (param ∷ params) [] h = All-nil HoldsValue
bound_holds (param ∷ params) (arg ∷ args) h = All-cons HoldsValue (record { name = param.name; value = arg }) (first_variables params args) (All-head IsValue arg args h) (bound_holds params args (All-tail IsValue arg args h))

-- the rows that a call writes are lawful and typed
abbrev pub WritesTyped : ℕ → ℕ → CallResult → Type 0
WritesTyped number at result = AreLawfulRows result.capture.reads (rows_written number at result.outcome.status result.capture) × All IsTypedRow (rows_written number at result.outcome.status result.capture)

no_lawful : (reads : List Read) → AreLawfulRows reads []
no_lawful reads = record { few = omega arith; keys_once = λ i j d lt within. absurd (omega arith); backed_deps = λ k d within. absurd (omega arith) }

pub puts_typed : (c : Captured) (number at : ℕ) → IsTyped c → number < 2 ^ 32 → at < 2 ^ 16 → AreLawfulRows c.reads (rows_of_puts number at c.puts) × All IsTypedRow (rows_of_puts number at c.puts)
puts_typed c number at h n a = (
  rows_are_lawful c.reads c.puts number at h.lawful,
  All-map IsTypedRow (row_of_put number at) c.puts (All-weaker IsTypedPut (λ (put : Put). IsTypedRow (row_of_put number at put)) (λ put p. record { key_is_key = p.key_is_key; block_fits = n; tx_fits = a; value_is_value = p.value_is_value }) c.puts h.puts),
)

nothing_typed : (reads : List Read) → AreLawfulRows reads [] × All IsTypedRow []
nothing_typed reads = (no_lawful reads, All-nil IsTypedRow)

written_typed : (c : Captured) (number at : ℕ) (status : TxStatus) → (is_ok_status status ≡ true → IsTyped c) → number < 2 ^ 32 → at < 2 ^ 16 → AreLawfulRows c.reads (rows_written number at status c) × All IsTypedRow (rows_written number at status c)
written_typed c number at statuses.Ok h n a = puts_typed c number at (h refl) n a
written_typed c number at _ h n a = nothing_typed c.reads

module _ (number at : ℕ) (fits : number < 2 ^ 32) (at_fits : at < 2 ^ 16) where
  step_writes : (budget : ℕ) (step : Step Ending) → Ends EndingHolds step → FailsBadly step → WritesTyped number at (call_ended budget step)
  step_writes budget (Done ending m) h bad = puts_typed m.capture number at h.1 fits at_fits
  step_writes budget (Failed status m) h bad = written_typed m.capture number at status (λ ok. absurd (true≢false (sym ok ∙ bad))) fits at_fits

  refused_writes : (status : TxStatus) → WritesTyped number at (refused_call status)
  refused_writes status = written_typed captured_none number at status (λ ok. none_typed) fits at_fits

  fit_writes : (s : Scene) (function : FunctionTree) (args : List Value) (b : Bool) → WritesTyped number at (function_run s function args) → WritesTyped number at (if b then function_run s function args else refused_call statuses.BadArgs)
  fit_writes s function args true h = h
  fit_writes s function args false h = refused_writes statuses.BadArgs

  module _ (s : Scene) (typed : IsTypedScene s) (args : List Value) (values : All IsValue args) where
    run_writes : (function : FunctionTree) → RunValues function.body → WritesTyped number at (function_run s function args)
    run_writes function h =
        let variables = first_variables function.params args in
        let m : Machine = machine s.site.budget captured_none in
        step_writes s.site.budget (statements_run s function.body variables m) ((statements_keep s typed function.body h variables (bound_holds function.params args values)).ends m none_typed) ((tame_statements function.body variables).fails s m)

    called_writes : (o : Option FunctionTree) (p : FunctionTree → Bool) → IfSome o (λ function. RunValues function.body × (p function ≡ true)) → WritesTyped number at (function_called s args o)
    called_writes None p h = refused_writes statuses.NoFunction
    called_writes (Some function) p h = fit_writes s function args (are_arguments function.params args) (run_writes function h.0)

    pub call_writes : (functions : List FunctionTree) → AreFunctionsOfValues functions → WritesTyped number at (call_result functions s args)
    unfolding call_result
    call_writes functions h =
        let p : FunctionTree → Bool = λ function. pointwise ◌==◌ function.name s.site.function in
        called_writes (find p functions) p (found_typed (λ (function : FunctionTree). RunValues function.body) p functions h)

-- ---- the scene of a history

held_typed : (o : Option Row) (p : Row → Bool) → IfSome o (λ row. IsTypedRow row × (p row ≡ true)) → IfSome (option_map held_of o) (λ held. IsValue held.value)
held_typed None p h = tt
held_typed (Some row) p h = h.0.value_is_value

pub scene_typed : (rows : List Row) (written : List ℕ → Bool) (site : CallSite) → IsTypedHistory rows → IsKey site.sender → site.number < 2 ^ 32 → IsTypedScene (scene_of rows written site)
scene_typed rows written site h sender number = record {
  rows = h;
  newest = λ key. let p : Row → Bool = λ row. pointwise ◌==◌ row.key key in held_typed (newest rows key) p (found_typed IsTypedRow p (reverse rows) (all_reverse IsTypedRow rows h.typed));
  sender = sender;
  number = number;
}

pub calls_write_typed_rows : CallsWriteTypedRows
calls_write_typed_rows functions rows written site args at code h sender number given fits =
    call_writes site.number at number fits (scene_of rows written site) (scene_typed rows written site h sender number) args given functions code
