-- What transactions and blocks do to typed histories: they stay typed.
use Rattle.std.proofs.Common.{◌≡◌, ◌==◌, ℕ, ◌+◌, ◌<◌, ◌≤◌, ◌^◌, Bool, true, false, not, List, [], ◌∷◌, length, Option, None, Some, refl, sym, subst, arith, cond}
use Rattle.std.specs.Prelude.{IfSome, codes as codes_of}
use Rattle.std.specs.List.{All, AllByRecursion, list_any, starts_with}
use Rattle.std.specs.Cmp.Lexicographic.{pointwise}
use Rattle.std.proofs.lemmas.Bool.{or_parts}
use Rattle.std.proofs.lemmas.List.Elements.{All-nil, All-cons, All-head, All-tail, All-append, All-weaker}
use Rattle.lc_base.specs.KeyBytes.{IsKey}
use Rattle.lc_base.specs.History.{IsLawful, HasLawfulDeps}
use Rattle.lc_base.specs.declared.row.Row.{Row}
use Rattle.lc_base.specs.declared.value.Value.{Value}
use Rattle.lc_base.specs.declared.tx_status.TxStatus.TheVariants as statuses
use Rattle.byte_fields.specs.Spelling.{IsValue, IsBlockValue}
use Rattle.byte_fields.proofs.Fields.{block_value_is}
use Rattle.contract_tree.specs.Tree.{FunctionTree}
use Rattle.world_state.specs.Rows.{held_in}
use Rattle.contract_semantics.specs.declared.site.CallSite.{CallSite}
use Rattle.contract_semantics.specs.Answers.{IsFaithful}
use Rattle.contract_semantics.specs.Calls.{call_result}
use Rattle.contract_semantics.specs.Scenes.{Place, Scene, scene_of}
use Rattle.contract_semantics.specs.Laws.{IsOwnAndUnwritten}
use Rattle.contract_semantics.proofs.TheLaws.{reads_are_of_versions_before}
use Rattle.contract_semantics.proofs.EndsWell.{puts_are_own_and_unwritten}
use Rattle.dep_capture.specs.declared.access.Put.{Put}
use Rattle.block_codec.specs.declared.block.Tx.{Tx}
use Rattle.block_codec.specs.declared.block.Tx.TheVariants.{Set, Deploy, Call}
use Rattle.block_codec.specs.declared.block.Block.{Block}
use Rattle.block_codec.specs.declared.limits.TheConstants.{MAX_TXS, MAX_ROWS_BEFORE_BLOCK}
use Rattle.block_codec.specs.Spelling.{IsTx, IsBlock, text_limit}
use Rattle.chain_input.specs.chain_exec.BlockRows.{HasNewestDeps, AreTxRows, AreBlockRows}
use Rattle.chain_input.specs.chain_exec.Compiled.{Compiler}
use Rattle.chain_input.specs.chain_exec.Effect.{Codes, History, Effect, refused_effect, effect_of}
use Rattle.chain_input.specs.chain_exec.Effect.{is_written, meets_conflict, deps_on, is_taken_in}
use Rattle.chain_input.specs.chain_exec.Effect.{deploy_effect, code_in, call_effect}
use Rattle.chain_input.specs.chain_exec.Fold.{Staged, nothing_staged, with_effect, effects_after}
use Rattle.chain_input.specs.chain_exec.Fold.{block_effects}
use Rattle.chain_input.specs.chain_exec.Replay.{no_history, history_after}
use Rattle.chain_input.proofs.chain_exec.BlockSteps.{no_block_rows}
use Rattle.chain_input.proofs.chain_exec.TheLaws.{blocks_keep_lawful, blocks_keep_order, tested}
use Rattle.root_laws.specs.TypedLedger.{IsTypedRow, IsTypedHistory}
use Rattle.chain_input.proofs.chain_exec.TxRows.{no_rows}
use Rattle.replay_soundness.specs.Literals.{AreFunctionsOfValues}
use Rattle.replay_soundness.specs.TypedLaws.{AreCodesOfValues, CompilesValues, IsTypedBefore, BlocksAddTypedRows}
use Rattle.replay_soundness.proofs.Calls.{calls_write_typed_rows}
use Rattle.replay_soundness.proofs.Blocks.{set_deps, written_rows, more_rows}

abbrev CodeOfValues : List ℕ × List FunctionTree → Type 0
CodeOfValues code = AreFunctionsOfValues code.1

record IsTypedEffect (place : Place) (number at : ℕ) (effect : Effect) : Type 0 where
  lawful : AreTxRows place number at effect.rows
  typed : All IsTypedRow effect.rows
  codes : AreCodesOfValues effect.codes

nothing_typed : (place : Place) (number at : ℕ) (effect : Effect) → effect.rows ≡ [] → AreCodesOfValues effect.codes → IsTypedEffect place number at effect
nothing_typed place number at effect e codes = record { lawful = subst (AreTxRows place number at) (sym e) (no_rows place number at); typed = subst (All IsTypedRow) (sym e) (All-nil IsTypedRow); codes = codes }

set_typed : (place : Place) (number at : ℕ) (foreign conflict : Bool) (row : Row) → row.block ≡ number → row.tx ≡ at → HasNewestDeps place.newest row → IsTypedRow row → (conflict ≡ false → place.written row.key ≡ false) → IsTypedEffect place number at (tested foreign conflict row)
set_typed place number at true conflict row b t d typed w = nothing_typed place number at (refused_effect statuses.Foreign) refl (All-nil CodeOfValues)
set_typed place number at false true row b t d typed w = nothing_typed place number at (refused_effect statuses.Conflict) refl (All-nil CodeOfValues)
set_typed place number at false false row b t d typed w = record {
  lawful = record {
    few = omega arith;
    of_block = All-cons (λ (r : Row). r.block ≡ number) row [] b (All-nil (λ (r : Row). r.block ≡ number));
    of_tx = All-cons (λ (r : Row). r.tx ≡ at) row [] t (All-nil (λ (r : Row). r.tx ≡ at));
    once = λ i j d lt within. absurd (omega (arith, lt, within));
    unwritten = All-cons (λ (r : Row). place.written r.key ≡ false) row [] (w refl) (All-nil (λ (r : Row). place.written r.key ≡ false));
    deps = All-cons (HasNewestDeps place.newest) row [] d (All-nil (HasNewestDeps place.newest));
  };
  typed = All-cons IsTypedRow row [] typed (All-nil IsTypedRow);
  codes = All-nil CodeOfValues;
}

deploy_typed : (place : Place) (number at : ℕ) (taken : Bool) (name : List ℕ) (code : Option (List FunctionTree)) → IfSome code AreFunctionsOfValues → IsTypedEffect place number at (deploy_effect taken name code)
deploy_typed place number at true name code h = nothing_typed place number at (refused_effect statuses.Taken) refl (All-nil CodeOfValues)
deploy_typed place number at false name None h = nothing_typed place number at (refused_effect statuses.BadSource) refl (All-nil CodeOfValues)
deploy_typed place number at false name (Some functions) h = nothing_typed place number at (deploy_effect false name (Some functions)) refl (All-cons CodeOfValues (name, functions) [] h (All-nil CodeOfValues))

by_name : (o : Option (List FunctionTree)) (functions : List FunctionTree) (b : Bool) → AreFunctionsOfValues functions → IfSome o AreFunctionsOfValues → IfSome (cond b (Some functions) o) AreFunctionsOfValues
by_name o functions true h k = h
by_name o functions false h k = k

code_typed : (codes : Codes) (name : List ℕ) → AreCodesOfValues codes → IfSome (code_in codes name) AreFunctionsOfValues
code_typed [] name h = tt
code_typed (code ∷ codes) name h = by_name (code_in codes name) code.1 (pointwise ◌==◌ name code.0) (All-head CodeOfValues code codes h) (code_typed codes name (All-tail CodeOfValues code codes h))

call_typed : (rows : List Row) (written : List ℕ → Bool) (site : CallSite) (args : List Value) (at : ℕ) (o : Option (List FunctionTree)) → IfSome o AreFunctionsOfValues → IsTypedHistory rows → IsKey site.sender → site.number < 2 ^ 32 → All IsValue args → at < 2 ^ 16
    → IsTypedEffect (record { newest = held_in rows; written = written }) site.number at (call_effect o (scene_of rows written site) args at)
call_typed rows written site args at None h typed sender number given fits = nothing_typed (record { newest = held_in rows; written = written }) site.number at (refused_effect statuses.NoContract) refl (All-nil CodeOfValues)
call_typed rows written site args at (Some functions) h typed sender number given fits =
    let s : Scene = scene_of rows written site in
    let result = call_result functions s args in
    let k = calls_write_typed_rows functions rows written site args at h typed sender number given fits in
    let faithful : IsFaithful s.place result.capture = record {
      reads = reads_are_of_versions_before functions s args;
      puts = All-weaker (IsOwnAndUnwritten s) (λ (put : Put). s.place.written put.key ≡ false) (λ put own. own.unwritten) result.capture.puts (puts_are_own_and_unwritten functions s args);
    } in
    record { lawful = written_rows s.place site.number at result.capture faithful result.outcome.status k.0; typed = k.1; codes = All-nil CodeOfValues }

all_values : (most : ℕ) (args : List Value) → AllByRecursion (IsBlockValue most) args → All IsValue args
all_values most [] h = All-nil IsValue
all_values most (arg ∷ args) h = All-cons IsValue arg args (block_value_is most arg h.0) (all_values most args h.1)

module _ (compile : Compiler) (good : CompilesValues compile) where
  module _ (history : History) (number : ℕ) (before : IsTypedBefore number history) (fits : number < 2 ^ 32) where
    effect_typed : (most edition : ℕ) (rows : List Row) (codes : Codes) (at : ℕ) (tx : Tx) → at < 2 ^ 16 → IsTx most tx → IsTypedEffect (record { newest = held_in history.rows; written = is_written rows }) number at (effect_of (compile edition) history rows codes number at tx)
    effect_typed most edition rows codes at (Set sender key value deps) a h =
        let row : Row = record { key = key; block = number; tx = at; value = value; deps = deps_on history.rows deps } in
        set_typed (record { newest = held_in history.rows; written = is_written rows }) number at (not (starts_with ◌==◌ key (codes_of "raw/"))) (meets_conflict (is_written rows) key deps) row refl refl
        (set_deps history.rows row deps refl h.few_deps)
        (record { key_is_key = h.key_is_key; block_fits = fits; tx_fits = a; value_is_value = block_value_is most value h.value_is_value })
        (λ none. (or_parts (list_any (is_written rows) deps) (is_written rows key) none).1)
    effect_typed most edition rows codes at (Deploy sender name source) a h = deploy_typed (record { newest = held_in history.rows; written = is_written rows }) number at (is_taken_in history.codes codes name) name (compile edition source) (good edition source)
    effect_typed most edition rows codes at (Call sender contract function args budget) a h =
        call_typed history.rows (is_written rows) (record { contract = contract; function = function; sender = sender; number = number; budget = budget }) args at (code_in history.codes contract)
        (code_typed history.codes contract before.codes) before.rows h.sender_is_key fits (all_values most args h.args_are_values) a

    record IsTypedStaged (at : ℕ) (done : Staged) : Type 0 where
      lawful : AreBlockRows (held_in history.rows) number at done.rows
      typed : All IsTypedRow done.rows
      codes : AreCodesOfValues done.codes

    effects_typed : (most edition : ℕ) (txs : List Tx) (at : ℕ) (done : Staged) → IsTypedStaged at done → AllByRecursion (IsTx most) txs → at + length txs ≤ MAX_TXS → IsTypedStaged (at + length txs) (effects_after (compile edition) history number at done txs)
    effects_typed most edition [] at done h k few = subst (λ n. IsTypedStaged n done) (omega arith) h
    effects_typed most edition (tx ∷ txs) at done h k few =
        let effect : Effect =
        effect_of (compile edition) history done.rows done.codes number at tx in
        let e = effect_typed most edition done.rows done.codes at tx (omega (arith, few)) k.0 in
        let next : IsTypedStaged (at + 1) (with_effect done effect) = record {
          lawful = more_rows (held_in history.rows) number at done.rows effect.rows h.lawful e.lawful;
          typed = All-append IsTypedRow done.rows effect.rows h.typed e.typed;
          codes = All-append CodeOfValues done.codes effect.codes h.codes e.codes;
        } in
        subst (λ n. IsTypedStaged n (effects_after (compile edition) history number (at + 1) (with_effect done effect) txs)) (omega arith)
        (effects_typed most edition txs (at + 1) (with_effect done effect) next k.1 (omega (arith, few)))

  block_typed : (history : History) (block : Block) (before : IsTypedBefore block.number history) (is : IsBlock block) → IsTypedStaged history block.number before is.number_fits (length block.txs) (block_effects compile history block)
  block_typed history block before is =
      subst (λ n. IsTypedStaged history block.number before is.number_fits n (block_effects compile history block)) (omega arith)
      (effects_typed history block.number before is.number_fits (text_limit block.version) block.version block.txs 0
      nothing_staged
      (record { lawful = no_block_rows (held_in history.rows) block.number; typed = All-nil IsTypedRow; codes = All-nil CodeOfValues }) is.txs_are_txs (omega (arith, is.few_txs)))

  pub after_typed : (history : History) (block : Block) → IsTypedBefore block.number history → IsBlock block → length history.rows ≤ MAX_ROWS_BEFORE_BLOCK → IsTypedBefore (block.number + 1) (history_after compile history block)
  after_typed history block before is room =
      let done : Staged = block_effects compile history block in
      let h = block_typed history block before is in
      record {
        rows = record {
          lawful = blocks_keep_lawful history.rows done.rows block.number (length block.txs) before.rows.lawful before.before room is.few_txs h.lawful;
          typed = All-append IsTypedRow history.rows done.rows before.rows.typed h.typed;
        };
        before = blocks_keep_order history.rows done.rows (held_in history.rows) block.number (length block.txs) before.before h.lawful;
        codes = All-append CodeOfValues history.codes done.codes before.codes h.codes;
      }

no_lawful : IsLawful []
no_lawful = record { few = omega arith; ordered = λ i j d lt within. absurd (omega arith); lawful_deps = All-nil (HasLawfulDeps []) }

pub blocks_add_typed_rows : BlocksAddTypedRows
blocks_add_typed_rows compile history block good before is = let h = block_typed compile good history block before is in (h.lawful, h.typed)

pub nothing_typed_before : IsTypedBefore 0 no_history
nothing_typed_before = record { rows = record { lawful = no_lawful; typed = All-nil IsTypedRow }; before = All-nil (λ (row : Row). row.block < 0); codes = All-nil CodeOfValues }
