-- Costs stay within budgets: of a transaction, of a block, and of a block that is placed as the
-- next.
use Rattle.std.proofs.Common.{ℕ, ◌+◌, ◌≤◌, Bool, true, false, List, [], ◌∷◌, ◌++◌}
use Rattle.std.proofs.Common.{Option, Some, None, sym, subst, arith}
use Rattle.std.specs.Prelude.{not, ◌==◌, if◌then◌else◌, codes}
use Rattle.std.specs.Prelude.{length, map, slice_get}
use Rattle.std.specs.List.{starts_with, sum_by}
use Rattle.std.proofs.lemmas.List.{append_assoc, append-nil}
use Rattle.std.proofs.lemmas.List.Sums.{sum_by-cons, sum_by_push}
use Rattle.lc_base.specs.declared.row.Row.{Row}
use Rattle.lc_base.specs.declared.tx_status.TxStatus.TheVariants as statuses
use Rattle.lc_base.specs.declared.value.Value.{Value}
use Rattle.contract_tree.specs.Tree.{FunctionTree}
use Rattle.contract_eval.specs.contract_semantics.Calls.{refused_call, call_ended, call_result}
use Rattle.contract_eval.specs.contract_semantics.Calls.{function_run}
use Rattle.contract_eval.specs.contract_semantics.Calls.{function_called, function_of_name}
use Rattle.contract_eval.specs.contract_semantics.Calls.{are_arguments}
use Rattle.contract_eval.specs.contract_semantics.Scenes.{Scene, scene_of}
use Rattle.contract_eval.specs.contract_semantics.Statements.{Ending}
use Rattle.contract_eval.specs.contract_semantics.Steps.{Step, Done, Failed}
use Rattle.block_codec.specs.declared.block.Tx.{Tx}
use Rattle.block_codec.specs.declared.block.Tx.TheVariants.{Set, Deploy, Call}
use Rattle.block_codec.specs.Placement.{tx_budget}
use Rattle.block_codec.specs.Placement.{digest_of, last_digest}
use Rattle.block_codec.proofs.Placements.{next_has_passed}
use Rattle.chain_exec.specs.BlockRows.{IsWithinBudget, AreWithinBudgets}
use Rattle.chain_exec.specs.Compiled.{EditionCompiler}
use Rattle.chain_exec.specs.Effect.{Codes, History, is_written, meets_conflict, deps_on, code_in}
use Rattle.chain_exec.specs.Effect.{is_taken_in, deploy_effect, call_effect, effect_of}
use Rattle.chain_exec.specs.Fold.{Staged, nothing_staged, with_effect, effects_after}
use Rattle.chain_exec.specs.Laws.{CostsAreWithinBudgets, NextBlocksAreWithinBudget, cost_of}
use Rattle.chain_exec.specs.declared.receipt.Receipt.{Receipt}
use Rattle.chain_exec.proofs.BlockSteps.{receipts_push}
use Rattle.chain_exec.proofs.TheLaws.{tested}

-- ---- one transaction

set_is_free : (foreign conflict : Bool) (row : Row) → (tested foreign conflict row).receipt.cost ≤ 0
set_is_free true conflict row = omega arith
set_is_free false true row = omega arith
set_is_free false false row = omega arith

deploy_is_free : (taken : Bool) (name : List ℕ) (code : Option (List FunctionTree))
    → (deploy_effect taken name code).receipt.cost ≤ 0
deploy_is_free true name code = omega arith
deploy_is_free false name None = omega arith
deploy_is_free false name (Some functions) = omega arith

ended_within : (budget : ℕ) (step : Step Ending) → (call_ended budget step).outcome.cost ≤ budget
ended_within budget (Done ending m) = omega arith
ended_within budget (Failed status m) = omega arith

module _ (s : Scene) (args : List Value) where
  run_within : (function : FunctionTree) (fit : Bool)
      → (if fit then function_run s function args else refused_call statuses.BadArgs).outcome.cost
      ≤ s.site.budget
  run_within function true = ended_within s.site.budget _
  run_within function false = omega arith

  called_within : (found : Option FunctionTree)
      → (function_called s args found).outcome.cost ≤ s.site.budget
  called_within None = omega arith
  called_within (Some function) = run_within function (are_arguments function.params args)

  result_within : (functions : List FunctionTree)
      → (call_result functions s args).outcome.cost ≤ s.site.budget
  unfolding call_result
  result_within functions = called_within (function_of_name functions s.site.function)

  call_within : (code : Option (List FunctionTree)) (at : ℕ)
      → (call_effect code s args at).receipt.cost ≤ s.site.budget
  call_within None at = omega arith
  call_within (Some functions) at = result_within functions

-- ---- the transactions of a block

module _ (compile : EditionCompiler) (history : History) (number : ℕ) where
  cost_within : (rows : List Row) (staged : Codes) (at : ℕ) (tx : Tx)
      → IsWithinBudget tx (effect_of compile history rows staged number at tx).receipt
  cost_within rows staged at (Set sender key value deps) =
      let deps_of_row = deps_on history.rows deps in
      set_is_free (not (starts_with ◌==◌ key (codes "raw/")))
      (meets_conflict (is_written rows) key deps)
      (record { key = key; block = number; tx = at; value = value; deps = deps_of_row })
  cost_within rows staged at (Deploy sender name source) =
      deploy_is_free (is_taken_in history.codes staged name) name (compile source)
  cost_within rows staged at (Call sender contract function args budget) =
      call_within
      (scene_of history.rows (is_written rows)
      (record {
        contract = contract;
        function = function;
        sender = sender;
        number = number;
        budget = budget;
      }))
      args (code_in history.codes contract) at

  each_within : (before : List Tx) (at : ℕ) (done : Staged) (txs : List Tx)
      → AreWithinBudgets before done.receipts
      → AreWithinBudgets (before ++ txs) (effects_after compile history number at done txs).receipts
  each_within before at done [] all =
      subst (λ (ts : List Tx). AreWithinBudgets ts done.receipts) (sym (append-nil before)) all
  each_within before at done (tx ∷ txs) all =
      let effect = effect_of compile history done.rows done.codes number at tx in
      let within = cost_within done.rows done.codes at tx in
      let more = with_effect done effect in
      let after = effects_after compile history number (at + 1) more txs in
      let P : List Tx → Type 0 = λ ts. AreWithinBudgets ts after.receipts in
      subst P (append_assoc before (tx ∷ []) txs)
      (each_within (before ++ tx ∷ []) (at + 1) more txs
      (receipts_push before done.receipts tx effect.receipt all within))

  sum_within : (at : ℕ) (done : Staged) (txs : List Tx)
      → cost_of (effects_after compile history number at done txs).receipts
      ≤ cost_of done.receipts + sum_by tx_budget txs
  sum_within at done [] = omega arith
  sum_within at done (tx ∷ txs) =
      let effect = effect_of compile history done.rows done.codes number at tx in
      let cost : Receipt → ℕ = λ receipt. receipt.cost in
      omega (
        arith,
        sum_within (at + 1) (with_effect done effect) txs,
        sum_by_push cost done.receipts effect.receipt,
        sum_by-cons tx_budget tx txs,
        cost_within done.rows done.codes at tx,
      )

pub costs_are_within_budgets : CostsAreWithinBudgets
costs_are_within_budgets compile history block =
    each_within (compile block.version) history block.number [] 0 nothing_staged block.txs tt

-- ---- a block that is next

pub next_blocks_are_within_budget : NextBlocksAreWithinBudget
next_blocks_are_within_budget compile history marked rows blocks block is =
    let digests = map digest_of blocks in
    let have = slice_get digests block.number in
    let parent = last_digest digests in
    let placed = next_has_passed marked (length blocks) rows have parent block (digest_of block) is in
    omega (
      arith,
      sum_within (compile block.version) history block.number 0 nothing_staged block.txs,
      placed.cheap,
    )
