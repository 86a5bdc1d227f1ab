-- What a transaction does: how it ends, what it costs, and the rows and the code that it leaves.
use Rattle.std.specs.Prelude.{ℕ, Bool, ◌||◌, not, ◌==◌, if◌then◌else◌, List, [], ◌∷◌, Option, Some, None, is_some, codes}
use Rattle.std.specs.Option.{option_map}
use Rattle.std.specs.List.{list_any, filter_map, starts_with}
use Rattle.std.specs.Map.{lookup}
use Rattle.std.specs.Cmp.Lexicographic.{pointwise}
use Rattle.lc_base.specs.Deps.{without_repeats}
use Rattle.lc_base.specs.History.{newest, version_of}
use Rattle.lc_base.specs.declared.row.Dep.{Dep}
use Rattle.lc_base.specs.declared.row.Row.{Row}
use Rattle.lc_base.specs.declared.value.Value.{Value}
use Rattle.lc_base.specs.declared.tx_status.TxStatus.{TxStatus}
use Rattle.lc_base.specs.declared.tx_status.TxStatus.TheVariants as statuses
use Rattle.contract_tree.specs.Tree.{FunctionTree}
use Rattle.contract_eval.specs.contract_semantics.Scenes.{Scene, scene_of}
use Rattle.contract_eval.specs.contract_semantics.Calls.{CallResult, call_result, rows_written}
use Rattle.world_state.specs.World.{is_raw}
use Rattle.block_codec.specs.declared.block.Tx.{Tx}
use Rattle.block_codec.specs.declared.block.Tx.TheVariants.{Set, Deploy, Call}
use Rattle.chain_exec.specs.declared.receipt.Receipt.{Receipt}
use Rattle.chain_exec.specs.Compiled.{EditionCompiler}

-- The codes of contracts by name, in the order of deployment.
abbrev pub Codes : Type 0
Codes = List (List ℕ × List FunctionTree)

-- What blocks have left: their rows, in order, and the contracts that can be called.
pub record History : Type 0 where
  pub rows : List Row
  pub codes : Codes

-- What a transaction does: its receipt, the rows that it writes, and the code that it deploys, if
-- any.
pub record Effect : Type 0 where
  pub receipt : Receipt
  pub rows : List Row
  pub codes : Codes

-- The receipt of a transaction that costs nothing.
abbrev pub free : TxStatus → Receipt
free status = record { status = status; cost = 0 }

-- A transaction that fails before it costs anything leaves nothing.
abbrev pub refused_effect : TxStatus → Effect
refused_effect status = record { receipt = free status; rows = []; codes = [] }

-- ---- dependencies

-- The newest version of a key, as a dependency of other rows.
abbrev pub version_to_depend_on : List Row → List ℕ → Option Dep
version_to_depend_on rows key = option_map version_of (newest rows key)

-- The dependencies that keys name: the newest version of each key that has one, in order, without
-- repeats.
abbrev pub deps_on : List Row → List (List ℕ) → List Dep
deps_on rows keys = without_repeats (filter_map (version_to_depend_on rows) keys)

-- ---- writing a value

-- Whether one of the rows has the key.
abbrev pub is_written : List Row → List ℕ → Bool
is_written rows key = list_any (λ (row : Row). pointwise ◌==◌ row.key key) rows

-- A Set meets a conflict if its key or one of its dependency keys has been written.
abbrev pub meets_conflict : (List ℕ → Bool) → List ℕ → List (List ℕ) → Bool
meets_conflict written key deps = list_any written deps || written key

-- The effect of a Set: Foreign if the key does not begin raw/, which is tested first; else Conflict
-- if it meets one; else it writes the row.
abbrev pub set_effect : Bool → Row → Effect
set_effect conflict row =
    if not (starts_with ◌==◌ row.key (codes "raw/")) then refused_effect statuses.Foreign
    else (if conflict then refused_effect statuses.Conflict
    else record { receipt = free statuses.Ok; rows = row ∷ []; codes = [] })

-- ---- deploying a contract

-- The functions of the contract with this name.
abbrev pub code_in : Codes → List ℕ → Option (List FunctionTree)
code_in codes name = lookup (pointwise ◌==◌ name) codes

-- Whether a name cannot be deployed under: it is `raw`, or a contract of an earlier block or of
-- this one has it.
abbrev pub is_taken_in : Codes → Codes → List ℕ → Bool
is_taken_in codes staged name =
    is_raw name || (is_some (code_in codes name) || is_some (code_in staged name))

-- The effect of a Deploy, by what its source compiles to.
abbrev pub code_effect : List ℕ → Option (List FunctionTree) → Effect
code_effect name None = refused_effect statuses.BadSource
code_effect name (Some functions) =
    record { receipt = free statuses.Ok; rows = []; codes = (name, functions) ∷ [] }

-- The effect of a Deploy under a name. Taken is tested before the source.
abbrev pub deploy_effect : Bool → List ℕ → Option (List FunctionTree) → Effect
deploy_effect taken name code = if taken then refused_effect statuses.Taken else code_effect name code

-- ---- calling a contract

-- How a call ends, with the rows that it writes if it ends well.
abbrev pub result_effect : ℕ → ℕ → CallResult → Effect
result_effect number at result =
    record {
      receipt = record { status = result.outcome.status; cost = result.outcome.cost };
      rows = rows_written number at result.outcome.status result.capture;
      codes = [];
    }

-- The effect of a Call, by the contract that it names, if there is one.
abbrev pub call_effect : Option (List FunctionTree) → Scene → List Value → ℕ → Effect
call_effect None s args at = refused_effect statuses.NoContract
call_effect (Some functions) s args at =
    result_effect s.site.number at (call_result functions s args)

-- ---- together

-- The effect of the transaction at the index `at` of the block `number`: on the history of the
-- blocks before, after the block's earlier transactions have staged these rows and codes. `compile`
-- is the compiler of the block's edition.
abbrev pub effect_of : EditionCompiler → History → List Row → Codes → ℕ → ℕ → Tx → Effect
effect_of compile history staged_rows staged_codes number at (Set sender key value deps) =
    set_effect (meets_conflict (is_written staged_rows) key deps)
    (record { key = key; block = number; tx = at; value = value; deps = deps_on history.rows deps })
effect_of compile history staged_rows staged_codes number at (Deploy sender name source) =
    deploy_effect (is_taken_in history.codes staged_codes name) name (compile source)
effect_of compile history staged_rows staged_codes number at (Call sender contract function args budget) =
    call_effect (code_in history.codes contract)
    (scene_of history.rows (is_written staged_rows)
    (record { contract = contract; function = function; sender = sender; number = number; budget = budget }))
    args at
