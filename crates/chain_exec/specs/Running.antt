-- What transactions do to a world that holds a block at work.
use Rattle.std.specs.Prelude.{◌≡◌, ℕ, List, ◌++◌, map, Option}
use Rattle.std.specs.Option.{option_map}
use Rattle.std.specs.List.{filter_map}
use Rattle.lc_base.specs.Deps.{without_repeats}
use Rattle.lc_base.specs.declared.row.Dep.{Dep}
use Rattle.lc_base.specs.declared.row.Row.{Row}
use Rattle.lc_base.specs.declared.value.Value.{Value}
use Rattle.contract_tree.specs.declared.tree.Contract.{Contract}
use Rattle.contract_tree.specs.Tree.{FunctionTree, contract_of}
use Rattle.contract_eval.specs.contract_semantics.declared.site.CallSite.{CallSite}
use Rattle.contract_eval.specs.contract_semantics.Scenes.{Scene, scene_of}
use Rattle.world_state.specs.Known.{Known}
use Rattle.world_state.specs.Rows.{entry_of}
use Rattle.world_state.specs.World.{newest_of, is_written, code_of, is_taken}
use Rattle.world_state.specs.declared.held.Held.{Held}
use Rattle.block_codec.specs.declared.block.Tx.{Tx}
use Rattle.block_codec.specs.declared.block.Tx.TheVariants.{Set, Deploy, Call}
use Rattle.chain_exec.specs.declared.staging.TxRun.{TxRun}
use Rattle.chain_exec.specs.declared.block.BlockRun.{BlockRun}
use Rattle.chain_exec.specs.Compiled.{compiled_in}
use Rattle.chain_exec.specs.Effect.{Codes, History, Effect, meets_conflict, set_effect, deploy_effect, call_effect}
use Rattle.chain_exec.specs.Fold.{Staged}

-- The functions of a contract under its name.
abbrev pub code_seen : List ℕ × Contract → List ℕ × List FunctionTree
code_seen code = (code.0, contract_of code.1)

-- The codes of a world, in the form of a history's codes.
abbrev pub codes_seen : List (List ℕ × Contract) → Codes
codes_seen codes = map code_seen codes

-- The history that a world stands for if its rows are these.
abbrev pub history_in : List Row → Known Contract → History
history_in rows world = record { rows = rows; codes = codes_seen world.codes }

-- What a block at work has done so far: the rows and receipts of the run, and the codes that are
-- staged in the world.
abbrev pub staged_in : Known Contract → BlockRun → Staged
staged_in world run =
    record { rows = run.rows; codes = codes_seen world.staged_codes; receipts = run.receipts }

-- The dependency on the newest version of a key.
abbrev pub dep_in : Known Contract → List ℕ → Option Dep
dep_in world key =
    option_map (λ (held : Held). record { key = key; block = held.block }) (newest_of world key)

-- The dependencies on these keys, without repeats.
abbrev pub deps_in : Known Contract → List (List ℕ) → List Dep
deps_in world keys = without_repeats (filter_map (dep_in world) keys)

-- The row that a Set writes.
abbrev pub row_in : Known Contract → ℕ → ℕ → List ℕ → Value → List (List ℕ) → Row
row_in world number at key value deps =
    record { key = key; block = number; tx = at; value = value; deps = deps_in world deps }

-- What a Set does in a world.
abbrev pub set_in : Known Contract → ℕ → ℕ → List ℕ → Value → List (List ℕ) → Effect
set_in world number at key value deps =
    set_effect (meets_conflict (is_written world) key deps) (row_in world number at key value deps)

-- What a Deploy of a source of this edition does in a world.
abbrev pub deploy_in : Known Contract → ℕ → List ℕ → List ℕ → Effect
deploy_in world edition name source =
    deploy_effect (is_taken world name) name (compiled_in edition source)

-- The scene of a call in a world, if the host holds these rows.
abbrev pub scene_at : List Row → Known Contract → CallSite → Scene
scene_at rows world site = scene_of rows (is_written world) site

-- What a Call does in a world, if the host holds these rows.
abbrev pub call_in : List Row → Known Contract → CallSite → List Value → ℕ → Effect
call_in rows world site args at =
    call_effect (option_map contract_of (code_of world site.contract)) (scene_at rows world site) args at

-- What a transaction of a block of this edition does in a world, if the host holds these rows.
abbrev pub effect_in : List Row → Known Contract → ℕ → ℕ → ℕ → Tx → Effect
effect_in rows world edition number at (Set sender key value deps) =
    set_in world number at key value deps
effect_in rows world edition number at (Deploy sender name source) =
    deploy_in world edition name source
effect_in rows world edition number at (Call sender contract function args budget) =
    call_in rows world
    (record { contract = contract; function = function; sender = sender; number = number; budget = budget })
    args at

-- A transaction has staged these rows in a world. Nothing else may have changed but the staged
-- codes.
pub record StagesRows (old new : Known Contract) (rows : List Row) : Type 0 where
  pub newest : new.newest ≡ old.newest
  pub codes : new.codes ≡ old.codes
  pub staged : new.staged ≡ old.staged ++ map entry_of rows

-- What a transaction with this effect hands to its block.
abbrev pub run_left : Effect → TxRun
run_left effect = record { receipt = effect.receipt; rows = effect.rows }

-- A transaction has done in a world what its effect says.
pub record HasEffect (old new : Known Contract) (run : TxRun) (effect : Effect) : Type 0 where
  pub handed : run ≡ run_left effect
  pub codes : codes_seen new.staged_codes ≡ codes_seen old.staged_codes ++ effect.codes
