-- The proofs of the laws of transactions and blocks.
use Rattle.std.proofs.Common.{◌≡◌, ◌≢◌, eqb, ℕ, ◌<◌, ◌≤◌, ◌+◌, ltb, Bool, true, false, cond, not, List, [], ◌∷◌, ◌++◌, filter, Option, Some, None, refl, sym, ap, ◌∙◌, subst, arith, inl, inr}
use Rattle.std.specs.Prelude.{codes as codes_of}
use Rattle.std.specs.Option.{IsSomeAnd, option_map}
use Rattle.std.specs.List.{All, AllPairs, starts_with}
use Rattle.std.proofs.lemmas.Bool.{lt-ltb, le-ltb}
use Rattle.std.proofs.lemmas.List.{append-nil, length-append}
use Rattle.std.proofs.lemmas.List.Elements.{All-head, All-tail, All-append, All-weaker, filter-append}
use Rattle.lc_base.specs.declared.row.Dep.{Dep}
use Rattle.lc_base.specs.declared.row.Row.{Row}
use Rattle.lc_base.specs.declared.value.Value.{Value}
use Rattle.lc_base.specs.declared.tx_status.TxStatus.{TxStatus}
use Rattle.lc_base.specs.declared.tx_status.TxStatus.TheVariants as statuses
use Rattle.lc_base.specs.History.{below, newest, StandsBefore, HasLawfulDeps}
use Rattle.contract_tree.specs.Tree.{FunctionTree}
use Rattle.dep_capture.specs.Captured.{Captured}
use Rattle.world_state.specs.Rows.{held_of, held_in}
use Rattle.contract_eval.specs.contract_semantics.Calls.{call_result, rows_written}
use Rattle.contract_eval.specs.contract_semantics.Reading.{block_of}
use Rattle.contract_eval.specs.contract_semantics.Scenes.{Scene, scene_of}
use Rattle.block_codec.specs.declared.block.Tx.TheVariants.{Set, Deploy, Call}
use Rattle.block_codec.specs.declared.block.Block.{Block}
use Rattle.chain_exec.specs.BlockRows.{IsOnNewest, HasNewestDeps}
use Rattle.chain_exec.specs.Compiled.{Compiler}
use Rattle.chain_exec.specs.Effect.{History, Effect, refused_effect, free, is_written, meets_conflict, deps_on, is_taken_in, deploy_effect, code_in, call_effect}
use Rattle.chain_exec.specs.Fold.{block_effects}
use Rattle.chain_exec.specs.Replay.{history_after, history_of_blocks, replay, receipts_after, receipts_of, no_history}
use Rattle.chain_exec.specs.Laws.{OneCompiler, ReceiptsIgnoreIndexes, FailuresLeaveNothing, ReplayGrows, BlocksKeepLawful, BlocksKeepOrder}
use Rattle.chain_exec.proofs.BlockSteps.{pairs_append}
use Rattle.chain_exec.proofs.Compilers.{compiled_is, one_compiler as only_compiler}

pub one_compiler : OneCompiler
one_compiler = record { is_compiler = compiled_is; only = only_compiler }

-- ---- one transaction

-- the effect of a Set, by its two tests
abbrev pub tested : Bool → Bool → Row → Effect
tested foreign conflict row =
    cond foreign (refused_effect statuses.Foreign) (cond conflict (refused_effect statuses.Conflict) (record { receipt = free statuses.Ok; rows = row ∷ []; codes = [] }))

same_receipt : (foreign conflict : Bool) (a b : Row) → (tested foreign conflict a).receipt ≡ (tested foreign conflict b).receipt
same_receipt true conflict a b = refl
same_receipt false true a b = refl
same_receipt false false a b = refl

same_call : (code : Option (List FunctionTree)) (s : Scene) (args : List Value) (at other : ℕ) → (call_effect code s args at).receipt ≡ (call_effect code s args other).receipt
same_call None s args at other = refl
same_call (Some functions) s args at other = refl

pub receipts_ignore_indexes : ReceiptsIgnoreIndexes
receipts_ignore_indexes compile history rows codes number at other (Set sender key value deps) =
    let row : ℕ → Row = λ i. record { key = key; block = number; tx = i; value = value; deps = deps_on history.rows deps } in
    same_receipt (not (starts_with eqb key (codes_of "raw/"))) (meets_conflict (is_written rows) key deps) (row at) (row other)
receipts_ignore_indexes compile history rows codes number at other (Deploy sender name source) = refl
receipts_ignore_indexes compile history rows codes number at other (Call sender contract function args budget) =
    same_call (code_in history.codes contract) (scene_of history.rows (is_written rows) (record { contract = contract; function = function; sender = sender; number = number; budget = budget })) args at other

abbrev LeavesNothing : Effect → Type 0
LeavesNothing effect = effect.receipt.status ≢ statuses.Ok → (effect.rows ≡ []) × (effect.codes ≡ [])

set_nothing : (foreign conflict : Bool) (row : Row) → LeavesNothing (tested foreign conflict row)
set_nothing true conflict row failed = (refl, refl)
set_nothing false true row failed = (refl, refl)
set_nothing false false row failed = absurd (failed refl)

deploy_nothing : (taken : Bool) (name : List ℕ) (code : Option (List FunctionTree)) → LeavesNothing (deploy_effect taken name code)
deploy_nothing true name code failed = (refl, refl)
deploy_nothing false name None failed = (refl, refl)
deploy_nothing false name (Some functions) failed = absurd (failed refl)

written_nothing : (number at : ℕ) (status : TxStatus) (c : Captured) → status ≢ statuses.Ok → rows_written number at status c ≡ []
written_nothing number at statuses.Ok c failed = absurd (failed refl)
written_nothing number at _ c failed = refl

call_nothing : (code : Option (List FunctionTree)) (s : Scene) (args : List Value) (at : ℕ) → LeavesNothing (call_effect code s args at)
call_nothing None s args at failed = (refl, refl)
call_nothing (Some functions) s args at failed = let result = call_result functions s args in (written_nothing s.site.number at result.outcome.status result.capture failed, refl)

pub failures_leave_nothing : FailuresLeaveNothing
failures_leave_nothing compile history rows codes number at (Set sender key value deps) =
    set_nothing (not (starts_with eqb key (codes_of "raw/"))) (meets_conflict (is_written rows) key deps) (record { key = key; block = number; tx = at; value = value; deps = deps_on history.rows deps })
failures_leave_nothing compile history rows codes number at (Deploy sender name source) = deploy_nothing (is_taken_in history.codes codes name) name (compile source)
failures_leave_nothing compile history rows codes number at (Call sender contract function args budget) =
    call_nothing (code_in history.codes contract) (scene_of history.rows (is_written rows) (record { contract = contract; function = function; sender = sender; number = number; budget = budget })) args at

-- ---- replay

module _ (compile : Compiler) (block : Block) where
  replayed_more : (history : History) (blocks : List Block) → history_of_blocks compile history (blocks ++ block ∷ []) ≡ history_after compile (history_of_blocks compile history blocks) block
  replayed_more history [] = refl
  replayed_more history (b ∷ blocks) = replayed_more (history_after compile history b) blocks

  receipts_more : (history : History) (blocks : List Block) → receipts_after compile history (blocks ++ block ∷ []) ≡ receipts_after compile history blocks ++ (block_effects compile (history_of_blocks compile history blocks) block).receipts ∷ []
  receipts_more history [] = refl
  receipts_more history (b ∷ blocks) = ap (λ rs. (block_effects compile history b).receipts ∷ rs) (receipts_more (history_after compile history b) blocks)

pub replay_grows : (compile : Compiler) (blocks : List Block) (block : Block) → ReplayGrows compile blocks block
unfolding replay receipts_of
replay_grows compile blocks block = record { history = replayed_more compile block no_history blocks; receipts = receipts_more compile block no_history blocks }

-- ---- lawful histories

filter_none : (p : Row → Bool) (rows : List Row) → All (λ (row : Row). p row ≡ false) rows → filter p rows ≡ []
filter_none p [] none = refl
filter_none p (row ∷ rows) none =
    ap (λ (b : Bool). cond b (row ∷ filter p rows) (filter p rows)) (All-head (λ (r : Row). p r ≡ false) row rows none) ∙ filter_none p rows (All-tail (λ (r : Row). p r ≡ false) row rows none)

filter_all : (p : Row → Bool) (rows : List Row) → All (λ (row : Row). p row ≡ true) rows → filter p rows ≡ rows
filter_all p [] all = refl
filter_all p (row ∷ rows) all =
    ap (λ (b : Bool). cond b (row ∷ filter p rows) (filter p rows)) (All-head (λ (r : Row). p r ≡ true) row rows all) ∙ ap (λ (rs : List Row). row ∷ rs) (filter_all p rows (All-tail (λ (r : Row). p r ≡ true) row rows all))

-- a version that is held of a block is a row of that block
recorded : (found : Option Row) (block : ℕ) → block_of (option_map held_of found) ≡ Some block → IsSomeAnd found (λ version. version.block ≡ block)
recorded None block e = absurd cc
recorded (Some row) block e = cc

module _ (rows more : List Row) (number : ℕ) (old : All (λ (row : Row). row.block < number) rows) (new : All (λ (row : Row). row.block ≡ number) more) where
  -- the rows of a block lie below no earlier block
  below_stays : (block : ℕ) → block ≤ number → below (rows ++ more) block ≡ below rows block
  below_stays block le =
      filter-append (λ (row : Row). ltb row.block block) rows more
      ∙ ap (λ (rs : List Row). below rows block ++ rs) (filter_none (λ (row : Row). ltb row.block block) more (λ k d within. le-ltb _ _ (omega (arith, new k d within, le))))
      ∙ append-nil (below rows block)

  below_all : below rows number ≡ rows
  below_all = filter_all (λ (row : Row). ltb row.block number) rows (λ k d within. lt-ltb _ _ (old k d within))

  old_deps : (row : Row) → row.block < number → HasLawfulDeps rows row → HasLawfulDeps (rows ++ more) row
  old_deps row before deps = record {
    few = deps.few;
    once = deps.once;
    newest = subst (λ (rs : List Row). All (λ (dep : Dep). IsSomeAnd (newest rs dep.key) (λ version. version.block ≡ dep.block)) row.deps) (sym (below_stays row.block (omega arith))) deps.newest;
  }

  new_deps : (row : Row) → row.block ≡ number → HasNewestDeps (held_in rows) row → HasLawfulDeps (rows ++ more) row
  new_deps row here deps =
      let same : below (rows ++ more) row.block ≡ rows = ap (below (rows ++ more)) here ∙ below_stays number (omega arith) ∙ below_all in
      record {
        few = deps.few;
        once = deps.once;
        newest = subst (λ (rs : List Row). All (λ (dep : Dep). IsSomeAnd (newest rs dep.key) (λ version. version.block ≡ dep.block)) row.deps) (sym same)
            (All-weaker (IsOnNewest (held_in rows)) (λ (dep : Dep). IsSomeAnd (newest rows dep.key) (λ version. version.block ≡ dep.block)) (λ dep on. recorded (newest rows dep.key) dep.block on) row.deps deps.on_newest);
      }

pub blocks_keep_lawful : BlocksKeepLawful
blocks_keep_lawful rows more number count lawful old room few block_rows =
    let new = block_rows.of_block in
    let after : AllPairs StandsBefore more = λ i j d lt within. inr (new i d (omega arith) ∙ sym (new j d within), block_rows.ordered i j d lt within, block_rows.once i j d lt within) in
    let across : All (λ (b : Row). All (λ (a : Row). StandsBefore a b) rows) more = λ j e within i d inside. inl (omega (arith, old i d inside, new j e within)) in
    record {
      few = omega (arith, length-append rows more, block_rows.few, few, room);
      ordered = pairs_append StandsBefore rows more lawful.ordered after across;
      lawful_deps = All-append (HasLawfulDeps (rows ++ more)) rows more
          (λ k d within. old_deps rows more number old new _ (old k d within) (lawful.lawful_deps k d within))
          (λ k d within. new_deps rows more number old new _ (new k d within) (block_rows.deps k d within));
    }

pub blocks_keep_order : BlocksKeepOrder
blocks_keep_order rows more newest number count old block_rows =
    let P : Row → Type 0 = λ row. row.block < number + 1 in
    All-append P rows more (λ k d within. omega (arith, old k d within)) (λ k d within. omega (arith, block_rows.of_block k d within))
