-- The shape of the rows and receipts of a block, whatever its contracts do and whether or not what
-- the host holds is known.
use Rattle.std.specs.Prelude.{◌≡◌, ◌≢◌, ℕ, ◌<◌, ◌≤◌, ◌*◌, false, List, length, Option, Some}
use Rattle.std.specs.List.{All, AllPairs, AllZip}
use Rattle.lc_base.specs.declared.limits.TheConstants.{MAX_DEPS}
use Rattle.lc_base.specs.declared.row.Dep.{Dep}
use Rattle.lc_base.specs.declared.row.Row.{Row}
use Rattle.dep_capture.specs.declared.limits.TheConstants.{MAX_KEYS_PUT}
use Rattle.world_state.specs.declared.held.Held.{Held}
use Rattle.contract_eval.specs.contract_semantics.Reading.{block_of}
use Rattle.contract_eval.specs.contract_semantics.Scenes.{Place}
use Rattle.block_codec.specs.Placement.{tx_budget}
use Rattle.block_codec.specs.declared.block.Tx.{Tx}
use Rattle.chain_exec.specs.declared.receipt.Receipt.{Receipt}

-- A dependency is on the newest version of its key.
abbrev pub IsOnNewest : (List ℕ → Option Held) → Dep → Type 0
IsOnNewest newest dep = block_of (newest dep.key) ≡ Some dep.block

-- At most MAX_DEPS dependencies, none twice, each on the newest version of its key.
pub record HasNewestDeps (newest : List ℕ → Option Held) (row : Row) : Type 0 where
  pub few : length row.deps ≤ MAX_DEPS
  pub once : AllPairs ◌≢◌ row.deps
  pub on_newest : All (IsOnNewest newest) row.deps

-- No two rows have the same key.
abbrev pub AreKeysOnce : List Row → Type 0
AreKeysOnce rows = AllPairs (λ (a b : Row). a.key ≢ b.key) rows

-- The rows of one transaction: at most MAX_KEYS_PUT, all of its block and its index, of distinct
-- keys that the block has not written before, with dependencies on newest versions.
pub record AreTxRows (place : Place) (number at : ℕ) (rows : List Row) : Type 0 where
  pub few : length rows ≤ MAX_KEYS_PUT
  pub of_block : All (λ (row : Row). row.block ≡ number) rows
  pub of_tx : All (λ (row : Row). row.tx ≡ at) rows
  pub once : AreKeysOnce rows
  pub unwritten : All (λ (row : Row). place.written row.key ≡ false) rows
  pub deps : All (HasNewestDeps place.newest) rows

-- The rows of a block of `count` transactions: at most MAX_KEYS_PUT for each, all of the block's
-- number, in the order of their transactions, of distinct keys, with dependencies on the newest
-- versions before the block.
pub record AreBlockRows (newest : List ℕ → Option Held) (number count : ℕ) (rows : List Row) : Type 0 where
  pub few : length rows ≤ MAX_KEYS_PUT * count
  pub of_block : All (λ (row : Row). row.block ≡ number) rows
  pub of_tx : All (λ (row : Row). row.tx < count) rows
  pub ordered : AllPairs (λ (a b : Row). a.tx ≤ b.tx) rows
  pub once : AreKeysOnce rows
  pub deps : All (HasNewestDeps newest) rows

-- A transaction costs at most its budget, which is 0 for a Set and a Deploy.
abbrev pub IsWithinBudget : Tx → Receipt → Type 0
IsWithinBudget tx receipt = receipt.cost ≤ tx_budget tx

-- There is one receipt for each transaction, within its budget.
abbrev pub AreWithinBudgets : List Tx → List Receipt → Type 0
AreWithinBudgets txs receipts = AllZip IsWithinBudget txs receipts
