-- A lineage, as contracts see it, and the scratch device that keeps its bodies.
use Rattle.std.specs.Prelude.{◌≡◌, ℕ, List, [], take}
use Rattle.lc_base.specs.Faults.{HasCause}
use Rattle.lc_base.specs.declared.digest.Digest.{Digest}
use Rattle.lc_base.specs.declared.row.Row.{Row}
use Rattle.lc_io.specs.Scratch.{ScratchState, Retains}
use Rattle.body_store.specs.Bodies.{BodiesState}
use Rattle.body_store.specs.Agreement.{Agrees}
use Rattle.lineage_rewind.specs.entry_store.declared.entry.Facts.{Facts}
use Rattle.merkle_dag.specs.Ledger.{Ledger}

-- The rows of the blocks, the digests of the blocks, and where the bodies of the rows are kept.
pub record LineageState : Type 0 where
  pub rows : List Row
  pub digests : List Digest
  pub bodies : BodiesState

-- The ledger of a lineage.
abbrev pub ledger_in : LineageState → Ledger
ledger_in lineage = record { rows = lineage.rows; digests = lineage.digests }

-- The device keeps the bodies; if it is known which bytes it holds, the bodies at hand are the
-- same.
abbrev pub AgreesWith : LineageState → ScratchState → Type 0
AgreesWith lineage scratch = Agrees lineage.bodies scratch

-- The first bodies, in the places that they had; none of them is at hand.
abbrev pub first_bodies : ℕ → BodiesState → BodiesState
first_bodies count bodies = record { kept = take count bodies.kept; cached = [] }

-- Only the bodies at hand may be others, and they agree with the device if they did before.
-- Whatever the device kept, it keeps.
pub record StaysSame (old : LineageState) (before : ScratchState) (new : LineageState)
    (after : ScratchState) : Type 0 where
  pub rows : new.rows ≡ old.rows
  pub digests : new.digests ≡ old.digests
  pub agrees : AgreesWith old before → AgreesWith new after
  pub retains : Retains before after

-- A lineage that a call was lent together with its device: it stays the same, and the device is
-- blamed exactly if its count of faults rose.
pub record LeavesLineage {S : Type 0} (state : S → ScratchState) (faults : S → ℕ)
    (old : LineageState) (before : S) (new : LineageState) (after : S) (Blames : Type 0) :
    Type 0 where
  pub same : StaysSame old (state before) new (state after)
  pub cause : HasCause (faults before) (faults after) Blames

-- These facts say where a row is: its key, its block and its transaction.
pub record AreFactsOf (row : Row) (facts : Facts) : Type 0 where
  pub key_is : facts.key ≡ row.key
  pub block_is : facts.block ≡ row.block
  pub tx_is : facts.tx ≡ row.tx
