-- The rows of a lineage, which are known if it is known which bytes its device holds; and what
-- stays the same over a question.
use Rattle.std.proofs.Common.{◌≡◌, Bool, true, false, List, Option, Some, None, ap, ◌∙◌}
use Rattle.lc_base.specs.declared.row.Row.{Row}
use Rattle.lc_io.specs.Scratch.{ScratchState, is_known}
use Rattle.merkle_dag.specs.Lineage.{LineageState, StaysSame}
use Rattle.prov_query.specs.declared.host.Reading.{Reading}

-- The rows, if it is known which bytes the device holds; else `None`.
abbrev pub known_rows : Bool → List Row → Option (List Row)
known_rows false rows = None
known_rows true rows = Some rows

-- The rows of the lineage that is lent, if they are known.
abbrev pub rows_read : {S : Type 0} → (S → ScratchState) → Reading S → Option (List Row)
rows_read state reading =
    known_rows (is_known (state reading.scratch.now)) reading.lineage.now.rows

-- The lineage and its device stay the same. Both fields are still the references that the reading
-- was made with, so whoever lent them has them back.
abbrev pub IsSameReading : {S : Type 0} → (S → ScratchState) → Reading S → Reading S → Type 0
IsSameReading state old new = (new.lineage.ghost_name ≡ old.lineage.ghost_name)
    × (new.scratch.ghost_name ≡ old.scratch.ghost_name)
    × StaysSame old.lineage.now (state old.scratch.now) new.lineage.now (state new.scratch.now)

-- The rows are known after calls exactly if they were known before, and they are the same.
pub stays_known : (l : LineageState) (s : ScratchState) (m : LineageState) (t : ScratchState)
    → StaysSame l s m t
    → known_rows (is_known t) m.rows ≡ known_rows (is_known s) l.rows
stays_known l s m t p = ap (λ (known : Bool). known_rows known m.rows) p.retains.known
    ∙ ap (known_rows (is_known s)) p.rows
