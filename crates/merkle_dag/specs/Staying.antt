-- What stays of a lineage over one call stays over several, and over calls that are not lent the
-- lineage.
use Rattle.std.proofs.Common.{refl, ◌∙◌}
use Rattle.lc_io.specs.Scratch.{ScratchState, Retains}
use Rattle.lc_io.proofs.Retaining.{retains_refl, retains_trans}
use Rattle.body_store.proofs.Agreeing.{agrees_on}
use Rattle.merkle_dag.specs.Lineage.{LineageState, StaysSame}

-- A lineage and a device are the same as themselves.
pub stays_refl : (l : LineageState) (s : ScratchState) → StaysSame l s l s
stays_refl l s = record { rows = refl; digests = refl; agrees = λ a. a; retains = retains_refl s }

-- A call that is lent the device alone leaves each lineage the same.
pub stays_beside : (l : LineageState) (s t : ScratchState) → Retains s t → StaysSame l s l t
stays_beside l s t retains = record {
  rows = refl;
  digests = refl;
  agrees = agrees_on l.bodies s t retains;
  retains = retains;
}

-- What stays the same over each of two calls does so over both.
pub stays_trans : (k : LineageState) (r : ScratchState) (l : LineageState) (s : ScratchState)
    (m : LineageState) (t : ScratchState)
    → StaysSame k r l s → StaysSame l s m t → StaysSame k r m t
stays_trans k r l s m t p q = record {
  rows = q.rows ∙ p.rows;
  digests = q.digests ∙ p.digests;
  agrees = λ a. q.agrees (p.agrees a);
  retains = retains_trans r s t p.retains q.retains;
}
