-- The bodies that a cache has at hand.
use Rattle.std.specs.Prelude.{ℕ, List, map}
use Rattle.std.specs.Rc.{rc_slice_items}
use Rattle.std.specs.declared.rc.RcSlice.{RcSlice}
use Rattle.body_store.specs.declared.kept.BodyIndex.{BodyIndex}

-- Each body, with its index.
abbrev pub pairs_of : {Z : Type 0} → List (BodyIndex × RcSlice ℕ Z) → List (ℕ × List ℕ)
pairs_of entries = map (λ pair. (pair.0.0, rc_slice_items pair.1)) entries
