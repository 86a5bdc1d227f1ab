-- Versions by their places in an ordered collection whose first one is the last version.
use Rattle.std.specs.Prelude.{ℕ, List}
use Rattle.std.specs.declared.cmp.Reverse.{Reverse}
use Rattle.lc_base.specs.declared.row.Dep.{Dep}

-- The place of a version: its block and its key, in reverse order.
abbrev pub Place : Type 0
Place = Reverse (ℕ × List ℕ)

-- The version at a place.
abbrev pub version_at : Place → Dep
version_at place = record { key = place.0.1; block = place.0.0 }
