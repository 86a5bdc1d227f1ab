-- The entries of the map stand for dependencies: each has a version, by its block and key, and the
-- digest of that version's header.
use Rattle.lc_base.specs.declared.digest.Digest.{Digest}
use Rattle.prov_entry.specs.declared.entry.BodyDep.{BodyDep}
use Rattle.root_laws.specs.Places.{Place}

-- The dependency that an entry stands for.
abbrev pub dep_at : Place × Digest → BodyDep
dep_at entry = record { key = entry.0.0.1; block = entry.0.0.0; digest = entry.1 }
