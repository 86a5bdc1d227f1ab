-- What one lookup says of a version.
use Rattle.std.specs.Prelude.{List, [], ℕ, nat_lt, if◌then◌else◌, Option, Some, None}
use Rattle.lc_base.specs.declared.answer.Answer.{Answer}
use Rattle.lc_base.specs.declared.answer.Answer.TheVariants.{Nothing, Hist, Back, Fwd}
use Rattle.lc_base.specs.declared.row.Dep.{Dep}
use Rattle.lc_base.specs.declared.row.Row.{Row}
use Rattle.lc_base.specs.declared.row.Version.{Version}
use Rattle.row_walks.specs.declared.finding.Derived.{Derived}

-- The version in an answer to a question about dependencies.
abbrev pub derived_in : Answer → Option Derived
derived_in Nothing = None
derived_in (Hist block tx value) = None
derived_in (Back block deps) = Some (record { block = block; deps = deps })
derived_in (Fwd block uses) = None

-- What is found of a row.
abbrev pub derived_of : Row → Derived
derived_of row = record { block = row.block; deps = row.deps }

-- What it was derived from directly; nothing if there is no version.
abbrev pub deps_told : Option Derived → List Dep
deps_told None = []
deps_told (Some derived) = derived.deps

-- The version, unless it is of a block before this one.
abbrev pub unless_earlier : ℕ → Option Version → Option Version
unless_earlier from None = None
unless_earlier from (Some version) = if nat_lt version.block from then None else Some version
