-- An answer about dependencies is about the version that a lookup finds.
use Rattle.std.proofs.Common.{◌≡◌, ℕ, List, Option, Some, None, refl}
use Rattle.std.specs.Option.{option_map}
use Rattle.lc_base.specs.declared.answer.Kind.TheVariants.{Back}
use Rattle.lc_base.specs.declared.row.Row.{Row}
use Rattle.lc_base.specs.History.{latest, scan, answer_of}
use Rattle.lc_base.specs.Parts.{question}
use Rattle.root_laws.specs.Ancestors.{deps_of}
use Rattle.row_walks.specs.Finding.{derived_in, derived_of, deps_told}

pub derived_told : (rows : List Row) (key : List ℕ) (at : ℕ)
    → derived_in (scan rows (question Back key at)) ≡ option_map derived_of (latest rows key at)
derived_told rows key at = go (latest rows key at)
  where
    go : (found : Option Row)
        → derived_in (answer_of rows (question Back key at) found) ≡ option_map derived_of found
    go None = refl
    go (Some row) = refl

pub deps_back : (found : Option Row) → deps_told (option_map derived_of found) ≡ deps_of found
deps_back None = refl
deps_back (Some row) = refl
