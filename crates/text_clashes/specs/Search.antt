-- What is kept of a search for the first clash of given texts with others.
use Rattle.std.specs.Prelude.{◌<◌, ℕ, List, length, Option, IfSome}
use Rattle.std.specs.BTreeMap.{BTreeMap}
use Rattle.text_clashes.specs.declared.found.Found.{Found}
use Rattle.text_clashes.specs.declared.table.Places.{Places}
use Rattle.text_clashes.specs.Places.{IsTable}

-- The given texts, and the first clash so far.
pub record Search : Type 0 where
  pub given : List (List ℕ)
  pub found : Option Found

-- The place of a found text is one of the given texts.
abbrev pub IsWithin : List (List ℕ) → Option Found → Type 0
IsWithin given found = IfSome found (λ found. found.place < length given)

-- The table is that of the given texts.
pub record IsKeptSearch (given : List (List ℕ)) (table : BTreeMap (List ℕ) Places) (found : Option Found) : Type 0 where
  pub is_table : IsTable given table
  pub within : IsWithin given found
