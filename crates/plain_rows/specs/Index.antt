-- The index over the rows of a history.
use Rattle.std.specs.Prelude.{List, ◌∷◌, ◌++◌}
use Rattle.lc_base.specs.declared.row.Row.{Row}
use Rattle.lc_base.specs.History.{IsLawful}
use Rattle.plain_rows.specs.declared.index.RowsIndex.{RowsIndex}
use Rattle.plain_rows.specs.Places.{ArePlaces}
use Rattle.plain_rows.specs.Users.{AreUsers}

-- This is the index over these rows.
pub record IsIndexOf (rows : List Row) (index : RowsIndex) : Type 0 where
  pub places_are : ArePlaces rows index.places
  pub users_are : AreUsers rows index.users.items

-- A row that comes next after these in some lawful history.
pub record IsNext (rows : List Row) (row : Row) : Type 0 where
  pub rest : List Row
  pub lawful : IsLawful (rows ++ row ∷ rest)
