-- What is known of a version that was found.
use Rattle.std.specs.Prelude.{◌≡◌, map, Option, Some, None}
use Rattle.std.specs.Rc.{rc_slice_items}
use Rattle.lc_base.specs.declared.row.Row.{Row}
use Rattle.entry_views.specs.Reading.{body_at}
use Rattle.entry_views.specs.RowBodies.{body_read, dep_without_digest}
use Rattle.prov_query.specs.declared.found.Found.{Found}

-- What was found is this row: its block and transaction, and what the bytes of its body say.
pub record IsRow (row : Row) (found : Found) : Type 0 where
  pub block_is : found.block ≡ row.block
  pub tx_is : found.tx ≡ row.tx
  pub value_is : (body_read (body_at (rc_slice_items found.body))).value ≡ row.value
  pub deps_are : map dep_without_digest (body_read (body_at (rc_slice_items found.body))).deps ≡
      row.deps

-- What was found is that row; nothing was found if there is none.
abbrev pub IsFound : Option Row → Option Found → Type 0
IsFound None None = Unit {0}
IsFound None (Some found) = ⊥
IsFound (Some row) None = ⊥
IsFound (Some row) (Some found) = IsRow row found

-- What was found is in the block of this row and of its transaction, whatever its body says.
pub record StandsAs (row : Row) (found : Found) : Type 0 where
  pub block_is : found.block ≡ row.block
  pub tx_is : found.tx ≡ row.tx

-- It is found exactly if there is a row, and stands as that row.
abbrev pub StandsAsIfAny : Option Row → Option Found → Type 0
StandsAsIfAny None None = Unit {0}
StandsAsIfAny None (Some found) = ⊥
StandsAsIfAny (Some row) None = ⊥
StandsAsIfAny (Some row) (Some found) = StandsAs row found
