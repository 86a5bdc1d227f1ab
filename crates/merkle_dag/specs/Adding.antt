-- The bodies of a ledger's rows, as they are spelled.
use Rattle.std.specs.Prelude.{ℕ, List}
use Rattle.std.specs.List.{concat}
use Rattle.lc_base.specs.declared.row.Row.{Row}
use Rattle.lineage_rewind.specs.prov_entry.Spelling.{body_fields}
use Rattle.lineage_rewind.specs.root_laws.Naming.{body_of}

-- The bytes of the body of a row: its fields, one after another.
abbrev pub bytes_of : List Row → Row → List ℕ
bytes_of rows row = concat (body_fields (body_of rows row))
