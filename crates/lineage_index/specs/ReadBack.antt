-- The rows of entries, as they are read back from these.
use Rattle.std.specs.Prelude.{List, map}
use Rattle.lc_base.specs.declared.row.Row.{Row}
use Rattle.entry_views.specs.prov_entry.declared.entry.Body.{Body}
use Rattle.entry_views.specs.Reading.{body_at}
use Rattle.entry_views.specs.RowBodies.{body_read, dep_without_digest}
use Rattle.skip_list.specs.entry_store.Entries.{Entry}

-- The row of an entry with this body.
abbrev pub row_with : Entry → Body → Row
row_with entry body = record {
  key = entry.facts.key;
  block = entry.facts.block;
  tx = entry.facts.tx;
  value = body.value;
  deps = map dep_without_digest body.deps;
}

-- The row of an entry: its value and what it was derived from are what the bytes of its body say.
abbrev pub row_read : Entry → Row
row_read entry = row_with entry (body_read (body_at entry.body))

-- The rows of entries.
abbrev pub rows_read : List Entry → List Row
rows_read entries = map row_read entries
