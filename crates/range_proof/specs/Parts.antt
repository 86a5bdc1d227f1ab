-- What is spelled of the rows at indexes.
use Rattle.std.specs.Prelude.{◌≡◌, ◌<◌, ℕ, List, ◌++◌, length, slice_get}
use Rattle.std.specs.List.{All, AllByRecursion, concat, flat_map}
use Rattle.lc_base.specs.declared.row.Row.{Row}
use Rattle.prov_entry.specs.declared.entry.Body.{Body}
use Rattle.prov_entry.specs.Spelling.{IsBody, header_fields, body_fields}
use Rattle.root_laws.specs.Naming.{header_of, body_of}
use Rattle.proof_codec.specs.Spelling.{fields_if_any}
use Rattle.entry_store.specs.declared.entry.EntryId.{EntryId}

-- At each index there is a row.
abbrev pub AreWithin : List Row → List ℕ → Type 0
AreWithin rows indexes = All (λ (index : ℕ). index < length rows) indexes

-- Each entry is that of a row: the id of a row's entry is its index.
abbrev pub AreEntriesWithin : List Row → List EntryId → Type 0
AreEntriesWithin rows ids = All (λ (id : EntryId). id.0 < length rows) ids

-- The fields of the row at an index, or none if there is no such row.
abbrev pub fields_at : (Row → List (List ℕ)) → List Row → ℕ → List (List ℕ)
fields_at fields rows index = fields_if_any fields (slice_get rows index)

-- The fields of the header of the row at an index.
abbrev pub header_fields_at : List Row → ℕ → List (List ℕ)
header_fields_at rows index =
    fields_at (λ (row : Row). header_fields (header_of rows row)) rows index

-- The fields of the body of the row at an index.
abbrev pub body_fields_at : List Row → ℕ → List (List ℕ)
body_fields_at rows index =
    fields_at (λ (row : Row). body_fields (body_of rows row)) rows index

-- So many bodies, whichever they are, are spelled after the bytes before.
abbrev pub AddsBodies : ℕ → List ℕ → List ℕ → Type 0
AddsBodies count before bytes =
    (bodies : List Body) × (length bodies ≡ count) × AllByRecursion IsBody bodies
    × (bytes ≡ before ++ concat (flat_map body_fields bodies))
