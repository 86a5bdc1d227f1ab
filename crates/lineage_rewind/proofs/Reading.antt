-- What the entries of a history say of its rows.
use Rattle.std.proofs.Common.{◌≡◌, ◌∙◌, ℕ, ◌<◌, List, length, get_or, Option, Some, None}
use Rattle.std.proofs.Common.{sym, ap, arith, inl, inr}
use Rattle.std.specs.Prelude.{slice_get}
use Rattle.std.specs.Option.{option_map}
use Rattle.std.proofs.lemmas.List.{length-map, get_or-map}
use Rattle.std.proofs.lemmas.Option.{none-some, same_Some}
use Rattle.lc_base.specs.declared.row.Row.{Row}
use Rattle.lc_base.specs.declared.row.Dep.{Dep}
use Rattle.lc_base.specs.History.{version_of}
use Rattle.lineage_index.specs.root_laws.Naming.{header_of}
use Rattle.lineage_index.proofs.root_laws.Lists.{option_cases}
use Rattle.lineage_index.specs.plain_rows.Users.{version_at, there, AreVersionsAt}
use Rattle.lineage_index.specs.entry_store.declared.entry.Facts.{Facts}
use Rattle.lineage_index.specs.entry_store.Entries.{Entry, facts_of}
use Rattle.lineage_index.proofs.StoreEntries.{row_facts}
use Rattle.lineage_index.specs.Settling.{IsStoreOf}

-- The facts of an entry are those of its row's header.
pub facts_read : (rows : List Row) (entries : List Entry) (index : ℕ) (row : Row) (facts : Facts)
    → IsStoreOf rows entries → slice_get rows index ≡ Some row
    → option_map (λ (entry : Entry). entry.facts) (slice_get entries index) ≡ Some facts
    → facts ≡ facts_of (header_of rows row)
facts_read rows entries index row facts store at read = row_facts entries rows index row facts
    store.entries_are at read

-- A version at an index is that of a row, which is there.
pub row_of_version : (rows : List Row) (index : ℕ) (dep : Dep) → version_at rows index ≡ Some dep
    → (row : Row) × (slice_get rows index ≡ Some row) × (version_of row ≡ dep)
row_of_version rows index dep at = elim (option_cases (slice_get rows index)) [
  | inl none ↦ absurd (none-some dep (ap (option_map version_of) (sym none) ∙ at))
  | inr s ↦ (s.0, s.1, same_Some (version_of s.0) dep (ap (option_map version_of) (sym s.1) ∙ at))
]

-- There are as many versions as users, and each is that at the index of its user.
pub as_many_versions : (rows : List Row) (users : List ℕ) (deps : List Dep)
    → AreVersionsAt rows users deps → length users ≡ length deps
as_many_versions rows users deps are = sym (length-map users (version_at rows)) ∙ ap length are
    ∙ length-map deps there

pub version_there : (rows : List Row) (users : List ℕ) (deps : List Dep) (i : ℕ) (d : Dep)
    → AreVersionsAt rows users deps → i < length users
    → version_at rows (get_or users i 0) ≡ Some (get_or deps i d)
version_there rows users deps i d are within =
    sym (get_or-map (version_at rows) users i 0 None within)
    ∙ ap (λ (all : List (Option Dep)). get_or all i None) are
    ∙ get_or-map there deps i d None (omega (arith, within, as_many_versions rows users deps are))
