-- The body of a row is read as the row has it, because the rows are within their types.
use Rattle.std.proofs.Common.{◌≡◌, ◌∙◌, ℕ, List, map, Some, ap, subst}
use Rattle.std.specs.Prelude.{slice_get}
use Rattle.std.specs.List.{concat}
use Rattle.std.proofs.lemmas.Option.{get_or_from_slice_get, slice_get_within}
use Rattle.lc_base.specs.declared.row.Row.{Row}
use Rattle.entry_views.specs.prov_entry.declared.entry.Body.{Body}
use Rattle.entry_views.specs.prov_entry.Spelling.{IsBody, body_fields}
use Rattle.merkle_dag.specs.root_laws.Naming.{named_before, body_of}
use Rattle.entry_views.specs.Reading.{body_at}
use Rattle.entry_views.specs.RowBodies.{body_read, dep_without_digest}
use Rattle.entry_views.proofs.Bodies.{body_back}
use Rattle.merkle_dag.specs.root_laws.TypedLedger.{IsTypedHistory}
use Rattle.merkle_dag.proofs.root_laws.Spellings.{bodies_spelled}
use Rattle.merkle_dag.proofs.lineage_index.ReadBack.{deps_back}

-- the body of each row can be spelled
is_body : (rows : List Row) (index : ℕ) (row : Row) → IsTypedHistory rows
    → slice_get rows index ≡ Some row → IsBody (body_of rows row)
is_body rows index row typed at =
    subst (λ (r : Row). IsBody (body_of rows r)) (get_or_from_slice_get rows index row row at)
    (bodies_spelled rows typed index row (slice_get_within rows index row at))

-- so its fields are read as it
body_again : (rows : List Row) (index : ℕ) (row : Row) (bytes : List ℕ) → IsTypedHistory rows
    → slice_get rows index ≡ Some row → bytes ≡ concat (body_fields (body_of rows row))
    → body_read (body_at bytes) ≡ body_of rows row
body_again rows index row bytes typed at are =
    ap (λ (spelled : List ℕ). body_read (body_at spelled)) are
    ∙ body_back (body_of rows row) (is_body rows index row typed at)

pub value_again : (rows : List Row) (index : ℕ) (row : Row) (bytes : List ℕ) → IsTypedHistory rows
    → slice_get rows index ≡ Some row → bytes ≡ concat (body_fields (body_of rows row))
    → (body_read (body_at bytes)).value ≡ row.value
value_again rows index row bytes typed at are = ap (λ (body : Body). body.value)
    (body_again rows index row bytes typed at are)

pub deps_again : (rows : List Row) (index : ℕ) (row : Row) (bytes : List ℕ) → IsTypedHistory rows
    → slice_get rows index ≡ Some row → bytes ≡ concat (body_fields (body_of rows row))
    → map dep_without_digest (body_read (body_at bytes)).deps ≡ row.deps
deps_again rows index row bytes typed at are =
    ap (λ (body : Body). map dep_without_digest body.deps)
    (body_again rows index row bytes typed at are)
    ∙ deps_back (named_before rows row.block) row.deps
